-- One token of a text line, and what it leads to.
use Rattle.std.proofs.Common.{Continue, Break, ◌≡◌, ℕ, List, ◌∷◌, Ok, Err, Result, sym, refl, ap, ◌∙◌, subst, arith}
use Rattle.netlist.specs.Statements.{on_end, stepped, said, Step}
use Rattle.netlist.specs.Grammar.{OneEnd, only_end, after_word, after_mark}
use Rattle.netlist.specs.Tokens.{Tok}
use Rattle.netlist.specs.declared.fault.TokenFault.{TokenFault}
use Rattle.netlist.specs.declared.state.State.{State}
use Rattle.netlist.specs.declared.state.State.TheVariants.{Start, Named, Declaring, Declared, DeclarationClosed, Driven, Kinded, Opened, Pinned, GateClosed}
use Rattle.netlist.specs.declared.statement.Statement.{Statement}

goes_on : Step → ℕ
goes_on (Ok (Continue n)) = 1
goes_on (Ok (Break x)) = 0
goes_on (Err f) = 0

-- no state follows the end of a line
stays : (s : State) (p : ℕ) → goes_on (on_end s p) ≡ 0
unfolding goes_on
stays Start p = refl
stays (Named n) p = refl
stays (Declaring k) p = refl
stays (Declared d) p = refl
stays (DeclarationClosed d) p = refl
stays (Driven l) p = refl
stays (Kinded l k) p = refl
stays (Opened g) p = refl
stays (Pinned g) p = refl
stays (GateClosed g c) p = refl

end_stops : (s n : State) (p : ℕ) → on_end s p ≡ Ok (Continue n) → ⊥
unfolding goes_on
end_stops s n p e = let z : ◌≡◌ {A = ℕ} 0 1 = sym (stays s p) ∙ ap goes_on e in omega arith

-- what a step leads to, with the tokens after it
abbrev pub then_said : List Tok → Step → Result Statement TokenFault
then_said ts (Ok (Continue n)) = said n ts
then_said ts (Ok (Break x)) = Ok x
then_said ts (Err f) = Err f

pub said_step : (s : State) (t : Tok) (ts : List Tok) → said s (t ∷ ts) ≡ then_said ts (stepped s t)
unfolding said
said_step s t ts = refl

-- what is said of the first token and those after it
pub said_first : (s : State) (t : Tok) (ts all : List Tok) (r : Step) → all ≡ t ∷ ts → stepped s t ≡ r → said s all ≡ then_said ts r
said_first s t ts all r h e = ap (said s) h ∙ said_step s t ts ∙ ap (then_said ts) e

-- tokens of which the last is the end
pub ends_on : (s n : State) (t : Tok) (ts all : List Tok) → all ≡ t ∷ ts → stepped s t ≡ Ok (Continue n) → OneEnd all → OneEnd ts
ends_on s n t ts all h e o = last_on s n t ts e (subst OneEnd h o)
  where
    last_on : (s n : State) (t : Tok) (ts : List Tok) → stepped s t ≡ Ok (Continue n) → OneEnd (t ∷ ts) → OneEnd ts
    last_on s n t ts e (only_end {p = p}) = absurd (end_stops s n p e)
    last_on s n t ts e (after_word o) = o
    last_on s n t ts e (after_mark o) = o
