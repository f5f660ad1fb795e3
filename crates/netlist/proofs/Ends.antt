-- Where the tokens of a text line end.
use Rattle.std.proofs.Common.{Continue, Break, ◌≡◌, ℕ, suc, ◌+◌, ◌-◌, ◌≤◌, cond, eqb, false, List, [], ◌∷◌, ◌++◌, length, drop, Ok, Err, Result, refl, sym, ap, ◌∙◌, arith, length-drop}
use Rattle.std.specs.List.{AllByRecursion}
use Rattle.std.proofs.lemmas.List.{drop-drop}
use Rattle.std.proofs.lemmas.Bool.{cond_both, cond-false}
use Rattle.std.proofs.lemmas.Bool.Decides.{nat_tests}
use Rattle.circuit.specs.declared.row.Span.{Span}
use Rattle.netlist.specs.Bytes.{word_byte, blank_byte, stop_byte}
use Rattle.netlist.specs.Statements.{span_of, to, on_word, on_mark, stepped, Step}
use Rattle.netlist.specs.Tokens.{Tok, word, mark, end, flush, tokens, tok, place_of, line, later, lines_after}
use Rattle.netlist.specs.declared.fault.TokenFault.{TokenFault}
use Rattle.netlist.specs.declared.state.State.{State}
use Rattle.netlist.specs.declared.state.State.TheVariants.{Start, Named, Declaring, Declared, DeclarationClosed, Driven, Kinded, Opened, Pinned, GateClosed}
use Rattle.netlist.specs.declared.statement.Statement.{Statement}
use Rattle.netlist.specs.declared.token.Token.{Token}
use Rattle.netlist.specs.declared.token.Token.TheVariants.{Word, Mark, End}

-- the end stands in the text, and the text lines that begin after it are these
abbrev pub Ends : List ℕ → List (List Tok) → Tok → Type 0
Ends text ls (word w p) = Unit {0}
Ends text ls (mark b p) = Unit {0}
Ends text ls (end p) = (p ≤ length text) × (lines_after text p ≡ ls)

module _ (text : List ℕ) (ls : List (List Tok)) where
  flush_ends : (w : List ℕ) (p : ℕ) (ts : List Tok) → AllByRecursion (Ends text ls) ts → AllByRecursion (Ends text ls) (flush w p ts)
  unfolding flush
  flush_ends w p ts a = cond_both (eqb (length w) 0) ts (word w (p - length w) ∷ ts) (AllByRecursion (Ends text ls)) (λ e. a) (λ e. (tt, a))

  tokens_end : (w bs : List ℕ) (p : ℕ) → p ≤ length text → drop p text ≡ bs → later bs p ≡ ls → AllByRecursion (Ends text ls) (tokens w bs p)
  unfolding tokens later
  tokens_end w [] p k d e = flush_ends w p (end p ∷ []) ((k, ap (λ l. later l p) d ∙ e), tt)
  tokens_end w (b ∷ bs) p k d e =
      let here : (p ≤ length text) × (lines_after text p ≡ ls) = (k, ap (λ l. later l p) d ∙ e) in
      let long : suc (length bs) ≡ length text - p = sym (ap length d) ∙ length-drop p text in
      let next : drop (p + 1) text ≡ bs = sym (drop-drop 1 p text) ∙ ap (drop 1) d in
      let on : (v : List ℕ) → eqb b 10 ≡ false → AllByRecursion (Ends text ls) (tokens v bs (p + 1)) =
      λ v f. tokens_end v bs (p + 1) (omega arith) next (sym (cond-false _ _ _ f) ∙ e) in
      cond_both (word_byte b) _ _ (AllByRecursion (Ends text ls))
      (λ f. on (w ++ b ∷ []) (grind (arith, nat_tests)))
      (λ f. flush_ends w p _
      (cond_both (blank_byte b) _ _ (AllByRecursion (Ends text ls)) (λ g. on [] (grind (arith, nat_tests)))
      (λ g. cond_both (stop_byte b) (end p ∷ []) (mark b p ∷ tokens [] bs (p + 1)) (AllByRecursion (Ends text ls)) (λ s. (here, tt)) (λ s. (tt, on [] (grind (arith, nat_tests)))))))

-- the text lines after a text line's end are those after its place
pub line_ends : (text : List ℕ) (at : ℕ) → at ≤ length text → AllByRecursion (Ends text (lines_after text at)) (line text at)
line_ends text at h = tokens_end text (lines_after text at) [] (drop at text) at h refl refl

breaks : Step → ℕ
breaks (Ok (Continue n)) = 0
breaks (Ok (Break x)) = 1
breaks (Err f) = 0

to_goes : (next : Span → State) (r : Result Span TokenFault) → breaks (to next r) ≡ 0
unfolding breaks
to_goes next (Ok s) = refl
to_goes next (Err f) = refl

-- no statement is whole at a word
word_goes_on : (s : State) (w : List ℕ) (p : ℕ) → breaks (on_word s w p) ≡ 0
unfolding breaks
word_goes_on Start w p = to_goes _ (span_of w p)
word_goes_on (Named n) w p = refl
word_goes_on (Declaring k) w p = to_goes _ (span_of w p)
word_goes_on (Declared d) w p = refl
word_goes_on (DeclarationClosed d) w p = refl
word_goes_on (Driven l) w p = to_goes _ (span_of w p)
word_goes_on (Kinded l k) w p = refl
word_goes_on (Opened g) w p = to_goes _ (span_of w p)
word_goes_on (Pinned g) w p = refl
word_goes_on (GateClosed g c) w p = refl

one_mark : (b m : ℕ) (n : State) (f : Step) → breaks f ≡ 0 → breaks (cond (eqb b m) (Ok (Continue n)) f) ≡ 0
unfolding breaks
one_mark b m n f e = cond_both (eqb b m) (Ok (Continue n)) f (λ r. breaks r ≡ 0) (λ t. refl) (λ t. e)

-- nor at a mark
mark_goes_on : (s : State) (b p : ℕ) → breaks (on_mark s b p) ≡ 0
unfolding breaks
mark_goes_on Start b p = refl
mark_goes_on (Named n) b p = one_mark b 40 _ _ (one_mark b 61 _ _ refl)
mark_goes_on (Declaring k) b p = refl
mark_goes_on (Declared d) b p = one_mark b 41 _ _ refl
mark_goes_on (DeclarationClosed d) b p = refl
mark_goes_on (Driven l) b p = refl
mark_goes_on (Kinded l k) b p = one_mark b 40 _ _ refl
mark_goes_on (Opened g) b p = refl
mark_goes_on (Pinned g) b p = one_mark b 44 _ _ (one_mark b 41 _ _ refl)
mark_goes_on (GateClosed g c) b p = refl

no_break : (r : Step) (x : Statement) → breaks r ≡ 0 → r ≡ Ok (Break x) → ⊥
unfolding breaks
no_break r x z e = let one : ◌≡◌ {A = ℕ} 0 1 = sym z ∙ ap breaks e in omega arith

-- a statement is whole at the end of its tokens
pub whole_at_end : (s : State) (t : Token) (x : Statement) → stepped s (tok t) ≡ Ok (Break x) → (text : List ℕ) (ls : List (List Tok)) → Ends text ls (tok t) → Ends text ls (end (place_of t))
whole_at_end s (Word bytes p) x e text ls h = absurd (no_break _ x (word_goes_on s bytes.now p) e)
whole_at_end s (Mark b p) x e text ls h = absurd (no_break _ x (mark_goes_on s b p) e)
whole_at_end s (End p) x e text ls h = h
