-- What the tokens of a text line say, one after the other.
use Rattle.std.specs.Prelude.{if◌then◌else◌, ℕ, ◌+◌, ◌≤◌, List, [], ◌∷◌, length, take, replicate, Some, None, Ok, Err, Option, Result, ◌==◌, nat_le, slice_set}
use Rattle.std.specs.Option.{option_and_then}
use Rattle.std.specs.declared.ops.ControlFlow.{ControlFlow}
use Rattle.std.specs.declared.ops.ControlFlow.TheVariants.{Continue, Break}
use Rattle.circuit.specs.declared.row.Span.{Span}
use Rattle.netlist.specs.Tokens.{Tok, word, mark, end}
use Rattle.netlist.specs.declared.fault.TokenFault.{TokenFault}
use Rattle.netlist.specs.declared.fault.TokenFault.TheVariants.{OutOfForm, TooLong}
use Rattle.netlist.specs.declared.pins.Pins.{Pins}
use Rattle.netlist.specs.declared.state.State.{State}
use Rattle.netlist.specs.declared.state.State.TheVariants.{Start, Named, Declaring, Declared, DeclarationClosed, Driven, Kinded, Opened, Pinned, GateClosed}
use Rattle.netlist.specs.declared.statement.Gate.{Gate as Gates}
use Rattle.netlist.specs.declared.statement.Statement.{Statement}
use Rattle.netlist.specs.declared.statement.Statement.TheVariants.{Empty, Declaration, Gate}
use Rattle.netlist.specs.declared.token.Token.{Token}
use Rattle.netlist.specs.declared.token.Token.TheVariants.{Word, Mark, End}

-- a word is placed where a row can tell of it
abbrev pub Placed : Token → Type 0
Placed (Word bytes p) = p ≤ 1048576
Placed (Mark b p) = Unit {0}
Placed (End p) = Unit {0}

abbrev pub no_pins : Pins
no_pins = record { count = 0; spans = replicate 8 (record { offset = 0; len = 0 }) }

-- one pin more, where there is room for it
abbrev pub added : Pins → Span → Option Pins
added ps s =
    if nat_le 8 ps.count then None
    else Some (record { count = ps.count + 1; spans = slice_set ps.spans ps.count s })

-- the pins of a gate: none are kept where they are more than eight
abbrev pub more_added : Option Pins → Span → Option Pins
more_added o s = option_and_then (λ ps. added ps s) o

abbrev pub with_pin : Gates → Span → Gates
with_pin g s = record { line = g.line; kind = g.kind; pins = more_added g.pins s }

abbrev pub used_of : Pins → List Span
used_of ps = take ps.count ps.spans

-- where a word stands, if it has at most 16 bytes
abbrev pub span_of : List ℕ → ℕ → Result Span TokenFault
span_of w p = if nat_le (length w) 16 then Ok (record { offset = p; len = length w }) else Err (TooLong p)

-- what a token leads to: another state, or the whole statement
abbrev pub Step : Type 0
Step = Result (ControlFlow Statement State) TokenFault

abbrev pub to : (Span → State) → Result Span TokenFault → Step
to next (Ok s) = Ok (Continue (next s))
to next (Err f) = Err f

-- a word in form, and then of a lawful length
abbrev pub on_word : State → List ℕ → ℕ → Step
on_word Start w p = to (λ s. Named s) (span_of w p)
on_word (Named n) w p = Err (OutOfForm p)
on_word (Declaring k) w p = to (λ s. Declared (record { keyword = k; word = s })) (span_of w p)
on_word (Declared d) w p = Err (OutOfForm p)
on_word (DeclarationClosed d) w p = Err (OutOfForm p)
on_word (Driven l) w p = to (λ s. Kinded l s) (span_of w p)
on_word (Kinded l k) w p = Err (OutOfForm p)
on_word (Opened g) w p = to (λ s. Pinned (with_pin g s)) (span_of w p)
on_word (Pinned g) w p = Err (OutOfForm p)
on_word (GateClosed g c) w p = Err (OutOfForm p)

-- 40 and 41 are the brackets, 44 is the comma and 61 the equals sign
abbrev pub on_mark : State → ℕ → ℕ → Step
on_mark Start b p = Err (OutOfForm p)
on_mark (Named n) b p =
    if b == 40 then Ok (Continue (Declaring n))
    else (if b == 61 then Ok (Continue (Driven n)) else Err (OutOfForm p))
on_mark (Declaring k) b p = Err (OutOfForm p)
on_mark (Declared d) b p = if b == 41 then Ok (Continue (DeclarationClosed d)) else Err (OutOfForm p)
on_mark (DeclarationClosed d) b p = Err (OutOfForm p)
on_mark (Driven l) b p = Err (OutOfForm p)
on_mark (Kinded l k) b p =
    if b == 40 then Ok (Continue (Opened (record { line = l; kind = k; pins = Some no_pins })))
    else Err (OutOfForm p)
on_mark (Opened g) b p = Err (OutOfForm p)
on_mark (Pinned g) b p =
    if b == 44 then Ok (Continue (Opened g))
    else (if b == 41 then Ok (Continue (GateClosed g p)) else Err (OutOfForm p))
on_mark (GateClosed g c) b p = Err (OutOfForm p)

abbrev pub on_end : State → ℕ → Step
on_end Start p = Ok (Break Empty)
on_end (Named n) p = Err (OutOfForm p)
on_end (Declaring k) p = Err (OutOfForm p)
on_end (Declared d) p = Err (OutOfForm p)
on_end (DeclarationClosed d) p = Ok (Break (Declaration d))
on_end (Driven l) p = Err (OutOfForm p)
on_end (Kinded l k) p = Err (OutOfForm p)
on_end (Opened g) p = Err (OutOfForm p)
on_end (Pinned g) p = Err (OutOfForm p)
on_end (GateClosed g c) p = Ok (Break (Gate g c))

abbrev pub stepped : State → Tok → Step
stepped s (word w p) = on_word s w p
stepped s (mark b p) = on_mark s b p
stepped s (end p) = on_end s p

-- what the tokens of a line say, from a state on
unfoldable pub said : State → List Tok → Result Statement TokenFault
said s [] = Err (OutOfForm 0)
said s (t ∷ ts) = elim (stepped s t) [ Ok (Continue n) ↦ said n ts | Ok (Break x) ↦ Ok x | Err f ↦ Err f ]
