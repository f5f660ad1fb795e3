-- What a well-formed text line is, and what it says.
use Rattle.std.specs.Prelude.{◌≡◌, ℕ, ◌<◌, ◌≤◌, List, [], ◌∷◌, ◌++◌, length, Some, Ok, Err, Option, fold}
use Rattle.std.specs.List.{AllByRecursion}
use Rattle.circuit.specs.declared.row.Span.{Span}
use Rattle.netlist.specs.Statements.{no_pins, more_added, said}
use Rattle.netlist.specs.Tokens.{Tok, word, mark, end, line}
use Rattle.netlist.specs.declared.fault.TokenFault.TheVariants.{OutOfForm, TooLong}
use Rattle.netlist.specs.declared.pins.Pins.{Pins}
use Rattle.netlist.specs.declared.state.State.TheVariants.{Start}
use Rattle.netlist.specs.declared.statement.Statement.{Statement}
use Rattle.netlist.specs.declared.statement.Statement.TheVariants.{Empty, Declaration, Gate}

-- where a word stands
abbrev pub span_at : List ℕ → ℕ → Span
span_at w p = record { offset = p; len = length w }

-- the pins of a gate, from the first to the last
abbrev pub collected : List Span → Option Pins
collected ss = fold more_added (Some no_pins) ss

-- Pin words with commas, 44, between them, and where they stand. Fit holds of the length of each.
pub data PinWords (Fit : ℕ → Type 0) : List Tok → List Span → Type 0 where
  last_pin : {w : List ℕ} {p : ℕ} → Fit (length w) → PinWords Fit (word w p ∷ []) (span_at w p ∷ [])
  more_pins : {w : List ℕ} {p c : ℕ} {ts : List Tok} {ss : List Span} → Fit (length w) → PinWords Fit ts ss → PinWords Fit (word w p ∷ mark 44 c ∷ ts) (span_at w p ∷ ss)

-- A text line in form, and what it says. Fit holds of the length of each word; 40 and 41 are the brackets,
-- and 61 is the equals sign.
pub data FormWith (Fit : ℕ → Type 0) : List Tok → Statement → Type 0 where
  empty : {p : ℕ} → FormWith Fit (end p ∷ []) Empty
  declaration : {k n : List ℕ} {pk o pn c e : ℕ} → Fit (length k) → Fit (length n) → FormWith Fit (word k pk ∷ mark 40 o ∷ word n pn ∷ mark 41 c ∷ end e ∷ []) (Declaration (record { keyword = span_at k pk; word = span_at n pn }))
  gate : {l k : List ℕ} {pl q pk o c : ℕ} {ps : List Tok} {ss : List Span} (e : ℕ) → Fit (length l) → Fit (length k) → PinWords Fit ps ss → FormWith Fit (word l pl ∷ mark 61 q ∷ word k pk ∷ mark 40 o ∷ (ps ++ mark 41 c ∷ end e ∷ [])) (Gate (record { line = span_at l pl; kind = span_at k pk; pins = collected ss }) c)

-- a word has at most 16 bytes
abbrev pub Short : ℕ → Type 0
Short n = n ≤ 16

-- a well-formed text line, and what it says
abbrev pub Form : List Tok → Statement → Type 0
Form ts x = FormWith Short ts x

-- the end stands last, and nowhere else
pub data OneEnd : List Tok → Type 0 where
  only_end : {p : ℕ} → OneEnd (end p ∷ [])
  after_word : {w : List ℕ} {p : ℕ} {ts : List Tok} → OneEnd ts → OneEnd (word w p ∷ ts)
  after_mark : {b p : ℕ} {ts : List Tok} → OneEnd ts → OneEnd (mark b p ∷ ts)

-- The statements that are read are those of the well-formed text lines, and no others.
pub record Grammatical : Type 0 where
  pub every_form_is_read : (ts : List Tok) (x : Statement) → Form ts x → said Start ts ≡ Ok x
  pub only_forms_are_read : (ts : List Tok) (x : Statement) → OneEnd ts → said Start ts ≡ Ok x → Form ts x
  pub each_form_has_one_end : (ts : List Tok) (x : Statement) → Form ts x → OneEnd ts
  pub each_line_has_one_end : (text : List ℕ) (at : ℕ) → OneEnd (line text at)

-- a word of any length
abbrev pub AnyLength : ℕ → Type 0
AnyLength n = Unit {0}

-- A line in form can begin so, whatever the lengths of its words.
abbrev pub Viable : List Tok → Type 0
Viable pre = (rest : List Tok) × (x : Statement) × FormWith AnyLength (pre ++ rest) x

-- where a token stands
abbrev pub tok_place : Tok → ℕ
tok_place (word w p) = p
tok_place (mark b p) = p
tok_place (end p) = p

-- a mark, or a word that is not too long
abbrev pub Fair : Tok → Type 0
Fair (word w p) = Short (length w)
Fair (mark b p) = Unit {0}
Fair (end p) = ⊥

-- At place p stands the first token with which no line in form goes on, and no word before it is too long.
pub record Misfit (ts : List Tok) (p : ℕ) : Type 0 where
  pub before : List Tok
  pub misfit : Tok
  pub after : List Tok
  pub splits : ts ≡ before ++ misfit ∷ after
  pub stands : tok_place misfit ≡ p
  pub fair : AllByRecursion Fair before
  pub goes_so_far : Viable before
  pub goes_no_further : Viable (before ++ misfit ∷ []) → ⊥

-- At place p stands the first word that is too long, and a line in form can go as far as this word.
pub record Overlong (ts : List Tok) (p : ℕ) : Type 0 where
  pub before : List Tok
  pub bytes : List ℕ
  pub after : List Tok
  pub splits : ts ≡ before ++ word bytes p ∷ after
  pub too_long : 16 < length bytes
  pub fair : AllByRecursion Fair before
  pub goes_so_far : Viable (before ++ word bytes p ∷ [])

-- A text line is refused at the first token that is out of form or too long, and for no other reason.
pub record RefusedInPlace : Type 0 where
  pub out_of_form : (ts : List Tok) (p : ℕ) → OneEnd ts → said Start ts ≡ Err (OutOfForm p) → Misfit ts p
  pub each_misfit : (ts : List Tok) (p : ℕ) → OneEnd ts → Misfit ts p → said Start ts ≡ Err (OutOfForm p)
  pub too_long : (ts : List Tok) (p : ℕ) → OneEnd ts → said Start ts ≡ Err (TooLong p) → Overlong ts p
  pub each_overlong : (ts : List Tok) (p : ℕ) → OneEnd ts → Overlong ts p → said Start ts ≡ Err (TooLong p)
