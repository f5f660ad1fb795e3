-- The row that a statement defines, judged after the rows that the text lines before it define.
use Rattle.std.specs.Prelude.{if◌then◌else◌, ◌≡◌, ℕ, ◌+◌, ◌≤◌, false, List, [], ◌∷◌, ◌++◌, length, take, replicate, is_some, Some, None, Ok, Err, Option, Result, nat_le, slice_set}
use Rattle.circuit.specs.Kinds.{takes}
use Rattle.circuit.specs.Rows.{inputs}
use Rattle.circuit.specs.declared.kind.Kind.{Kind}
use Rattle.circuit.specs.declared.kind.Kind.TheVariants.{Input as an_input}
use Rattle.circuit.specs.declared.row.Row.{Row}
use Rattle.circuit.specs.declared.row.Span.{Span}
use Rattle.netlist.specs.Keywords.{port_of, kind_of}
use Rattle.netlist.specs.Names.{bytes_of, first_named}
use Rattle.netlist.specs.Statements.{used_of}
use Rattle.netlist.specs.declared.fault.NetlistFault.{NetlistFault}
use Rattle.netlist.specs.declared.fault.NetlistFault.TheVariants.{UnknownKeyword, PinCount, Redefined, UndefinedPin, TooManyInputs, TooManyLines, NoRow}
use Rattle.netlist.specs.declared.keyword.Port.{Port}
use Rattle.netlist.specs.declared.keyword.Port.TheVariants.{Input, Output}
use Rattle.netlist.specs.declared.pins.Pins.{Pins}
use Rattle.netlist.specs.declared.statement.Declaration.{Declaration as Declares}
use Rattle.netlist.specs.declared.statement.Gate.{Gate as Gates}
use Rattle.netlist.specs.declared.statement.Statement.{Statement}
use Rattle.netlist.specs.declared.statement.Statement.TheVariants.{Empty, Declaration, Gate}

-- the line that a word names
abbrev pub line_of : List ℕ → List Row → Span → Option ℕ
line_of text rows s = first_named text (bytes_of text s) rows

-- one pin's line goes to place i of ns
abbrev pub placed : Option ℕ → Span → List ℕ → ℕ → Result (List ℕ) NetlistFault
placed None s ns i = Err (UndefinedPin s.offset)
placed (Some n) s ns i = Ok (slice_set ns i n)

-- the lines of the pins, from place i of ns on, or the first pin that is not defined
unfoldable pub resolved : List ℕ → List Row → List Span → List ℕ → ℕ → Result (List ℕ) NetlistFault
resolved text rows [] ns i = Ok ns
resolved text rows (s ∷ ss) ns i = elim (placed (line_of text rows s) s ns i) [ Ok more ↦ resolved text rows ss more (i + 1) | Err f ↦ Err f ]

abbrev pub input_row : Span → Row
input_row s = record { kind = Some an_input; count = 0; pins = replicate 8 0; output = false; name = s }

abbrev pub declares : List ℕ → List Row → Option Port → Declares → Result (Option Row) NetlistFault
declares text rows None d = Err (UnknownKeyword d.keyword.offset)
declares text rows (Some Output) d = Ok None
declares text rows (Some Input) d =
    if is_some (line_of text rows d.word) then Err (Redefined d.word.offset)
    else (if nat_le 256 (inputs rows) then Err (TooManyInputs d.word.offset)
    else Ok (Some (input_row d.word)))

abbrev pub gate_row : Kind → Span → ℕ → Result (List ℕ) NetlistFault → Result Row NetlistFault
gate_row kind l n (Ok ns) = Ok (record { kind = Some kind; count = n; pins = ns; output = false; name = l })
gate_row kind l n (Err f) = Err f

-- a gate of that kind with these pins, or with more than eight
abbrev pub gate_with : List ℕ → List Row → Kind → Span → Option Pins → ℕ → Result Row NetlistFault
gate_with text rows kind l None close = Err (PinCount close)
gate_with text rows kind l (Some ps) close =
    if takes kind ps.count then
    (if is_some (line_of text rows l) then Err (Redefined l.offset)
    else gate_row kind l ps.count (resolved text rows (used_of ps) (replicate 8 0) 0))
    else Err (PinCount close)

abbrev pub gates : List ℕ → List Row → Option Kind → Gates → ℕ → Result Row NetlistFault
gates text rows None g close = Err (UnknownKeyword g.kind.offset)
gates text rows (Some kind) g close = gate_with text rows kind g.line g.pins close

abbrev pub defining : Result Row NetlistFault → Result (Option Row) NetlistFault
defining (Ok row) = Ok (Some row)
defining (Err f) = Err f

-- the row that the statement defines, if it defines one
abbrev pub defined : List ℕ → List Row → Statement → Result (Option Row) NetlistFault
defined text rows Empty = Ok None
defined text rows (Declaration d) = declares text rows (port_of (bytes_of text d.keyword)) d
defined text rows (Gate g close) = defining (gates text rows (kind_of (bytes_of text g.kind)) g close)

-- the rows with one more, within the limit and the room that there is
abbrev pub stored : ℕ → List Row → Row → Result (List Row) NetlistFault
stored room rows row =
    if nat_le 1024 (length rows) then Err (TooManyLines row.name.offset)
    else (if nat_le room (length rows) then Err (NoRow row.name.offset) else Ok (rows ++ row ∷ []))

abbrev pub extended : ℕ → List Row → Result (Option Row) NetlistFault → Result (List Row) NetlistFault
extended room rows (Ok None) = Ok rows
extended room rows (Ok (Some row)) = stored room rows row
extended room rows (Err f) = Err f

-- the rows after a statement
abbrev pub after_statement : List ℕ → ℕ → List Row → Statement → Result (List Row) NetlistFault
after_statement text room rows x = extended room rows (defined text rows x)

-- what a function that keeps the rows in a slice answers: how many there are, or the fault
abbrev pub Gives : Result (List Row) NetlistFault → List Row → Result ℕ NetlistFault → Type 0
Gives want rows (Ok n) = (want ≡ Ok (take n rows)) × (n ≤ length rows) × (n ≤ 1024)
Gives want rows (Err f) = want ≡ Err f
