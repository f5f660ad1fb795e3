-- What a whole text defines: first its lines, text line by text line, then its outputs.
use Rattle.std.specs.Prelude.{if◌then◌else◌, ◌≡◌, ℕ, ◌-◌, ◌≤◌, true, List, [], ◌∷◌, map, length, take, drop, replicate, Some, None, Ok, Err, Option, Result, ◌==◌, nat_le, slice_set}
use Rattle.circuit.specs.Rows.{blank, inputs, row_at}
use Rattle.circuit.specs.declared.row.Row.{Row}
use Rattle.circuit.specs.declared.row.Span.{Span}
use Rattle.netlist.specs.Definitions.{after_statement, line_of}
use Rattle.netlist.specs.Keywords.{port_of}
use Rattle.netlist.specs.Names.{bytes_of}
use Rattle.netlist.specs.Statements.{said}
use Rattle.netlist.specs.Tokens.{Tok, line, lines_after}
use Rattle.netlist.specs.declared.fault.NetlistFault.{NetlistFault}
use Rattle.netlist.specs.declared.fault.NetlistFault.TheVariants.{TooLarge, Token, UndefinedOutput, NoInput}
use Rattle.netlist.specs.declared.fault.TokenFault.{TokenFault}
use Rattle.netlist.specs.declared.keyword.Port.{Port}
use Rattle.netlist.specs.declared.keyword.Port.TheVariants.{Input, Output}
use Rattle.netlist.specs.declared.state.State.TheVariants.{Start}
use Rattle.netlist.specs.declared.statement.Statement.{Statement}
use Rattle.netlist.specs.declared.statement.Statement.TheVariants.{Empty, Declaration, Gate}

-- the tokens of each text line from `at` on, where one begins
abbrev pub lines_from : List ℕ → ℕ → List (List Tok)
lines_from text at = line text at ∷ lines_after text at

-- what each of them says
abbrev pub statements_from : List ℕ → ℕ → List (Result Statement TokenFault)
statements_from text at = map (said Start) (lines_from text at)

-- what the text lines say that begin after a place; all of them where there is none
abbrev pub statements_after : List ℕ → Option ℕ → List (Result Statement TokenFault)
statements_after text None = statements_from text 0
statements_after text (Some at) = map (said Start) (lines_after text at)

abbrev pub after_line : List ℕ → ℕ → List Row → Result Statement TokenFault → Result (List Row) NetlistFault
after_line text room rows (Ok x) = after_statement text room rows x
after_line text room rows (Err f) = Err (Token f)

-- the rows after what each text line says, in turn, or the first fault
unfoldable pub in_turn : (List Row → Result Statement TokenFault → Result (List Row) NetlistFault) → List Row → List (Result Statement TokenFault) → Result (List Row) NetlistFault
in_turn step rows [] = Ok rows
in_turn step rows (r ∷ rs) = elim (step rows r) [ Ok more ↦ in_turn step more rs | Err f ↦ Err f ]

-- the rows that text lines that say this define, after those given
abbrev pub rows_of : List ℕ → ℕ → List Row → List (Result Statement TokenFault) → Result (List Row) NetlistFault
rows_of text room rows rs = in_turn (after_line text room) rows rs

-- the word of an OUTPUT
abbrev pub if_output : Option Port → Span → Option Span
if_output None s = None
if_output (Some Input) s = None
if_output (Some Output) s = Some s

abbrev pub output_word : List ℕ → Statement → Option Span
output_word text Empty = None
output_word text (Declaration d) = if_output (port_of (bytes_of text d.keyword)) d.word
output_word text (Gate g close) = None

abbrev pub as_output : Row → Row
as_output row = record { kind = row.kind; count = row.count; pins = row.pins; output = true; name = row.name }

abbrev pub marked_at : List Row → Span → Option ℕ → Result (List Row) NetlistFault
marked_at rows s None = Err (UndefinedOutput s.offset)
marked_at rows s (Some i) = Ok (slice_set rows i (as_output (row_at rows i)))

-- the rows with the mark that a statement sets, if it sets one
abbrev pub marked_by : List ℕ → List Row → Option Span → Result (List Row) NetlistFault
marked_by text rows None = Ok rows
marked_by text rows (Some s) = marked_at rows s (line_of text rows s)

abbrev pub marked_line : List ℕ → List Row → Result Statement TokenFault → Result (List Row) NetlistFault
marked_line text rows (Ok x) = marked_by text rows (output_word text x)
marked_line text rows (Err f) = Err (Token f)

-- the rows with the marks of text lines that say this, or the first OUTPUT that names no line
abbrev pub marked : List ℕ → List Row → List (Result Statement TokenFault) → Result (List Row) NetlistFault
marked text rows rs = in_turn (marked_line text) rows rs

abbrev pub with_input : List ℕ → Result (List Row) NetlistFault → Result (List Row) NetlistFault
with_input text (Ok rows) = if inputs rows == 0 then Err (NoInput (length text)) else Ok rows
with_input text (Err f) = Err f

abbrev pub with_marks : List ℕ → Result (List Row) NetlistFault → Result (List Row) NetlistFault
with_marks text (Ok rows) = with_input text (marked text rows (statements_from text 0))
with_marks text (Err f) = Err f

-- the rows of a text where there is room for so many, or its refusal
unfoldable pub reading : List ℕ → ℕ → Result (List Row) NetlistFault
reading text room =
    if nat_le (length text) 1048576 then with_marks text (rows_of text room [] (statements_from text 0))
    else Err TooLarge

-- what a function that marks rows in a slice leaves there
abbrev pub Marks : Result (List Row) NetlistFault → List Row → Result (Unit {0}) NetlistFault → Type 0
Marks want rows (Ok u) = want ≡ Ok rows
Marks want rows (Err f) = want ≡ Err f

-- what the reader answers and leaves in the rows that it was given
abbrev pub Answers : Result (List Row) NetlistFault → ℕ → List Row → Result ℕ NetlistFault → Type 0
Answers want room rows (Ok n) = (want ≡ Ok (take n rows)) × (n ≤ room) × (n ≤ 1024) × (drop n rows ≡ replicate (room - n) blank)
Answers want room rows (Err f) = (want ≡ Err f) × (rows ≡ replicate room blank)
