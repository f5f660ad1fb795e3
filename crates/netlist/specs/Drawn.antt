-- Which text line each line of an accepted text comes from, and what its row keeps of that text line.
use Rattle.std.specs.Prelude.{◌≡◌, ℕ, ◌<◌, ◌≤◌, true, List, [], length, replicate, Some, Ok, slice_index, slice_index_or}
use Rattle.circuit.specs.Rows.{row_at, counted}
use Rattle.circuit.specs.declared.kind.Kind.TheVariants.{Input as an_input}
use Rattle.circuit.specs.declared.row.Row.{Row}
use Rattle.circuit.specs.declared.row.Span.{Span}
use Rattle.netlist.specs.Keywords.{port_of, kind_of}
use Rattle.netlist.specs.Names.{bytes_of, name_of}
use Rattle.netlist.specs.Reading.{lines_from}
use Rattle.netlist.specs.Statements.{said}
use Rattle.netlist.specs.Tokens.{Tok}
use Rattle.netlist.specs.declared.keyword.Port.TheVariants.{Input}
use Rattle.netlist.specs.declared.state.State.TheVariants.{Start}
use Rattle.netlist.specs.declared.pins.Pins.{Pins}
use Rattle.netlist.specs.declared.statement.Declaration.{Declaration as Declares}
use Rattle.netlist.specs.declared.statement.Gate.{Gate as Gates}
use Rattle.netlist.specs.declared.statement.Statement.{Statement}
use Rattle.netlist.specs.declared.statement.Statement.TheVariants.{Empty, Declaration, Gate}

-- what `slice_index_or` gives past the last pin
abbrev pub no_span : Span
no_span = record { offset = 0; len = 0 }

-- a row of an INPUT, whose name is its word
pub record InputRow (text : List ℕ) (row : Row) (d : Declares) : Type 0 where
  pub keyword : port_of (bytes_of text d.keyword) ≡ Some Input
  pub kind : row.kind ≡ Some an_input
  pub count : row.count ≡ 0
  pub pins : row.pins ≡ replicate 8 0
  pub name : row.name ≡ d.word

-- the row of line i is that of a gate of at most eight pins, with its name, its kind and its pins: each of
-- its pins is a line before it that has the name which the text has at that place
pub record GateRow (text : List ℕ) (rows : List Row) (i : ℕ) (row : Row) (g : Gates) : Type 0 where
  pub words : Pins
  pub given : g.pins ≡ Some words
  pub kind : row.kind ≡ kind_of (bytes_of text g.kind)
  pub count : row.count ≡ words.count
  pub lawful : counted row.kind row.count ≡ true
  pub name : row.name ≡ g.line
  pub eight : length row.pins ≡ 8
  pub used : (j : ℕ) → j < row.count → (slice_index row.pins j < i) × (name_of text (row_at rows (slice_index row.pins j)) ≡ bytes_of text (slice_index_or words.spans j no_span))
  pub unused : (j : ℕ) → row.count ≤ j → j < 8 → slice_index row.pins j ≡ 0

-- the row of line i keeps what the statement says
abbrev pub Keeps : List ℕ → List Row → ℕ → Row → Statement → Type 0
Keeps text rows i row Empty = ⊥
Keeps text rows i row (Declaration d) = InputRow text row d
Keeps text rows i row (Gate g close) = GateRow text rows i row g

-- the statement of a text line defines line i
abbrev pub Defines : List ℕ → List Row → ℕ → Statement → Type 0
Defines text rows i x = Keeps text rows i (row_at rows i) x

-- the statement is an INPUT or a gate
abbrev pub Draws : List ℕ → Statement → Type 0
Draws text Empty = ⊥
Draws text (Declaration d) = port_of (bytes_of text d.keyword) ≡ Some Input
Draws text (Gate g close) = Unit {0}

-- text line k defines line i
abbrev pub ComesFrom : List ℕ → List (List Tok) → List Row → ℕ → ℕ → Type 0
ComesFrom text ls rows i k = (x : Statement) × (said Start (slice_index_or ls k []) ≡ Ok x) × Defines text rows i x

-- Each line of an accepted text comes from a text line of its own, in the order of the text, and each text
-- line is well formed and, if it is an INPUT or a gate, one from which a line comes.
pub record Drawn (text : List ℕ) (rows : List Row) : Type 0 where
  pub from : List ℕ
  pub one_each : length from ≡ length rows
  pub inside : (i : ℕ) → i < length rows → slice_index from i < length (lines_from text 0)
  pub comes : (i : ℕ) → i < length rows → ComesFrom text (lines_from text 0) rows i (slice_index from i)
  pub in_order : (i j : ℕ) → i < j → j < length rows → slice_index from i < slice_index from j
  pub no_more : (k : ℕ) → k < length (lines_from text 0) → (x : Statement) × (said Start (slice_index_or (lines_from text 0) k []) ≡ Ok x) × (Draws text x → (i : ℕ) × (i < length rows) × (slice_index from i ≡ k))
