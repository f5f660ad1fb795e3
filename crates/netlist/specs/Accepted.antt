-- What holds of the lines of an accepted text.
use Rattle.std.specs.Prelude.{◌≡◌, ℕ, ◌+◌, ◌<◌, ◌≤◌, true, List, [], length, take, Some, Ok, Err, Decides, Result, ◌≢◌, slice_index_or}
use Rattle.circuit.specs.Rows.{row_at, named, taken}
use Rattle.circuit.specs.declared.row.Row.{Row}
use Rattle.circuit.specs.declared.row.Span.{Span}
use Rattle.netlist.specs.Names.{bytes_of, name_of}
use Rattle.netlist.specs.Reading.{lines_from, output_word, reading}
use Rattle.netlist.specs.Statements.{said}
use Rattle.netlist.specs.Tokens.{Tok}
use Rattle.netlist.specs.declared.fault.NetlistFault.{NetlistFault}
use Rattle.netlist.specs.declared.fault.TokenFault.{TokenFault}
use Rattle.netlist.specs.declared.state.State.TheVariants.{Start}
use Rattle.netlist.specs.declared.statement.Statement.{Statement}

-- P of what a result holds, where it is no refusal
abbrev pub Accepted : {X Y : Type 0} → Result X Y → (X → Type 0) → Type 0
Accepted (Ok x) P = P x
Accepted (Err f) P = Unit {0}

-- a name of 1 to 16 bytes that stand in the text
pub record NameIn (text : List ℕ) (s : Span) : Type 0 where
  pub some : 1 ≤ s.len
  pub few : s.len ≤ 16
  pub inside : s.offset + s.len ≤ length text

-- the statement of a text line is an OUTPUT of that name
abbrev pub SaysOutput : List ℕ → Result Statement TokenFault → List ℕ → Type 0
SaysOutput text r name = (x : Statement) × (s : Span) × (r ≡ Ok x) × (output_word text x ≡ Some s) × (bytes_of text s ≡ name)

-- one of the text lines is an OUTPUT of that name
abbrev pub HasOutput : List ℕ → List (List Tok) → List ℕ → Type 0
HasOutput text ls name = (k : ℕ) × (k < length ls) × SaysOutput text (said Start (slice_index_or ls k [])) name

-- the lines of an accepted text: each is an input or a gate, each has a name, no two have the same name, and
-- the marked ones are those of which the text has an OUTPUT
pub record LinesOf (text : List ℕ) (rows : List Row) : Type 0 where
  pub filled : (i : ℕ) → i < length rows → named (row_at rows i) ≡ true
  pub spelt : (i : ℕ) → i < length rows → NameIn text (row_at rows i).name
  pub unique : (i j : ℕ) → i < j → j < length rows → name_of text (row_at rows i) ≢ name_of text (row_at rows j)
  pub marks : (i : ℕ) → i < length rows → Decides (row_at rows i).output (HasOutput text (lines_from text 0) (name_of text (row_at rows i)))

-- an accepted text is accepted with any longer row memory too, and gives the same lines
abbrev pub SameWithMore : List ℕ → ℕ → List Row → Type 0
SameWithMore text room rows = (more : ℕ) → room ≤ more → reading text more ≡ Ok rows

-- a circuit taken over the rows that the reader leaves is that of the lines read, or of none
abbrev pub MakesCircuit : List Row → Result ℕ NetlistFault → Type 0
MakesCircuit rows (Ok n) = taken rows ≡ take n rows
MakesCircuit rows (Err f) = taken rows ≡ []
