-- What the lines of a circuit read under a vector.
use Rattle.std.specs.Prelude.{◌≡◌, ℕ, ◌<◌, true, cond, List, [], ◌∷◌, ◌++◌, map, length, Some, None, Option, slice_index, slice_index_or}
use Rattle.std.specs.Option.{unwrap_or}
use Rattle.level.specs.declared.level.Level.{Level}
use Rattle.level.specs.declared.level.Level.TheVariants.{X}
use Rattle.level.specs.Bytes.{level_of}
use Rattle.circuit.specs.declared.kind.Kind.{Kind}
use Rattle.circuit.specs.declared.kind.Kind.TheVariants.{Input}
use Rattle.circuit.specs.declared.row.Row.{Row}
use Rattle.circuit.specs.Gates.{gate_level}
use Rattle.circuit.specs.Kinds.{is_input, is_gate}
use Rattle.circuit.specs.Rows.{row_at, pins_of, inputs_before}

-- a list made row by row, each element from those before it
abbrev pub build : {A : Type 0} → (List A → Row → A) → List Row → List A → List A
build f [] past = past
build f (r ∷ rs) past = build f rs (past ++ (f past r ∷ []))

-- what a pin reads, from the readings of the lines below
abbrev pub pin_level : List Level → ℕ → Level
pin_level past p = slice_index_or past p X

-- bytes other than 0 and 1; no call that grants a vector has one other than X
abbrev pub byte_level : ℕ → Level
byte_level b = unwrap_or (level_of b) X

abbrev pub gate_of : Option Kind → List Level → Level
gate_of None ls = X
gate_of (Some k) ls = gate_level k ls

-- what a row reads: an input its byte of the vector, a gate what its pins' readings make
abbrev pub row_level : Row → List ℕ → ℕ → List Level → Level
row_level r v next past = cond (is_input r.kind) (byte_level (slice_index v next)) (gate_of r.kind (map (pin_level past) (pins_of r)))

-- the next line; an input's byte has as many bytes before it as there are inputs before the line
abbrev pub line_level : List Row → List ℕ → List Level → Row → Level
line_level rows v past r = row_level r v (inputs_before rows (length past)) past

abbrev pub levels : List Row → List ℕ → List Level
levels rows v = build (line_level rows v) rows []

abbrev pub level : List Row → List ℕ → ℕ → Level
level rows v i = slice_index_or (levels rows v) i X

-- readings in which every input reads its byte, and every gate what its pins' readings make
pub record Reads (rows : List Row) (v : List ℕ) (ls : List Level) : Type 0 where
  pub each_line : length ls ≡ length rows
  pub input : (i : ℕ) → i < length rows → (row_at rows i).kind ≡ Some Input → slice_index_or ls i X ≡ byte_level (slice_index v (inputs_before rows i))
  pub gate : (i : ℕ) (k : Kind) → i < length rows → (row_at rows i).kind ≡ Some k → is_gate (Some k) ≡ true → slice_index_or ls i X ≡ gate_level k (map (pin_level ls) (pins_of (row_at rows i)))
