-- Which vectors a circuit takes.
use Rattle.std.specs.Prelude.{◌≡◌, ℕ, All, Bool, true, if◌then◌else◌, not, List, length, is_some, Some, None, Ok, Err, Option, Result, ◌==◌, nat_lt}
use Rattle.std.specs.List.{position}
use Rattle.level.specs.Bytes.{allowed}
use Rattle.circuit.specs.declared.row.Row.{Row}
use Rattle.circuit.specs.declared.vector.VectorFault.{VectorFault}
use Rattle.circuit.specs.declared.vector.VectorFault.TheVariants.{Length, Byte}
use Rattle.circuit.specs.declared.vector.EvaluationFault.{EvaluationFault}
use Rattle.circuit.specs.declared.vector.EvaluationFault.TheVariants.{TooFewCells, Vector}
use Rattle.circuit.specs.Rows.{inputs}

-- 0, 1, or X where that is allowed
abbrev pub fits : Bool → ℕ → Bool
fits x b = is_some (allowed x b)

abbrev pub Fit : Bool → List ℕ → Type 0
Fit x v = All (λ b. fits x b ≡ true) v

-- the first byte that does not fit, if there is one
abbrev pub bad_at : Bool → List ℕ → Option ℕ
bad_at x v = position (λ b. not (fits x b)) v

abbrev pub unless_bad : Option ℕ → Result (Unit {0}) VectorFault
unless_bad None = Ok tt
unless_bad (Some i) = Err (Byte i)

-- the length is judged first, then the bytes
abbrev pub vector_outcome : Bool → ℕ → List ℕ → Result (Unit {0}) VectorFault
vector_outcome x m v = if length v == m then unless_bad (bad_at x v) else Err (Length (length v))

abbrev pub as_evaluation : Result (Unit {0}) VectorFault → Result (Unit {0}) EvaluationFault
as_evaluation (Ok x) = Ok x
as_evaluation (Err e) = Err (Vector e)

-- a cell for each line is asked for before the vector is judged
abbrev pub evaluation_outcome : Bool → List Row → List ℕ → ℕ → Result (Unit {0}) EvaluationFault
evaluation_outcome x rows v cells = if nat_lt cells (length rows) then Err TooFewCells else as_evaluation (vector_outcome x (inputs rows) v)
