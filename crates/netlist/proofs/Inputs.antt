-- How many inputs there are, with one row more or one mark more.
use Rattle.std.proofs.Common.{◌≡◌, ℕ, ◌+◌, ◌<◌, cond, List, [], ◌∷◌, ◌++◌, length, set, arith}
use Rattle.std.proofs.lemmas.List.Sums.{sum_by-append, sum_by-set}
use Rattle.circuit.specs.Kinds.{is_input}
use Rattle.circuit.specs.Rows.{no_row, row_at, inputs}
use Rattle.circuit.specs.declared.row.Row.{Row}
use Rattle.netlist.specs.Reading.{as_output}

pub inputs_push : (rows : List Row) (row : Row) → inputs (rows ++ row ∷ []) ≡ cond (is_input row.kind) 1 0 + inputs rows
inputs_push rows row = omega (arith, sum_by-append (λ (r : Row). cond (is_input r.kind) 1 0) rows (row ∷ []))

pub inputs_mark : (rows : List Row) (i : ℕ) → i < length rows → inputs (set rows i (as_output (row_at rows i))) ≡ inputs rows
inputs_mark rows i h = omega (arith, sum_by-set (λ (r : Row). cond (is_input r.kind) 1 0) rows i (as_output (row_at rows i)) no_row h)
