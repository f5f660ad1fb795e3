use Rattle.std.proofs.Common.{◌≡◌, map, length, take, drop}
use Rattle.std.specs.Slice.Iter.{iter_rest}
use Rattle.circuit.specs.Levels.{build, levels, line_level}
use Rattle.circuit.specs.Rows.{inputs_before}
use Rattle.circuit.proofs.circuit.Circuit.fill.Given as goal

abbrev pub invariant-loop-i : goal.invariant-loop-i
invariant-loop-i g l =
    let reads = g.V.LineValue.reads in
    (build (line_level l.self.rows.now l.vector) (drop l.i l.self.rows.now) (map reads (take l.i l.cells)) ≡ levels l.self.rows.now l.vector)
    × (drop (length l.self.rows.now) l.cells ≡ drop (length l.self.rows.now) l.initial.cells)
    × (length l.cells ≡ length l.initial.cells)
    × (iter_rest l.bytes ≡ drop (inputs_before l.self.rows.now l.i) l.vector)
