use Rattle.std.proofs.Common.{◌≡◌, ◌≤◌, [], length, take}
use Rattle.netlist.specs.Reading.{statements_after, statements_from, rows_of}
use Rattle.netlist.proofs.read.define_lines.Given as goal

abbrev pub invariant-loop-statement : goal.invariant-loop-statement
invariant-loop-statement l =
    (rows_of l.text.bytes.now (length l.initial.rows) (take l.count l.rows) (statements_after l.statement-iterator.text.bytes.now l.statement-iterator.end) ≡ rows_of l.text.bytes.now (length l.initial.rows) [] (statements_from l.text.bytes.now 0))
    × (l.count ≤ length l.rows) × (l.count ≤ 1024)
