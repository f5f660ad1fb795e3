use Rattle.std.proofs.Common.{◌≡◌}
use Rattle.netlist.specs.Reading.{statements_after, statements_from, marked}
use Rattle.netlist.proofs.mark.mark_outputs.Given as goal

abbrev pub invariant-loop-statement : goal.invariant-loop-statement
invariant-loop-statement l =
    marked l.text.bytes.now l.rows (statements_after l.statement-iterator.text.bytes.now l.statement-iterator.end) ≡ marked l.text.bytes.now l.initial.rows (statements_from l.text.bytes.now 0)
