use Rattle.std.proofs.Common.{◌≡◌, length, take, arith}
use Rattle.std.proofs.lemmas.List.{length-take-le}
use Rattle.circuit.specs.Rows.{row_at}
use Rattle.circuit.proofs.Chains.{feedback_decides}
use Rattle.circuit.proofs.Laws.{lawful_row, row_below}
use Rattle.circuit.proofs.circuit.Circuit.mark_cone.Goals as goal

pub is_reached-reached-requires : goal.is_reached-reached-requires
is_reached-reached-requires c =
    let rows = c.args.self.now.rows.now in
    let i = c.loop-line.line in
    let marks = c.loop-line.marks in
    let long : length (take i marks) ≡ i = length-take-le i marks (omega (arith, c.loop-line.invariant.1, c.requires)) in
    rw long (row_below i (row_at rows i) (lawful_row rows c.args.self.now.lawful i c.loop-line-test.true))

pub returns-clause-chains : goal.returns-clause-chains
returns-clause-chains c = feedback_decides c.args.self.now.rows.now c.args.self.now.lawful c.args.source
