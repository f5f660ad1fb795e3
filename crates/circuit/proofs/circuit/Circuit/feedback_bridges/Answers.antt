use Rattle.std.proofs.Common.{◌≡◌, ◌+◌, length, take, arith}
use Rattle.circuit.specs.Feedback.{cone, feedback_bridge}
use Rattle.circuit.specs.Search.{count}
use Rattle.circuit.proofs.Cones.{cone_count}
use Rattle.circuit.proofs.Finds.{count_le}
use Rattle.circuit.proofs.Laws.{lawful_lines}
use Rattle.circuit.proofs.Numbers.{begin, pairs_few}
use Rattle.circuit.proofs.circuit.Circuit.feedback_bridges.Goals as goal

pub overflow_add-total : goal.overflow_add-total
overflow_add-total c =
    let rows = c.args.self.now.rows.now in
    let n = length rows in
    let i = c.loop-low.low in
    let few = lawful_lines rows c.args.self.now.lawful in
    let long : length c.mark_cone.new.marks ≡ 1024 = omega (arith, c.mark_cone.auto.marks, c.loop-low.invariant.1) in
    let counted = cone_count rows i c.mark_cone.new.marks c.mark_cone.ensures.marks (omega (arith, few, long)) c.loop-low-test.true in
    omega (arith, counted, c.loop-low.invariant.0, c.count_marked-total.ensures, count_le (begin n (i + 1)) (feedback_bridge rows), pairs_few n few)

pub loop-low-preserved : goal.loop-low-preserved
loop-low-preserved c =
    let rows = c.args.self.now.rows.now in
    let i = c.loop-low.low in
    let few = lawful_lines rows c.args.self.now.lawful in
    let long : length c.mark_cone.new.marks ≡ 1024 = omega (arith, c.mark_cone.auto.marks, c.loop-low.invariant.1) in
    let counted = cone_count rows i c.mark_cone.new.marks c.mark_cone.ensures.marks (omega (arith, few, long)) c.loop-low-test.true in
    (omega (arith, counted, c.loop-low.invariant.0, c.count_marked-total.ensures), long)
