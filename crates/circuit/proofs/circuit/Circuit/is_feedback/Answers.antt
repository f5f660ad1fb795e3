use Rattle.std.proofs.Common.{Bool, length, Decides, sym, subst, arith}
use Rattle.circuit.specs.Bridges.{low, high}
use Rattle.circuit.specs.Feedback.{Chain, Chains}
use Rattle.circuit.proofs.Cones.{feedback_read, feedback_answer}
use Rattle.circuit.proofs.Laws.{lawful_lines}
use Rattle.circuit.proofs.Numbers.{bridge_found, numbered}
use Rattle.circuit.proofs.circuit.Circuit.is_feedback.Goals as goal

pub bounds-marks-high : goal.bounds-marks-high
bounds-marks-high c =
    let circuit = c.args.self.now in
    let n = length circuit.rows.now in
    let found = bridge_found n c.args.number c.in_ok-low.field-0 c.in_ok-low.ensures in
    omega (arith, found.2, (numbered n).within c.args.number found.0, lawful_lines circuit.rows.now circuit.lawful)

pub returns : goal.returns
returns c =
    let rows = c.args.self.now.rows.now in
    let β = c.args.number in
    let n = length rows in
    let b = c.in_ok-low.field-0 in
    let found = bridge_found n β b c.in_ok-low.ensures in
    let read = feedback_read rows β b c.mark_cone.new.marks c.in_ok-low.ensures c.mark_cone.ensures.marks in
    let chains = subst (Chains rows) found.1 c.mark_cone.ensures.chains in
    let decided = chains (high n β) ((numbered n).ordered β found.0) ((numbered n).within β found.0) in
    record {
      outcome = feedback_answer rows β _ found.0 read;
      chain = subst (λ (b : Bool). Decides b (Chain rows (low n β) (high n β))) (sym read) decided;
    }
