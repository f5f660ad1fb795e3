use Rattle.std.proofs.Common.{Bool, ◌≡◌, length, Ok, arith, rules, ◌∙◌}
use Rattle.std.proofs.lemmas.Grind.{common_steps}
use Rattle.circuit.specs.Bridges.{bridge_outcome}
use Rattle.circuit.specs.Rows.{inputs}
use Rattle.circuit.specs.Vectors.{vector_outcome}
use Rattle.head.proofs.Vectors.{binary_ok}
use Rattle.head.proofs.Plants.{lines_of, taken_any}
use Rattle.head.proofs.planted.ask.Goals as goal

pub returns-in_err-map_err : goal.returns-in_err-map_err
returns-in_err-map_err g c =
    let fit = binary_ok _ _ c.args.vector.now c.in_ok-check_binary.ensures.outcome in
    let taken : (x : Bool) → vector_outcome x (inputs c.args.circuit.now.rows.now) c.args.vector.now ≡ Ok tt = λ x. taken_any x _ _ (fit.0 ∙ c.inputs.ensures) fit.1 in
    grind (arith, common_steps, taken)

pub returns-in-Some-true : goal.returns-in-Some-true
returns-in-Some-true g c =
    let bridge : Ok c.in_ok-lines.lines ≡ bridge_outcome (length c.args.circuit.now.rows.now) c.args.bridge = search rules in
    let lines = lines_of _ _ _ bridge in
    grind (arith, common_steps, lines)

pub returns-in-None : goal.returns-in-None
returns-in-None g c =
    let bridge : Ok c.in_ok-lines.lines ≡ bridge_outcome (length c.args.circuit.now.rows.now) c.args.bridge = search rules in
    let lines = lines_of _ _ _ bridge in
    grind (arith, common_steps, lines)
