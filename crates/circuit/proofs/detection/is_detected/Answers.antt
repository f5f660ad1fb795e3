use Rattle.std.proofs.Common.{◌∙◌}
use Rattle.circuit.proofs.Detects.{detected_vector}
use Rattle.circuit.proofs.detection.is_detected.Goals as goal

pub returns-clause-vector : goal.returns-clause-vector
returns-clause-vector g c rows w held l h =
    let b = c.args.bridge in
    c.is_read_opposed.ensures ∙ detected_vector g.V.LineValue.reads c.args.cells.now b.low b.high rows w held l h
