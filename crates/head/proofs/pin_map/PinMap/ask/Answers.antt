use Rattle.std.proofs.Common.{ℕ, List, ap, ◌∙◌, subst}
use Rattle.head.specs.Meaning.{measured}
use Rattle.head.specs.Crossing.{raised_result}
use Rattle.head.proofs.Crosses.{cells_crossed}
use Rattle.head.proofs.Pins.{crossed_measured, asked_from}
use Rattle.head.proofs.Vectors.{binary_ok}
use Rattle.head.proofs.pin_map.PinMap.ask.Goals as goal

pub returns-clause-outcome : goal.returns-clause-outcome
returns-clause-outcome g c =
    let s = c.args.self.now in
    let v = c.args.vector.now in
    let m = g.H.Head.meaning s.below in
    let fit = binary_ok _ _ v c.in_ok-check_binary.ensures.outcome in
    let given = cells_crossed m.width c.width-width.result s.map v c.scatter-cells.result c.width-width.ensures.value c.width-width.ensures.lawful.narrow c.scatter-cells.ensures in
    ap raised_result (c.measure.ensures.outcome ∙ ap (measured m) given) ∙ crossed_measured m s.map v (fit.0 ∙ c.width-width.ensures.value) fit.1

pub returns-clause-once : goal.returns-clause-once
returns-clause-once g c =
    let s = c.args.self.now in
    let v = c.args.vector.now in
    let m = g.H.Head.meaning s.below in
    let fit = binary_ok _ _ v c.in_ok-check_binary.ensures.outcome in
    let given = cells_crossed m.width c.width-width.result s.map v c.scatter-cells.result c.width-width.ensures.value c.width-width.ensures.lawful.narrow c.scatter-cells.ensures in
    let asked : List ℕ → Type 0 = λ u. g.H.Head.asked s.below u c.measure.result c.measure.new.self in
    asked_from g.H.Head.asked m s.map s.below v c.measure.result c.measure.new.self (fit.0 ∙ c.width-width.ensures.value) fit.1 (subst asked given c.measure.ensures.once)
