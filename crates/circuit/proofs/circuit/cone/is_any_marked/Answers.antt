use Rattle.std.proofs.Common.{ℕ, Bool, ◌||◌, false, get_or, ap, sym, ◌∙◌, arith}
use Rattle.std.specs.List.{list_any}
use Rattle.std.proofs.lemmas.List.{take_all}
use Rattle.std.proofs.lemmas.List.Folds.{list_any_at, list_any_more}
use Rattle.circuit.proofs.circuit.cone.is_any_marked.Goals as goal

pub returns-then-marks-from : goal.returns-then-marks-from
returns-then-marks-from c = sym (list_any_at (λ p. get_or c.args.marks.now p false) c.args.pins.now c.loop-pin.pin-index 0 c.loop-pin-test.true (ap (λ k. get_or c.args.marks.now k false) (sym c.from.ensures) ∙ c.if-marks-from.true))

pub loop-pin-preserved : goal.loop-pin-preserved
loop-pin-preserved c =
    let marked : ℕ → Bool = λ p. get_or c.args.marks.now p false in
    list_any_more marked c.args.pins.now c.loop-pin.pin-index 0 c.loop-pin-test.true
    ∙ ap (λ b. b || marked (get_or c.args.pins.now c.loop-pin.pin-index 0)) c.loop-pin.invariant
    ∙ ap (λ k. get_or c.args.marks.now k false) (sym c.from.ensures)
    ∙ c.if-marks-from.false

pub returns : goal.returns
returns c =
    let marked : ℕ → Bool = λ p. get_or c.args.marks.now p false in
    sym (sym (ap (list_any marked) (take_all c.loop-pin.pin-index c.args.pins.now (omega (arith, c.loop-pin-test.false)))) ∙ c.loop-pin.invariant)
