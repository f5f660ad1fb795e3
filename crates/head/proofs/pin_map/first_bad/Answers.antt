use Rattle.std.proofs.Common.{◌≡◌, true, false, rules, tests}
use Rattle.std.proofs.lemmas.Iterator.{first_from_Range}
use Rattle.head.specs.Crossing.{bad}
use Rattle.head.proofs.Pins.{bad_found}
use Rattle.head.proofs.pin_map.first_bad.Goals as goal

pub returns : goal.returns
returns c =
    let w = c.args.width in
    let es = c.args.map.now in
    bad_found w es c.find.result
    (first_from_Range _ _ _ _ (λ i. bad w es i ≡ true) (λ i. bad w es i ≡ false) c.find.ensures.ran (λ x q k. search (rules, tests)) (λ x q k. search (rules, tests)))
