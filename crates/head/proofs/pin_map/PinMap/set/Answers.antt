use Rattle.std.proofs.Common.{subst}
use Rattle.head.specs.Crossing.{Permutes}
use Rattle.head.proofs.Pins.{placed_front}
use Rattle.head.proofs.pin_map.PinMap.set.Goals as goal

pub returns-clause-stored : goal.returns-clause-stored
returns-clause-stored g c =
    let w = (g.H.Head.meaning c.args.self.now.below).width in
    let es = c.args.map.now in
    let permutes : Permutes w es = subst (λ k. Permutes k es) c.width.ensures.value c.in_ok-judge.ensures.judged in
    placed_front w es c.args.self.now.map c.store.new.cells permutes c.store.ensures.front c.store.ensures.rest
