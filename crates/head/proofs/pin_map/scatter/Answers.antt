use Rattle.std.proofs.Common.{sym, ◌∙◌}
use Rattle.std.proofs.lemmas.Slice.Zip.{either_empty_from_Zip}
use Rattle.head.proofs.Crosses.{scattered_end}
use Rattle.head.proofs.pin_map.scatter.Goals as goal

pub returns : goal.returns
returns c =
    sym (scattered_end _ _ _ (either_empty_from_Zip c.loop-pin.pin-iterator c.next.new.self c.next.result c.in-None.is c.next.ensures.steps)) ∙ c.loop-pin.invariant
