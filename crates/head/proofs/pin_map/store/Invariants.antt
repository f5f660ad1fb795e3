use Rattle.std.proofs.Common.{◌≡◌, take, drop}
use Rattle.head.proofs.pin_map.store.Given as goal

abbrev pub invariant-loop-at : goal.invariant-loop-at
invariant-loop-at l = (take l.at l.cells ≡ take l.at l.map) × (drop l.at l.cells ≡ drop l.at l.initial.cells)
