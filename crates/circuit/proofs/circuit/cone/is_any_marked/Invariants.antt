use Rattle.std.proofs.Common.{◌≡◌, false, get_or, take}
use Rattle.std.specs.List.{list_any}
use Rattle.circuit.proofs.circuit.cone.is_any_marked.Given as goal

abbrev pub invariant-loop-pin : goal.invariant-loop-pin
invariant-loop-pin l = list_any (λ p. get_or l.marks p false) (take l.pin-index l.pins) ≡ false
