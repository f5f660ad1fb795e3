use Rattle.std.proofs.Common.{◌≡◌, replicate}
use Rattle.std.specs.Iterator.Adapters.{zip_first, zip_second}
use Rattle.std.specs.Slice.Iter.{iter_rest}
use Rattle.head.specs.Crossing.{scattered}
use Rattle.head.proofs.pin_map.scatter.Given as goal

abbrev pub invariant-loop-pin : goal.invariant-loop-pin
invariant-loop-pin l =
    scattered (iter_rest (zip_first l.pin-iterator)) (iter_rest (zip_second l.pin-iterator)) l.cells ≡ scattered l.map l.vector (replicate 256 0)
