-- What a vector is that a head may be asked.
use Rattle.std.proofs.Common.{◌≡◌, ℕ, true, List, length, Ok, arith}
use Rattle.std.proofs.lemmas.Bool.Decides.{nat_tests}
use Rattle.head.specs.Meaning.{binary, binary_outcome}

pub binary_ok : (w a : ℕ) (v : List ℕ) → Ok tt ≡ binary_outcome w a v → (length v ≡ w) × (binary v ≡ true)
binary_ok w a v e = (grind (arith, nat_tests), grind (arith, nat_tests))
