-- What a planted head rests on.
use Rattle.std.proofs.Common.{◌≡◌, ℕ, ◌<◌, Bool, true, false, List, length, Ok, arith}
use Rattle.std.proofs.lemmas.Bool.Decides.{nat_tests}
use Rattle.std.proofs.lemmas.List.Sums.{AllPass-from_list_all}
use Rattle.circuit.specs.declared.bridge.Bridge.{Bridge}
use Rattle.circuit.specs.Bridges.{pairs, bridge_outcome, low, high}
use Rattle.circuit.specs.Vectors.{fits, vector_outcome}
use Rattle.circuit.proofs.Checks.{takes_vector}
use Rattle.circuit.proofs.Numbers.{bridge_found, numbered}
use Rattle.head.specs.Meaning.{binary_byte, binary}

-- 0 and 1 fit for every kind of value
fits_any : (x : Bool) (b : ℕ) → binary_byte b ≡ true → fits x b ≡ true
fits_any true b e = grind (arith, nat_tests)
fits_any false b e = grind (arith, nat_tests)

-- so each kind of value takes a vector of them
pub taken_any : (x : Bool) (m : ℕ) (v : List ℕ) → length v ≡ m → binary v ≡ true → vector_outcome x m v ≡ Ok tt
taken_any x m v l e = takes_vector x m v l (λ j d h. fits_any x _ (AllPass-from_list_all binary_byte v e j d h))

-- a bridge's two lines are lines of the circuit
pub lines_of : (n β : ℕ) (b : Bridge) → Ok b ≡ bridge_outcome n β → (β < pairs n) × (b.low ≡ low n β) × (b.high ≡ high n β) × (b.low < n) × (b.high < n)
lines_of n β b e =
    let found = bridge_found n β b e in
    let order = (numbered n).ordered β found.0 in
    let within = (numbered n).within β found.0 in
    (found.0, found.1, found.2, omega (arith, found.1), omega (arith, found.2))
