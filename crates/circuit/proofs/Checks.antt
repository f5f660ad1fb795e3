-- What the check of a vector comes to.
use Rattle.std.proofs.Common.{◌≡◌, ℕ, Bool, true, not, List, length, is_ok, Ok, sym, ap, ◌∙◌, arith}
use Rattle.std.specs.List.{position_or_len}
use Rattle.std.proofs.lemmas.List.Sums.{fails_before_first, position_or_len_is, prefix_len-le-length}
use Rattle.std.proofs.lemmas.Bool.{cond-true, cond-false, eq-eqb, le-ltb, not-false, not_from_true}
use Rattle.std.proofs.lemmas.Bool.Decides.{nat_tests}
use Rattle.circuit.specs.Vectors.{fits, Fit, unless_bad, vector_outcome}

pub taken_fits : (x : Bool) (m : ℕ) (v : List ℕ) → is_ok (vector_outcome x m v) ≡ true → Fit x v
taken_fits x m v e k d h =
    let p : ℕ → Bool = λ b. not (fits x b) in
    let none : position_or_len p v ≡ length v = grind (arith, nat_tests, prefix_len-le-length (λ b. not (p b)) v) in
    not-false _ (fails_before_first p v k d (omega arith))

-- and one of the length with bytes that fit is taken
pub takes_vector : (x : Bool) (m : ℕ) (v : List ℕ) → length v ≡ m → Fit x v → vector_outcome x m v ≡ Ok tt
takes_vector x m v long f =
    let p : ℕ → Bool = λ b. not (fits x b) in
    let none : position_or_len p v ≡ length v = position_or_len_is p v (length v) 0 (omega arith) (λ k h. not_from_true _ (f k 0 h)) (λ h. absurd (omega arith)) in
    cond-true _ _ _ (eq-eqb (length v) m long) ∙ ap unless_bad (cond-false _ _ _ (le-ltb (position_or_len p v) (length v) (omega arith)))

-- where the flag and the length were asked for
pub taken_by : (x x' : Bool) (m m' : ℕ) (v : List ℕ) (u : Unit {0}) → x' ≡ x → m' ≡ m → Ok u ≡ vector_outcome x' m' v → vector_outcome x m v ≡ Ok tt
taken_by x x' m m' v u p q e = ap (λ b. vector_outcome b m v) (sym p) ∙ ap (λ k. vector_outcome x' k v) (sym q) ∙ sym e
