-- Classes of the numbers under a test of likeness, each named by its smallest member.
use Rattle.std.proofs.Common.{◌≡◌, ℕ, ◌+◌, ◌≤◌, Bool, true, false, Decides, inl, inr, subst, arith}
use Rattle.std.proofs.lemmas.Bool.{cases_lt}
use Rattle.circuit.specs.Search.{first}
use Rattle.circuit.proofs.Finds.{first_at, first_before}

pub first_upto : (n : ℕ) (p : ℕ → Bool) (k : ℕ) → p k ≡ true → first n p ≤ k
first_upto n p k e =
    elim (cases_lt k (first n p)) [
      | inl l ↦ let none : p k ≡ false = first_before n p k l in cc
      | inr g ↦ g
    ]

-- likeness, and the test of it
pub record Likeness (e : ℕ → ℕ → Bool) (R : ℕ → ℕ → Type 0) : Type 0 where
  pub test : (i j : ℕ) → Decides (e i j) (R i j)
  pub same : (i : ℕ) → R i i
  pub back : (i j : ℕ) → R i j → R j i
  pub through : (i j k : ℕ) → R i j → R j k → R i k

-- the smallest number that is like i
abbrev pub class : (ℕ → ℕ → Bool) → ℕ → ℕ
class e i = first (i + 1) (λ j. e j i)

module _ (e : ℕ → ℕ → Bool) (R : ℕ → ℕ → Type 0) (l : Likeness e R) where
  pub class_le : (i : ℕ) → class e i ≤ i
  class_le i = first_upto (i + 1) (λ j. e j i) i ((l.test i i).1 (l.same i))

  pub class_like : (i : ℕ) → R (class e i) i
  class_like i = (l.test (class e i) i).0 (first_at (i + 1) (λ j. e j i) (omega (arith, class_le i)))

  pub class_least : (i j : ℕ) → R j i → class e i ≤ j
  class_least i j r = first_upto (i + 1) (λ k. e k i) j ((l.test j i).1 r)

  class_upto : (i j : ℕ) → R i j → class e i ≤ class e j
  class_upto i j r = class_least i (class e j) (l.through (class e j) j i (class_like j) (l.back i j r))

  pub class_same : (i j : ℕ) → R i j → class e i ≡ class e j
  class_same i j r = omega (arith, class_upto i j r, class_upto j i (l.back i j r))

  pub class_from : (i j : ℕ) → class e i ≡ class e j → R i j
  class_from i j q =
      let near : R i (class e i) = l.back (class e i) i (class_like i) in
      l.through i (class e j) j (subst (R i) q near) (class_like j)

  pub class_again : (i : ℕ) → class e (class e i) ≡ class e i
  class_again i = class_same (class e i) i (class_like i)
