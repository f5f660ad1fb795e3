-- Laws of the searches over the numbers below n.
use Rattle.std.proofs.Common.{◌≡◌, ℕ, zero, suc, ◌+◌, ◌<◌, ◌≤◌, Bool, true, false, cond, count_by, List, length, get_or, take, sym, refl, ap, ◌∙◌, subst, inl, inr, add-one, arith}
use Rattle.std.proofs.lemmas.List.{take_all}
use Rattle.std.proofs.lemmas.List.Sums.{count_by_more_yes, count_by_more_no}
use Rattle.std.proofs.lemmas.Bool.{cases_lt, cond-true, cond-false, cases_Bool}
use Rattle.std.proofs.lemmas.Bool.Decides.{nat_tests}
use Rattle.circuit.specs.Search.{first, count}

pub count_more : (n : ℕ) (p : ℕ → Bool) → count (n + 1) p ≡ cond (p n) 1 0 + count n p
count_more n p = ap (λ m. count m p) (add-one n)

pub count_same : (n : ℕ) (p q : ℕ → Bool) → ((k : ℕ) → k < n → p k ≡ q k) → count n p ≡ count n q
count_same zero p q f = refl
count_same (suc n) p q f = let a = count_same n p q (λ k h. f k (omega arith)) in let b = f n (omega arith) in cc

pub count_le : (n : ℕ) (p : ℕ → Bool) → count n p ≤ n
count_le zero p = omega arith
count_le (suc n) p = grind (arith, count_le n p)

pub first_none : (n : ℕ) (p : ℕ → Bool) → ((j : ℕ) → j < n → p j ≡ false) → first n p ≡ n
first_none zero p f = refl
first_none (suc n) p f =
    let ih : first n p ≡ n = first_none n p (λ j h. f j (omega arith)) in
    let off : p n ≡ false = f n (omega arith) in
    grind (arith, nat_tests)

-- the first that passes: none before it does
pub first_is : (n : ℕ) (p : ℕ → Bool) (k : ℕ) → k < n → p k ≡ true → ((j : ℕ) → j < k → p j ≡ false) → first n p ≡ k
first_is zero p k h e f = absurd (omega arith)
first_is (suc n) p k h e f =
    elim (cases_lt k n) [
      | inl l ↦ let ih : first n p ≡ k = first_is n p k l e f in grind (arith, nat_tests)
      | inr g ↦
          let same : k ≡ n = omega arith in
          let ih : first n p ≡ n = first_none n p (λ j h. f j (omega arith)) in
          let on : p n ≡ true = subst (λ m. p m ≡ true) same e in
          grind (arith, nat_tests)
    ]

pub first_le : (n : ℕ) (p : ℕ → Bool) → first n p ≤ n
first_le zero p = omega arith
first_le (suc n) p = grind (arith, nat_tests, first_le n p)

-- none before the first passes
pub first_before : (n : ℕ) (p : ℕ → Bool) (k : ℕ) → k < first n p → p k ≡ false
first_before zero p k h = absurd (omega arith)
first_before (suc n) p k h =
    elim (cases_lt (first n p) n) [
      | inl l ↦ let same : first (suc n) p ≡ first n p = grind (arith, nat_tests) in first_before n p k (omega arith)
      | inr g ↦
          let top : first n p ≡ n = omega (arith, first_le n p) in
          elim (cases_Bool (p n)) [
            | inl on ↦ let same : first (suc n) p ≡ n = grind (arith, nat_tests) in first_before n p k (omega arith)
            | inr off ↦
                let same : first (suc n) p ≡ suc n = grind (arith, nat_tests) in
                elim (cases_lt k n) [
                  | inl l ↦ first_before n p k (omega arith)
                  | inr e ↦ let k-is : n ≡ k = omega arith in subst (λ m. p m ≡ false) k-is off
                ]
          ]
    ]

-- a count in two stretches
pub count_split : (m n : ℕ) (p : ℕ → Bool) → count (m + n) p ≡ count m p + count n (λ k. p (m + k))
count_split m zero p = let z : m + 0 ≡ m = omega arith in ap (λ k. count k p) z ∙ omega arith
count_split m (suc n) p =
    let s : m + suc n ≡ suc (m + n) = omega arith in
    ap (λ k. count k p) s ∙ omega (arith, count_split m n p)

-- a loop that counts: one more, or none
pub count_one : (n total : ℕ) (p : ℕ → Bool) → p n ≡ true → total ≡ count n p → total + 1 ≡ count (n + 1) p
count_one n total p e t = omega (arith, count_more n p, cond-true {A = ℕ} (p n) 1 0 e)

pub count_none : (n total : ℕ) (p : ℕ → Bool) → p n ≡ false → total ≡ count n p → total ≡ count (n + 1) p
count_none n total p e t = omega (arith, count_more n p, cond-false {A = ℕ} (p n) 1 0 e)

-- the first passes, if there is one
pub first_at : (n : ℕ) (p : ℕ → Bool) → first n p < n → p (first n p) ≡ true
first_at zero p h = absurd (omega arith)
first_at (suc n) p h =
    elim (cases_lt (first n p) n) [
      | inl l ↦
          let same : first n p ≡ first (suc n) p = grind (arith, nat_tests) in
          subst (λ k. p k ≡ true) same (first_at n p l)
      | inr g ↦
          let top : first n p ≡ n = omega (arith, first_le n p) in
          elim (cases_Bool (p n)) [
            | inl on ↦ let same : n ≡ first (suc n) p = grind (arith, nat_tests) in subst (λ k. p k ≡ true) same on
            | inr off ↦ let none : first (suc n) p ≡ suc n = grind (arith, nat_tests) in absurd (omega arith)
          ]
    ]

-- how many elements in the front of a list pass, by their places
pub count_by-take : {X : Type 0} (p : X → Bool) (d : X) (xs : List X) (n : ℕ) → n ≤ length xs → count_by p (take n xs) ≡ count n (λ k. p (get_or xs k d))
count_by-take p d xs zero h = refl
count_by-take p d xs (suc n) h =
    let ih = count_by-take p d xs n (omega arith) in
    let next : n + 1 ≡ suc n = omega arith in
    subst (λ m. count_by p (take m xs) ≡ count m (λ k. p (get_or xs k d))) next
    (elim (cases_Bool (p (get_or xs n d))) [
      | inl e ↦ count_by_more_yes p xs n d (omega arith) e ∙ count_one n (count_by p (take n xs)) (λ k. p (get_or xs k d)) e ih
      | inr e ↦ count_by_more_no p xs n d (omega arith) e ∙ count_none n (count_by p (take n xs)) (λ k. p (get_or xs k d)) e ih
    ])

pub count_by-count : {X : Type 0} (p : X → Bool) (d : X) (xs : List X) → count_by p xs ≡ count (length xs) (λ k. p (get_or xs k d))
count_by-count p d xs = ap (count_by p) (sym (take_all (length xs) xs (omega arith))) ∙ count_by-take p d xs (length xs) (omega arith)
