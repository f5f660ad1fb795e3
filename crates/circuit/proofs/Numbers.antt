-- Bridges and their numbers undo each other.
use Rattle.std.proofs.Common.{◌≡◌, ℕ, zero, suc, ◌+◌, ◌-◌, ◌*◌, ◌<◌, ◌≤◌, true, false, ltb, Ok, Err, sym, refl, ap, ◌∙◌, subst, inl, inr, suc-mul, mul-le-mul, mul-le-mul_left, zero-mul, mul-suc, add-one, arith}
use Rattle.std.proofs.lemmas.Bool.{lt-ltb, le-ltb, ltb-true, cases_Bool, cond-true, cond-false}
use Rattle.std.proofs.lemmas.Bool.Decides.{nat_tests}
use Rattle.circuit.specs.Bridges.{pairs, number, low, high, bridge_outcome, Numbered}
use Rattle.std.specs.Option.{ok_or}
use Rattle.circuit.specs.declared.bridge.Bridge.{Bridge}
use Rattle.circuit.specs.declared.refusal.CircuitFault.TheVariants.{NoBridge}

-- the number by recursion, as the two lines are found from it
abbrev steps : ℕ → ℕ → ℕ → ℕ
steps zero u v = 0
steps (suc n) zero v = v - 1
steps (suc n) (suc u) v = n + steps n u (v - 1)

ends : (n β : ℕ) → β < pairs n → (low n β < high n β) × (high n β < n)
ends zero β l = absurd (omega arith)
ends (suc n) β l = (grind (arith, nat_tests, ends n (β - n)), grind (arith, nat_tests, ends n (β - n)))

steps_ends : (n β : ℕ) → β < pairs n → steps n (low n β) (high n β) ≡ β
steps_ends zero β l = absurd (omega arith)
steps_ends (suc n) β l = grind (arith, nat_tests, steps_ends n (β - n))

ends_steps : (n u v : ℕ) → u < v → v < n → (low n (steps n u v) ≡ u) × (high n (steps n u v) ≡ v) × (steps n u v < pairs n)
ends_steps zero u v a b = absurd (omega arith)
ends_steps (suc n) zero v a b = (grind (arith, nat_tests), grind (arith, nat_tests), omega arith)
ends_steps (suc n) (suc u) v a b =
    let ih = ends_steps n u (v - 1) (omega arith) (omega arith) in
    let e : n + steps n u (v - 1) - n ≡ steps n u (v - 1) = omega arith in
    (rw e (grind (arith, nat_tests)), rw e (grind (arith, nat_tests)), omega arith)

steps_closed : (n u v : ℕ) → u < v → v < n → steps n u v + pairs (suc u) + u + 1 ≡ u * n + v
steps_closed zero u v a b = absurd (omega arith)
steps_closed (suc n) zero v a b = omega (arith, zero-mul (suc n))
steps_closed (suc n) (suc u) v a b = omega (arith, steps_closed n u (v - 1) (omega arith) (omega arith), suc-mul u (suc n), mul-suc u n)

pub pairs_twice : (n : ℕ) → 2 * pairs (suc n) ≡ n * (n + 1)
pairs_twice zero = refl
pairs_twice (suc n) = omega (arith, pairs_twice n, suc-mul n (suc n + 1), mul-suc n (n + 1), ap (λ m. n * m) (add-one (n + 1)), ap (λ m. n * m) (add-one (suc n)))

pub pairs_total : (n : ℕ) → 2 * pairs n ≡ n * (n - 1)
pairs_total zero = refl
pairs_total (suc n) =
    let less : suc n - 1 ≡ n = omega arith in
    omega (arith, pairs_twice n, ap (λ m. suc n * m) less, suc-mul n n, mul-suc n n, ap (λ m. n * m) (add-one n))

number_steps : (n u v : ℕ) → u < v → v < n → number n u v ≡ steps n u v
number_steps n u v a b =
    let above : u + 1 ≤ n = omega arith in
    omega (arith, steps_closed n u v a b, pairs_twice u, mul-le-mul_left u above)

pub numbered : (n : ℕ) → Numbered n
numbered n =
    record {
      total = pairs_total n;
      numbers = λ u v a b. subst (λ k. k < pairs n) (sym (number_steps n u v a b)) (ends_steps n u v a b).2;
      back_low = λ u v a b. ap (low n) (number_steps n u v a b) ∙ (ends_steps n u v a b).0;
      back_high = λ u v a b. ap (high n) (number_steps n u v a b) ∙ (ends_steps n u v a b).1;
      ordered = λ β l. (ends n β l).0;
      within = λ β l. (ends n β l).1;
      again = λ β l. number_steps n (low n β) (high n β) (ends n β l).0 (ends n β l).1 ∙ steps_ends n β l;
    }

-- the search for the two lines of a bridge: what is left at line i gives them
abbrev pub Sought : ℕ → ℕ → ℕ → ℕ → Type 0
Sought n β i rest =
    (rest + pairs n ≡ β + pairs (n - i))
    × (low n β ≡ i + low (n - i) rest)
    × (high n β ≡ i + high (n - i) rest)

module _ (n β i rest : ℕ) (s : Sought n β i rest) where
  module _ (w : ℕ) (e : n - i ≡ suc w) where
    pub sought_found : rest < w → (β < pairs n) × (low n β ≡ i) × (high n β ≡ i + 1 + rest)
    sought_found h =
        let here : ltb rest w ≡ true = lt-ltb rest w h in
        let p : pairs (n - i) ≡ w + pairs w = ap pairs e in
        let l : low (n - i) rest ≡ 0 = ap (λ m. low m rest) e ∙ cond-true _ _ _ here in
        let u : high (n - i) rest ≡ suc rest = ap (λ m. high m rest) e ∙ cond-true _ _ _ here in
        (omega (arith, s.0), omega (arith, s.1), omega (arith, s.2))

    pub sought_more : w ≤ rest → Sought n β (i + 1) (rest - w)
    sought_more h =
        let past : ltb rest w ≡ false = le-ltb rest w h in
        let next : n - (i + 1) ≡ w = omega arith in
        let p : pairs (n - i) ≡ w + pairs w = ap pairs e in
        let l : low (n - i) rest ≡ suc (low w (rest - w)) = ap (λ m. low m rest) e ∙ cond-false _ _ _ past in
        let u : high (n - i) rest ≡ suc (high w (rest - w)) = ap (λ m. high m rest) e ∙ cond-false _ _ _ past in
        (omega (arith, s.0, ap pairs next), omega (arith, s.1, ap (λ m. low m (rest - w)) next), omega (arith, s.2, ap (λ m. high m (rest - w)) next))

-- a bridge that was found
pub bridge_found : (n β : ℕ) (b : Bridge) → Ok b ≡ bridge_outcome n β → (β < pairs n) × (b.low ≡ low n β) × (b.high ≡ high n β)
bridge_found n β b e =
    elim (cases_Bool (ltb β (pairs n))) [
      | inl on ↦
          let e' : Ok b ≡ Ok (record { low = low n β; high = high n β }) = e ∙ ap (λ o. ok_or o (NoBridge β)) (cond-true _ _ _ on) in
          (ltb-true β (pairs n) on, cc, cc)
      | inr off ↦
          let e' : Ok b ≡ Err (NoBridge β) = e ∙ ap (λ o. ok_or o (NoBridge β)) (cond-false _ _ _ off) in
          let z : ◌≡◌ {A = ℕ} 0 1 = cc in
          absurd (omega arith)
    ]

pairs_up : (m k : ℕ) → pairs m ≤ pairs (m + k)
pairs_up m zero = let z : m + 0 ≡ m = omega arith in omega (arith, ap pairs z)
pairs_up m (suc k) = let s : m + suc k ≡ suc (m + k) = omega arith in omega (arith, ap pairs s, pairs_up m k)

-- where the numbers of the bridges of a lower line begin
abbrev pub begin : ℕ → ℕ → ℕ
begin n i = pairs n - pairs (n - i)

module _ (n i : ℕ) (h : i < n) where
  pub begin_more : begin n (i + 1) ≡ begin n i + (n - 1 - i)
  begin_more =
      let w : ℕ = n - 1 - i in
      let e : n - i ≡ suc w = omega arith in
      let next : n - (i + 1) ≡ w = omega arith in
      let all : n ≡ (n - i) + i = omega arith in
      omega (arith, ap pairs e, ap pairs next, pairs_up (n - i) i, ap pairs all)

sought_from : (n β i : ℕ) → i ≤ n → begin n i ≤ β → Sought n β i (β - begin n i)
sought_from n β zero h b =
    let z : n - 0 ≡ n = omega arith in
    let r : β - begin n 0 ≡ β = omega (arith, ap pairs z) in
    subst (λ k. Sought n β 0 k) (sym r) (omega (arith, ap pairs z), omega (arith, ap (λ m. low m β) z), omega (arith, ap (λ m. high m β) z))
sought_from n β (suc i) h b =
    let w : ℕ = n - 1 - i in
    let e : n - i ≡ suc w = omega arith in
    let one : suc i ≡ i + 1 = omega arith in
    let next : begin n (suc i) ≡ begin n i + w = ap (begin n) one ∙ begin_more n i (omega arith) in
    let rest : β - begin n i - w ≡ β - begin n (suc i) = omega arith in
    let below = sought_from n β i (omega arith) (omega arith) in
    let more = sought_more n β i (β - begin n i) below w e (omega arith) in
    subst (λ k. Sought n β k (β - begin n (suc i))) (sym one) (subst (λ k. Sought n β (i + 1) k) rest more)

-- the bridges of a lower line, in order
pub row_bridge : (n i k : ℕ) → i < n → k < n - 1 - i → (low n (begin n i + k) ≡ i) × (high n (begin n i + k) ≡ i + 1 + k)
row_bridge n i k h l =
    let β : ℕ = begin n i + k in
    let w : ℕ = n - 1 - i in
    let e : n - i ≡ suc w = omega arith in
    let r : β - begin n i ≡ k = omega arith in
    let s : Sought n β i k = subst (Sought n β i) r (sought_from n β i (omega arith) (omega arith)) in
    let found = sought_found n β i k s w e l in
    (found.1, found.2)

pub pairs_few : (n : ℕ) → n ≤ 1024 → pairs n ≤ 523776
pairs_few n h =
    let less : n - 1 ≤ 1023 = omega arith in
    omega (arith, pairs_total n, mul-le-mul h less)
