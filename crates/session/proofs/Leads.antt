-- The lines that name parts, and the second lines of the parts.
use Rattle.std.proofs.Common.{◌≡◌, ℕ, zero, suc, ◌+◌, ◌<◌, Bool, true, false, not, ◌&&◌, cond, eqb, List, [], ◌∷◌, length, get_or, replicate, Some, None, Option, inl, inr, add-one, sym, refl, ap, ◌∙◌, subst, arith}
use Rattle.std.specs.Option.{unwrap_or}
use Rattle.std.proofs.lemmas.List.{length-replicate, get_or-replicate}
use Rattle.std.proofs.lemmas.Bool.{and_parts, cases_lt, cases_eq, cases_Bool, cond-true, cond-false, eq-eqb, ne_eqb, eqb-true, lt-ltb, le-ltb}
use Rattle.std.proofs.lemmas.Option.{same_Some}
use Rattle.std.proofs.lemmas.Bool.Decides.{nat_tests}
use Rattle.circuit.specs.declared.row.Row.{Row}
use Rattle.circuit.specs.Search.{first, count}
use Rattle.circuit.proofs.Finds.{count_more, first_at, first_before}
use Rattle.session.specs.History.{History}
use Rattle.session.specs.Parts.{parts, part_in, Alike}
use Rattle.session.specs.Leading.{first_below, part_count, other_in, second_line, Representatives, IsSecond, Led}
use Rattle.session.proofs.Found.{found_yes, found_no}
use Rattle.session.proofs.Partitions.{parted}

-- the first below n passes, and none before it
first_passes : (n : ℕ) (p : ℕ → Bool) (k : ℕ) → first_below n p ≡ Some k → (k < n) × (p k ≡ true) × ((m : ℕ) → m < k → p m ≡ false)
first_passes n p k e =
    elim (cases_lt (first n p) n) [
      | inl l ↦
          let here : Some (first n p) ≡ Some k = sym (cond-true _ _ _ (lt-ltb (first n p) n l)) ∙ e in
          let is : first n p ≡ k = same_Some _ _ here in
          (omega arith, subst (λ m. p m ≡ true) is (first_at n p l), λ m b. first_before n p m (omega arith))
      | inr g ↦ let none : None ≡ Some k = sym (cond-false _ _ _ (le-ltb (first n p) n g)) ∙ e in cc
    ]

none_passes : (n : ℕ) (p : ℕ → Bool) → first_below n p ≡ None → (m : ℕ) → m < n → p m ≡ false
none_passes n p e m b =
    elim (cases_lt (first n p) n) [
      | inl l ↦ let some : Some (first n p) ≡ None = sym (cond-true _ _ _ (lt-ltb (first n p) n l)) ∙ e in cc
      | inr g ↦ first_before n p m (omega arith)
    ]

-- the numbers below n that pass, each once
record Listed (n : ℕ) (q : ℕ → Bool) (ls : List ℕ) : Type 0 where
  pub many : length ls ≡ count n q
  pub below : (k : ℕ) → k < length ls → get_or ls k 0 < n
  pub pass : (k : ℕ) → k < length ls → q (get_or ls k 0) ≡ true
  pub once : (k m : ℕ) → k < length ls → m < length ls → get_or ls k 0 ≡ get_or ls m 0 → k ≡ m
  pub each : (i : ℕ) → i < n → q i ≡ true → (k : ℕ) × (k < length ls) × (get_or ls k 0 ≡ i)

module _ (n : ℕ) (q : ℕ → Bool) (ls : List ℕ) (l : Listed n q ls) where
  module _ (on : q n ≡ true) where
    more_below : (k : ℕ) → k < length (n ∷ ls) → get_or (n ∷ ls) k 0 < suc n
    more_below zero h = omega arith
    more_below (suc k) h = omega (arith, l.below k (omega arith))

    more_pass : (k : ℕ) → k < length (n ∷ ls) → q (get_or (n ∷ ls) k 0) ≡ true
    more_pass zero h = on
    more_pass (suc k) h = l.pass k (omega arith)

    more_once : (k m : ℕ) → k < length (n ∷ ls) → m < length (n ∷ ls) → get_or (n ∷ ls) k 0 ≡ get_or (n ∷ ls) m 0 → k ≡ m
    more_once zero zero a b e = refl
    more_once zero (suc m) a b e = absurd (omega (arith, l.below m (omega arith)))
    more_once (suc k) zero a b e = absurd (omega (arith, l.below k (omega arith)))
    more_once (suc k) (suc m) a b e = ap suc (l.once k m (omega arith) (omega arith) e)

    more_each : (i : ℕ) → i < suc n → q i ≡ true → (k : ℕ) × (k < length (n ∷ ls)) × (get_or (n ∷ ls) k 0 ≡ i)
    more_each i h e =
        elim (cases_lt i n) [
          | inl b ↦ let r = l.each i b e in (suc r.0, omega (arith, r.1), r.2)
          | inr g ↦ (0, omega arith, omega arith)
        ]

    listed_yes : Listed (suc n) q (n ∷ ls)
    listed_yes = record {
      many = omega (arith, l.many, cond-true {A = ℕ} (q n) 1 0 on);
      below = more_below;
      pass = more_pass;
      once = more_once;
      each = more_each;
    }

  listed_no : q n ≡ false → Listed (suc n) q ls
  listed_no off = record {
    many = omega (arith, l.many, cond-false {A = ℕ} (q n) 1 0 off);
    below = λ k h. omega (arith, l.below k h);
    pass = l.pass;
    once = l.once;
    each = λ i h e. elim (cases_lt i n) [
      | inl b ↦ l.each i b e
      | inr g ↦ let same : i ≡ n = omega arith in let on : q n ≡ true = subst (λ k. q k ≡ true) same e in cc
    ];
  }

listed : (n : ℕ) (q : ℕ → Bool) → (ls : List ℕ) × Listed n q ls
listed zero q = (
  [],
  record {
    many = refl;
    below = λ k h. absurd (omega arith);
    pass = λ k h. absurd (omega arith);
    once = λ k m a b e. absurd (omega arith);
    each = λ i h e. absurd (omega arith);
  },
)
listed (suc n) q =
    let r = listed n q in
    elim (cases_Bool (q n)) [
      | inl on ↦ (n ∷ r.0, listed_yes n q r.0 r.1 on)
      | inr off ↦ (r.0, listed_no n q r.0 r.1 off)
    ]

module _ (rows : List Row) (h : History) where
  abbrev names : ℕ → Bool
  names i = eqb (get_or (parts rows h) i 0) i

  represented : (ls : List ℕ) → Listed (length (parts rows h)) names ls → Representatives rows h ls
  represented ls l =
      let p = parted rows h in
      let own = λ (k : ℕ) (b : k < length ls). eqb-true _ _ (l.pass k b) in
      record {
        lines = λ k b. omega (arith, p.each_line, l.below k b);
        apart = λ k m a b r. l.once k m a b (sym (own k a) ∙ (p.apart _ _ (omega (arith, p.each_line, l.below k a)) (omega (arith, p.each_line, l.below m b))).1 r ∙ own m b);
        each = λ i b.
            let at : part_in (parts rows h) i < length (parts rows h) = omega (arith, p.each_line, p.inside i b) in
            let found = l.each (part_in (parts rows h) i) at (eq-eqb _ _ (p.own i b)) in
            (found.0, found.1, subst (λ k. Alike rows h k i) (sym found.2) (p.alike i b));
      }

  some_lines : (ls : List ℕ) × Representatives rows h ls × (length ls ≡ part_count (parts rows h))
  some_lines =
      let r = listed (length (parts rows h)) names in
      (r.0, represented r.0 r.1, r.1.many)

  -- the first other line of a part, in words
  other_words : (p j : ℕ) → p < length rows → get_or (parts rows h) p 0 ≡ p → j < length rows → other_in (parts rows h) p j ≡ true → (p < j) × Alike rows h p j
  other_words p j a own b e =
      let l = parted rows h in
      let both = and_parts (eqb (get_or (parts rows h) j 0) p) (not (eqb j p)) e in
      let part : part_in (parts rows h) j ≡ p = eqb-true _ _ both.0 in
      let differ : j ≡ p → ⊥ = λ s. let on : eqb j p ≡ true = eq-eqb j p s in let off : not (eqb j p) ≡ true = both.1 in grind (arith, nat_tests) in
      (omega (arith, l.inside j b), (l.apart p j a b).0 (own ∙ sym part))

  other_test : (p k : ℕ) → p < length rows → get_or (parts rows h) p 0 ≡ p → k < length rows → (k ≡ p → ⊥) → Alike rows h p k → other_in (parts rows h) p k ≡ true
  other_test p k a own b differ r =
      let l = parted rows h in
      let part : part_in (parts rows h) k ≡ p = sym ((l.apart p k a b).1 r) ∙ own in
      let on : eqb (part_in (parts rows h) k) p ≡ true = eq-eqb _ _ part in
      let off : eqb k p ≡ false = ne_eqb k p differ in
      cc

  second_is : (p j : ℕ) → p < length rows → get_or (parts rows h) p 0 ≡ p → second_line (parts rows h) p ≡ Some j → IsSecond rows h p j
  second_is p j a own e =
      let long = (parted rows h).each_line in
      let found = first_passes (length (parts rows h)) (other_in (parts rows h) p) j e in
      let line : j < length rows = omega (arith, found.0) in
      let words = other_words p j a own line found.1 in
      record {
        line = line;
        past = words.0;
        alike = words.1;
        between = λ k b c r.
            let on = other_test p k a own (omega arith) (λ s. absurd (omega arith)) r in
            let off = found.2 k c in
            cc;
      }

  none_is : (p : ℕ) → p < length rows → get_or (parts rows h) p 0 ≡ p → second_line (parts rows h) p ≡ None → (k : ℕ) → k < length rows → Alike rows h p k → k ≡ p
  none_is p a own e k b r =
      elim (cases_eq k p) [
        | inl same ↦ same
        | inr differ ↦
            let off = none_passes (length (parts rows h)) (other_in (parts rows h) p) e k (omega (arith, (parted rows h).each_line)) in
            let on = other_test p k a own b differ r in
            cc
      ]

  pub led : Led rows h
  led = record { some_lines = some_lines; second = second_is; alone = none_is }

and_not : (b : Bool) → (b && not b) ≡ false
and_not true = refl
and_not false = refl

-- the second lines found among the lines below i
abbrev pub Seconds : List ℕ → ℕ → List (Option ℕ) → Type 0
Seconds ps i seconds = (p : ℕ) → p < length seconds → get_or seconds p None ≡ first_below i (other_in ps p)

pub seconds_none : (ps : List ℕ) (n : ℕ) → Seconds ps 0 (replicate n None)
seconds_none ps n p h = get_or-replicate n p None None (omega (arith, length-replicate {A = Option ℕ} n None))

module _ (ps : List ℕ) (i : ℕ) (seconds : List (Option ℕ)) (s : Seconds ps i seconds) where
  -- a line that names its part is no second line
  pub seconds_own : get_or ps i 0 ≡ i → Seconds ps (i + 1) seconds
  seconds_own own p h =
      let off : other_in ps p i ≡ false = ap (λ k. eqb k p && not (eqb i p)) own ∙ and_not (eqb i p) in
      s p h ∙ sym (found_no i (other_in ps p) off) ∙ ap (λ n. first_below n (other_in ps p)) (sym (add-one i))

  -- and another may be the second line of its part
  pub seconds_other :
      (new : List (Option ℕ)) → length new ≡ length seconds → (get_or ps i 0 ≡ i → ⊥) →
      ((p : ℕ) → p < length seconds → get_or new p None ≡ cond (eqb p (get_or ps i 0)) (Some (unwrap_or (get_or seconds p None) i)) (get_or seconds p None)) →
      Seconds ps (i + 1) new
  seconds_other new long differ f p h =
      let q : ℕ = get_or ps i 0 in
      let below : p < length seconds = omega arith in
      let next : first_below (suc i) (other_in ps p) ≡ first_below (i + 1) (other_in ps p) = ap (λ n. first_below n (other_in ps p)) (sym (add-one i)) in
      elim (cases_eq p q) [
        | inl same ↦
            let part : eqb q p ≡ true = eq-eqb q p (sym same) in
            let apart : eqb i p ≡ false = ne_eqb i p (λ e. differ (sym same ∙ sym e)) in
            let on : other_in ps p i ≡ true = cc in
            f p below ∙ cond-true _ _ _ (eq-eqb p q same) ∙ ap (λ o. Some (unwrap_or o i)) (s p below) ∙ sym (found_yes i (other_in ps p) on) ∙ next
        | inr other ↦
            let part : eqb q p ≡ false = ne_eqb q p (λ e. other (sym e)) in
            let off : other_in ps p i ≡ false = cc in
            f p below ∙ cond-false _ _ _ (ne_eqb p q other) ∙ s p below ∙ sym (found_no i (other_in ps p) off) ∙ next
      ]

-- a loop that counts the lines that name their parts
pub named_more : (ps : List ℕ) (i : ℕ) → count (i + 1) (λ k. eqb (get_or ps k 0) k) ≡ cond (eqb (get_or ps i 0) i) 1 0 + count i (λ k. eqb (get_or ps k 0) k)
named_more ps i = count_more i (λ k. eqb (get_or ps k 0) k)
