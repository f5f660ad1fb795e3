-- The search for the `%` line.
use Rattle.std.proofs.Common.{◌≡◌, ℕ, ◌+◌, ◌-◌, ◌<◌, ◌≤◌, Bool, true, false, not, ◌&&◌, eqb, List, [], ◌∷◌, ◌++◌, length, get_or, take, drop, sym, refl, ap, ◌∙◌, subst, inl, inr, arith}
use Rattle.std.specs.Bool.{MatchBool}
use Rattle.std.specs.List.{position_or_len, IsFirstMatchOrLen}
use Rattle.std.proofs.lemmas.List.{drop-drop, get_or-drop, length-append, length-drop, length-take-le, take_all, take_at}
use Rattle.std.proofs.Math.Seq.{drop-append-add}
use Rattle.std.proofs.lemmas.List.Sums.{fails_before_first, passes_at_first, position_or_len_is, prefix_len-le-length}
use Rattle.std.proofs.lemmas.Bool.{and_left, and_right, and_from, or_from, or_right, ne_eqb, both_ways, cases_lt, cases_eq}
use Rattle.circuit.specs.Search.{first}
use Rattle.circuit.proofs.Finds.{first_is, first_none}
use Rattle.job.specs.Parts.{begins, line_end, line_at, percent_line, percent_at}

abbrev pub ends : ℕ → Bool
ends b = eqb b 10

module _ (job : List ℕ) (s : ℕ) (within : s ≤ length job) where
  line_long : length (line_at job s) ≡ position_or_len ends (drop s job)
  line_long = length-take-le (position_or_len ends (drop s job)) (drop s job) (prefix_len-le-length (λ b. not (ends b)) (drop s job))

  pub end_within : line_end job s ≤ length job
  end_within = omega (arith, line_long, prefix_len-le-length (λ b. not (ends b)) (drop s job), length-drop s job)

  -- no line begins inside a line
  pub inside : (k : ℕ) → s < k → k ≤ line_end job s → begins job k ≡ false
  inside k a b =
      let at : s + (k - 1 - s) ≡ k - 1 = omega arith in
      let none : ends (get_or (drop s job) (k - 1 - s) 0) ≡ false = fails_before_first ends (drop s job) (k - 1 - s) 0 (omega (arith, line_long)) in
      or_from _ _ (ne_eqb k 0 (λ z. omega arith)) (subst (λ i. ends (get_or job i 0) ≡ false) at (subst (λ b. ends b ≡ false) (get_or-drop s job (k - 1 - s) 0) none))

  -- the next line begins past this one's byte 10
  pub next_begins : line_end job s + 1 < length job → begins job (line_end job s + 1) ≡ true
  next_begins h =
      let f : ℕ = position_or_len ends (drop s job) in
      let back : s + f ≡ (line_end job s + 1) - 1 = omega (arith, line_long) in
      let on : ends (get_or (drop s job) f 0) ≡ true = passes_at_first ends (drop s job) 0 (omega (arith, line_long, length-drop s job)) in
      or_right _ _ (subst (λ i. ends (get_or job i 0) ≡ true) back (subst (λ b. ends b ≡ true) (get_or-drop s job f 0) on))

-- a `%` line is not empty
pub percent_some : (l : List ℕ) → percent_line l ≡ true → 0 < length l
percent_some [] e = absurd (both_ways false refl e)
percent_some (b ∷ l) e = omega arith

-- what the search has passed
abbrev pub Passed : List ℕ → ℕ → Type 0
Passed job s = (s < length job → begins job s ≡ true) × ((k : ℕ) → k < s → k < length job → (begins job k && percent_line (line_at job k)) ≡ false)

module _ (job : List ℕ) (s : ℕ) (passed : Passed job s) where
  pub found : s < length job → percent_line (line_at job s) ≡ true → percent_at job ≡ s
  found h e = first_is (length job) (λ k. begins job k && percent_line (line_at job k)) s h (and_from _ _ (passed.0 h) e) (λ k l. passed.1 k l (omega arith))

  pub missing : length job ≤ s → percent_at job ≡ length job
  missing h = first_none (length job) (λ k. begins job k && percent_line (line_at job k)) (λ k l. passed.1 k (omega arith) l)

  pub passes : s ≤ length job → percent_line (line_at job s) ≡ false → Passed job (line_end job s + 1)
  passes h e = (
    λ l. next_begins job s h l,
    λ k l w.
        elim (cases_lt k s) [
          | inl below ↦ passed.1 k below w
          | inr above ↦
              elim (cases_eq k s) [
                | inl same ↦ and_right _ _ (subst (λ i. percent_line (line_at job i) ≡ false) (sym same) e)
                | inr other ↦
                    let past : s < k = elim (cases_lt s k) [ inl l ↦ l | inr g ↦ absurd (other (omega arith)) ] in
                    and_left _ _ (inside job s h k past (omega arith))
              ]
        ],
  )

-- the part that a split of the job gives from a place on, and what is left after it
module _ (job : List ℕ) (s : ℕ) (within : s ≤ length job) (line after : List ℕ) (first : IsFirstMatchOrLen ends (drop s job) (length line)) where
  front_is : take (length line) (drop s job) ≡ line → length line ≤ length (drop s job) → line ≡ line_at job s
  front_is front room =
      let at : position_or_len ends (drop s job) ≡ length line = position_or_len_is ends (drop s job) (length line) 0 room (λ k h. first.0 k 0 (omega arith) h) (λ h. first.1 h 0) in
      sym front ∙ ap (λ n. take n (drop s job)) (sym at)

  line_is : (done : Bool) → MatchBool done (drop s job ≡ line) ((y : ℕ) × (drop s job ≡ line ++ y ∷ after)) → line ≡ line_at job s
  line_is true e = front_is (ap (take (length line)) e ∙ take_all (length line) line (omega arith)) (omega (arith, ap length e))
  line_is false (y, e) = front_is (ap (take (length line)) e ∙ take_at line (y ∷ after) (length line) refl) (omega (arith, ap length e, length-append line (y ∷ after)))

  left : (done : Bool) → MatchBool done (drop s job ≡ line) ((y : ℕ) × (drop s job ≡ line ++ y ∷ after)) → done ≡ false → (s + length line + 1 ≤ length job) × (after ≡ drop (s + length line + 1) job)
  left true e d = absurd (both_ways true d refl)
  left false (y, e) d =
      let long : s + length line + 1 ≤ length job = omega (arith, ap length e, length-append line (y ∷ after), length-drop s job) in
      let cut : drop (length line + 1) (drop s job) ≡ after = ap (drop (length line + 1)) e ∙ drop-append-add line (y ∷ after) 1 in
      (long, sym cut ∙ drop-drop (length line + 1) s job ∙ ap (λ k. drop k job) (omega arith))

  ended : (done : Bool) → MatchBool done (drop s job ≡ line) ((y : ℕ) × (drop s job ≡ line ++ y ∷ after)) → done ≡ true → length job ≤ s + length line + 1
  ended true e d = omega (arith, ap length e, length-drop s job)
  ended false (y, e) d = absurd (both_ways false refl d)

-- the same of a split that has come to that place
pub record Part (job : List ℕ) (s : ℕ) (line after : List ℕ) (done : Bool) : Type 0 where
  pub within : s ≤ length job
  pub is : line ≡ line_at job s
  pub more : done ≡ false → (s + length line + 1 ≤ length job) × (after ≡ drop (s + length line + 1) job)
  pub last : done ≡ true → length job ≤ s + length line + 1

pub part : (job : List ℕ) (s : ℕ) (rest line after : List ℕ) (done : Bool) → (s ≤ length job) × (rest ≡ drop s job) → MatchBool done (rest ≡ line) ((y : ℕ) × (rest ≡ line ++ y ∷ after)) → IsFirstMatchOrLen ends rest (length line) → Part job s line after done
part job s rest line after done (within, at) parts first =
    let here = subst (λ xs. MatchBool done (xs ≡ line) ((y : ℕ) × (xs ≡ line ++ y ∷ after))) at parts in
    let front = subst (λ xs. IsFirstMatchOrLen ends xs (length line)) at first in
    record {
      within = within;
      is = line_is job s within line after front done here;
      more = left job s within line after front done here;
      last = ended job s within line after front done here;
    }
