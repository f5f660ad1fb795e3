-- Laws of crossed strings and of pin maps.
use Rattle.std.proofs.Common.{◌≡◌, ℕ, zero, suc, ◌<◌, ◌≤◌, Bool, true, false, eqb, leb, ◌⊎◌, List, [], ◌∷◌, length, get_or, take, set, replicate, sym, refl, ap, ◌∙◌, inl, inr, arith}
use Rattle.std.proofs.lemmas.List.{length-set, length-take, length-take-le, get_or_default, get_or-set_same, get_or-set_other, length-replicate, ext_get_or, take-replicate, take_all, get_or-take}
use Rattle.std.proofs.lemmas.Bool.{cases_order, leb-false, or_parts, both_ways, eq-eqb, or_cases, leb-true, eqb-true}
use Rattle.std.proofs.lemmas.List.Folds.{list_any_at, Any-from_list_any}
use Rattle.std.proofs.lemmas.List.Sums.{AllPass-from_list_all, list_all-from_AllPass}
use Rattle.circuit.proofs.Finds.{first_before, first_at}
use Rattle.head.specs.Meaning.{binary_byte, binary}
use Rattle.head.specs.Crossing.{scattered, crossed, repeated, bad, bad_entry, Permutes, Refused, Carries, Undoes}

-- where the entries or the bytes are used up
pub scattered_end : (es v c : List ℕ) → (es ≡ []) ⊎ (v ≡ []) → scattered es v c ≡ c
scattered_end [] v c e = refl
scattered_end (e ∷ es) [] c _ = refl
scattered_end (e ∷ es) (b ∷ v) c (inl none) = cc
scattered_end (e ∷ es) (b ∷ v) c (inr none) = cc

pub scattered_length : (es v c : List ℕ) → length (scattered es v c) ≡ length c
scattered_length [] v c = refl
scattered_length (e ∷ es) [] c = refl
scattered_length (e ∷ es) (b ∷ v) c = scattered_length es v (set c e b) ∙ length-set c e b

pub crossed_length : (w : ℕ) (es v : List ℕ) → length (crossed w es v) ≡ w
crossed_length w es v = scattered_length es v (replicate w 0) ∙ length-replicate w 0

-- a front of the cells after a write
pub take_of_set : (w : ℕ) (l : List ℕ) (i a : ℕ) → take w (set l i a) ≡ set (take w l) i a
take_of_set zero l i a = refl
take_of_set (suc w) [] i a = refl
take_of_set (suc w) (x ∷ l) zero a = refl
take_of_set (suc w) (x ∷ l) (suc i) a = ap (λ t. x ∷ t) (take_of_set w l i a)

pub take_scattered : (w : ℕ) (es v c : List ℕ) → take w (scattered es v c) ≡ scattered es v (take w c)
take_scattered w [] v c = refl
take_scattered w (e ∷ es) [] c = refl
take_scattered w (e ∷ es) (b ∷ v) c = take_scattered w es v (set c e b) ∙ ap (scattered es v) (take_of_set w c e b)

-- the front of more cells than the head below has pins
pub front_crossed : (w n : ℕ) (es v : List ℕ) → w ≤ n → take w (scattered es v (replicate n 0)) ≡ crossed w es v
front_crossed w n es v h = take_scattered w es v (replicate n 0) ∙ ap (scattered es v) (take-replicate w n 0 h)

-- the slice that the head below is given
pub cells_crossed : (w n : ℕ) (es v cells : List ℕ) → n ≡ w → w ≤ 256 → cells ≡ scattered es v (replicate 256 0) → take n cells ≡ crossed w es v
cells_crossed w n es v cells e h f =
    ap (λ k. take k cells) e ∙ ap (take w) f ∙ front_crossed w 256 es v h

-- entries past the bytes do not count
pub scattered_front : (es v c : List ℕ) → scattered (take (length v) es) v c ≡ scattered es v c
scattered_front [] [] c = refl
scattered_front [] (b ∷ v) c = refl
scattered_front (e ∷ es) [] c = refl
scattered_front (e ∷ es) (b ∷ v) c = scattered_front es v (set c e b)

-- a pin that no entry names keeps its byte
pub scattered_other : (es v c : List ℕ) (p : ℕ) → ((k : ℕ) → k < length es → get_or es k 0 ≡ p → ⊥) → get_or (scattered es v c) p 0 ≡ get_or c p 0
scattered_other [] v c p others = refl
scattered_other (e ∷ es) [] c p others = refl
scattered_other (e ∷ es) (b ∷ v) c p others =
    scattered_other es v (set c e b) p (λ k h q. others (suc k) (omega arith) q)
    ∙ get_or-set_other c e p b 0 (λ q. others 0 (omega arith) (sym q))

-- byte i goes to the pin that entry i names, if no later entry names it
pub scattered_at : (es v c : List ℕ) (i : ℕ) → i < length es → i < length v → get_or es i 0 < length c → ((k : ℕ) → i < k → k < length es → get_or es k 0 ≡ get_or es i 0 → ⊥) → get_or (scattered es v c) (get_or es i 0) 0 ≡ get_or v i 0
scattered_at [] v c i p q s others = absurd (omega arith)
scattered_at (e ∷ es) [] c i p q s others = absurd (omega arith)
scattered_at (e ∷ es) (b ∷ v) c zero p q s others =
    scattered_other es v (set c e b) e (λ k h r. others (suc k) (omega arith) (omega arith) r) ∙ get_or-set_same c e b 0 s
scattered_at (e ∷ es) (b ∷ v) c (suc i) p q s others =
    scattered_at es v (set c e b) i (omega arith) (omega arith) (omega (arith, length-set c e b)) (λ k h l r. others (suc k) (omega arith) (omega arith) r)

-- a crossed string depends on the first entries only
pub crossed_front : (w : ℕ) (es cells v : List ℕ) → take w cells ≡ es → length v ≡ w → crossed w cells v ≡ crossed w es v
crossed_front w es cells v t n =
    sym (scattered_front cells v (replicate w 0)) ∙ ap (λ l. scattered l v (replicate w 0)) (ap (λ k. take k cells) n ∙ t)

pub carries_front : (w : ℕ) (es cells : List ℕ) → Permutes w es → take w cells ≡ es → Carries w es cells
carries_front w es cells p t v n i h =
    ap (λ l. get_or l (get_or es i 0) 0) (crossed_front w es cells v t n)
    ∙ scattered_at es v (replicate w 0) i (omega (arith, p.long)) (omega arith)
    (omega (arith, p.below i h, length-replicate {A = ℕ} w 0))
    (λ k l m q. p.apart i k l (omega (arith, p.long)) (sym q))

pub carries_all : (w : ℕ) (es : List ℕ) → Permutes w es → Carries w es es
carries_all w es p = carries_front w es es p (take_all w es (omega (arith, p.long)))

-- a pin map and then one that undoes it
pub undone_front : (w : ℕ) (es cells : List ℕ) → Permutes w es → take w cells ≡ es → (fs : List ℕ) → Permutes w fs → Undoes w fs es → (v : List ℕ) → length v ≡ w → crossed w fs (crossed w cells v) ≡ v
undone_front w es cells p t fs q back v n =
    let u : List ℕ = crossed w cells v in
    let long : length u ≡ w = crossed_length w cells v in
    let short : length (crossed w fs u) ≡ w = crossed_length w fs u in
    ext_get_or 0 (crossed w fs u) v (short ∙ sym n) (λ i h.
    let l : i < w = omega arith in
    ap (λ k. get_or (crossed w fs u) k 0) (sym (back i l))
    ∙ carries_all w fs q u long (get_or es i 0) (p.below i l)
    ∙ carries_front w es cells p t v n i l)

-- entries that name their own places
pub straight_front : (w : ℕ) (cells : List ℕ) → ((k : ℕ) → k < w → get_or cells k 0 ≡ k) → (k : ℕ) → k < w → get_or (take w cells) k 0 ≡ k
straight_front w cells own k h = get_or-take w cells k 0 h ∙ own k h

pub straight_permutes : (w : ℕ) (es : List ℕ) → length es ≡ w → ((k : ℕ) → k < w → get_or es k 0 ≡ k) → Permutes w es
straight_permutes w es long own =
    record {
      long = long;
      below = λ i h. omega (arith, own i h);
      apart = λ i j h l e. omega (arith, own i (omega arith), own j l);
    }

pub straight_crossed : (w : ℕ) (es cells : List ℕ) → length es ≡ w → take w cells ≡ es → ((k : ℕ) → k < w → get_or es k 0 ≡ k) → (v : List ℕ) → length v ≡ w → crossed w cells v ≡ v
straight_crossed w es cells long t own v n =
    let p = straight_permutes w es long own in
    ext_get_or 0 (crossed w cells v) v (crossed_length w cells v ∙ sym n) (λ i h.
    let l : i < w = omega (arith, crossed_length w cells v) in
    ap (λ k. get_or (crossed w cells v) k 0) (sym (own i l)) ∙ carries_front w es cells p t v n i l)

-- an earlier entry that names the same pin
repeated_at : (es : List ℕ) (j : ℕ) → repeated es j ≡ true → (i : ℕ) × (i < j) × (get_or es i 0 ≡ get_or es j 0)
repeated_at es j e =
    let same : ℕ → Bool = λ x. eqb x (get_or es j 0) in
    let found = Any-from_list_any same (take j es) e in
    let i = found.0 in
    let within : i < j = omega (arith, found.2, length-take j es) in
    let here : get_or (take j es) i 0 ≡ found.1 = get_or_default (take j es) i 0 found.1 found.2 ∙ found.3 in
    (i, within, sym (get_or-take j es i 0 within) ∙ here ∙ eqb-true _ _ found.4)

repeated_from : (es : List ℕ) (i j : ℕ) → i < j → j ≤ length es → get_or es i 0 ≡ get_or es j 0 → repeated es j ≡ true
repeated_from es i j h l e =
    list_any_at (λ x. eqb x (get_or es j 0)) (take j es) i 0 (omega (arith, length-take-le j es l)) (eq-eqb _ _ (get_or-take j es i 0 h ∙ e))

-- no bad entry, and an entry for each pin
pub permutes_from : (w : ℕ) (es : List ℕ) → length es ≡ w → length es ≤ bad_entry w es → Permutes w es
permutes_from w es n all =
    let good : (k : ℕ) → k < w → bad w es k ≡ false = λ k h. first_before (length es) (bad w es) k (omega arith) in
    record {
      long = n;
      below = λ i h. leb-false w (get_or es i 0) (or_parts _ _ (good i h)).0;
      apart = λ i j h l e. both_ways _ (or_parts _ _ (good j l)).1 (repeated_from es i j h (omega arith) e);
    }

pub permutes_not : (w : ℕ) (es : List ℕ) → bad_entry w es < length es → Permutes w es → ⊥
permutes_not w es h p =
    let k = bad_entry w es in
    let l : k < w = omega (arith, p.long) in
    let why : (leb w (get_or es k 0) ≡ true) ⊎ (repeated es k ≡ true) = or_cases _ _ (first_at (length es) (bad w es) h) in
    elim why [
      | inl e ↦ omega (arith, leb-true w (get_or es k 0) e, p.below k l)
      | inr e ↦
          let j = repeated_at es k e in
          p.apart j.0 k j.1 l j.2
    ]

-- a bad entry at the first place where one stands
pub refused_first : (w : ℕ) (es : List ℕ) → bad_entry w es < length es → Refused w es (bad_entry w es)
refused_first w es h =
    let p = bad_entry w es in
    let good : (k : ℕ) → k < p → bad w es k ≡ false = first_before (length es) (bad w es) in
    let why : (leb w (get_or es p 0) ≡ true) ⊎ (repeated es p ≡ true) = or_cases _ _ (first_at (length es) (bad w es) h) in
    record {
      within = omega arith;
      below = λ i l. leb-false w (get_or es i 0) (or_parts _ _ (good i l)).0;
      apart = λ i j l r e. both_ways _ (or_parts _ _ (good j r)).1 (repeated_from es i j l (omega arith) e);
      here = λ _. elim why [
        | inl e ↦ inl (leb-true w (get_or es p 0) e)
        | inr e ↦ inr (repeated_at es p e)
      ];
      whole = λ e _. omega arith;
      never = permutes_not w es h;
    }

-- no bad entry, and another length than the width
pub refused_long : (w : ℕ) (es : List ℕ) → length es ≤ bad_entry w es → (length es ≡ w → ⊥) → Refused w es (length es)
refused_long w es h other =
    let good : (k : ℕ) → k < length es → bad w es k ≡ false = λ k l. first_before (length es) (bad w es) k (omega arith) in
    record {
      within = omega arith;
      below = λ i l. leb-false w (get_or es i 0) (or_parts _ _ (good i l)).0;
      apart = λ i j l r e. both_ways _ (or_parts _ _ (good j r)).1 (repeated_from es i j l (omega arith) e);
      here = λ l. absurd (omega arith);
      whole = λ _ e. other e;
      never = λ p. other p.long;
    }

-- each pin is named by an entry, which the map that undoes it tells
pub named : (w : ℕ) (es fs : List ℕ) → Permutes w es → Permutes w fs → Undoes w fs es → (k : ℕ) → k < w → get_or es (get_or fs k 0) 0 ≡ k
named w es fs p q back k h =
    let i = get_or fs k 0 in
    let l : i < w = q.below k h in
    let j = get_or es i 0 in
    let m : j < w = p.below i l in
    let e : get_or fs j 0 ≡ get_or fs k 0 = back i l in
    elim (cases_order j k) [
      | inl same ↦ same
      | inr (inl lt) ↦ absurd (q.apart j k lt h e)
      | inr (inr gt) ↦ absurd (q.apart k j gt m (sym e))
    ]

-- a crossed string of 0s and 1s is one
pub crossed_binary : (w : ℕ) (es cells fs : List ℕ) → Permutes w es → take w cells ≡ es → Permutes w fs → Undoes w fs es → (v : List ℕ) → length v ≡ w → binary v ≡ true → binary (crossed w cells v) ≡ true
crossed_binary w es cells fs p t q back v n b =
    let u : List ℕ = crossed w cells v in
    list_all-from_AllPass binary_byte u (λ k d h.
    let l : k < w = omega (arith, crossed_length w cells v) in
    let from : get_or u k d ≡ get_or v (get_or fs k 0) 0 =
    get_or_default u k d 0 h ∙ ap (λ x. get_or u x 0) (sym (named w es fs p q back k l)) ∙ carries_front w es cells p t v n (get_or fs k 0) (q.below k l) in
    let m : get_or fs k 0 < length v = omega (arith, q.below k l) in
    ap binary_byte from ∙ AllPass-from_list_all binary_byte v b (get_or fs k 0) 0 m)
