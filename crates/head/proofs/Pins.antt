-- Measuring through a pin map, and taking one.
use Rattle.std.proofs.Common.{◌≡◌, ℕ, ◌<◌, ◌≤◌, Bool, true, false, cond, ltb, List, length, get_or, take, drop, Some, None, Ok, Err, Option, Result, MatchOption, sym, refl, ap, MatchBool, ◌∙◌, subst, inl, inr, arith}
use Rattle.std.proofs.lemmas.List.{length-take-le, take_all}
use Rattle.std.proofs.lemmas.Bool.Decides.{nat_tests}
use Rattle.std.proofs.lemmas.Bool.{cases_lt, cases_eq, eq-eqb, and_from}
use Rattle.head.specs.declared.fault.HeadFault.{HeadFault}
use Rattle.head.specs.declared.fault.HeadFault.TheVariants.{NotPermutation}
use Rattle.head.specs.declared.reading.Reading.{Reading}
use Rattle.circuit.proofs.Finds.{first_is, first_none}
use Rattle.head.specs.Meaning.{Meaning, Lawful, binary, measured}
use Rattle.head.specs.Crossing.{crossed, crossing, bad, bad_entry, setting, Permutes, Judged, Undoes, Placed, raised_result, AskedCrossed}
use Rattle.head.proofs.Crosses.{crossed_length, crossed_front, crossed_binary, straight_front, straight_crossed, carries_front, undone_front, permutes_from, refused_first, refused_long}

-- a map whose entries name their own places changes no answer
pub straight_standing : (w : ℕ) (es cells : List ℕ) → length es ≡ w → take w cells ≡ es → ((k : ℕ) → k < w → get_or es k 0 ≡ k) → (m : Meaning) → m.width ≡ w → Lawful m → (v : List ℕ) → length v ≡ w → (crossing cells m).standing v ≡ m.standing v
straight_standing w es cells long t own m e l v n =
    let same : crossed m.width cells v ≡ v = ap (λ k. crossed k cells v) e ∙ straight_crossed w es cells long t own v n in
    let others = l.others_open v (n ∙ sym e) in
    grind (arith, same)

-- as the map does with which a pin map begins
pub first_standing : (m : Meaning) (cells : List ℕ) → length cells ≡ 256 → ((k : ℕ) → k < 256 → get_or cells k 0 ≡ k) → Lawful m → (v : List ℕ) → length v ≡ m.width → (crossing cells m).standing v ≡ m.standing v
first_standing m cells long own l =
    let w = m.width in
    let near : (k : ℕ) → k < w → get_or cells k 0 ≡ k = λ k h. own k (omega (arith, l.narrow)) in
    straight_standing w (take w cells) cells (length-take-le w cells (omega (arith, l.narrow))) refl (straight_front w cells near) m refl l

pub crossed_measured : (m : Meaning) (es v : List ℕ) → length v ≡ m.width → binary v ≡ true → raised_result (measured m (crossed m.width es v)) ≡ measured (crossing es m) v
crossed_measured m es v n b =
    let long : length (crossed m.width es v) ≡ m.width = crossed_length m.width es v in
    grind (arith, nat_tests)

pub asked_from : {H : Type 0} (below : H → List ℕ → Result Reading HeadFault → H → Type 0) (m : Meaning) (es : List ℕ) (s : H) (v : List ℕ) (q : Result Reading HeadFault) (t : H) → length v ≡ m.width → binary v ≡ true → below s (crossed m.width es v) q t → AskedCrossed below m es s v (raised_result q) t
asked_from {H} below m es s v q t n b a =
    let P : Bool → Type 0 = λ x. MatchBool x ((p : Result Reading HeadFault) × (raised_result q ≡ raised_result p) × below s (crossed m.width es v) p t) (t ≡ s) in
    subst P (sym (and_from _ _ (eq-eqb _ _ n) b)) (q, refl, a)

-- a pin map over one that undoes it changes no answer
pub back_front : (w : ℕ) (es cells : List ℕ) → Permutes w es → take w cells ≡ es → (fs under : List ℕ) → Permutes w fs → take w under ≡ fs → Undoes w fs es → (m : Meaning) → m.width ≡ w → Lawful m → (v : List ℕ) → length v ≡ w → (crossing cells (crossing under m)).standing v ≡ m.standing v
back_front w es cells p t fs under q s back m e l v n =
    let x = m.width in
    let u : List ℕ = crossed x cells v in
    let same : u ≡ crossed w cells v = ap (λ k. crossed k cells v) e in
    let bits : binary v ≡ true → binary u ≡ true = λ b. ap binary same ∙ crossed_binary w es cells fs p t q back v n b in
    let whole : crossed x under u ≡ v =
    ap (λ k. crossed k under u) e
    ∙ crossed_front w fs under u s (crossed_length x cells v ∙ e)
    ∙ ap (crossed w fs) same
    ∙ undone_front w es cells p t fs q back v n in
    let others = l.others_open v (n ∙ sym e) in
    grind (arith, bits, whole)

pub placed_front : (w : ℕ) (es old new : List ℕ) → Permutes w es → take (length es) new ≡ es → drop (length es) new ≡ drop (length es) old → Placed w es old new
placed_front w es old new p t d =
    let front : take w new ≡ es = ap (λ k. take k new) (sym p.long) ∙ t in
    record {
      front = front;
      rest = subst (λ k. drop k new ≡ drop k old) p.long d;
      whole = crossed_length w new;
      given = λ v l. crossed_front w es new v front l;
      carries = carries_front w es new p front;
      straight = straight_standing w es new p.long front;
      undone = undone_front w es new p front;
      back = λ fs q. back_front w es new p front fs fs q (take_all w fs (omega (arith, q.long)));
      back_over = back_front w es new p front;
    }

pub setting_bad : (w : ℕ) (es : List ℕ) → bad_entry w es < length es → ◌≡◌ {A = Result (Unit {0}) HeadFault} (Err (NotPermutation (bad_entry w es))) (setting w es)
setting_bad w es h = grind (arith, nat_tests)

pub setting_long : (w : ℕ) (es : List ℕ) → length es ≤ bad_entry w es → (length es ≡ w → ⊥) → ◌≡◌ {A = Result (Unit {0}) HeadFault} (Err (NotPermutation (length es))) (setting w es)
setting_long w es h n = grind (arith, nat_tests)

pub setting_taken : (w : ℕ) (es : List ℕ) → length es ≤ bad_entry w es → length es ≡ w → ◌≡◌ {A = Result (Unit {0}) HeadFault} (Ok tt) (setting w es)
setting_taken w es h n = grind (arith, nat_tests)

-- the first bad entry, as a search over the places finds it
pub bad_found : (w : ℕ) (es : List ℕ) (r : Option ℕ) → MatchOption r ((k : ℕ) → 0 ≤ k → k < length es → bad w es k ≡ false) (λ i. (0 ≤ i) × (i < length es) × (bad w es i ≡ true) × ((k : ℕ) → 0 ≤ k → k < i → bad w es k ≡ false)) → r ≡ cond (ltb (bad_entry w es) (length es)) (Some (bad_entry w es)) None
bad_found w es None none =
    let is : bad_entry w es ≡ length es = first_none (length es) (bad w es) (λ k. none k (omega arith)) in
    grind (arith, nat_tests, is)
bad_found w es (Some i) found =
    let is : bad_entry w es ≡ i = first_is (length es) (bad w es) i found.1 found.2 (λ k. found.3 k (omega arith)) in
    grind (arith, nat_tests, is)

-- what setting gives tells whether the entries name each pin once
setting_judged : (w : ℕ) (es : List ℕ) → Judged w es (setting w es)
setting_judged w es =
    elim (cases_lt (bad_entry w es) (length es)) [
      | inl h ↦ subst (Judged w es) (setting_bad w es h) (refused_first w es h)
      | inr h ↦ elim (cases_eq (length es) w) [
        | inl e ↦ subst (Judged w es) (setting_taken w es h e) (permutes_from w es e h)
        | inr n ↦ subst (Judged w es) (setting_long w es h n) (refused_long w es h n)
      ]
    ]

pub judged_as : (w : ℕ) (es : List ℕ) (r : Result (Unit {0}) HeadFault) → r ≡ setting w es → Judged w es r
judged_as w es r e = subst (Judged w es) (sym e) (setting_judged w es)
