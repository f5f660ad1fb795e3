-- The first line below i that passes a test, if there is one, and the names noted from them.
use Rattle.std.proofs.Common.{◌≡◌, ℕ, suc, ◌+◌, ◌<◌, Bool, true, false, cond, ◌&&◌, eqb, List, length, get_or, replicate, None, Some, sym, refl, ap, ◌∙◌, inl, inr, add-one, arith}
use Rattle.std.specs.Option.{unwrap_or}
use Rattle.std.proofs.lemmas.List.{length-replicate, get_or-replicate}
use Rattle.std.proofs.lemmas.Bool.{and_parts, cases_lt, cases_Bool, cond-true, cond-false, lt-ltb, le-ltb, eq-eqb}
use Rattle.std.proofs.lemmas.Bool.Decides.{nat_tests, same_from_decides, Decides-eqb}
use Rattle.level.specs.declared.level.Level.{Level}
use Rattle.level.specs.declared.level.Level.TheVariants.{Zero, One, X}
use Rattle.circuit.specs.Search.{first}
use Rattle.circuit.proofs.Finds.{first_le}
use Rattle.session.specs.Leading.{first_below}
use Rattle.session.specs.Parts.{same_level}
use Rattle.session.specs.Refining.{refined_part, named, no_names, name_in}
use Rattle.session.specs.declared.parts.Names.{Names}
use Rattle.session.proofs.Partitions.{same_level_decides}

first_yes : (n : ℕ) (p : ℕ → Bool) → p n ≡ true → first (suc n) p ≡ unwrap_or (first_below n p) n
first_yes n p e =
    elim (cases_lt (first n p) n) [
      | inl l ↦
          let kept : first (suc n) p ≡ first n p = grind (arith, nat_tests) in
          kept ∙ sym (ap (λ o. unwrap_or o n) (cond-true _ _ _ (lt-ltb (first n p) n l)))
      | inr g ↦
          let new : first (suc n) p ≡ n = grind (arith, nat_tests) in
          new ∙ sym (ap (λ o. unwrap_or o n) (cond-false _ _ _ (le-ltb (first n p) n g)))
    ]

pub found_yes : (n : ℕ) (p : ℕ → Bool) → p n ≡ true → first_below (suc n) p ≡ Some (unwrap_or (first_below n p) n)
found_yes n p e =
    let is = first_yes n p e in
    let below : first (suc n) p < suc n = grind (arith, nat_tests, first_le n p) in
    cond-true _ _ _ (lt-ltb (first (suc n) p) (suc n) below) ∙ ap Some is

pub found_no : (n : ℕ) (p : ℕ → Bool) → p n ≡ false → first_below (suc n) p ≡ first_below n p
found_no n p e =
    elim (cases_lt (first n p) n) [
      | inl l ↦
          let kept : first (suc n) p ≡ first n p = grind (arith, nat_tests) in
          cond-true _ _ _ (lt-ltb (first (suc n) p) (suc n) (omega arith)) ∙ ap Some kept ∙ sym (cond-true _ _ _ (lt-ltb (first n p) n l))
      | inr g ↦
          let none : first (suc n) p ≡ suc n = grind (arith, nat_tests, first_le n p) in
          cond-false _ _ _ (le-ltb (first (suc n) p) (suc n) (omega arith)) ∙ sym (cond-false _ _ _ (le-ltb (first n p) n g))
    ]

-- whether line j is of the part p and reads a
abbrev pub of : List ℕ → List Level → ℕ → Level → ℕ → Bool
of ps ls p a j = eqb (get_or ps j 0) p && same_level (get_or ls j X) a

-- for each part and level the first line below i of that part that reads that level
abbrev pub Noted : List ℕ → List Level → ℕ → List Names → Type 0
Noted ps ls i names = (p : ℕ) (a : Level) → p < length names → name_in names p a ≡ first_below i (of ps ls p a)

level_turned : (a b : Level) → same_level a b ≡ same_level b a
level_turned a b = same_from_decides _ _ (same_level_decides a b) (λ e. sym ((same_level_decides b a).0 e), λ e. (same_level_decides b a).1 (sym e))

line_turned : (m n : ℕ) → eqb m n ≡ eqb n m
line_turned m n = same_from_decides _ _ (Decides-eqb m n) (λ e. sym ((Decides-eqb n m).0 e), λ e. (Decides-eqb n m).1 (sym e))

both_true : (a b : Bool) → a ≡ true → b ≡ true → (a && b) ≡ true
both_true a b e f = cc

named_none : (a : Level) → named no_names a ≡ None
named_none Zero = refl
named_none One = refl
named_none X = refl

pub noted_none : (ps : List ℕ) (ls : List Level) (n : ℕ) → Noted ps ls 0 (replicate n no_names)
noted_none ps ls n p a h = ap (λ s. named s a) (get_or-replicate n p no_names no_names (omega (arith, length-replicate n no_names))) ∙ named_none a

-- line i, which reads a
module _ (ps : List ℕ) (ls : List Level) (i : ℕ) (a : Level) (reads : a ≡ get_or ls i X) where
  here : of ps ls (get_or ps i 0) a i ≡ true
  here = both_true _ _ (eq-eqb (get_or ps i 0) (get_or ps i 0) refl) ((same_level_decides (get_or ls i X) a).1 (sym reads))

  -- the name found or made for it is its new part
  pub name_is : (names : List Names) (line : ℕ) → Noted ps ls i names → get_or ps i 0 < length names → line ≡ unwrap_or (name_in names (get_or ps i 0) a) i → line ≡ refined_part ps ls i
  name_is names line noted room e =
      let p : ℕ = get_or ps i 0 in
      e ∙ ap (λ o. unwrap_or o i) (noted p a room) ∙ sym (first_yes i (of ps ls p a) here) ∙ ap (λ n. first n (of ps ls p a)) (sym (add-one i)) ∙ ap (λ b. first (i + 1) (of ps ls p b)) reads

  -- and is noted
  pub noted_more :
      (names new : List Names) (line : ℕ) → Noted ps ls i names → get_or ps i 0 < length names → length new ≡ length names →
      line ≡ unwrap_or (name_in names (get_or ps i 0) a) i →
      ((p : ℕ) (b : Level) → p < length names → name_in new p b ≡ cond (eqb p (get_or ps i 0) && same_level b a) (Some line) (name_in names p b)) →
      Noted ps ls (i + 1) new
  noted_more names new line noted room long e f q b h =
      let p : ℕ = get_or ps i 0 in
      let next : first_below (suc i) (of ps ls q b) ≡ first_below (i + 1) (of ps ls q b) = ap (λ n. first_below n (of ps ls q b)) (sym (add-one i)) in
      let below : q < length names = omega arith in
      elim (cases_Bool (eqb q p && same_level b a)) [
        | inl on ↦
            let both = and_parts (eqb q p) (same_level b a) on in
            let part : q ≡ p = (Decides-eqb q p).0 both.0 in
            let level : b ≡ a = (same_level_decides b a).0 both.1 in
            let moved : first_below (suc i) (of ps ls p a) ≡ first_below (suc i) (of ps ls q b) =
            ap (λ k. first_below (suc i) (of ps ls k a)) (sym part) ∙ ap (λ l. first_below (suc i) (of ps ls q l)) (sym level)
            in
            let name : line ≡ unwrap_or (first_below i (of ps ls p a)) i = e ∙ ap (λ o. unwrap_or o i) (noted p a room) in
            f q b below ∙ cond-true _ _ _ on ∙ ap Some name ∙ sym (found_yes i (of ps ls p a) here) ∙ moved ∙ next
        | inr off ↦
            let passed : of ps ls q b i ≡ false = ap (λ l. eqb p q && same_level l b) (sym reads) ∙ ap (λ t. t && same_level a b) (line_turned p q) ∙ ap (λ t. eqb q p && t) (level_turned a b) ∙ off in
            f q b below ∙ cond-false _ _ _ off ∙ noted q b below ∙ sym (found_no i (of ps ls q b) passed) ∙ next
      ]
