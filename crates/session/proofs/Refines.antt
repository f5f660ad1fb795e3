-- The parts after one more vector.
use Rattle.std.proofs.Common.{◌≡◌, ℕ, zero, suc, ◌+◌, ◌<◌, ◌≤◌, Bool, true, false, ◌&&◌, eqb, List, [], ◌∷◌, length, map, get_or, take, Option, sym, refl, ap, ◌∙◌, arith}
use Rattle.std.specs.List.{range_with_len}
use Rattle.std.proofs.lemmas.List.{get_or-take, length-take-le}
use Rattle.std.proofs.lemmas.List.FromFn.{fill_by_all}
use Rattle.std.proofs.lemmas.Bool.Decides.{same_from_decides, Decides-eqb}
use Rattle.level.specs.declared.level.Level.{Level}
use Rattle.circuit.specs.declared.row.Row.{Row}
use Rattle.circuit.specs.Levels.{level, levels, line_level}
use Rattle.circuit.specs.Search.{first}
use Rattle.circuit.proofs.Builds.{build_length}
use Rattle.head.specs.declared.reading.Reading.{Reading}
use Rattle.session.specs.History.{History}
use Rattle.session.specs.Parts.{same_level, agree, part, parts, part_in}
use Rattle.session.specs.Refining.{joined, refined_part, refined}
use Rattle.session.proofs.Partitions.{agree_decides, parted}

pub first_same : (n : ℕ) (p q : ℕ → Bool) → ((k : ℕ) → k < n → p k ≡ q k) → first n p ≡ first n q
first_same zero p q f = refl
first_same (suc n) p q f =
    let a = first_same n p q (λ k h. f k (omega arith)) in
    let b = f n (omega arith) in
    cc

pub map_same : {A : Type 0} (f g : ℕ → A) (a n : ℕ) → ((k : ℕ) → k < a + n → f k ≡ g k) → map f (range_with_len a n) ≡ map g (range_with_len a n)
map_same f g a zero s = refl
map_same f g a (suc n) s =
    let here = s a (omega arith) in
    let rest = map_same f g (a + 1) n (λ k h. s k (omega arith)) in
    cc

and_turned : (a b : Bool) → (a && b) ≡ (b && a)
and_turned true true = refl
and_turned true false = refl
and_turned false true = refl
and_turned false false = refl

-- a list that has each line's new part
pub refined_made : (ps : List ℕ) (ls : List Level) (after : List ℕ) (n : ℕ) → length ls ≡ n → n ≤ length after → ((k : ℕ) → k < n → get_or after k 0 ≡ refined_part ps ls k) → take n after ≡ refined ps ls
refined_made ps ls after n long room f =
    fill_by_all (refined_part ps ls) (take n after) n 0 (length-take-le n after room) (λ k h. get_or-take n after k 0 h ∙ f k h)
    ∙ ap (λ m. map (refined_part ps ls) (range_with_len 0 m)) (sym long)

module _ (rows : List Row) (h : History) (w : List ℕ) (r : Option Reading) where
  levels_long : length (levels rows w) ≡ length rows
  levels_long = build_length (line_level rows w) rows [] ∙ omega arith

  joined_agree : (i j : ℕ) → i < length rows → j < length rows → joined (parts rows h) (levels rows w) i j ≡ agree rows (record { vector = w; reading = r } ∷ h) i j
  joined_agree i j a b =
      let now = same_level (level rows w i) (level rows w j) in
      let both = (parted rows h).apart i j a b in
      let test : eqb (part_in (parts rows h) i) (part_in (parts rows h) j) ≡ agree rows h i j =
      same_from_decides _ _ (Decides-eqb (part_in (parts rows h) i) (part_in (parts rows h) j)) (λ e. both.1 ((agree_decides rows h i j).0 e), λ q. (agree_decides rows h i j).1 (both.0 q))
      in
      ap (λ t. t && now) test ∙ and_turned (agree rows h i j) now

  pub refined_parts : refined (parts rows h) (levels rows w) ≡ parts rows (record { vector = w; reading = r } ∷ h)
  refined_parts =
      let after : History = record { vector = w; reading = r } ∷ h in
      ap (λ n. map (refined_part (parts rows h) (levels rows w)) (range_with_len 0 n)) levels_long
      ∙ map_same (refined_part (parts rows h) (levels rows w)) (part rows after) 0 (length rows)
      (λ i b. first_same (i + 1) _ _ (λ j c. joined_agree j i (omega arith) (omega arith)))

  pub refined_history : (ps : List ℕ) (ls : List Level) (after : List ℕ) (n : ℕ) → length ls ≡ n → take n after ≡ refined ps ls → ps ≡ parts rows h → ls ≡ levels rows w → take (length rows) after ≡ parts rows (record { vector = w; reading = r } ∷ h)
  refined_history ps ls after n long made e f =
      let lines : length rows ≡ n = sym levels_long ∙ ap length (sym f) ∙ long in
      ap (λ m. take m after) lines ∙ made ∙ ap (λ p. refined p ls) e ∙ ap (refined (parts rows h)) f ∙ refined_parts
