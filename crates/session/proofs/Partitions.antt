-- Parts are the classes of lines that read alike.
use Rattle.std.proofs.Common.{◌≡◌, ℕ, ◌<◌, Bool, Decides, List, [], length, get_or, replicate, sym, refl, ap, ◌∙◌, subst, arith}
use Rattle.std.proofs.lemmas.List.{length-replicate, get_or-replicate}
use Rattle.std.proofs.lemmas.List.FromFn.{fill_by_all, length-map-range_with_len, get_or-map-range_with_len}
use Rattle.std.proofs.lemmas.List.Sums.{AllPass-from_list_all, list_all-from_AllPass}
use Rattle.level.specs.declared.level.Level.{Level}
use Rattle.level.specs.declared.level.Level.TheVariants.{Zero, One, X}
use Rattle.circuit.specs.declared.row.Row.{Row}
use Rattle.circuit.specs.Levels.{level}
use Rattle.session.specs.History.{Entry, History}
use Rattle.session.specs.Parts.{same_level, agree, part, parts, part_in, Alike, Parted}
use Rattle.session.proofs.Classes.{Likeness, class_le, class_like, class_least, class_same, class_from, class_again}

pub same_level_decides : (a b : Level) → Decides (same_level a b) (a ≡ b)
same_level_decides Zero Zero = (λ _. refl, λ _. refl)
same_level_decides Zero One = (λ e. cc, λ e. cc)
same_level_decides Zero X = (λ e. cc, λ e. cc)
same_level_decides One Zero = (λ e. cc, λ e. cc)
same_level_decides One One = (λ _. refl, λ _. refl)
same_level_decides One X = (λ e. cc, λ e. cc)
same_level_decides X Zero = (λ e. cc, λ e. cc)
same_level_decides X One = (λ e. cc, λ e. cc)
same_level_decides X X = (λ _. refl, λ _. refl)

module _ (rows : List Row) (h : History) where
  pub agree_decides : (i j : ℕ) → Decides (agree rows h i j) (Alike rows h i j)
  agree_decides i j =
      let same : Entry → Bool = λ e. same_level (level rows e.vector i) (level rows e.vector j) in
      let decided = λ (e : Entry). same_level_decides (level rows e.vector i) (level rows e.vector j) in
      (λ t k d b. (decided (get_or h k d)).0 (AllPass-from_list_all same h t k d b), λ r. list_all-from_AllPass same h (λ k d b. (decided (get_or h k d)).1 (r k d b)))

  pub likeness : Likeness (agree rows h) (Alike rows h)
  likeness = record {
    test = agree_decides;
    same = λ i k d b. refl;
    back = λ i j r k d b. sym (r k d b);
    through = λ i j m r s k d b. r k d b ∙ s k d b;
  }

  pub part_at : (i : ℕ) → i < length rows → part_in (parts rows h) i ≡ part rows h i
  part_at i b = get_or-map-range_with_len (part rows h) 0 (length rows) i i 0 b (omega arith)

  part_part : (i : ℕ) → i < length rows → part_in (parts rows h) (part_in (parts rows h) i) ≡ part rows h (part rows h i)
  part_part i b =
      let below = class_le (agree rows h) (Alike rows h) likeness i in
      ap (part_in (parts rows h)) (part_at i b) ∙ part_at (part rows h i) (omega arith)

  pub parted : Parted rows h
  parted =
      let e = agree rows h in
      let R = Alike rows h in
      record {
        each_line = length-map-range_with_len (part rows h) 0 (length rows);
        apart = λ i j a b. (
          λ q. class_from e R likeness i j (sym (part_at i a) ∙ q ∙ part_at j b),
          λ r. part_at i a ∙ class_same e R likeness i j r ∙ sym (part_at j b),
        );
        inside = λ i a. omega (arith, part_at i a, class_le e R likeness i);
        alike = λ i a. subst (λ k. R k i) (sym (part_at i a)) (class_like e R likeness i);
        smallest = λ i j a r. omega (arith, part_at i a, class_least e R likeness i j r);
        own = λ i a. part_part i a ∙ class_again e R likeness i ∙ sym (part_at i a);
        none = λ q i a. omega (arith, part_at i a, class_least e R likeness i 0 (λ k d b. absurd (omega (arith, ap length q))));
      }

-- under no entries all lines are in the part of line 0
pub parts_none : (rows : List Row) (n : ℕ) → length rows ≡ n → replicate n 0 ≡ parts rows []
parts_none rows n e =
    rw (← e) (fill_by_all (part rows []) (replicate (length rows) 0) (length rows) 0 (length-replicate (length rows) 0) (λ k h. get_or-replicate (length rows) k 0 0 h ∙ sym ((parted rows []).none refl k h) ∙ part_at rows [] k h))
