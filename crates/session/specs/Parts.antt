-- The parts of a circuit's lines: those of one part read alike under every accepted vector.
use Rattle.std.specs.Prelude.{◌≡◌, ℕ, ◌+◌, ◌<◌, ◌≤◌, ◌↔◌, All, Bool, true, false, List, [], length, map, slice_index}
use Rattle.std.specs.List.{list_all, range_with_len}
use Rattle.level.specs.declared.level.Level.{Level}
use Rattle.level.specs.declared.level.Level.TheVariants.{Zero, One, X}
use Rattle.circuit.specs.declared.row.Row.{Row}
use Rattle.circuit.specs.Levels.{level}
use Rattle.circuit.specs.Search.{first}
use Rattle.session.specs.History.{History}

abbrev pub same_level : Level → Level → Bool
same_level Zero Zero = true
same_level Zero One = false
same_level Zero X = false
same_level One Zero = false
same_level One One = true
same_level One X = false
same_level X Zero = false
same_level X One = false
same_level X X = true

-- whether lines i and j read alike under the vector of every entry
abbrev pub agree : List Row → History → ℕ → ℕ → Bool
agree rows h i j = list_all (λ e. same_level (level rows e.vector i) (level rows e.vector j)) h

-- a part is named by its smallest line
abbrev pub part : List Row → History → ℕ → ℕ
part rows h i = first (i + 1) (λ j. agree rows h j i)

abbrev pub parts : List Row → History → List ℕ
parts rows h = map (part rows h) (range_with_len 0 (length rows))

-- the same in words
abbrev pub Alike : List Row → History → ℕ → ℕ → Type 0
Alike rows h i j = All (λ e. level rows e.vector i ≡ level rows e.vector j) h

-- the part of line i in a list of parts, one for each line
abbrev pub part_in : List ℕ → ℕ → ℕ
part_in ps i = slice_index ps i

-- two lines have one part exactly where they read alike; it is the smallest line that reads as they do,
-- and is its own part
pub record Parted (rows : List Row) (h : History) : Type 0 where
  pub each_line : length (parts rows h) ≡ length rows
  pub apart : (i j : ℕ) → i < length rows → j < length rows → (part_in (parts rows h) i ≡ part_in (parts rows h) j) ↔ Alike rows h i j
  pub inside : (i : ℕ) → i < length rows → part_in (parts rows h) i ≤ i
  pub alike : (i : ℕ) → i < length rows → Alike rows h (part_in (parts rows h) i) i
  pub smallest : (i j : ℕ) → i < length rows → Alike rows h j i → part_in (parts rows h) i ≤ j
  pub own : (i : ℕ) → i < length rows → part_in (parts rows h) (part_in (parts rows h) i) ≡ part_in (parts rows h) i
  pub none : h ≡ [] → (i : ℕ) → i < length rows → part_in (parts rows h) i ≡ 0
