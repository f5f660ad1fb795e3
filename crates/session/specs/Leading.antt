-- The first lines of the parts: how many parts there are, and the second line of each.
use Rattle.std.specs.Prelude.{◌≡◌, ℕ, ◌<◌, Bool, not, ◌&&◌, ◌==◌, List, length, Some, None, Option, if◌then◌else◌, nat_lt, slice_index}
use Rattle.circuit.specs.declared.row.Row.{Row}
use Rattle.circuit.specs.Search.{first, count}
use Rattle.session.specs.History.{History}
use Rattle.session.specs.Parts.{parts, Alike}

-- the smallest number below n that passes, if there is one
abbrev pub first_below : ℕ → (ℕ → Bool) → Option ℕ
first_below n p = if nat_lt (first n p) n then Some (first n p) else None

-- as many parts as lines that name one, in a list of each line's part
abbrev pub part_count : List ℕ → ℕ
part_count ps = count (length ps) (λ i. slice_index ps i == i)

-- whether line j is in the part of line p, and another line
abbrev pub other_in : List ℕ → ℕ → ℕ → Bool
other_in ps p j = (slice_index ps j == p) && not (j == p)

-- the smallest other line of the part that line p names, if there is one
abbrev pub second_line : List ℕ → ℕ → Option ℕ
second_line ps p = first_below (length ps) (other_in ps p)

-- no two of the lines in ls read alike, and each line reads as one of them does
pub record Representatives (rows : List Row) (h : History) (ls : List ℕ) : Type 0 where
  pub lines : (k : ℕ) → k < length ls → slice_index ls k < length rows
  pub apart : (k m : ℕ) → k < length ls → m < length ls → Alike rows h (slice_index ls k) (slice_index ls m) → k ≡ m
  pub each : (i : ℕ) → i < length rows → (k : ℕ) × (k < length ls) × Alike rows h (slice_index ls k) i

-- the second line of the part of line p: past p, alike to it, and no line between them is
pub record IsSecond (rows : List Row) (h : History) (p j : ℕ) : Type 0 where
  pub line : j < length rows
  pub past : p < j
  pub alike : Alike rows h p j
  pub between : (k : ℕ) → p < k → k < j → Alike rows h p k → ⊥

-- there are as many parts as lines that represent them; a line that names a part is followed by the
-- part's second line, or is alone
pub record Led (rows : List Row) (h : History) : Type 0 where
  pub some_lines : (ls : List ℕ) × Representatives rows h ls × (length ls ≡ part_count (parts rows h))
  pub second : (p j : ℕ) → p < length rows → slice_index (parts rows h) p ≡ p → second_line (parts rows h) p ≡ Some j → IsSecond rows h p j
  pub alone : (p : ℕ) → p < length rows → slice_index (parts rows h) p ≡ p → second_line (parts rows h) p ≡ None → (k : ℕ) → k < length rows → Alike rows h p k → k ≡ p
