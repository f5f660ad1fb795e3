-- The line that a name finds.
use Rattle.std.proofs.Common.{◌≡◌, ℕ, ◌<◌, true, false, Bool, List, length, is_some, Some, None, Option, refl}
use Rattle.std.specs.Str.{bytes_eq}
use Rattle.std.proofs.lemmas.Slice.Eq.{bytes_eq-Decides}
use Rattle.std.proofs.lemmas.Bool.{both_ways}
use Rattle.std.proofs.lemmas.List.Quantifiers.{position-Some}
use Rattle.circuit.specs.Rows.{no_row, row_at}
use Rattle.circuit.specs.declared.row.Row.{Row}
use Rattle.circuit.specs.declared.row.Span.{Span}
use Rattle.netlist.specs.Definitions.{line_of}
use Rattle.netlist.specs.Names.{bytes_of, name_of}
use Rattle.netlist.proofs.Positions.{position_none}

pub none_from : {X : Type 0} (o : Option X) → is_some o ≡ false → o ≡ None
none_from None e = refl
none_from (Some x) e = absurd (both_ways true e refl)

module _ (text : List ℕ) (rows : List Row) (s : Span) where
  abbrev names : Row → Bool
  names row = bytes_eq (name_of text row) (bytes_of text s)

  -- a word that names no line is the name of none
  pub line_none : line_of text rows s ≡ None → (k : ℕ) → k < length rows → name_of text (row_at rows k) ≡ bytes_of text s → ⊥
  line_none e k h same = both_ways _ (position_none names rows no_row e k h) ((bytes_eq-Decides (name_of text (row_at rows k)) (bytes_of text s)).1 same)

  -- the line that a word names is one of the rows, and has that name
  pub line_some : (n : ℕ) → line_of text rows s ≡ Some n → (n < length rows) × (name_of text (row_at rows n) ≡ bytes_of text s)
  line_some n e =
      let at = position-Some names rows n no_row e in
      (at.0, (bytes_eq-Decides (name_of text (row_at rows n)) (bytes_of text s)).0 at.1)
