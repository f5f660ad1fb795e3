-- One row more, or one mark more.
use Rattle.std.proofs.Common.{◌≡◌, ℕ, ◌<◌, List, [], ◌∷◌, ◌++◌, length, set, sym, refl, ap, ◌∙◌, subst, inl, inr, arith}
use Rattle.std.proofs.lemmas.List.{length_push, get_or_push, get_or_append_left, get_or-set_same, get_or-set_other}
use Rattle.std.proofs.lemmas.Bool.{cases_eq, cases_lt}
use Rattle.circuit.specs.Rows.{no_row, row_at}
use Rattle.circuit.specs.declared.row.Row.{Row}
use Rattle.netlist.specs.Names.{name_of}
use Rattle.netlist.specs.Reading.{as_output}

-- one row more: a row of it is one of the rows before, or the new one
module _ (rows : List Row) (row : Row) where
  pub row_before : (i : ℕ) → i < length rows → row_at (rows ++ row ∷ []) i ≡ row_at rows i
  row_before i h = get_or_append_left rows (row ∷ []) no_row i h

  pub row_last : row_at (rows ++ row ∷ []) (length rows) ≡ row
  row_last = get_or_push rows row no_row (length rows) refl

  pub row_each : (P : ℕ → Row → Type 0) → ((i : ℕ) → i < length rows → P i (row_at rows i)) → P (length rows) row → (i : ℕ) → i < length (rows ++ row ∷ []) → P i (row_at (rows ++ row ∷ []) i)
  row_each P f p i h =
      elim (cases_lt i (length rows)) [
        | inl l ↦ subst (P i) (sym (row_before i l)) (f i l)
        | inr g ↦
            let same : length rows ≡ i = omega (arith, length_push rows row) in
            subst (λ k. P k (row_at (rows ++ row ∷ []) k)) same (subst (P (length rows)) (sym row_last) p)
      ]

-- one mark more: each row is as it was, or has the mark
module _ (rows : List Row) (i : ℕ) (h : i < length rows) where
  pub mark_each : (P : Row → Type 0) (k : ℕ) → (P (row_at rows k) → P (as_output (row_at rows k))) → P (row_at rows k) → P (row_at (set rows i (as_output (row_at rows i))) k)
  mark_each P k f p =
      elim (cases_eq k i) [
        | inl e ↦ subst P (ap (λ m. as_output (row_at rows m)) e ∙ sym (get_or-set_same rows i (as_output (row_at rows i)) no_row h) ∙ ap (row_at (set rows i (as_output (row_at rows i)))) (sym e)) (f p)
        | inr e ↦ subst P (sym (get_or-set_other rows i k (as_output (row_at rows i)) no_row e)) p
      ]

pub name_kept : (text : List ℕ) (rows : List Row) (i : ℕ) → i < length rows → (k : ℕ) → name_of text (row_at (set rows i (as_output (row_at rows i))) k) ≡ name_of text (row_at rows k)
name_kept text rows i h k = mark_each rows i h (λ r. name_of text r ≡ name_of text (row_at rows k)) k (λ p. p) refl
