-- What the lawfulness of rows comes to at one row.
use Rattle.std.proofs.Common.{◌≡◌, ℕ, ◌+◌, ◌<◌, ◌≤◌, Bool, true, cond, ltb, leb, List, length, get_or, drop, inl, inr, sym, ap, ◌∙◌, subst, arith}
use Rattle.std.specs.List.{enumerate_from}
use Rattle.std.proofs.lemmas.List.FromFn.{length-enumerate_from, get_or-enumerate_from}
use Rattle.std.proofs.lemmas.List.Sums.{AllPass-from_list_all, count_by_more_yes, count_by_more_no, sum_by-take-le}
use Rattle.std.proofs.lemmas.List.{drop-drop}
use Rattle.std.proofs.lemmas.Bool.{and_parts, cases_Bool, cond-true, cond-false, ltb-true, leb-true}
use Rattle.circuit.specs.declared.row.Row.{Row}
use Rattle.circuit.specs.Kinds.{is_input}
use Rattle.circuit.specs.Rows.{no_row, row_at, pins_of, counted, row_lawful, lawful, Below, inputs, inputs_before}

-- the pins of a lawful row are below it
pub row_below : (i : ℕ) (r : Row) → row_lawful i r ≡ true → Below i (pins_of r)
row_below i r e j d h = ltb-true _ _ (AllPass-from_list_all (λ p. ltb p i) (pins_of r) (and_parts (counted r.kind r.count) _ e).1 j d h)

module _ (rows : List Row) where
  -- a row and its place
  pub entry : (i : ℕ) → i < length rows → get_or (enumerate_from 0 rows) i (0, no_row) ≡ (i, row_at rows i)
  entry i h = let place : 0 + i ≡ i = omega arith in get_or-enumerate_from 0 rows i (0, no_row) h ∙ ap (λ k. (k, row_at rows i)) place

module _ (rows : List Row) (sound : lawful rows ≡ true) where
  pub lawful_lines : length rows ≤ 1024
  lawful_lines = leb-true _ _ (and_parts (leb (length rows) 1024) _ sound).0

  pub lawful_inputs : inputs rows ≤ 256
  lawful_inputs = leb-true _ _ (and_parts (leb (inputs rows) 256) _ (and_parts (leb (length rows) 1024) _ sound).1).0

  pub lawful_row : (i : ℕ) → i < length rows → row_lawful i (row_at rows i) ≡ true
  lawful_row i h =
      let each = (and_parts (leb (inputs rows) 256) _ (and_parts (leb (length rows) 1024) _ sound).1).1 in
      subst (λ e. row_lawful e.0 e.1 ≡ true) (entry rows i h) (AllPass-from_list_all (λ e. row_lawful e.0 e.1) (enumerate_from 0 rows) each i (0, no_row) (omega (arith, length-enumerate_from 0 rows)))

-- an input's byte is there
pub input_fed : (rows : List Row) (i : ℕ) → i < length rows → is_input (row_at rows i).kind ≡ true → inputs_before rows i < inputs rows
input_fed rows i h e =
    let p : Row → Bool = λ r. is_input r.kind in
    omega (arith, count_by_more_yes p rows i no_row h e, sum_by-take-le (λ r. cond (p r) 1 0) rows (i + 1))

-- an input takes the next byte, and any other line takes none
pub bytes_more : (rows : List Row) (v : List ℕ) (i : ℕ) (bytes : List ℕ) → i < length rows → bytes ≡ cond (is_input (row_at rows i).kind) (drop 1 (drop (inputs_before rows i) v)) (drop (inputs_before rows i) v) → bytes ≡ drop (inputs_before rows (i + 1)) v
bytes_more rows v i bytes h e =
    let p : Row → Bool = λ r. is_input r.kind in
    elim (cases_Bool (p (row_at rows i))) [
      | inl on ↦ e ∙ cond-true _ _ _ on ∙ drop-drop 1 (inputs_before rows i) v ∙ ap (λ k. drop k v) (omega (arith, count_by_more_yes p rows i no_row h on))
      | inr off ↦ e ∙ cond-false _ _ _ off ∙ ap (λ k. drop k v) (sym (count_by_more_no p rows i no_row h off))
    ]
