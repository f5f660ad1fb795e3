-- Taking a circuit, in words.
use Rattle.std.proofs.Common.{◌≡◌, ℕ, ◌+◌, ◌-◌, ◌<◌, ◌≤◌, true, not, ◌&&◌, ltb, List, [], drop, length, take, sym, refl, ap, subst, inl, inr, arith}
use Rattle.std.specs.List.{enumerate_from}
use Rattle.std.proofs.lemmas.List.{get_or-drop, length-drop, length-take-le}
use Rattle.std.proofs.lemmas.List.Elements.{All-from_get_or}
use Rattle.std.proofs.lemmas.List.FromFn.{length-enumerate_from}
use Rattle.std.proofs.lemmas.List.Sums.{AllPass-from_list_all, list_all-from_AllPass, fails_before_first, passes_at_first, prefix_len-le-length}
use Rattle.std.proofs.lemmas.Bool.{and_parts, and_from, not-true, not-false, not_from_false, le-leb, lt-ltb, cases_Bool, cond-true, cond-false}
use Rattle.circuit.specs.declared.row.Row.{Row}
use Rattle.circuit.specs.Rows.{no_row, row_at, pins_of, named, counted, row_lawful, all_below, inputs, lawful, line_count, lines, rest_blank, taken, Lawful, Lines, BlankAfter}
use Rattle.circuit.proofs.Laws.{entry, lawful_lines, lawful_inputs, lawful_row, row_below}

-- the test of the rows and the words say the same
pub lawful_words : (rows : List Row) → lawful rows ≡ true → Lawful rows
lawful_words rows e =
    record {
      few_lines = lawful_lines rows e;
      few_inputs = lawful_inputs rows e;
      pin_counts = λ i h. (and_parts _ (all_below i (pins_of (row_at rows i))) (lawful_row rows e i h)).0;
      pins_below = λ i h. row_below i (row_at rows i) (lawful_row rows e i h);
    }

pub words_lawful : (rows : List Row) → Lawful rows → lawful rows ≡ true
words_lawful rows l =
    and_from _ _ (le-leb (length rows) 1024 l.few_lines)
    (and_from _ _ (le-leb (inputs rows) 256 l.few_inputs)
    (list_all-from_AllPass (λ e. row_lawful e.0 e.1) (enumerate_from 0 rows)
    (All-from_get_or (λ e. row_lawful e.0 e.1 ≡ true) (enumerate_from 0 rows) (0, no_row) (λ i k.
    let h : i < length rows = omega (arith, k, length-enumerate_from 0 rows) in
    let pins = list_all-from_AllPass (λ p. ltb p i) (pins_of (row_at rows i)) (λ j d b. lt-ltb _ _ (l.pins_below i h j d b)) in
    subst (λ e. row_lawful e.0 e.1 ≡ true) (sym (entry rows i h)) (and_from (counted (row_at rows i).kind (row_at rows i).count) _ (l.pin_counts i h) pins)))))

module _ (rows : List Row) where
  pub line_count_le : line_count rows ≤ length rows
  line_count_le = prefix_len-le-length (λ r. not (not (named r))) rows

  pub lines_length : length (lines rows) ≡ line_count rows
  lines_length = length-take-le (line_count rows) rows line_count_le

  pub lines_words : Lines rows (lines rows)
  lines_words =
      record {
        front = ap (λ n. take n rows) (sym lines_length);
        filled = λ i h. not-false _ (fails_before_first (λ r. not (named r)) rows i no_row (omega (arith, lines_length)));
        stops = λ h.
            not-true _ (subst (λ n. not (named (row_at rows n)) ≡ true) (sym lines_length)
            (passes_at_first (λ r. not (named r)) rows no_row (omega (arith, lines_length))));
      }

  pub rest_words : rest_blank rows ≡ true → BlankAfter rows
  rest_words e i a b =
      let n : ℕ = line_count rows in
      let place : n + (i - n) ≡ i = omega arith in
      let blank = AllPass-from_list_all (λ r. not (named r)) (drop n rows) e (i - n) no_row (omega (arith, length-drop n rows)) in
      not-true _ (subst (λ k. not (named (row_at rows k)) ≡ true) place (subst (λ r. not (named r) ≡ true) (get_or-drop n rows (i - n) no_row) blank))

  pub words_rest : BlankAfter rows → rest_blank rows ≡ true
  words_rest f =
      let n : ℕ = line_count rows in
      list_all-from_AllPass (λ r. not (named r)) (drop n rows)
      (All-from_get_or (λ r. not (named r) ≡ true) (drop n rows) no_row (λ i h.
      subst (λ r. not (named r) ≡ true) (sym (get_or-drop n rows i no_row)) (not_from_false _ (f (n + i) (omega arith) (omega (arith, h, length-drop n rows))))))

  pub taken_accepts : Lawful (lines rows) → BlankAfter rows → taken rows ≡ lines rows
  taken_accepts l b = cond-true _ _ _ (and_from _ _ (words_lawful (lines rows) l) (words_rest b))

  pub taken_refuses : (Lawful (lines rows) → BlankAfter rows → ⊥) → taken rows ≡ []
  taken_refuses f =
      elim (cases_Bool (lawful (lines rows) && rest_blank rows)) [
        | inl e ↦
            let both = and_parts (lawful (lines rows)) _ e in
            absurd (f (lawful_words (lines rows) both.0) (rest_words both.1))
        | inr e ↦ cond-false _ _ _ e
      ]

  pub taken_lawful : Lawful (taken rows)
  taken_lawful =
      elim (cases_Bool (lawful (lines rows) && rest_blank rows)) [
        | inl e ↦ subst Lawful (sym (cond-true _ _ _ e)) (lawful_words (lines rows) (and_parts (lawful (lines rows)) _ e).0)
        | inr e ↦ subst Lawful (sym (cond-false _ _ _ e)) (lawful_words [] refl)
      ]
