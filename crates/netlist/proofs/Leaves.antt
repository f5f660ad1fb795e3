-- The rows that the reader leaves make the circuit of the lines read.
use Rattle.std.proofs.Common.{◌≡◌, ℕ, ◌+◌, ◌-◌, ◌<◌, ◌≤◌, true, false, not, List, [], ◌++◌, length, take, replicate, Ok, Err, Result, sym, refl, ap, ◌∙◌, subst, arith}
use Rattle.std.proofs.lemmas.List.{length-append, length-replicate, get_or_append_left, get_or-append_right, get_or-replicate, take_at, take-append-drop}
use Rattle.std.proofs.lemmas.List.Sums.{position_or_len_is}
use Rattle.std.proofs.lemmas.Bool.{not_from_true, not_from_false}
use Rattle.circuit.specs.Rows.{blank, no_row, row_at, named, line_count, lines, taken, Lawful}
use Rattle.circuit.specs.declared.row.Row.{Row}
use Rattle.circuit.proofs.Takes.{taken_accepts}
use Rattle.netlist.specs.Accepted.{MakesCircuit}
use Rattle.netlist.specs.Reading.{reading, Answers}
use Rattle.netlist.specs.declared.fault.NetlistFault.{NetlistFault}
use Rattle.netlist.proofs.Grows.{accepted_at}
use Rattle.netlist.proofs.Laws.{lawful_none, lawful_named, reading_words}

module _ (rows : List Row) (k : ℕ) (l : Lawful rows) where
  all_long : length (rows ++ replicate k blank) ≡ length rows + k
  all_long = length-append rows (replicate k blank) ∙ ap (λ n. length rows + n) (length-replicate k blank)

  named_before : (i : ℕ) → i < length rows → named (row_at (rows ++ replicate k blank) i) ≡ true
  named_before i h = ap named (get_or_append_left rows (replicate k blank) no_row i h) ∙ lawful_named rows l i h

  blank_after : (i : ℕ) → length rows ≤ i → i < length (rows ++ replicate k blank) → named (row_at (rows ++ replicate k blank) i) ≡ false
  blank_after i g h =
      ap named (get_or-append_right rows (replicate k blank) (length rows) i no_row refl g ∙ get_or-replicate k (i - length rows) blank no_row (omega (arith, all_long)))

  padded_count : line_count (rows ++ replicate k blank) ≡ length rows
  padded_count =
      let all = rows ++ replicate k blank in
      position_or_len_is (λ r. not (named r)) all (length rows) no_row (omega (arith, all_long)) (λ j h. not_from_true _ (named_before j h)) (λ h. not_from_false _ (blank_after (length rows) (omega arith) h))

  -- lawful rows, with blank ones after them, make the circuit of those rows
  pub taken_padded : taken (rows ++ replicate k blank) ≡ rows
  taken_padded =
      let all = rows ++ replicate k blank in
      let same : lines all ≡ rows = ap (λ n. take n all) padded_count ∙ take_at rows (replicate k blank) (length rows) refl in
      taken_accepts all (subst Lawful (sym same) l) (λ i g h. blank_after i (omega (arith, padded_count)) h) ∙ same

pub makes_circuit : (text : List ℕ) (room : ℕ) (rows : List Row) (r : Result ℕ NetlistFault) → Answers (reading text room) room rows r → MakesCircuit rows r
makes_circuit text room rows (Ok n) a =
    let l : Lawful (take n rows) = accepted_at Lawful (reading text room) (take n rows) a.0 (reading_words text room) in
    subst (λ xs. taken xs ≡ take n rows) (ap (λ ys. take n rows ++ ys) (sym a.3) ∙ take-append-drop n rows) (taken_padded (take n rows) (room - n) l)
makes_circuit text room rows (Err f) a = subst (λ xs. taken xs ≡ []) (sym a.1) (taken_padded [] room lawful_none)
