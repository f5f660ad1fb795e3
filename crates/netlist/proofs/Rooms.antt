-- An accepted text is accepted with more room too, and gives the same lines.
use Rattle.std.proofs.Common.{◌≡◌, ℕ, ◌≤◌, leb, List, [], ◌∷◌, length, Some, None, Ok, Err, Option, Result, sym, refl, ◌∙◌, subst, arith}
use Rattle.std.proofs.lemmas.Bool.{cond_both, cond-true, cond-false, leb-false, lt-leb}
use Rattle.circuit.specs.declared.row.Row.{Row}
use Rattle.netlist.specs.Accepted.{Accepted}
use Rattle.netlist.specs.Definitions.{defined, stored, extended}
use Rattle.netlist.specs.Reading.{in_turn, statements_from, after_line, rows_of, with_marks, reading}
use Rattle.netlist.specs.declared.fault.NetlistFault.{NetlistFault}
use Rattle.netlist.specs.declared.fault.NetlistFault.TheVariants.{TooLarge}
use Rattle.netlist.specs.declared.fault.TokenFault.{TokenFault}
use Rattle.netlist.specs.declared.statement.Statement.{Statement}
use Rattle.netlist.proofs.Grows.{accepted_at}
use Rattle.netlist.proofs.Turns.{Said, then_turn}

-- what the first result accepts, the second gives too
abbrev Same : Result (List Row) NetlistFault → Result (List Row) NetlistFault → Type 0
Same r q = Accepted r (λ rows. q ≡ Ok rows)

same_itself : (r : Result (List Row) NetlistFault) → Same r r
same_itself (Ok rows) = refl
same_itself (Err f) = tt

module _ (text : List ℕ) (room more : ℕ) (h : room ≤ more) where
  stored_longer : (rows : List Row) (row : Row) → Same (stored room rows row) (stored more rows row)
  stored_longer rows row =
      cond_both (leb 1024 (length rows)) _ _ (λ r. Same r (stored more rows row)) (λ e. tt) (λ e.
      cond_both (leb room (length rows)) _ _ (λ r. Same r (stored more rows row)) (λ f. tt) (λ f.
      cond-false _ _ _ e ∙ cond-false _ _ _ (lt-leb more (length rows) (omega (arith, leb-false room (length rows) f)))))

  extended_longer : (rows : List Row) (r : Result (Option Row) NetlistFault) → Same (extended room rows r) (extended more rows r)
  extended_longer rows (Ok None) = refl
  extended_longer rows (Ok (Some row)) = stored_longer rows row
  extended_longer rows (Err f) = tt

  line_longer : (rows : List Row) (r : Result Statement TokenFault) → Same (after_line text room rows r) (after_line text more rows r)
  line_longer rows (Ok x) = extended_longer rows (defined text rows x)
  line_longer rows (Err f) = tt

  next_longer : (ls : List Said) (r q : Result (List Row) NetlistFault) → Same r q → ((rows : List Row) → Same (rows_of text room rows ls) (rows_of text more rows ls)) → Same (then_turn (after_line text room) ls r) (then_turn (after_line text more) ls q)
  next_longer ls (Ok rows) q e go = subst (λ x. Same (rows_of text room rows ls) (then_turn (after_line text more) ls x)) (sym e) (go rows)
  next_longer ls (Err f) q e go = tt

  rows_longer : (ls : List Said) (rows : List Row) → Same (rows_of text room rows ls) (rows_of text more rows ls)
  unfolding in_turn
  rows_longer [] rows = refl
  rows_longer (l ∷ ls) rows = next_longer ls (after_line text room rows l) (after_line text more rows l) (line_longer rows l) (rows_longer ls)

  marks_longer : (r q : Result (List Row) NetlistFault) → Same r q → Same (with_marks text r) (with_marks text q)
  marks_longer (Ok rows) q e = subst (λ x. Same (with_marks text (Ok rows)) (with_marks text x)) (sym e) (same_itself (with_marks text (Ok rows)))
  marks_longer (Err f) q e = tt

  pub reading_same : Accepted (reading text room) (λ rows. reading text more ≡ Ok rows)
  unfolding reading
  reading_same =
      cond_both (leb (length text) 1048576) (with_marks text (rows_of text room [] (statements_from text 0))) (Err TooLarge) (λ r. Same r (reading text more))
      (λ e. subst (Same (with_marks text (rows_of text room [] (statements_from text 0)))) (sym (cond-true _ _ _ e))
      (marks_longer (rows_of text room [] (statements_from text 0)) (rows_of text more [] (statements_from text 0)) (rows_longer (statements_from text 0) [])))
      (λ e. tt)

-- an accepted text is accepted with any longer row memory, and gives the same lines
pub reading_longer : (text : List ℕ) (room more : ℕ) (rows : List Row) → reading text room ≡ Ok rows → room ≤ more → reading text more ≡ Ok rows
reading_longer text room more rows e h = accepted_at (λ rows. reading text more ≡ Ok rows) (reading text room) rows e (reading_same text room more h)
