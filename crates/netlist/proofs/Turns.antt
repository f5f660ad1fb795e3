-- What the text lines say, one by one.
use Rattle.std.proofs.Common.{◌≡◌, ℕ, ◌≤◌, List, [], ◌∷◌, length, Ok, Err, Result, ap, ◌∙◌}
use Rattle.std.proofs.lemmas.Bool.{cond-true, le-leb}
use Rattle.circuit.specs.declared.row.Row.{Row}
use Rattle.netlist.specs.Accepted.{Accepted}
use Rattle.netlist.specs.Reading.{statements_from, in_turn, rows_of, with_marks, reading}
use Rattle.netlist.specs.declared.fault.NetlistFault.{NetlistFault}
use Rattle.netlist.specs.declared.fault.TokenFault.{TokenFault}
use Rattle.netlist.specs.declared.statement.Statement.{Statement}

abbrev pub Said : Type 0
Said = Result Statement TokenFault

module _ (step : List Row → Said → Result (List Row) NetlistFault) where
  -- what follows one text line
  abbrev pub then_turn : List Said → Result (List Row) NetlistFault → Result (List Row) NetlistFault
  then_turn rs (Ok more) = in_turn step more rs
  then_turn rs (Err f) = Err f

  pub turn_on : (rows : List Row) (all : List Said) (r : Said) (rs : List Said) (after : Result (List Row) NetlistFault) → all ≡ r ∷ rs → step rows r ≡ after → in_turn step rows all ≡ then_turn rs after
  unfolding in_turn
  turn_on rows all r rs after s e = ap (in_turn step rows) s ∙ ap (then_turn rs) e

  pub turn_none : (rows : List Row) (all : List Said) → all ≡ [] → in_turn step rows all ≡ Ok rows
  unfolding in_turn
  turn_none rows all s = ap (in_turn step rows) s

  -- Q of the rows after one text line, and then P of those after the rest
  pub then_from : (P Q : List Row → Type 0) (rs : List Said) (r : Result (List Row) NetlistFault) → ((rows : List Row) → Q rows → Accepted (in_turn step rows rs) P) → Accepted r Q → Accepted (then_turn rs r) P
  then_from P Q rs (Ok more) go a = go more a
  then_from P Q rs (Err f) go a = tt

-- a text that is not too long
pub reading_within : (text : List ℕ) (room : ℕ) → length text ≤ 1048576 → reading text room ≡ with_marks text (rows_of text room [] (statements_from text 0))
unfolding reading
reading_within text room h = cond-true _ _ _ (le-leb (length text) 1048576 h)
