-- The laws of accepted texts, at an answer of the reader.
use Rattle.std.proofs.Common.{ℕ, List, take, Ok, Err, Result}
use Rattle.circuit.specs.declared.row.Row.{Row}
use Rattle.netlist.specs.Accepted.{Accepted, LinesOf, SameWithMore}
use Rattle.netlist.specs.Drawn.{Drawn}
use Rattle.netlist.specs.Reading.{reading, Answers}
use Rattle.netlist.specs.declared.fault.NetlistFault.{NetlistFault}
use Rattle.netlist.proofs.Drawn.{reading_drawn}
use Rattle.netlist.proofs.Marks.{reading_lines}
use Rattle.netlist.proofs.Rooms.{reading_longer}

module _ (text : List ℕ) (room : ℕ) (rows : List Row) where
  pub lines_answered : (r : Result ℕ NetlistFault) → Answers (reading text room) room rows r → Accepted r (λ n. LinesOf text (take n rows))
  lines_answered (Ok n) a = reading_lines text room (take n rows) a.0
  lines_answered (Err f) a = tt

  pub drawn_answered : (r : Result ℕ NetlistFault) → Answers (reading text room) room rows r → Accepted r (λ n. Drawn text (take n rows))
  drawn_answered (Ok n) a = reading_drawn text room (take n rows) a.0
  drawn_answered (Err f) a = tt

  pub longer_answered : (r : Result ℕ NetlistFault) → Answers (reading text room) room rows r → Accepted r (λ n. SameWithMore text room (take n rows))
  longer_answered (Ok n) a = λ more h. reading_longer text room more (take n rows) a.0 h
  longer_answered (Err f) a = tt
