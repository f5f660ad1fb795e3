use Rattle.std.proofs.Common.{◌≡◌, length}
use Rattle.session.proofs.Leads.{Seconds}
use Rattle.session.proofs.leading.second_lines.Given as goal

abbrev pub invariant-loop-line : goal.invariant-loop-line
invariant-loop-line l = (length l.seconds ≡ 1024) × Seconds l.parts l.line l.seconds
