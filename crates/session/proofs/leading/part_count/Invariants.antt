use Rattle.std.proofs.Common.{◌≡◌, ◌≤◌, eqb, get_or}
use Rattle.circuit.specs.Search.{count}
use Rattle.session.proofs.leading.part_count.Given as goal

abbrev pub invariant-loop-line : goal.invariant-loop-line
invariant-loop-line l = (l.total ≤ l.line) × (l.total ≡ count l.line (λ k. eqb (get_or l.parts k 0) k))
