use Rattle.std.proofs.Common.{◌≡◌, length}
use Rattle.circuit.specs.Feedback.{feedback_bridge}
use Rattle.circuit.specs.Search.{count}
use Rattle.circuit.proofs.Numbers.{begin}
use Rattle.circuit.proofs.circuit.Circuit.feedback_bridges.Given as goal

abbrev pub invariant-loop-low : goal.invariant-loop-low
invariant-loop-low l =
    (l.total ≡ count (begin (length l.self.rows.now) l.low) (feedback_bridge l.self.rows.now))
    × (length l.marks ≡ 1024)
