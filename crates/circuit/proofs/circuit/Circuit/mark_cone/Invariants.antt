use Rattle.std.proofs.Common.{◌≡◌, length, take, drop}
use Rattle.circuit.specs.Feedback.{reach, cone}
use Rattle.circuit.specs.Levels.{build}
use Rattle.circuit.proofs.circuit.Circuit.mark_cone.Given as goal

abbrev pub invariant-loop-line : goal.invariant-loop-line
invariant-loop-line l =
    (build (reach l.source) (drop l.line l.self.rows.now) (take l.line l.marks) ≡ cone l.self.rows.now l.source)
    × (length l.marks ≡ length l.initial.marks)
