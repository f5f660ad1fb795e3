use Rattle.circuit.proofs.Numbers.{Sought}
use Rattle.circuit.proofs.bridge.bridge_at.Given as goal

abbrev pub invariant-loop-low : goal.invariant-loop-low
invariant-loop-low l = Sought l.lines l.initial.rest l.low l.rest
