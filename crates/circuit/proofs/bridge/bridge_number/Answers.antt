use Rattle.circuit.proofs.Numbers.{numbered}
use Rattle.circuit.proofs.bridge.bridge_number.Goals as goal

pub returns-then-lines-gt-MAX_LINES-clause-undone : goal.returns-then-lines-gt-MAX_LINES-clause-undone
returns-then-lines-gt-MAX_LINES-clause-undone c = numbered c.args.lines

pub returns-clause-undone : goal.returns-clause-undone
returns-clause-undone c = numbered c.args.lines
