use Rattle.std.proofs.Common.{length, arith}
use Rattle.circuit.proofs.Numbers.{pairs_total}
use Rattle.circuit.proofs.circuit.Circuit.bridges.Goals as goal

pub returns-in_default : goal.returns-in_default
returns-in_default c = omega (arith, pairs_total (length c.args.self.now.rows.now))
