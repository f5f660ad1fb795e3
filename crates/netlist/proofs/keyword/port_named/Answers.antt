use Rattle.std.proofs.Common.{arith}
use Rattle.netlist.proofs.Spelling.{spells_output}
use Rattle.netlist.proofs.keyword.port_named.Goals as goal

pub returns-in-OUTPUT : goal.returns-in-OUTPUT
returns-in-OUTPUT c = spells_output c.args.word.now (omega arith) (omega arith) (omega arith) (omega arith) (omega arith) (omega arith) (omega arith)
