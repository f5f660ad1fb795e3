use Rattle.std.proofs.Common.{sym, ◌∙◌}
use Rattle.netlist.proofs.Steps.{next_none, next_some}
use Rattle.netlist.proofs.statements.next_line.Goals as goal

pub returns-in_err-length : goal.returns-in_err-length
returns-in_err-length c = rw c.from_residual.ensures (next_none c.args.bytes.now c.args.at c.requires (sym c.line_len.ensures ∙ c.in_err-length.was))

pub returns : goal.returns
returns c = next_some c.args.bytes.now c.args.at c.in_ok-length.length c.requires (sym c.line_len.ensures ∙ c.in_ok-length.was)
