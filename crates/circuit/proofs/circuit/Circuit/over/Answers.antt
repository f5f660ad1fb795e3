use Rattle.std.proofs.Common.{sym, ◌∙◌, subst}
use Rattle.circuit.specs.Rows.{Lawful}
use Rattle.circuit.proofs.Takes.{lines_words, taken_lawful, taken_accepts, taken_refuses}
use Rattle.circuit.proofs.circuit.Circuit.over.Goals as goal

pub returns-clause-lawful : goal.returns-clause-lawful
returns-clause-lawful c = subst Lawful (sym c.take_lines.ensures) (taken_lawful c.args.rows.now)

pub returns-clause-front : goal.returns-clause-front
returns-clause-front c = lines_words c.args.rows.now

pub returns-clause-accepts : goal.returns-clause-accepts
returns-clause-accepts c l b = c.take_lines.ensures ∙ taken_accepts c.args.rows.now l b

pub returns-clause-refuses : goal.returns-clause-refuses
returns-clause-refuses c f = c.take_lines.ensures ∙ taken_refuses c.args.rows.now f
