use Rattle.std.proofs.Common.{◌∙◌}
use Rattle.session.proofs.Partitions.{parts_none, parted}
use Rattle.session.proofs.parts.first_parts.Goals as goal

pub returns-clause-parts : goal.returns-clause-parts
returns-clause-parts c rows e = c.clear.ensures.front ∙ parts_none rows c.args.lines e

pub returns-clause-parted : goal.returns-clause-parted
returns-clause-parted c rows h = parted rows h
