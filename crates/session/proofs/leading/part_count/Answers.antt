use Rattle.session.proofs.Leads.{led}
use Rattle.session.proofs.leading.part_count.Goals as goal

pub returns-clause-led : goal.returns-clause-led
returns-clause-led c rows h = led rows h
