use Rattle.head.proofs.Listings.{by_rows}
use Rattle.head.proofs.sheet.Sheet.new.Goals as goal

pub returns-clause-answers : goal.returns-clause-answers
returns-clause-answers c = λ _. by_rows c.args.width c.args.rows.now
