use Rattle.std.proofs.Common.{rules}
use Rattle.head.proofs.pin_map.straight.Goals as goal

pub returns-clause-own : goal.returns-clause-own
returns-clause-own c = λ k h. let called = c.from_fn.ensures.items.at k 0 h in search rules
