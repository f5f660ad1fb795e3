use Rattle.std.proofs.Common.{Ok, Err, rules}
use Rattle.head.specs.declared.fault.HeadFault.TheVariants.{NotPermutation}
use Rattle.head.proofs.Pins.{judged_as}
use Rattle.head.proofs.pin_map.judge.Goals as goal

pub returns-in-Some-clause-judged : goal.returns-in-Some-clause-judged
returns-in-Some-clause-judged c = judged_as c.args.width c.args.map.now (Err (NotPermutation c.in-Some.place)) (search rules)

pub returns-in-None-clause-judged : goal.returns-in-None-clause-judged
returns-in-None-clause-judged c = judged_as c.args.width c.args.map.now (Err (NotPermutation _)) (search rules)

pub returns-in-None-2-clause-judged : goal.returns-in-None-2-clause-judged
returns-in-None-2-clause-judged c = judged_as c.args.width c.args.map.now (Ok tt) (search rules)
