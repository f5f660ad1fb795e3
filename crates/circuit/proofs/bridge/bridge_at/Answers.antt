use Rattle.std.proofs.Common.{◌≡◌, suc, ◌-◌, arith}
use Rattle.circuit.proofs.Numbers.{numbered, sought_more}
use Rattle.circuit.proofs.bridge.bridge_at.Goals as goal

pub returns-then-rest-width-clause-undone : goal.returns-then-rest-width-clause-undone
returns-then-rest-width-clause-undone c = numbered c.args.lines

pub loop-low-preserved : goal.loop-low-preserved
loop-low-preserved c =
    let n = c.args.lines in
    let i = c.loop-low.low in
    let w = n - 1 - i in
    let e : n - i ≡ suc w = omega (arith, c.loop-low-test.true) in
    sought_more n c.args.number i c.loop-low.rest c.loop-low.invariant w e c.if-rest-width.false

pub returns-clause-undone : goal.returns-clause-undone
returns-clause-undone c = numbered c.args.lines
