use Rattle.std.proofs.Common.{sym, ◌∙◌, arith, length-set}
use Rattle.netlist.proofs.Resolved.{pin_on, pin_fault, pin_all}
use Rattle.netlist.proofs.lines.Lines.resolve.Goals as goal

pub returns-in_default : goal.returns-in_default
returns-in_default c =
    sym (pin_fault _ _ _ _ _ _ c.loop-i-test.true (sym c.find.ensures ∙ c.in_default.is)) ∙ c.loop-i.invariant.0

pub loop-i-preserved : goal.loop-i-preserved
loop-i-preserved c = (
  sym (pin_on _ _ _ _ _ _ _ c.loop-i-test.true (sym c.find.ensures ∙ c.in-Some.is)) ∙ c.loop-i.invariant.0,
  simp length-set (omega arith),
)

pub returns : goal.returns
returns c = sym (pin_all _ _ c.args.pins.now _ c.loop-i.i c.loop-i-test.false) ∙ c.loop-i.invariant.0
