use Rattle.std.proofs.Common.{◌≡◌, length, refl, ap, ◌∙◌, arith}
use Rattle.session.specs.Leading.{first_below, other_in}
use Rattle.session.proofs.Leads.{seconds_none, seconds_own, seconds_other}
use Rattle.session.proofs.leading.second_lines.Goals as goal
use Rattle.session.proofs.leading.second_lines.Goals.{then-part-line, else-part-line}

pub loop-line-init : goal.loop-line-init
loop-line-init c = (refl, seconds_none c.args.parts.now 1024)

pub loop-line-preserved : goal.loop-line-preserved
loop-line-preserved c =
    let ps = c.args.parts.now in
    let i = c.loop-line.line in
    let seconds = c.loop-line.seconds in
    elim c.if-part-line.branch [
      | then-part-line w ↦
          rw w.seconds-is (w.keep_first.ensures.long ∙ c.loop-line.invariant.0, seconds_other ps i seconds c.loop-line.invariant.1 _ w.keep_first.ensures.long w.if-part-line.true w.keep_first.ensures.kept)
      | else-part-line w ↦
          rw w.seconds-is (c.loop-line.invariant.0, seconds_own ps i seconds c.loop-line.invariant.1 w.if-part-line.false)
    ]

pub returns : goal.returns
returns c p h =
    let end : c.loop-line.line ≡ length c.args.parts.now = omega (arith, c.loop-line-test.false) in
    c.loop-line.invariant.1 p (omega (arith, c.loop-line.invariant.0)) ∙ ap (λ n. first_below n (other_in c.args.parts.now p)) end
