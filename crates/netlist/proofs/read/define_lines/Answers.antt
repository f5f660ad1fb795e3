use Rattle.std.proofs.Common.{◌≡◌, length, take, Ok, Err, sym, ap, ◌∙◌, arith}
use Rattle.std.proofs.lemmas.Result.{err_from_is_err_and}
use Rattle.netlist.specs.Definitions.{after_statement}
use Rattle.netlist.specs.Reading.{after_line}
use Rattle.netlist.proofs.Turns.{turn_on, turn_none}
use Rattle.netlist.proofs.read.define_lines.Goals as goal

pub returns-in_err-statement : goal.returns-in_err-statement
returns-in_err-statement c =
    let text = c.args.text.bytes.now in
    let room = length c.args.rows.now in
    let front = take c.loop-statement.count c.loop-statement.rows in
    let p = err_from_is_err_and c.from_residual.result c.from_residual.ensures.1 in
    rw (p.1, p.2)
    (sym c.loop-statement.invariant.0 ∙ turn_on (after_line text room) front _ _ _ _ c.in-Some.ensures.steps (ap (after_line text room front) c.in_err-statement.was))

pub returns-in_err-count : goal.returns-in_err-count
returns-in_err-count c =
    let text = c.args.text.bytes.now in
    let room = length c.args.rows.now in
    let front = take c.loop-statement.count c.loop-statement.rows in
    let long : room ≡ length c.loop-statement.rows = omega arith in
    let p = err_from_is_err_and c.from_residual-in_err-count.result c.from_residual-in_err-count.ensures.1 in
    rw (p.1, p.2)
    (sym c.loop-statement.invariant.0
    ∙ turn_on (after_line text room) front _ _ _ (Err _) c.in-Some.ensures.steps
    (ap (after_line text room front) c.in_ok-statement.was ∙ ap (λ n. after_statement text n front c.in_ok-statement.field-0) long ∙ c.in_err-count.ensures))

pub loop-statement-preserved : goal.loop-statement-preserved
loop-statement-preserved c =
    let text = c.args.text.bytes.now in
    let room = length c.args.rows.now in
    let front = take c.loop-statement.count c.loop-statement.rows in
    let long : room ≡ length c.loop-statement.rows = omega arith in
    let gives = c.in_ok-count.ensures in (
      sym (turn_on (after_line text room) front _ _ _ (Ok _) c.in-Some.ensures.steps (ap (after_line text room front) c.in_ok-statement.was ∙ ap (λ n. after_statement text n front c.in_ok-statement.field-0) long ∙ gives.0))
          ∙ c.loop-statement.invariant.0,
      gives.1,
      gives.2,
    )

pub returns : goal.returns
returns c = (
  sym c.loop-statement.invariant.0
      ∙ turn_none (after_line c.args.text.bytes.now (length c.args.rows.now)) (take c.loop-statement.count c.loop-statement.rows) _ c.in-None.ensures.steps.0,
  c.loop-statement.invariant.1,
  c.loop-statement.invariant.2,
)
