use Rattle.std.proofs.Common.{Ok, Err, sym, ap, ◌∙◌}
use Rattle.std.proofs.lemmas.Result.{err_from_is_err_and}
use Rattle.netlist.specs.Reading.{marked_line}
use Rattle.netlist.proofs.Turns.{turn_on, turn_none}
use Rattle.netlist.proofs.mark.mark_outputs.Goals as goal

pub returns-in_err-statement : goal.returns-in_err-statement
returns-in_err-statement c =
    let text = c.args.text.bytes.now in
    let rows = c.loop-statement.rows in
    let p = err_from_is_err_and c.from_residual.result c.from_residual.ensures.1 in
    rw (p.1, p.2) (sym c.loop-statement.invariant ∙ turn_on (marked_line text) rows _ _ _ _ c.in-Some.ensures.steps (ap (marked_line text rows) c.in_err-statement.was))

pub returns-in_err-mark : goal.returns-in_err-mark
returns-in_err-mark c =
    let text = c.args.text.bytes.now in
    let rows = c.loop-statement.rows in
    let p = err_from_is_err_and c.from_residual-in_err-mark.result c.from_residual-in_err-mark.ensures.1 in
    rw (p.1, p.2)
    (sym c.loop-statement.invariant ∙ turn_on (marked_line text) rows _ _ _ (Err _) c.in-Some.ensures.steps (ap (marked_line text rows) c.in_ok-statement.was ∙ c.in_err-mark.ensures))

pub loop-statement-preserved : goal.loop-statement-preserved
loop-statement-preserved c =
    let text = c.args.text.bytes.now in
    let rows = c.loop-statement.rows in
    sym (turn_on (marked_line text) rows _ _ _ (Ok _) c.in-Some.ensures.steps (ap (marked_line text rows) c.in_ok-statement.was ∙ c.in_ok-mark.ensures)) ∙ c.loop-statement.invariant

pub returns : goal.returns
returns c = sym c.loop-statement.invariant ∙ turn_none (marked_line c.args.text.bytes.now) c.loop-statement.rows _ c.in-None.ensures.steps.0
