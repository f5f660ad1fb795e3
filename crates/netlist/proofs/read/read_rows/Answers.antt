use Rattle.std.proofs.Common.{◌≡◌, length, drop, Ok, Err, sym, ap, ◌∙◌, arith, take_at, rules}
use Rattle.std.proofs.lemmas.List.{length-append}
use Rattle.std.proofs.lemmas.Result.{err_from_is_err_and}
use Rattle.std.proofs.lemmas.Bool.{cond-false, lt-leb}
use Rattle.netlist.specs.Reading.{with_marks, reading}
use Rattle.netlist.proofs.Turns.{reading_within}
use Rattle.netlist.proofs.read.read_rows.Goals as goal

pub returns-in_err-text : goal.returns-in_err-text
unfolding reading
returns-in_err-text c =
    let p = err_from_is_err_and c.from_residual.result c.from_residual.ensures.1 in
    let long = c.in_err-text.ensures.err in
    rw (p.1, p.2) (cond-false _ _ _ (lt-leb (length c.args.bytes.now) 1048576 long.1) ∙ ap Err (sym long.0))

pub returns-in_err-count : goal.returns-in_err-count
returns-in_err-count c =
    let text = c.in_ok-text.text in
    let p = err_from_is_err_and c.from_residual-in_err-count.result c.from_residual-in_err-count.ensures.1 in
    rw (p.1, p.2, sym c.in_ok-text.ensures.ok) (reading_within text.bytes.now (length c.args.rows.now) text.few ∙ ap (with_marks text.bytes.now) c.in_err-count.ensures)

pub returns-in_err-finish : goal.returns-in_err-finish
returns-in_err-finish c =
    let text = c.in_ok-text.text in
    let p = err_from_is_err_and c.from_residual-in_err-finish.result c.from_residual-in_err-finish.ensures.1 in
    rw (p.1, p.2, sym c.in_ok-text.ensures.ok)
    (reading_within text.bytes.now (length c.args.rows.now) text.few ∙ ap (with_marks text.bytes.now) c.in_ok-count.ensures.0 ∙ c.in_err-finish.ensures)

pub returns : goal.returns
returns c =
    let text = c.in_ok-text.text in
    let n = c.in_ok-count.count in
    let rows = c.finish.new.rows in
    let long : length rows ≡ n = search rules in
    let after = drop n c.define_lines.new.rows in (
      rw (sym c.in_ok-text.ensures.ok)
          (reading_within text.bytes.now (length c.args.rows.now) text.few ∙ ap (with_marks text.bytes.now) c.in_ok-count.ensures.0 ∙ c.in_ok-finish.ensures
          ∙ ap Ok (sym (take_at rows after n long))),
      omega (arith, length-append rows after, long),
      c.in_ok-count.ensures.2,
    )
