use Rattle.std.proofs.Common.{[], length, drop, map, Ok, sym, refl, ap, ◌∙◌, subst, arith, length-drop}
use Rattle.std.specs.List.{AllByRecursion}
use Rattle.std.proofs.lemmas.Result.{err_from_is_err_and}
use Rattle.netlist.specs.Reading.{statements_after}
use Rattle.netlist.specs.Statements.{said}
use Rattle.netlist.specs.Tokens.{lines_after, tokens_of}
use Rattle.netlist.specs.declared.state.State.TheVariants.{Start}
use Rattle.netlist.proofs.Ends.{Ends, whole_at_end, line_ends}
use Rattle.netlist.proofs.Forms.{line_one_end}
use Rattle.netlist.proofs.Said.{said_first, ends_on}
use Rattle.netlist.proofs.Words.{Before, tokens_before}
use Rattle.netlist.proofs.statements.Statements.read_statement.Goals as goal

pub loop-token-init : goal.loop-token-init
loop-token-init c =
    let text = c.args.self.now.text.bytes.now in
    let at = c.args.at in
    let all = ap (λ s. tokens_of s.text.now s.next) c.into_iter-token-iterator.ensures.into_iter_gives in
    let words = tokens_before (length text) [] (drop at text) at (omega arith) (omega (arith, c.requires, length-drop at text)) in
    rw all (refl, line_one_end text at, words, line_ends text at c.requires, refl, refl)

pub loop-token-preserved : goal.loop-token-preserved
loop-token-preserved c =
    let text = c.args.self.now.text.bytes.now in
    let at = c.args.at in
    let steps = c.in-Some.ensures.steps in
    let leads = sym c.advance.ensures ∙ c.in_ok-next.was ∙ ap Ok c.in-Continue.is in (
      sym (said_first c.loop-token.state _ _ _ _ steps leads) ∙ c.loop-token.invariant.0,
      ends_on c.loop-token.state c.in-Continue.next _ _ _ steps leads c.loop-token.invariant.1,
      (subst (AllByRecursion (Before (length text))) steps c.loop-token.invariant.2).1,
      (subst (AllByRecursion (Ends text (lines_after text at))) steps c.loop-token.invariant.3).1,
      c.loop-token.invariant.4,
      c.loop-token.invariant.5,
    )

pub returns-in-Break : goal.returns-in-Break
returns-in-Break c =
    let text = c.args.self.now.text.bytes.now in
    let at = c.args.at in
    let steps = c.in-Some.ensures.steps in
    let leads = sym c.advance.ensures ∙ c.in_ok-next.was ∙ ap Ok c.in-Break.is in
    let first = subst (AllByRecursion (Ends text (lines_after text at))) steps c.loop-token.invariant.3 in
    let ends = whole_at_end c.loop-token.state _ _ leads text (lines_after text at) first.0 in
    record {
      says = sym (said_first c.loop-token.state _ _ _ _ steps leads) ∙ c.loop-token.invariant.0;
      text = c.loop-token.invariant.4;
      after = rw c.place.ensures (ap (map (said Start)) ends.1);
    }

pub returns-in_err-next : goal.returns-in_err-next
returns-in_err-next c =
    let leads = sym c.advance.ensures ∙ c.in_err-next.was in
    let p = err_from_is_err_and c.from_residual.result c.from_residual.ensures.1 in
    record {
      says = rw (p.1, p.2) (sym (said_first c.loop-token.state _ _ _ _ c.in-Some.ensures.steps leads) ∙ c.loop-token.invariant.0);
      text = c.loop-token.invariant.4;
      after = ap (statements_after c.args.self.now.text.bytes.now) c.loop-token.invariant.5;
    }
