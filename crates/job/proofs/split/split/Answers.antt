use Rattle.std.proofs.Common.{◌≡◌, ◌+◌, true, false, length, refl, ap, ◌∙◌, sym, subst, take, drop, arith, rules}
use Rattle.std.proofs.lemmas.List.{drop_min, take_rest}
use Rattle.std.proofs.lemmas.List.Sorted.{answers_always}
use Rattle.job.specs.Parts.{line_at, line_end, percent_line, percent_at}
use Rattle.job.proofs.Cuts.{Passed, ends, end_within, found, missing, part, passes, percent_some}
use Rattle.job.proofs.split.split.Goals as goal

pub returns-then-is_percent_line : goal.returns-then-is_percent_line
returns-then-is_percent_line c =
    let split = c.in-Some.ensures.steps in
    let line = part c.args.job.now c.loop-line.start _ c.in-Some.line.now c.next.new.self.rest.now c.next.new.self.done (c.loop-line.invariant.1 split.0) split.1 (split.2 ends (answers_always _ _ _ (λ f b r g k. search rules))).1 in
    let job = c.args.job.now in
    let s = c.loop-line.start in
    let here : percent_line (line_at job s) ≡ true = subst (λ l. percent_line l ≡ true) line.is (sym c.if-is_percent_line.ensures) in
    let some = end_within job s line.within in
    let at : percent_at job ≡ s = found job s c.loop-line.invariant.0 (omega (arith, some, percent_some (line_at job s) here)) here in
    let end : s + length c.in-Some.line.now ≡ line_end job (percent_at job) = ap (λ l. s + length l) line.is ∙ ap (line_end job) (sym at) in (
      c.if-job-gt-MAX_JOB.false,
      omega (arith, at, some, percent_some (line_at job s) here),
      ap (λ k. take k job) (sym at),
      take_rest job c.min.result ∙ ap (λ k. drop k job) c.min.ensures ∙ drop_min _ job ∙ ap (λ k. drop (k + 1) job) end,
    )

pub loop-line-preserved : goal.loop-line-preserved
loop-line-preserved c =
    let split = c.in-Some.ensures.steps in
    let line = part c.args.job.now c.loop-line.start _ c.in-Some.line.now c.next.new.self.rest.now c.next.new.self.done (c.loop-line.invariant.1 split.0) split.1 (split.2 ends (answers_always _ _ _ (λ f b r g k. search rules))).1 in
    let job = c.args.job.now in
    let s = c.loop-line.start in
    let no : percent_line (line_at job s) ≡ false = subst (λ l. percent_line l ≡ false) line.is (sym c.if-is_percent_line.ensures) in
    let end : line_end job s ≡ s + length c.in-Some.line.now = ap (λ l. s + length l) (sym line.is) in
    (subst (λ n. Passed job (n + 1)) end (passes job s c.loop-line.invariant.0 line.within no), line.more, line.last)

pub returns : goal.returns
returns c =
    (c.if-job-gt-MAX_JOB.false, refl, missing c.args.job.now c.loop-line.start c.loop-line.invariant.0 (c.loop-line.invariant.2 c.in-None.ensures.steps.0))
