use Rattle.std.proofs.Common.{◌≡◌, ℕ, ◌<◌, List, length, map, get_or, set, refl, sym, ap, ◌∙◌, arith}
use Rattle.std.proofs.lemmas.List.{length-set, length-map, get_or-map}
use Rattle.std.proofs.lemmas.List.Edits.{fill_by_more}
use Rattle.level.specs.declared.level.Level.{Level}
use Rattle.level.specs.declared.level.Level.TheVariants.{X}
use Rattle.session.specs.Refining.{refined_part}
use Rattle.session.specs.declared.parts.Names.{Names}
use Rattle.session.proofs.Found.{name_is, noted_none, noted_more}
use Rattle.session.proofs.Refines.{refined_made, refined_history}
use Rattle.session.proofs.parts.refine.Goals as goal

pub loop-line-init : goal.loop-line-init
loop-line-init g c = (refl, refl, noted_none c.args.before.now (map g.V.LineValue.reads c.args.values.now) 1024, λ k h. absurd (omega arith))

pub loop-line-preserved : goal.loop-line-preserved
loop-line-preserved g c =
    let ps : List ℕ = c.args.before.now in
    let ls : List Level = map g.V.LineValue.reads c.args.values.now in
    let i = c.loop-line.line in
    let names : List Names = c.loop-line.names in
    let level : c.read.result ≡ get_or ls i X = c.read.ensures ∙ ap g.V.LineValue.reads c.index-values-line.is ∙ sym (get_or-map g.V.LineValue.reads c.args.values.now i _ X c.loop-line-test.true) in
    let room : get_or ps i 0 < length names = omega (arith, c.requires.within i 0 (omega arith), c.loop-line.invariant.0) in
    let is = name_is ps ls i c.read.result level names c.name_line.result c.loop-line.invariant.2 room c.name_line.ensures.value in (
      c.name_line.ensures.long ∙ c.loop-line.invariant.0,
      length-set c.loop-line.after i c.name_line.result ∙ c.loop-line.invariant.1,
      noted_more ps ls i c.read.result level names _ c.name_line.result c.loop-line.invariant.2 room c.name_line.ensures.long c.name_line.ensures.value c.name_line.ensures.kept,
      λ k h. ap (λ v. get_or (set c.loop-line.after i v) k 0) is ∙ fill_by_more (refined_part ps ls) c.loop-line.after i 0 (omega (arith, c.loop-line.invariant.1)) c.loop-line.invariant.3 k h,
    )

pub returns-clause-value : goal.returns-clause-value
returns-clause-value g c =
    let vs = c.args.values.now in
    refined_made c.args.before.now (map g.V.LineValue.reads vs) c.loop-line.after (length vs) (length-map vs g.V.LineValue.reads) (omega (arith, c.loop-line.invariant.1)) (λ k h. c.loop-line.invariant.3 k (omega arith))

pub returns-clause-history : goal.returns-clause-history
returns-clause-history g c rows h w r e f =
    let vs = c.args.values.now in
    let ls : List Level = map g.V.LineValue.reads vs in
    let long : length ls ≡ length vs = length-map vs g.V.LineValue.reads in
    let made = refined_made c.args.before.now ls c.loop-line.after (length vs) long (omega (arith, c.loop-line.invariant.1)) (λ k h. c.loop-line.invariant.3 k (omega arith)) in
    refined_history rows h w r c.args.before.now ls c.loop-line.after (length vs) long made e f
