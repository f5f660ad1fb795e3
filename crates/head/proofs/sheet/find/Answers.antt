use Rattle.std.proofs.Common.{◌+◌, ◌∙◌, rules, tests}
use Rattle.std.specs.Iterator.Runs.{IsChunksExactRun}
use Rattle.head.proofs.Listings.{run_found}
use Rattle.head.proofs.sheet.find.Goals as goal

pub returns : goal.returns
returns c =
    let w = c.args.width in
    let rows = c.args.rows.now in
    let run = c.find_map.ensures.runs in
    let p = run.0 in
    let chunks : IsChunksExactRun p (w + 1) rows = search rules in
    c.ok_or.ensures.value ∙ run_found w rows c.args.vector.now c.args.rows p chunks (λ a r q k. search rules) (λ x y k. search (rules, tests)) c.find_map.result run.2
