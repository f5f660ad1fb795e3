use Rattle.std.proofs.Common.{◌≡◌, ℕ, ◌<◌, length, map, get_or}
use Rattle.session.specs.Refining.{refined_part}
use Rattle.session.proofs.Found.{Noted}
use Rattle.session.proofs.parts.refine.Given as goal

abbrev pub invariant-loop-line : goal.invariant-loop-line
invariant-loop-line g l =
    let levels = map g.V.LineValue.reads l.values in
    (length l.names ≡ 1024)
    × (length l.after ≡ 1024)
    × Noted l.before levels l.line l.names
    × ((k : ℕ) → k < l.line → get_or l.after k 0 ≡ refined_part l.before levels k)
