use Rattle.std.proofs.Common.{◌≡◌, ◌≤◌, true, false, drop, length}
use Rattle.job.proofs.Cuts.{Passed}
use Rattle.job.proofs.split.split.Given as goal

abbrev pub invariant-loop-line : goal.invariant-loop-line
invariant-loop-line l =
    Passed l.job l.start
    × (l.line-iterator.done ≡ false → (l.start ≤ length l.job) × (l.line-iterator.rest.now ≡ drop l.start l.job))
    × (l.line-iterator.done ≡ true → length l.job ≤ l.start)
