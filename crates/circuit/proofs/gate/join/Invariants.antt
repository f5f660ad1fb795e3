use Rattle.std.proofs.Common.{◌≡◌, drop, fold, map}
use Rattle.level.specs.declared.level.Level.{Level}
use Rattle.circuit.specs.Gates.{ReadsAs}
use Rattle.circuit.specs.Levels.{pin_level}
use Rattle.circuit.proofs.gate.join.Given as goal

abbrev pub invariant-loop-pin : goal.invariant-loop-pin
invariant-loop-pin g l =
    let reads = g.V.LineValue.reads in
    let at = pin_level (map reads l.cells) in
    (table : Level → Level → Level) → ReadsAs reads (goal.F-post g l.op) table
    → fold table (reads l.all) (map at (drop l.pin-index l.rest)) ≡ fold table (reads l.initial.all) (map at l.rest)
