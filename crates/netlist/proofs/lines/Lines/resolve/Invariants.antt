use Rattle.std.proofs.Common.{◌≡◌, length, drop, replicate}
use Rattle.netlist.specs.Definitions.{resolved}
use Rattle.netlist.proofs.lines.Lines.resolve.Given as goal

abbrev pub invariant-loop-i : goal.invariant-loop-i
invariant-loop-i l =
    (resolved l.self.text.bytes.now l.self.rows.now (drop l.i l.pins) l.lines l.i ≡ resolved l.self.text.bytes.now l.self.rows.now l.pins (replicate 8 0) 0)
    × (length l.lines ≡ 8)
