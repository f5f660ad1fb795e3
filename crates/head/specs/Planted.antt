-- The planted head.
use Rattle.std.specs.Prelude.{ℕ, Bool, if◌then◌else◌, ◌&&◌, List, length, nat_le, nat_lt}
use Rattle.circuit.specs.declared.row.Row.{Row}
use Rattle.circuit.specs.Bridges.{pairs}
use Rattle.circuit.specs.Detection.{detects}
use Rattle.circuit.specs.Rows.{inputs}
use Rattle.head.specs.Meaning.{Meaning, high, low, open', binary}

-- whether the bridge is one of the circuit's, and each line has a cell
abbrev pub ready : List Row → ℕ → ℕ → Bool
ready rows β cells = nat_lt β (pairs (length rows)) && nat_le (length rows) cells

-- high exactly for the vectors that detect the bridge, and else low
abbrev pub planted : List Row → ℕ → ℕ → Meaning
planted rows β cells =
    record {
      width = inputs rows;
      adaptors = 0;
      standing = λ v. if ready rows β cells && binary v then (if detects rows v β then high else low) else open';
    }
