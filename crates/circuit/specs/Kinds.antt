-- What sets the kinds apart.
use Rattle.std.specs.Prelude.{ℕ, Bool, true, false, ◌&&◌, Some, None, Option, ◌==◌, nat_le}
use Rattle.circuit.specs.declared.kind.Kind.{Kind}
use Rattle.circuit.specs.declared.kind.Kind.TheVariants.{Input, And, Nand, Or, Nor, Xor, Xnor, Not, Buff}

-- the pin counts that are lawful for a kind; an input has no pins, whatever its count
abbrev pub takes : Kind → ℕ → Bool
takes Input c = true
takes And c = nat_le 2 c && nat_le c 8
takes Nand c = nat_le 2 c && nat_le c 8
takes Or c = nat_le 2 c && nat_le c 8
takes Nor c = nat_le 2 c && nat_le c 8
takes Xor c = nat_le 2 c && nat_le c 8
takes Xnor c = nat_le 2 c && nat_le c 8
takes Not c = c == 1
takes Buff c = c == 1

abbrev pub is_input : Option Kind → Bool
is_input None = false
is_input (Some Input) = true
is_input (Some And) = false
is_input (Some Nand) = false
is_input (Some Or) = false
is_input (Some Nor) = false
is_input (Some Xor) = false
is_input (Some Xnor) = false
is_input (Some Not) = false
is_input (Some Buff) = false

abbrev pub is_gate : Option Kind → Bool
is_gate None = false
is_gate (Some Input) = false
is_gate (Some And) = true
is_gate (Some Nand) = true
is_gate (Some Or) = true
is_gate (Some Nor) = true
is_gate (Some Xor) = true
is_gate (Some Xnor) = true
is_gate (Some Not) = true
is_gate (Some Buff) = true
