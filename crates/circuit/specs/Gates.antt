-- What a gate reads from its pins' readings.
use Rattle.std.specs.Prelude.{◌≡◌, Bool, true, false, if◌then◌else◌, not, List, [], ◌∷◌}
use Rattle.std.specs.List.{list_all, list_any}
use Rattle.level.specs.declared.level.Level.{Level}
use Rattle.level.specs.declared.level.Level.TheVariants.{Zero, One, X}
use Rattle.level.specs.Tables.{not3}
use Rattle.circuit.specs.declared.kind.Kind.{Kind}
use Rattle.circuit.specs.declared.kind.Kind.TheVariants.{Input, And, Nand, Or, Nor, Xor, Xnor, Not, Buff}

abbrev pub is_zero : Level → Bool
is_zero Zero = true
is_zero One = false
is_zero X = false

abbrev pub is_one : Level → Bool
is_one Zero = false
is_one One = true
is_one X = false

abbrev pub is_x : Level → Bool
is_x Zero = false
is_x One = false
is_x X = true

-- an odd number of ones
abbrev pub odd_ones : List Level → Bool
odd_ones [] = false
odd_ones (a ∷ ls) = if is_one a then not (odd_ones ls) else odd_ones ls

-- 0 if a pin is 0, else 1 if all are 1, else X
abbrev pub and_of : List Level → Level
and_of ls = if list_any is_zero ls then Zero else if list_all is_one ls then One else X

-- 1 if a pin is 1, else 0 if all are 0, else X
abbrev pub or_of : List Level → Level
or_of ls = if list_any is_one ls then One else if list_all is_zero ls then Zero else X

-- X if a pin is X, else 1 exactly for an odd number of ones
abbrev pub xor_of : List Level → Level
xor_of ls = if list_any is_x ls then X else if odd_ones ls then One else Zero

-- the reading of a single pin
abbrev pub only : List Level → Level
only [] = X
only (a ∷ ls) = a

-- an input is no gate, and reads its byte of the vector instead
abbrev pub gate_level : Kind → List Level → Level
gate_level And ls = and_of ls
gate_level Nand ls = not3 (and_of ls)
gate_level Or ls = or_of ls
gate_level Nor ls = not3 (or_of ls)
gate_level Xor ls = xor_of ls
gate_level Xnor ls = not3 (xor_of ls)
gate_level Not ls = not3 (only ls)
gate_level Buff ls = only ls
gate_level Input ls = only ls

-- whether a gate inverts what its pins come to
abbrev pub inverts : Kind → Bool
inverts And = false
inverts Nand = true
inverts Or = false
inverts Nor = true
inverts Xor = false
inverts Xnor = true
inverts Not = true
inverts Buff = false
inverts Input = false

-- a gate's reading before it is inverted
abbrev pub joined : Kind → List Level → Level
joined And ls = and_of ls
joined Nand ls = and_of ls
joined Or ls = or_of ls
joined Nor ls = or_of ls
joined Xor ls = xor_of ls
joined Xnor ls = xor_of ls
joined Not ls = only ls
joined Buff ls = only ls
joined Input ls = only ls

-- what is answered to two values reads as the table gives from what they read
abbrev pub ReadsAs : {V : Type 0} → (V → Level) → (V → V → V → Type 0) → (Level → Level → Level) → Type 0
ReadsAs {V} reads answers table = (a b c : V) → answers a b c → reads c ≡ table (reads a) (reads b)
