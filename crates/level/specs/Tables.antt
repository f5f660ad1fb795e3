-- The tables of line values, for one operand and for two.
use Rattle.std.specs.Prelude.{◌≡◌, Bool, true, false, ◌⊎◌}
use Rattle.level.specs.declared.level.Level.{Level}
use Rattle.level.specs.declared.level.Level.TheVariants.{Zero, One, X}

-- NOT swaps 0 and 1 and keeps X
abbrev pub not3 : Level → Level
not3 Zero = One
not3 One = Zero
not3 X = X

-- AND is 0 where an operand is 0, else 1 where both are 1, else X
abbrev pub and3 : Level → Level → Level
and3 Zero b = Zero
and3 One b = b
and3 X Zero = Zero
and3 X One = X
and3 X X = X

-- OR is 1 where an operand is 1, else 0 where both are 0, else X
abbrev pub or3 : Level → Level → Level
or3 One b = One
or3 Zero b = b
or3 X Zero = X
or3 X One = One
or3 X X = X

-- XOR is X where an operand is X, else 1 exactly where the operands differ
abbrev pub xor3 : Level → Level → Level
xor3 Zero b = b
xor3 One b = not3 b
xor3 X b = X

-- one reads 0 and the other 1
abbrev pub Opposite : Level → Level → Type 0
Opposite a b = ((a ≡ Zero) × (b ≡ One)) ⊎ ((a ≡ One) × (b ≡ Zero))

abbrev pub opposed : Level → Level → Bool
opposed Zero Zero = false
opposed Zero One = true
opposed Zero X = false
opposed One Zero = true
opposed One One = false
opposed One X = false
opposed X b = false
