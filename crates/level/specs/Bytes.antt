-- What a byte of a vector stands for.
use Rattle.std.specs.Prelude.{ℕ, Bool, true, false, cond, Some, None, Option, ◌==◌}
use Rattle.level.specs.declared.level.Level.{Level}
use Rattle.level.specs.declared.level.Level.TheVariants.{Zero, One, X}

-- the ASCII bytes 0, 1 and X
abbrev pub level_of : ℕ → Option Level
level_of b = cond (b == 48) (Some Zero) (cond (b == 49) (Some One) (cond (b == 88) (Some X) None))

-- the same for a kind of value that knows X or does not
abbrev pub allowed : Bool → ℕ → Option Level
allowed true b = level_of b
allowed false b = cond (b == 88) None (level_of b)
