-- When a vector detects a bridge.
use Rattle.std.specs.Prelude.{ℕ, Bool, cond, ◌&&◌, List, length, Some, None, Option, nat_lt, slice_index_or}
use Rattle.level.specs.declared.level.Level.{Level}
use Rattle.level.specs.declared.level.Level.TheVariants.{X}
use Rattle.level.specs.Tables.{opposed}
use Rattle.circuit.specs.declared.row.Row.{Row}
use Rattle.circuit.specs.Bridges.{low, high}
use Rattle.circuit.specs.Levels.{level}

-- from readings: whether one of two lines reads 0 and the other 1, where both are read
abbrev pub detected_in : List Level → ℕ → ℕ → Option Bool
detected_in ls u v = cond (nat_lt u (length ls) && nat_lt v (length ls)) (Some (opposed (slice_index_or ls u X) (slice_index_or ls v X))) None

-- under a vector, for two lines
abbrev pub detects_lines : List Row → List ℕ → ℕ → ℕ → Bool
detects_lines rows w u v = opposed (level rows w u) (level rows w v)

-- and for a bridge by its number
abbrev pub detects : List Row → List ℕ → ℕ → Bool
detects rows w β = detects_lines rows w (low (length rows) β) (high (length rows) β)
