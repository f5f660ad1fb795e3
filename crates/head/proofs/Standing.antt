-- Planted heads stand for their bridges; reversers undo each other.
use Rattle.std.proofs.Common.{ℕ, List, refl, arith}
use Rattle.circuit.specs.declared.row.Row.{Row}
use Rattle.head.specs.Meaning.{Meaning}
use Rattle.head.specs.Stands.{Plants, Undone}

pub plants : (rows : List Row) (β cells : ℕ) → Plants rows β cells
plants rows β cells =
    record {
      stands = λ on. record { wide = refl; where_high = λ v l e. grind arith; where_low = λ v l e. grind arith };
      turned_round = λ on v l two s. let above = s.where_high v l in let below = s.where_low v l in grind arith;
    }

pub undone : (m : Meaning) → Undone m
undone m v = grind arith
