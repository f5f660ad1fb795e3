-- Bridges by number: the pairs of lines u < v below n, in the order of u, then of v.
use Rattle.std.specs.Prelude.{◌≡◌, ℕ, zero, suc, ◌+◌, ◌-◌, ◌*◌, ◌/◌, ◌<◌, cond, ◌&&◌, Some, None, Option, Result, nat_le, nat_lt}
use Rattle.std.specs.Option.{ok_or}
use Rattle.circuit.specs.declared.bridge.Bridge.{Bridge}
use Rattle.circuit.specs.declared.refusal.CircuitFault.{CircuitFault}
use Rattle.circuit.specs.declared.refusal.CircuitFault.TheVariants.{NoBridge}

-- how many bridges n lines have
abbrev pub pairs : ℕ → ℕ
pairs zero = 0
pairs (suc n) = n + pairs n

abbrev pub number : ℕ → ℕ → ℕ → ℕ
number n u v = u * n - u * (u + 1) / 2 + v - u - 1

-- the lower line of a bridge: the first n - 1 numbers are the bridges of line 0
abbrev pub low : ℕ → ℕ → ℕ
low zero β = 0
low (suc n) β = cond (nat_lt β n) 0 (suc (low n (β - n)))

-- its higher line
abbrev pub high : ℕ → ℕ → ℕ
high zero β = 0
high (suc n) β = cond (nat_lt β n) (suc β) (suc (high n (β - n)))

abbrev pub bridge_of : ℕ → ℕ → Option Bridge
bridge_of n β = cond (nat_lt β (pairs n)) (Some (record { low = low n β; high = high n β })) None

abbrev pub number_of : ℕ → ℕ → ℕ → Option ℕ
number_of n u v = cond (nat_le n 1024 && (nat_lt u v && nat_lt v n)) (Some (number n u v)) None

abbrev pub bridge_outcome : ℕ → ℕ → Result Bridge CircuitFault
bridge_outcome n β = ok_or (bridge_of n β) (NoBridge β)

-- numbers and pairs of lines undo each other, and there are n (n - 1) / 2 of them
pub record Numbered (n : ℕ) : Type 0 where
  pub total : 2 * pairs n ≡ n * (n - 1)
  pub numbers : (u v : ℕ) → u < v → v < n → number n u v < pairs n
  pub back_low : (u v : ℕ) → u < v → v < n → low n (number n u v) ≡ u
  pub back_high : (u v : ℕ) → u < v → v < n → high n (number n u v) ≡ v
  pub ordered : (β : ℕ) → β < pairs n → low n β < high n β
  pub within : (β : ℕ) → β < pairs n → high n β < n
  pub again : (β : ℕ) → β < pairs n → number n (low n β) (high n β) ≡ β
