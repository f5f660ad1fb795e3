-- Tests over the numbers below n: the first that passes, and how many.
use Rattle.std.specs.Prelude.{ℕ, zero, suc, ◌+◌, Bool, if◌then◌else◌, nat_lt}

-- the smallest number below n that passes, or n
abbrev pub first : ℕ → (ℕ → Bool) → ℕ
first zero p = 0
first (suc n) p = if nat_lt (first n p) n then first n p else if p n then n else suc n

-- how many numbers below n pass
abbrev pub count : ℕ → (ℕ → Bool) → ℕ
count zero p = 0
count (suc n) p = (if p n then 1 else 0) + count n p
