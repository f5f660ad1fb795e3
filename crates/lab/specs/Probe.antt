-- What the lab's own head means.
use Rattle.std.specs.Prelude.{ℕ, if◌then◌else◌, List, ◌==◌, count_by, nat_le}
use Rattle.head.specs.Meaning.{Meaning, high, low, open', binary}

abbrev pub ones : List ℕ → ℕ
ones v = count_by (λ b. b == 49) v

abbrev pub probe : ℕ → ℕ → Meaning
probe width least = record { width = width; adaptors = 0; standing = λ v. if binary v then (if nat_le least (ones v) then high else low) else open' }
