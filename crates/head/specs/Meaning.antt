-- What a head means.
use Rattle.std.specs.Prelude.{◌≡◌, ℕ, ◌≤◌, Bool, false, if◌then◌else◌, ◌||◌, List, length, codes, Ok, Err, Result, ◌==◌}
use Rattle.std.specs.List.{list_all}
use Rattle.head.specs.declared.fault.HeadFault.{HeadFault}
use Rattle.head.specs.declared.fault.HeadFault.TheVariants.{Open, Width}
use Rattle.head.specs.declared.reading.Reading.{Reading}
use Rattle.head.specs.declared.reading.Reading.TheVariants.{High, Low}
use Rattle.head.specs.Refusals.{one_more, raised}

-- a standing answer
pub data Standing : Type 0 where
  high : Standing
  low : Standing
  open' : Standing

pub record Meaning : Type 0 where
  pub width : ℕ
  pub adaptors : ℕ
  pub standing : List ℕ → Standing

-- a string of the ASCII bytes 0 and 1
abbrev pub binary_byte : ℕ → Bool
binary_byte b = b == 48 || b == 49

abbrev pub binary : List ℕ → Bool
binary v = list_all binary_byte v

-- the limits, and that other strings are open
pub record Lawful (m : Meaning) : Type 0 where
  pub narrow : m.width ≤ 256
  pub few : m.adaptors ≤ 255
  pub others_open : (v : List ℕ) → length v ≡ m.width → binary v ≡ false → m.standing v ≡ open'

abbrev pub answered : ℕ → Standing → Result Reading HeadFault
answered a high = Ok High
answered a low = Ok Low
answered a open' = Err (Open a)

-- what measuring gives: the width is judged first
abbrev pub measured : Meaning → List ℕ → Result Reading HeadFault
measured m v = if length v == m.width then answered m.adaptors (m.standing v) else Err (Width m.adaptors)

-- of a head with that width and so many adaptors only a string of the width of 0s and 1s may be asked; the width is
-- judged first
abbrev pub binary_outcome : ℕ → ℕ → List ℕ → Result (Unit {0}) HeadFault
binary_outcome width adaptors v =
    if length v == width then (if binary v then Ok tt else Err (Open adaptors)) else Err (Width adaptors)

-- the reverser: high and low swapped, open kept
abbrev pub swapped : Standing → Standing
swapped high = low
swapped low = high
swapped open' = open'

abbrev pub reversed : Meaning → Meaning
reversed m = record { width = m.width; adaptors = one_more m.adaptors; standing = λ v. swapped (m.standing v) }

abbrev pub turned : Reading → Reading
turned High = Low
turned Low = High

-- how a reading is printed
abbrev pub reading_text : Reading → List ℕ
reading_text High = codes "high"
reading_text Low = codes "low"

abbrev pub turned_result : Result Reading HeadFault → Result Reading HeadFault
turned_result (Ok r) = Ok (turned r)
turned_result (Err f) = Err (raised f)
