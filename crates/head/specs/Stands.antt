-- What it means that a head stands for a bridge.
use Rattle.std.specs.Prelude.{◌≡◌, ℕ, true, false, List, length}
use Rattle.circuit.specs.declared.row.Row.{Row}
use Rattle.circuit.specs.Detection.{detects}
use Rattle.circuit.specs.Rows.{inputs}
use Rattle.head.specs.Meaning.{Meaning, high, low, binary, reversed}
use Rattle.head.specs.Planted.{ready, planted}

-- a width of the circuit's inputs, high only where the bridge is detected, and low only where it is not
pub record StandsFor (rows : List Row) (β : ℕ) (m : Meaning) : Type 0 where
  pub wide : m.width ≡ inputs rows
  pub where_high : (v : List ℕ) → length v ≡ m.width → m.standing v ≡ high → detects rows v β ≡ true
  pub where_low : (v : List ℕ) → length v ≡ m.width → m.standing v ≡ low → detects rows v β ≡ false

-- a planted head with its bridge and cells enough stands for the bridge, and with a reverser over it does
-- not, as long as there is a vector of 0 and 1 of its width
pub record Plants (rows : List Row) (β cells : ℕ) : Type 0 where
  pub stands : ready rows β cells ≡ true → StandsFor rows β (planted rows β cells)
  pub turned_round : ready rows β cells ≡ true → (v : List ℕ) → length v ≡ inputs rows → binary v ≡ true → StandsFor rows β (reversed (planted rows β cells)) → ⊥

-- two reversers undo each other
abbrev pub Undone : Meaning → Type 0
Undone m = (v : List ℕ) → (reversed (reversed m)).standing v ≡ m.standing v
