-- Feedback bridges: a chain of pins leads from the lower line to the higher one.
use Rattle.std.specs.Prelude.{◌≡◌, ℕ, ◌<◌, Bool, false, if◌then◌else◌, ◌||◌, List, [], length, Decides, Ok, Err, Result, ◌==◌, nat_lt, slice_index, slice_index_or}
use Rattle.std.specs.List.{list_any}
use Rattle.circuit.specs.declared.refusal.CircuitFault.{CircuitFault}
use Rattle.circuit.specs.declared.refusal.CircuitFault.TheVariants.{NoBridge}
use Rattle.circuit.specs.declared.row.Row.{Row}
use Rattle.circuit.specs.Bridges.{pairs, low, high}
use Rattle.circuit.specs.Levels.{build}
use Rattle.circuit.specs.Rows.{row_at, pins_of}
use Rattle.circuit.specs.Search.{count}

-- line u is a pin of line v
pub record IsPin (rows : List Row) (u v : ℕ) : Type 0 where
  pub line : v < length rows
  pub place : ℕ
  pub used : place < length (pins_of (row_at rows v))
  pub here : slice_index (pins_of (row_at rows v)) place ≡ u

-- lines from u to v, each a pin of the next
pub data Chain (rows : List Row) (u : ℕ) : ℕ → Type 0 where
  link : {v : ℕ} → IsPin rows u v → Chain rows u v
  longer : {w v : ℕ} → Chain rows u w → IsPin rows w v → Chain rows u v

-- whether the next line is u or has a pin that u reaches
abbrev pub reach : ℕ → List Bool → Row → Bool
reach u past r = length past == u || list_any (λ p. slice_index_or past p false) (pins_of r)

-- the lines that u reaches, itself among them
abbrev pub cone : List Row → ℕ → List Bool
cone rows u = build (reach u) rows []

abbrev pub feedback : List Row → ℕ → ℕ → Bool
feedback rows u v = slice_index_or (cone rows u) v false

-- a line past u is in its cone exactly where a chain leads to it
abbrev pub Chains : List Row → ℕ → Type 0
Chains rows u = (v : ℕ) → u < v → v < length rows → Decides (feedback rows u v) (Chain rows u v)

abbrev pub feedback_bridge : List Row → ℕ → Bool
feedback_bridge rows β = feedback rows (low (length rows) β) (high (length rows) β)

abbrev pub feedback_outcome : List Row → ℕ → Result Bool CircuitFault
feedback_outcome rows β = if nat_lt β (pairs (length rows)) then Ok (feedback_bridge rows β) else Err (NoBridge β)

abbrev pub feedback_bridges : List Row → ℕ
feedback_bridges rows = count (pairs (length rows)) (feedback_bridge rows)
