-- What rows make a circuit.
use Rattle.std.specs.Prelude.{◌≡◌, ℕ, ◌<◌, ◌≤◌, All, Bool, true, false, count_by, drop, if◌then◌else◌, not, ◌&&◌, List, [], length, take, replicate, is_some, Some, None, Ok, Err, Option, Result, nat_le, nat_lt, slice_index_or}
use Rattle.std.specs.List.{enumerate_from, list_all, position_or_len}
use Rattle.circuit.specs.declared.refusal.CircuitFault.{CircuitFault}
use Rattle.circuit.specs.declared.refusal.CircuitFault.TheVariants.{NoLine}
use Rattle.circuit.specs.declared.kind.Kind.{Kind}
use Rattle.circuit.specs.declared.row.Row.{Row}
use Rattle.circuit.specs.Kinds.{takes, is_input, is_gate}

abbrev pub blank : Row
blank = record { kind = None; count = 0; pins = replicate 8 0; output = false; name = record { offset = 0; len = 0 } }

-- what `row_at` gives past the last row
abbrev pub no_row : Row
no_row = record { kind = None; count = 0; pins = []; output = false; name = record { offset = 0; len = 0 } }

-- the row of line i
abbrev pub row_at : List Row → ℕ → Row
row_at rows i = slice_index_or rows i no_row

-- a row is blank exactly where it has no kind
abbrev pub named : Row → Bool
named r = is_some r.kind

-- the pins of a row: a gate's used ones
abbrev pub pins_of : Row → List ℕ
pins_of r = if is_gate r.kind then take r.count r.pins else []

abbrev pub counted : Option Kind → ℕ → Bool
counted None c = false
counted (Some k) c = takes k c

abbrev pub all_below : ℕ → List ℕ → Bool
all_below n ps = list_all (λ p. nat_lt p n) ps

-- each pin is below n
abbrev pub Below : ℕ → List ℕ → Type 0
Below n ps = All (λ p. p < n) ps

-- the row of line i: a lawful pin count, and only pins below it
abbrev pub row_lawful : ℕ → Row → Bool
row_lawful i r = counted r.kind r.count && all_below i (pins_of r)

abbrev pub inputs : List Row → ℕ
inputs rows = count_by (λ r. is_input r.kind) rows

-- how many of the lines below i are inputs
abbrev pub inputs_before : List Row → ℕ → ℕ
inputs_before rows i = inputs (take i rows)

abbrev pub outputs : List Row → ℕ
outputs rows = count_by (λ r. r.output) rows

abbrev pub output_outcome : List Row → ℕ → Result Bool CircuitFault
output_outcome rows i = if nat_lt i (length rows) then Ok (row_at rows i).output else Err (NoLine i)

-- each row is lawful at its place
abbrev pub each_lawful : List Row → Bool
each_lawful rows = list_all (λ e. row_lawful e.0 e.1) (enumerate_from 0 rows)

abbrev pub lawful : List Row → Bool
lawful rows = nat_le (length rows) 1024 && (nat_le (inputs rows) 256 && each_lawful rows)

-- how many rows stand before the first blank one
abbrev pub line_count : List Row → ℕ
line_count rows = position_or_len (λ r. not (named r)) rows

abbrev pub lines : List Row → List Row
lines rows = take (line_count rows) rows

-- no row stands after the first blank one
abbrev pub rest_blank : List Row → Bool
rest_blank rows = list_all (λ r. not (named r)) (drop (line_count rows) rows)

-- the circuit over rows: of no lines where they are unlawful or a row stands after a blank one
abbrev pub taken : List Row → List Row
taken rows = if lawful (lines rows) && rest_blank rows then lines rows else []

-- what makes rows a circuit, in words: the limits, and each line an input or a gate with a lawful pin
-- count and only pins below it
pub record Lawful (rows : List Row) : Type 0 where
  pub few_lines : length rows ≤ 1024
  pub few_inputs : inputs rows ≤ 256
  pub pin_counts : (i : ℕ) → i < length rows → counted (row_at rows i).kind (row_at rows i).count ≡ true
  pub pins_below : (i : ℕ) → i < length rows → Below i (pins_of (row_at rows i))

-- the lines are the rows before the first blank one: none of them is blank, and the next row is, if any
pub record Lines (rows ls : List Row) : Type 0 where
  pub front : ls ≡ take (length ls) rows
  pub filled : (i : ℕ) → i < length ls → named (row_at rows i) ≡ true
  pub stops : length ls < length rows → named (row_at rows (length ls)) ≡ false

abbrev pub BlankAfter : List Row → Type 0
BlankAfter rows = (i : ℕ) → line_count rows ≤ i → i < length rows → named (row_at rows i) ≡ false
