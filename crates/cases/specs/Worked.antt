-- The table of worked examples.
use Rattle.std.specs.Prelude.{◌≡◌, ℕ, List, [], ◌∷◌, drop, codes}
use Rattle.level.specs.declared.level.Level.{Level}
use Rattle.level.specs.declared.level.Level.TheVariants.{Zero, One, X}
use Rattle.circuit.specs.Bridges.{number, low, high, pairs}
use Rattle.circuit.specs.Feedback.{Chain, feedback_bridges}
use Rattle.circuit.specs.Levels.{levels}
use Rattle.circuit.specs.Rows.{inputs, outputs, taken}
use Rattle.cases.specs.Circuits.{example, c17}

-- what c17's two outputs read
abbrev c17_outputs : List ℕ → List Level
c17_outputs v = drop 9 (levels c17 v)

pub record Worked : Type 0 where
  pub is_circuit : taken example ≡ example
  pub three_inputs : inputs example ≡ 3
  pub one_output : outputs example ≡ 1
  pub ten_bridges : pairs 5 ≡ 10
  pub c_m_is_7 : number 5 2 3 ≡ 7
  pub low_of_7 : low 5 7 ≡ 2
  pub high_of_7 : high 5 7 ≡ 3
  pub six_feedback : feedback_bridges example ≡ 6
  -- a and b are pins of one gate, and a and c lead to one gate: neither is feedback
  pub a_b_no_feedback : Chain example 0 1 → ⊥
  pub a_c_no_feedback : Chain example 0 2 → ⊥
  pub a_k_feedback : Chain example 0 4
  pub reads_110 : levels example (codes "110") ≡ One ∷ One ∷ Zero ∷ Zero ∷ Zero ∷ []
  pub reads_00X : levels example (codes "00X") ≡ Zero ∷ Zero ∷ X ∷ One ∷ One ∷ []
  pub c17_is_circuit : taken c17 ≡ c17
  pub c17_11011 : c17_outputs (codes "11011") ≡ One ∷ One ∷ []
  pub c17_10000 : c17_outputs (codes "10000") ≡ Zero ∷ Zero ∷ []
  pub c17_11000 : c17_outputs (codes "11000") ≡ One ∷ One ∷ []
  pub c17_10011 : c17_outputs (codes "10011") ≡ Zero ∷ One ∷ []
