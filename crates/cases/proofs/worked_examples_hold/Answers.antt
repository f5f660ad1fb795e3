use Rattle.std.proofs.Common.{false, refl, lit<}
use Rattle.std.proofs.lemmas.Bool.{both_ways}
use Rattle.circuit.proofs.Chains.{feedback_decides}
use Rattle.cases.specs.Circuits.{example}
use Rattle.cases.proofs.worked_examples_hold.Goals as goal

pub returns : goal.returns
returns c =
    record {
      is_circuit = refl;
      three_inputs = refl;
      one_output = refl;
      ten_bridges = refl;
      c_m_is_7 = refl;
      low_of_7 = refl;
      high_of_7 = refl;
      six_feedback = refl;
      a_b_no_feedback = λ chain. both_ways false refl ((feedback_decides example refl 0 1 (lit< tt) (lit< tt)).1 chain);
      a_c_no_feedback = λ chain. both_ways false refl ((feedback_decides example refl 0 2 (lit< tt) (lit< tt)).1 chain);
      a_k_feedback = (feedback_decides example refl 0 4 (lit< tt) (lit< tt)).0 refl;
      reads_110 = refl;
      reads_00X = refl;
      c17_is_circuit = refl;
      c17_11011 = refl;
      c17_10000 = refl;
      c17_11000 = refl;
      c17_10011 = refl;
    }
