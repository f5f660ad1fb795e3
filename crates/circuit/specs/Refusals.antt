-- Numbers, places and layers of what a circuit refuses, and the layers' names.
use Rattle.std.specs.Prelude.{ℕ, ◌++◌, List, codes}
use Rattle.std.specs.Fmt.{decimal}
use Rattle.circuit.specs.declared.refusal.CircuitFault.{CircuitFault}
use Rattle.circuit.specs.declared.refusal.CircuitFault.TheVariants.{NoLine, NoBridge}
use Rattle.circuit.specs.declared.refusal.Layer.{Layer}
use Rattle.circuit.specs.declared.refusal.Layer.TheVariants.{Circuit, Session, Head, Image, Job}
use Rattle.circuit.specs.declared.refusal.Refusal.{Refusal}

abbrev pub layer_name : Layer → List ℕ
layer_name Circuit = codes "circuit"
layer_name Session = codes "session"
layer_name Head = codes "head"
layer_name Image = codes "image"
layer_name Job = codes "job"

-- a refusal as it is printed
abbrev pub refusal_text : Refusal → List ℕ
refusal_text r = codes "refused " ++ decimal r.number ++ codes " at " ++ decimal r.place ++ codes " in " ++ layer_name r.layer

abbrev pub refusal_of : CircuitFault → Refusal
refusal_of (NoLine line) = record { number = 17; place = line; layer = Circuit }
refusal_of (NoBridge bridge) = record { number = 17; place = bridge; layer = Circuit }
