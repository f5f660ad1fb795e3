-- Numbers, places and layers of what a job is refused for.
use Rattle.circuit.specs.declared.refusal.Layer.TheVariants.{Job}
use Rattle.circuit.specs.declared.refusal.Refusal.{Refusal}
use Rattle.netlist.specs.Refusals.{refusal_of as netlist_refusal_of}
use Rattle.job.specs.declared.fault.JobFault.{JobFault}
use Rattle.job.specs.declared.fault.JobFault.TheVariants.{TooLarge, NoPercentLine, Netlist}

abbrev pub refusal_of : JobFault → Refusal
refusal_of TooLarge = record { number = 1; place = 32768; layer = Job }
refusal_of (NoPercentLine length) = record { number = 22; place = length; layer = Job }
refusal_of (Netlist fault) = netlist_refusal_of fault
