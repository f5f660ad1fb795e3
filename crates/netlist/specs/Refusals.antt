-- Numbers, places and layers of what the reader refuses.
use Rattle.circuit.specs.declared.refusal.Layer.TheVariants.{Circuit}
use Rattle.circuit.specs.declared.refusal.Refusal.{Refusal}
use Rattle.netlist.specs.declared.fault.NetlistFault.{NetlistFault}
use Rattle.netlist.specs.declared.fault.NetlistFault.TheVariants.{TooLarge, Token, UnknownKeyword, PinCount, Redefined, UndefinedPin, TooManyInputs, TooManyLines, UndefinedOutput, NoInput, NoRow}
use Rattle.netlist.specs.declared.fault.TokenFault.TheVariants.{OutOfForm, TooLong}

abbrev pub refusal_of : NetlistFault → Refusal
refusal_of TooLarge = record { number = 1; place = 1048576; layer = Circuit }
refusal_of (Token (OutOfForm p)) = record { number = 2; place = p; layer = Circuit }
refusal_of (Token (TooLong p)) = record { number = 3; place = p; layer = Circuit }
refusal_of (UnknownKeyword p) = record { number = 4; place = p; layer = Circuit }
refusal_of (PinCount p) = record { number = 5; place = p; layer = Circuit }
refusal_of (Redefined p) = record { number = 6; place = p; layer = Circuit }
refusal_of (UndefinedPin p) = record { number = 7; place = p; layer = Circuit }
refusal_of (TooManyInputs p) = record { number = 8; place = p; layer = Circuit }
refusal_of (TooManyLines p) = record { number = 9; place = p; layer = Circuit }
refusal_of (UndefinedOutput p) = record { number = 10; place = p; layer = Circuit }
refusal_of (NoInput p) = record { number = 11; place = p; layer = Circuit }
refusal_of (NoRow p) = record { number = 12; place = p; layer = Circuit }
