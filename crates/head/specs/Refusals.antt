-- Numbers, places and layer of what a head refuses.
use Rattle.std.specs.Prelude.{ℕ, ◌+◌, min}
use Rattle.circuit.specs.declared.refusal.Layer.TheVariants.{Head}
use Rattle.circuit.specs.declared.refusal.Refusal.{Refusal}
use Rattle.head.specs.declared.fault.HeadFault.{HeadFault}
use Rattle.head.specs.declared.fault.HeadFault.TheVariants.{NotPermutation, Open, Width}

abbrev pub refusal_of : HeadFault → Refusal
refusal_of (NotPermutation p) = record { number = 19; place = p; layer = Head }
refusal_of (Open a) = record { number = 24; place = a; layer = Head }
refusal_of (Width a) = record { number = 25; place = a; layer = Head }

-- one adaptor more, up to 255
abbrev pub one_more : ℕ → ℕ
one_more a = min 255 (a + 1)

-- the same fault of a head with one adaptor more
abbrev pub raised : HeadFault → HeadFault
raised (NotPermutation p) = NotPermutation p
raised (Open a) = Open (one_more a)
raised (Width a) = Width (one_more a)
