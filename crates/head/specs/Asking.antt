-- One asking of an adaptor, by one asking of the head below.
use Rattle.std.specs.Prelude.{◌≡◌, ℕ, List, Result}
use Rattle.head.specs.declared.fault.HeadFault.{HeadFault}
use Rattle.head.specs.declared.reading.Reading.{Reading}

-- the head below was asked once with the same vector, and its outcome turned by f
abbrev pub Through : {H : Type 0} → (H → List ℕ → Result Reading HeadFault → H → Type 0) → (Result Reading HeadFault → Result Reading HeadFault) → H → List ℕ → Result Reading HeadFault → H → Type 0
Through below f s v r t = (q : Result Reading HeadFault) × (r ≡ f q) × below s v q t
