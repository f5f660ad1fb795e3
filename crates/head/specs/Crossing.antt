-- What crossing the pins means, and which pin maps are taken.
use Rattle.std.specs.Prelude.{◌≡◌, ℕ, ◌<◌, ◌≤◌, Bool, MatchBool, if◌then◌else◌, ◌&&◌, ◌||◌, ◌⊎◌, List, [], ◌∷◌, length, take, drop, replicate, Some, None, Ok, Err, Option, Result, ◌==◌, ◌≢◌, nat_le, nat_lt, slice_index, slice_set}
use Rattle.std.specs.List.{list_any}
use Rattle.circuit.specs.Search.{first}
use Rattle.head.specs.declared.fault.HeadFault.{HeadFault}
use Rattle.head.specs.declared.fault.HeadFault.TheVariants.{NotPermutation, Open, Width}
use Rattle.head.specs.declared.reading.Reading.{Reading}
use Rattle.head.specs.Meaning.{Meaning, Lawful, open', binary}
use Rattle.head.specs.Refusals.{one_more, raised}

-- each byte of v put at the place of the cells c that its entry names
abbrev pub scattered : List ℕ → List ℕ → List ℕ → List ℕ
scattered [] v c = c
scattered (e ∷ es) [] c = c
scattered (e ∷ es) (b ∷ v) c = scattered es v (slice_set c e b)

-- what a head of w pins below is given
abbrev pub crossed : ℕ → List ℕ → List ℕ → List ℕ
crossed w es v = scattered es v (replicate w 0)

-- the head below with its pins crossed; a string with another byte than 0 and 1 is open
abbrev pub crossing : List ℕ → Meaning → Meaning
crossing es m = record { width = m.width; adaptors = one_more m.adaptors; standing = λ v. if binary v then m.standing (crossed m.width es v) else open' }

-- entry i names a pin that an earlier entry names
abbrev pub repeated : List ℕ → ℕ → Bool
repeated es i = list_any (λ e. e == slice_index es i) (take i es)

-- entry i names no pin, or one that an earlier entry names
abbrev pub bad : ℕ → List ℕ → ℕ → Bool
bad w es i = nat_le w (slice_index es i) || repeated es i

-- the first such entry, or the length
abbrev pub bad_entry : ℕ → List ℕ → ℕ
bad_entry w es = first (length es) (bad w es)

-- the same, if there is one
abbrev pub bad_place : ℕ → List ℕ → Option ℕ
bad_place w es = if nat_lt (bad_entry w es) (length es) then Some (bad_entry w es) else None

-- what setting gives: the first bad entry, else the length if it is not the width
abbrev pub setting : ℕ → List ℕ → Result (Unit {0}) HeadFault
setting w es =
    if nat_lt (bad_entry w es) (length es) then Err (NotPermutation (bad_entry w es))
    else (if length es == w then Ok tt else Err (NotPermutation (length es)))

-- the entries name each of w pins once
pub record Permutes (w : ℕ) (es : List ℕ) : Type 0 where
  pub long : length es ≡ w
  pub below : (i : ℕ) → i < w → slice_index es i < w
  pub apart : (i j : ℕ) → i < j → j < w → slice_index es i ≢ slice_index es j

-- place p is the first entry that names no pin or one named before, or else the end of a map of another length
pub record Refused (w : ℕ) (es : List ℕ) (p : ℕ) : Type 0 where
  pub within : p ≤ length es
  pub below : (i : ℕ) → i < p → slice_index es i < w
  pub apart : (i j : ℕ) → i < j → j < p → slice_index es i ≢ slice_index es j
  pub here : p < length es → (w ≤ slice_index es p) ⊎ ((j : ℕ) × (j < p) × (slice_index es j ≡ slice_index es p))
  pub whole : p ≡ length es → length es ≢ w
  pub never : Permutes w es → ⊥

-- taken exactly where the entries name each pin once
abbrev pub Judged : ℕ → List ℕ → Result (Unit {0}) HeadFault → Type 0
Judged w es (Ok u) = Permutes w es
Judged w es (Err (NotPermutation p)) = Refused w es p
Judged w es (Err (Open a)) = ⊥
Judged w es (Err (Width a)) = ⊥

-- byte i goes to the pin that entry i names
abbrev pub Carries : ℕ → List ℕ → List ℕ → Type 0
Carries w es cells = (v : List ℕ) → length v ≡ w → (i : ℕ) → i < w → slice_index (crossed w cells v) (slice_index es i) ≡ slice_index v i

-- fs brings each pin back to the place from which es took it
abbrev pub Undoes : ℕ → List ℕ → List ℕ → Type 0
Undoes w fs es = (i : ℕ) → i < w → slice_index fs (slice_index es i) ≡ i

-- what the cells hold after the entries es are taken
pub record Placed (w : ℕ) (es old new : List ℕ) : Type 0 where
  pub front : take w new ≡ es
  pub rest : drop w new ≡ drop w old
  pub whole : (v : List ℕ) → length (crossed w new v) ≡ w
  pub given : (v : List ℕ) → length v ≡ w → crossed w new v ≡ crossed w es v
  pub carries : Carries w es new
  pub straight : ((k : ℕ) → k < w → slice_index es k ≡ k) → (m : Meaning) → m.width ≡ w → Lawful m → (v : List ℕ) → length v ≡ w → (crossing new m).standing v ≡ m.standing v
  pub undone : (fs : List ℕ) → Permutes w fs → Undoes w fs es → (v : List ℕ) → length v ≡ w → crossed w fs (crossed w new v) ≡ v
  pub back : (fs : List ℕ) → Permutes w fs → Undoes w fs es → (m : Meaning) → m.width ≡ w → Lawful m → (v : List ℕ) → length v ≡ w → (crossing new (crossing fs m)).standing v ≡ m.standing v
  pub back_over : (fs under : List ℕ) → Permutes w fs → take w under ≡ fs → Undoes w fs es → (m : Meaning) → m.width ≡ w → Lawful m → (v : List ℕ) → length v ≡ w → (crossing new (crossing under m)).standing v ≡ m.standing v

-- a refused pin map changes nothing
abbrev pub Stored : ℕ → List ℕ → List ℕ → List ℕ → Result (Unit {0}) HeadFault → Type 0
Stored w es old new (Ok u) = Placed w es old new
Stored w es old new (Err f) = new ≡ old

-- the outcome of the head below, its faults with one adaptor more
abbrev pub raised_result : Result Reading HeadFault → Result Reading HeadFault
raised_result (Ok r) = Ok r
raised_result (Err f) = Err (raised f)

-- a string of the width of 0s and 1s was asked below once, crossed; for another the head below was left alone
abbrev pub AskedCrossed : {H : Type 0} → (H → List ℕ → Result Reading HeadFault → H → Type 0) → Meaning → List ℕ → H → List ℕ → Result Reading HeadFault → H → Type 0
AskedCrossed below m es s v r t =
    MatchBool (length v == m.width && binary v)
    ((q : Result Reading HeadFault) × (r ≡ raised_result q) × below s (crossed m.width es v) q t)
    (t ≡ s)
