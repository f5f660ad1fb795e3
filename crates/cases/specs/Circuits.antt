-- The rows of the circuits that the table speaks of.
use Rattle.std.specs.Prelude.{ℕ, ◌-◌, true, false, List, [], ◌∷◌, ◌++◌, length, replicate, Some}
use Rattle.circuit.specs.declared.kind.Kind.{Kind}
use Rattle.circuit.specs.declared.kind.Kind.TheVariants.{Input, Nand, Or}
use Rattle.circuit.specs.declared.row.Row.{Row}

-- a line by its kind, its pins, and its name's place and length
abbrev line : Kind → List ℕ → ℕ → ℕ → Row
line k ps offset len = record { kind = Some k; count = length ps; pins = ps ++ replicate (8 - length ps) 0; output = false; name = record { offset = offset; len = len } }

abbrev marked : Row → Row
marked r = record { kind = r.kind; count = r.count; pins = r.pins; output = true; name = r.name }

-- INPUT(a), INPUT(b), INPUT(c), m = NAND(a, b), k = OR(m, c), OUTPUT(k), a text line each
abbrev pub example : List Row
example =
    line Input [] 6 1 ∷ line Input [] 15 1 ∷ line Input [] 24 1 ∷ line Nand (0 ∷ 1 ∷ []) 27 1 ∷ marked (line Or (3 ∷ 2 ∷ []) 42 1) ∷ []

-- the six NAND gates of c17 under its five inputs; names are left out
abbrev pub c17 : List Row
c17 =
    line Input [] 0 0 ∷ line Input [] 0 0 ∷ line Input [] 0 0 ∷ line Input [] 0 0 ∷ line Input [] 0 0
    ∷ line Nand (0 ∷ 2 ∷ []) 0 0
    ∷ line Nand (2 ∷ 3 ∷ []) 0 0
    ∷ line Nand (1 ∷ 6 ∷ []) 0 0
    ∷ line Nand (6 ∷ 4 ∷ []) 0 0
    ∷ marked (line Nand (5 ∷ 7 ∷ []) 0 0)
    ∷ marked (line Nand (7 ∷ 8 ∷ []) 0 0)
    ∷ []
