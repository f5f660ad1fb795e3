-- A word by its letters.
use Rattle.std.proofs.Common.{◌≡◌, ℕ, List, [], ◌∷◌, length, get_or, Some, refl, arith}
use Rattle.netlist.specs.Keywords.{port_of}
use Rattle.netlist.specs.declared.keyword.Port.TheVariants.{Output}

pub spells_output : (w : List ℕ) → length w ≡ 6 → get_or w 0 0 ≡ 79 → get_or w 1 0 ≡ 85 → get_or w 2 0 ≡ 84 → get_or w 3 0 ≡ 80 → get_or w 4 0 ≡ 85 → get_or w 5 0 ≡ 84 → Some Output ≡ port_of w
spells_output (a ∷ b ∷ c ∷ d ∷ e ∷ f ∷ []) six o u t p v x = rw (o, u, t, p, v, x) refl
spells_output (a ∷ b ∷ c ∷ d ∷ e ∷ f ∷ g ∷ rest) six o u t p v x = absurd (omega arith)
spells_output (a ∷ b ∷ c ∷ d ∷ e ∷ []) six o u t p v x = absurd (omega arith)
spells_output (a ∷ b ∷ c ∷ d ∷ []) six o u t p v x = absurd (omega arith)
spells_output (a ∷ b ∷ c ∷ []) six o u t p v x = absurd (omega arith)
spells_output (a ∷ b ∷ []) six o u t p v x = absurd (omega arith)
spells_output (a ∷ []) six o u t p v x = absurd (omega arith)
spells_output [] six o u t p v x = absurd (omega arith)
