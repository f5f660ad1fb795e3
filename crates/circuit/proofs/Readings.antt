-- The levels of a lawful circuit are readings in which every line reads as its kind says.
use Rattle.std.proofs.Common.{◌≡◌, ℕ, ◌<◌, true, false, cond, List, [], ◌∷◌, map, length, get_or, take, Some, Option, sym, refl, ap, ◌∙◌, subst, arith}
use Rattle.std.proofs.lemmas.List.{get_or-take, length-take-le}
use Rattle.std.proofs.lemmas.List.Elements.{All-head, All-tail}
use Rattle.level.specs.declared.level.Level.{Level}
use Rattle.level.specs.declared.level.Level.TheVariants.{X}
use Rattle.circuit.specs.declared.kind.Kind.{Kind}
use Rattle.circuit.specs.declared.kind.Kind.TheVariants.{Input, And, Nand, Or, Nor, Xor, Xnor, Not, Buff}
use Rattle.circuit.specs.declared.row.Row.{Row}
use Rattle.circuit.specs.Gates.{gate_level}
use Rattle.circuit.specs.Kinds.{is_input, is_gate}
use Rattle.circuit.specs.Levels.{byte_level, gate_of, line_level, levels, pin_level, Reads}
use Rattle.circuit.specs.Rows.{row_at, pins_of, lawful, Below, inputs_before}
use Rattle.circuit.proofs.Builds.{build_at, build_length}
use Rattle.circuit.proofs.Laws.{lawful_row, row_below}

pub map_below : {A : Type 0} (f g : ℕ → A) (n : ℕ) (ps : List ℕ) → ((p : ℕ) → p < n → f p ≡ g p) → Below n ps → map f ps ≡ map g ps
map_below f g n [] same below = refl
map_below f g n (p ∷ ps) same below =
    let here = same p (All-head (λ p. p < n) p ps below) in
    let rest = map_below f g n ps same (All-tail (λ p. p < n) p ps below) in
    cc

no_gate_input : (k : Kind) → is_gate (Some k) ≡ true → is_input (Some k) ≡ false
no_gate_input Input e = sym e
no_gate_input And e = refl
no_gate_input Nand e = refl
no_gate_input Or e = refl
no_gate_input Nor e = refl
no_gate_input Xor e = refl
no_gate_input Xnor e = refl
no_gate_input Not e = refl
no_gate_input Buff e = refl

-- what a row reads, by its kind
reads_input : (o : Option Kind) (a b : Level) → o ≡ Some Input → cond (is_input o) a b ≡ a
reads_input o a b e = subst (λ o. cond (is_input o) a b ≡ a) (sym e) refl

reads_gate : (o : Option Kind) (k : Kind) (a : Level) (ls : List Level) → o ≡ Some k → is_gate (Some k) ≡ true → cond (is_input o) a (gate_of o ls) ≡ gate_level k ls
reads_gate o k a ls e g =
    subst (λ o. cond (is_input o) a (gate_of o ls) ≡ gate_level k ls) (sym e)
    (subst (λ b. cond b a (gate_level k ls) ≡ gate_level k ls) (sym (no_gate_input k g)) refl)

pub levels_read : (rows : List Row) (v : List ℕ) → lawful rows ≡ true → Reads rows v (levels rows v)
levels_read rows v sound =
    let ls : List Level = levels rows v in
    let long : length ls ≡ length rows = build_length (line_level rows v) rows [] ∙ omega arith in
    let at : (i : ℕ) → i < length rows → get_or ls i X ≡ line_level rows v (take i ls) (row_at rows i) = build_at (line_level rows v) X rows in
    record {
      each_line = long;
      input = λ i h e.
          at i h ∙ reads_input (row_at rows i).kind _ _ e
          ∙ ap (λ k. byte_level (get_or v (inputs_before rows k) 0)) (length-take-le i ls (omega arith));
      gate = λ i k h e g.
          at i h ∙ reads_gate (row_at rows i).kind k _ _ e g
          ∙ ap (gate_level k)
          (map_below (pin_level (take i ls)) (pin_level ls) i (pins_of (row_at rows i)) (λ p b. get_or-take i ls p X b)
          (row_below i (row_at rows i) (lawful_row rows sound i h)));
    }
