-- A gate takes in its pins one after another.
use Rattle.std.proofs.Common.{◌≡◌, ℕ, ◌-◌, ◌<◌, cond, List, [], ◌∷◌, fold, map, length, get_or, take, drop, sym, refl, ap, ◌∙◌}
use Rattle.std.proofs.Math.Bool.{not-not}
use Rattle.std.specs.List.{list_any}
use Rattle.std.proofs.lemmas.List.{get_or-map, drop_more, take_rest}
use Rattle.level.specs.declared.level.Level.{Level}
use Rattle.level.specs.declared.level.Level.TheVariants.{Zero, One, X}
use Rattle.level.specs.Tables.{and3, or3, xor3}
use Rattle.circuit.specs.Gates.{and_of, or_of, xor_of, odd_ones, is_x}
use Rattle.circuit.specs.Levels.{pin_level}
use Rattle.circuit.specs.Rows.{Below}

pub and_joins : (a b : Level) (ls : List Level) → and_of (a ∷ (b ∷ ls)) ≡ and_of (and3 a b ∷ ls)
and_joins Zero b ls = refl
and_joins One Zero ls = refl
and_joins One One ls = refl
and_joins One X ls = refl
and_joins X Zero ls = refl
and_joins X One ls = refl
and_joins X X ls = refl

pub or_joins : (a b : Level) (ls : List Level) → or_of (a ∷ (b ∷ ls)) ≡ or_of (or3 a b ∷ ls)
or_joins One b ls = refl
or_joins Zero Zero ls = refl
or_joins Zero One ls = refl
or_joins Zero X ls = refl
or_joins X Zero ls = refl
or_joins X One ls = refl
or_joins X X ls = refl

pub xor_joins : (a b : Level) (ls : List Level) → xor_of (a ∷ (b ∷ ls)) ≡ xor_of (xor3 a b ∷ ls)
xor_joins Zero b ls = refl
xor_joins One Zero ls = refl
xor_joins One One ls = ap (λ t. cond (list_any is_x ls) X (cond t One Zero)) (not-not (odd_ones ls))
xor_joins One X ls = refl
xor_joins X b ls = refl

-- a gate's first reading, joined with the others one after another
pub fold_joined : (table : Level → Level → Level) (of : List Level → Level) → ((a : Level) → of (a ∷ []) ≡ a) → ((a b : Level) (ls : List Level) → of (a ∷ (b ∷ ls)) ≡ of (table a b ∷ ls)) → (a : Level) (ls : List Level) → fold table a ls ≡ of (a ∷ ls)
fold_joined table of one more a [] = sym (one a)
fold_joined table of one more a (b ∷ ls) = fold_joined table of one more (table a b) ls ∙ sym (more a b ls)

pub and_one : (a : Level) → and_of (a ∷ []) ≡ a
and_one Zero = refl
and_one One = refl
and_one X = refl

pub or_one : (a : Level) → or_of (a ∷ []) ≡ a
or_one Zero = refl
or_one One = refl
or_one X = refl

pub xor_one : (a : Level) → xor_of (a ∷ []) ≡ a
xor_one Zero = refl
xor_one One = refl
xor_one X = refl

-- a cell that was read
cell_level : {V : Type 0} (f : V → Level) (cells : List V) (p : ℕ) (x : V) → p < length cells → x ≡ get_or cells p x → f x ≡ pin_level (map f cells) p
cell_level f cells p x h e = ap f e ∙ sym (get_or-map f cells p x X h)

-- the first pin and `&pins[1..]`
pins_split : {A : Type 0} (f : ℕ → A) (ps : List ℕ) → 0 < length ps → map f ps ≡ f (get_or ps 0 0) ∷ map f (take (length ps - 1) (drop 1 ps))
pins_split f ps h = ap (map f) (drop_more ps 0 0 h) ∙ ap (λ l. f (get_or ps 0 0) ∷ map f l) (sym (take_rest ps 1))

-- the first cell's reading and those of the other pins, joined
pub pins_joined : {V : Type 0} (reads : V → Level) (cells : List V) (pins : List ℕ) (x : V) (r : Level) (table : Level → Level → Level) (of : List Level → Level) → ((a : Level) (ls : List Level) → fold table a ls ≡ of (a ∷ ls)) → 0 < length pins → Below (length cells) pins → x ≡ get_or cells (get_or pins 0 0) x → r ≡ fold table (reads x) (map (pin_level (map reads cells)) (take (length pins - 1) (drop 1 pins))) → r ≡ of (map (pin_level (map reads cells)) pins)
pins_joined reads cells pins x r table of folds some below at e =
    let level = pin_level (map reads cells) in
    let rest : List Level = map level (take (length pins - 1) (drop 1 pins)) in
    let first = cell_level reads cells (get_or pins 0 0) x (below 0 0 some) at in
    e ∙ folds (reads x) rest ∙ ap (λ a. of (a ∷ rest)) first ∙ ap of (sym (pins_split level pins some))
