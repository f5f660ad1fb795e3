-- Lists made row by row.
use Rattle.std.proofs.Common.{◌≡◌, ℕ, zero, suc, ◌+◌, ◌<◌, cond, List, [], ◌∷◌, ◌++◌, map, length, get_or, take, drop, set, sym, refl, ap, ◌∙◌, subst, arith}
use Rattle.std.proofs.lemmas.List.{at_drop_more, take_more_set, map-append, length-map, length-take-le, take_all, take-take, take_at, length_push, get_or-drop, get_or-take, get_or_push}
use Rattle.circuit.specs.declared.row.Row.{Row}
use Rattle.level.specs.declared.level.Level.{Level}
use Rattle.circuit.specs.Kinds.{is_input}
use Rattle.circuit.specs.Levels.{build, byte_level, gate_of, line_level, pin_level, row_level}
use Rattle.circuit.specs.Rows.{row_at, no_row, inputs_before, pins_of}

-- one row more
pub build_more : {A : Type 0} (f : List A → Row → A) (rows : List Row) (past : List A) (i : ℕ) → i < length rows → build f (drop i rows) past ≡ build f (drop (i + 1) rows) (past ++ (f past (row_at rows i) ∷ []))
build_more f rows past i h = at_drop_more (λ l. build f l past) rows i no_row h

-- one cell more
pub cells_more : {V A : Type 0} (f : V → A) (cells : List V) (i : ℕ) (x : V) → i < length cells → map f (take (i + 1) (set cells i x)) ≡ map f (take i cells) ++ (f x ∷ [])
cells_more f cells i x h = ap (map f) (take_more_set cells i x h) ∙ map-append f (take i cells) (x ∷ [])

-- one line evaluated: what is left to make is unchanged
module _ {V : Type 0} (reads : V → Level) (rows : List Row) (v : List ℕ) (cells : List V) (i : ℕ) (made : V) where
  pub levels_more :
      i < length rows → i < length cells →
      reads made ≡ row_level (row_at rows i) (drop (inputs_before rows i) v) 0 (map reads (take i cells)) →
      build (line_level rows v) (drop (i + 1) rows) (map reads (take (i + 1) (set cells i made))) ≡ build (line_level rows v) (drop i rows) (map reads (take i cells))
  levels_more h room e =
      let past : List Level = map reads (take i cells) in
      let row : Row = row_at rows i in
      let long : length past ≡ i = length-map (take i cells) reads ∙ length-take-le i cells (omega arith) in
      let k : ℕ = inputs_before rows i in
      let place : k + 0 ≡ inputs_before rows (length past) = ap (λ m. inputs_before rows m + 0) (sym long) ∙ omega arith in
      let byte : get_or (drop k v) 0 0 ≡ get_or v (inputs_before rows (length past)) 0 = get_or-drop k v 0 0 ∙ ap (λ m. get_or v m 0) place in
      let value : reads made ≡ line_level rows v past row = e ∙ ap (λ b. cond (is_input row.kind) (byte_level b) (gate_of row.kind (map (pin_level past) (pins_of row)))) byte in
      ap (build (line_level rows v) (drop (i + 1) rows)) (cells_more reads cells i made room ∙ ap (λ x. past ++ (x ∷ [])) value) ∙ sym (build_more (line_level rows v) rows past i h)

-- the list so far is the front of the list made
pub build_front : {A : Type 0} (f : List A → Row → A) (rs : List Row) (past : List A) → take (length past) (build f rs past) ≡ past
build_front f [] past = take_all (length past) past (omega arith)
build_front f (r ∷ rs) past =
    let more = past ++ (f past r ∷ []) in
    let all = build f rs more in
    let long : length more ≡ length past + 1 = length_push past (f past r) in
    sym (take-take (length past) (length more) all (omega arith)) ∙ ap (take (length past)) (build_front f rs more) ∙ take_at past (f past r ∷ []) (length past) refl

pub build_length : {A : Type 0} (f : List A → Row → A) (rs : List Row) (past : List A) → length (build f rs past) ≡ length past + length rs
build_length f [] past = omega arith
build_length f (r ∷ rs) past = omega (arith, build_length f rs (past ++ (f past r ∷ [])), length_push past (f past r))

build_place : {A : Type 0} (f : List A → Row → A) (d : A) (rs : List Row) (past : List A) (i : ℕ) → i < length rs → get_or (build f rs past) (length past + i) d ≡ f (take (length past + i) (build f rs past)) (row_at rs i)
build_place f d [] past i h = absurd (omega arith)
build_place f d (r ∷ rs) past zero h =
    let more = past ++ (f past r ∷ []) in
    let all = build f rs more in
    let long : length more ≡ length past + 1 = length_push past (f past r) in
    let here : length past + 0 ≡ length past = omega arith in
    let at : get_or all (length past) d ≡ f past r =
    sym (get_or-take (length more) all (length past) d (omega arith)) ∙ ap (λ l. get_or l (length past) d) (build_front f rs more) ∙ get_or_push past (f past r) d (length past) refl
    in
    let front : take (length past) all ≡ past = build_front f (r ∷ rs) past in
    rw here (at ∙ ap (λ l. f l r) (sym front))
build_place f d (r ∷ rs) past (suc i) h =
    let more = past ++ (f past r ∷ []) in
    let long : length more ≡ length past + 1 = length_push past (f past r) in
    let here : length more + i ≡ length past + suc i = omega arith in
    subst (λ k. get_or (build f rs more) k d ≡ f (take k (build f rs more)) (row_at rs i)) here (build_place f d rs more i (omega arith))

-- each element is made from those before it
pub build_at : {A : Type 0} (f : List A → Row → A) (d : A) (rows : List Row) (i : ℕ) → i < length rows → get_or (build f rows []) i d ≡ f (take i (build f rows [])) (row_at rows i)
build_at f d rows i h =
    let here : 0 + i ≡ i = omega arith in
    subst (λ k. get_or (build f rows []) k d ≡ f (take k (build f rows [])) (row_at rows i)) here (build_place f d rows [] i h)
