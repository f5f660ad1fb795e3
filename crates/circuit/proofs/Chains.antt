-- The computed cone of a line is what chains of pins lead to.
use Rattle.std.proofs.Common.{◌≡◌, ℕ, zero, suc, ◌<◌, Bool, true, false, ◌||◌, eqb, ◌⊎◌, List, [], ◌∷◌, length, get_or, take, sym, refl, ap, ◌∙◌, subst, inl, inr, arith}
use Rattle.std.specs.List.{list_any}
use Rattle.std.proofs.lemmas.List.{get_or_default, get_or-take, length-take-le}
use Rattle.std.proofs.lemmas.List.Elements.{All-head, All-tail}
use Rattle.std.proofs.lemmas.List.Folds.{Any-from_list_any, list_any_at}
use Rattle.std.proofs.lemmas.Bool.{or_cases, or_left, or_right, eqb-true, eq-eqb}
use Rattle.circuit.specs.declared.row.Row.{Row}
use Rattle.circuit.specs.Feedback.{IsPin, Chain, link, longer, reach, cone, feedback, Chains}
use Rattle.circuit.specs.Rows.{row_at, pins_of, lawful, Below}
use Rattle.circuit.proofs.Builds.{build_at, build_length}
use Rattle.circuit.proofs.Laws.{lawful_row, row_below}

-- two tests that agree below n find the same among pins below n
any_below : (f g : ℕ → Bool) (n : ℕ) (ps : List ℕ) → ((p : ℕ) → p < n → f p ≡ g p) → Below n ps → list_any f ps ≡ list_any g ps
any_below f g n [] same below = refl
any_below f g n (p ∷ ps) same below =
    let here = same p (All-head (λ p. p < n) p ps below) in
    let rest = any_below f g n ps same (All-tail (λ p. p < n) p ps below) in
    cc

module _ (rows : List Row) (sound : lawful rows ≡ true) (u : ℕ) where
  -- a line is reached where it is u, or one of its pins is reached
  reach_at : (v : ℕ) → v < length rows → feedback rows u v ≡ (eqb v u || list_any (feedback rows u) (pins_of (row_at rows v)))
  reach_at v h =
      let marks : List Bool = cone rows u in
      let ps : List ℕ = pins_of (row_at rows v) in
      let all : length marks ≡ length rows = build_length (reach u) rows [] ∙ omega arith in
      let long : length (take v marks) ≡ v = length-take-le v marks (omega arith) in
      let below = row_below v (row_at rows v) (lawful_row rows sound v h) in
      build_at (reach u) false rows v h
      ∙ ap (λ k. eqb k u || list_any (λ p. get_or (take v marks) p false) ps) long
      ∙ ap (λ b. eqb v u || b) (any_below _ _ v ps (λ p b. get_or-take v marks p false b) below)

  reached : (k v : ℕ) → v < k → v < length rows → feedback rows u v ≡ true → (v ≡ u) ⊎ Chain rows u v
  reached zero v l h e = absurd (omega arith)
  reached (suc k) v l h e =
      let ps : List ℕ = pins_of (row_at rows v) in
      elim (or_cases _ _ (sym (reach_at v h) ∙ e)) [
        | inl same ↦ inl (eqb-true v u same)
        | inr pin ↦
            let at = Any-from_list_any (feedback rows u) ps pin in
            let p : ℕ = at.1 in
            let here : get_or ps at.0 0 ≡ p = get_or_default ps at.0 0 p at.2 ∙ at.3 in
            let below : p < v = subst (λ q. q < v) here (row_below v (row_at rows v) (lawful_row rows sound v h) at.0 0 at.2) in
            let is-pin : IsPin rows p v = record { line = h; place = at.0; used = at.2; here = here } in
            elim (reached k p (omega arith) (omega arith) at.4) [
              | inl same ↦ inr (link (subst (λ w. IsPin rows w v) same is-pin))
              | inr chain ↦ inr (longer chain is-pin)
            ]
      ]

  -- a pin that is reached, or is u itself
  pin_reached : (w v : ℕ) → IsPin rows w v → feedback rows u w ≡ true → feedback rows u v ≡ true
  pin_reached w v p e =
      let ps : List ℕ = pins_of (row_at rows v) in
      reach_at v p.line ∙ or_right _ _ (list_any_at (feedback rows u) ps p.place 0 p.used (subst (λ k. feedback rows u k ≡ true) (sym p.here) e))

  own : u < length rows → feedback rows u u ≡ true
  own h = reach_at u h ∙ or_left _ _ (eq-eqb u u refl)

  chain_reached : {v : ℕ} → Chain rows u v → feedback rows u v ≡ true
  chain_reached {v} (link p) =
      let below : get_or (pins_of (row_at rows v)) p.place 0 < v = row_below v (row_at rows v) (lawful_row rows sound v p.line) p.place 0 p.used in
      pin_reached u v p (own (omega (arith, p.here, p.line)))
  chain_reached {v} (longer {w} chain p) = pin_reached w v p (chain_reached chain)

  pub feedback_decides : Chains rows u
  feedback_decides v a b =
      (λ e. elim (reached (suc v) v (omega arith) b e) [ inl same ↦ absurd (omega arith) | inr chain ↦ chain ], chain_reached)
