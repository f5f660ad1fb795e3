-- Marks that hold the cone of a line, and how many bridges they count.
use Rattle.std.proofs.Common.{◌≡◌, ℕ, ◌+◌, ◌-◌, ◌<◌, ◌≤◌, Bool, false, count_by, List, length, get_or, take, drop, Ok, sym, ap, ◌∙◌, arith}
use Rattle.std.proofs.lemmas.List.{get_or-take, get_or-drop, length-take-le, length-drop}
use Rattle.std.proofs.lemmas.Bool.{cond-true, lt-ltb}
use Rattle.circuit.specs.declared.row.Row.{Row}
use Rattle.circuit.specs.declared.bridge.Bridge.{Bridge}
use Rattle.circuit.specs.Bridges.{pairs, high, bridge_outcome}
use Rattle.circuit.specs.Feedback.{cone, feedback, feedback_bridge, feedback_outcome}
use Rattle.circuit.specs.Search.{count}
use Rattle.circuit.proofs.Finds.{count_by-count, count_same, count_split}
use Rattle.circuit.proofs.Numbers.{begin, begin_more, row_bridge, bridge_found, numbered}

module _ (rows : List Row) (u : ℕ) (marks : List Bool) (marked : take (length rows) marks ≡ cone rows u) where
  pub cone_read : (v : ℕ) → v < length rows → get_or marks v false ≡ feedback rows u v
  cone_read v h = sym (get_or-take (length rows) marks v false h) ∙ ap (λ l. get_or l v false) marked

  -- the marks past u, `&marks[u + 1..lines]`, count its feedback bridges
  module _ (room : length rows ≤ length marks) (h : u < length rows) where
    pub cone_count :
        count (begin (length rows) u) (feedback_bridge rows) + count_by (λ m. m) (take (length rows - (u + 1)) (drop (u + 1) marks))
        ≡ count (begin (length rows) (u + 1)) (feedback_bridge rows)
    cone_count =
        let n : ℕ = length rows in
        let w : ℕ = n - 1 - u in
        let part : List Bool = take (n - (u + 1)) (drop (u + 1) marks) in
        let long : length part ≡ w = length-take-le (n - (u + 1)) (drop (u + 1) marks) (omega (arith, length-drop (u + 1) marks)) ∙ omega arith in
        let same : (k : ℕ) → k < w → get_or part k false ≡ feedback_bridge rows (begin n u + k) =
        λ k l.
        let ends = row_bridge n u k h l in
        get_or-take (n - (u + 1)) (drop (u + 1) marks) k false (omega arith) ∙ get_or-drop (u + 1) marks k false ∙ cone_read (u + 1 + k) (omega arith)
        ∙ ap (feedback rows u) (sym ends.1) ∙ ap (λ a. feedback rows a (high n (begin n u + k))) (sym ends.0)
        in
        ap (λ m. count (begin n u) (feedback_bridge rows) + m) (count_by-count (λ m. m) false part)
        ∙ ap (λ m. count (begin n u) (feedback_bridge rows) + count m (λ k. get_or part k false)) long
        ∙ ap (λ m. count (begin n u) (feedback_bridge rows) + m) (count_same w _ _ same)
        ∙ sym (count_split (begin n u) w (feedback_bridge rows))
        ∙ ap (λ m. count m (feedback_bridge rows)) (sym (begin_more n u h))

pub feedback_answer : (rows : List Row) (β : ℕ) (b : Bool) → β < pairs (length rows) → b ≡ feedback_bridge rows β → Ok b ≡ feedback_outcome rows β
feedback_answer rows β b h e = ap Ok e ∙ sym (cond-true _ _ _ (lt-ltb β (pairs (length rows)) h))

-- the mark of a bridge's higher line in the cone of its lower one
pub feedback_read : (rows : List Row) (β : ℕ) (b : Bridge) (marks : List Bool) → Ok b ≡ bridge_outcome (length rows) β → take (length rows) marks ≡ cone rows b.low → get_or marks b.high false ≡ feedback_bridge rows β
feedback_read rows β b marks e marked =
    let n : ℕ = length rows in
    let found = bridge_found n β b e in
    let within : b.high < n = omega (arith, found.2, (numbered n).within β found.0) in
    cone_read rows b.low marks marked b.high within ∙ ap (feedback rows b.low) found.2 ∙ ap (λ u. feedback rows u (high n β)) found.1
