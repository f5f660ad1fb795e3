-- Detection from cells.
use Rattle.std.proofs.Common.{◌≡◌, ℕ, ◌<◌, ◌≤◌, List, [], map, length, get_or, take, Some, sym, ap, ◌∙◌, arith}
use Rattle.std.proofs.lemmas.List.{get_or-take, take-map, length-take}
use Rattle.std.proofs.lemmas.Bool.{and_from, lt-ltb, cond-true}
use Rattle.level.specs.declared.level.Level.{Level}
use Rattle.level.specs.declared.level.Level.TheVariants.{X}
use Rattle.level.specs.Tables.{opposed}
use Rattle.circuit.specs.declared.row.Row.{Row}
use Rattle.circuit.specs.Detection.{detected_in, detects_lines}
use Rattle.circuit.specs.Levels.{levels, level, line_level}
use Rattle.circuit.proofs.Builds.{build_length}

-- cells that hold what a circuit reads under a vector
pub detected_vector : {V : Type 0} (reads : V → Level) (cells : List V) (u v : ℕ) (rows : List Row) (w : List ℕ) → map reads (take (length rows) cells) ≡ levels rows w → u < length rows → v < length rows → detected_in (map reads cells) u v ≡ Some (detects_lines rows w u v)
detected_vector reads cells u v rows w held a b =
    let n : ℕ = length rows in
    let ls : List Level = map reads cells in
    let front : take n ls ≡ levels rows w = take-map reads n cells ∙ held in
    let all : length (levels rows w) ≡ n = build_length (line_level rows w) rows [] ∙ omega arith in
    let long : n ≤ length ls = omega (arith, length-take n ls, ap length front) in
    let at : (i : ℕ) → i < n → get_or ls i X ≡ level rows w i = λ i h. sym (get_or-take n ls i X h) ∙ ap (λ l. get_or l i X) front in
    cond-true _ _ _ (and_from _ _ (lt-ltb u (length ls) (omega arith)) (lt-ltb v (length ls) (omega arith)))
    ∙ ap Some (ap (λ k. opposed k (get_or ls v X)) (at u a) ∙ ap (opposed (level rows w u)) (at v b))
