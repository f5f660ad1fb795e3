-- The pins of a gate, one by one.
use Rattle.std.proofs.Common.{◌≡◌, ℕ, suc, ◌+◌, ◌<◌, ◌≤◌, List, [], ◌∷◌, length, get_or, drop, set, replicate, Some, None, Ok, Err, Option, Result, sym, refl, ap, ◌∙◌, subst, inl, inr, arith, length-set}
use Rattle.std.proofs.lemmas.List.{at_drop_more, at_drop_all, get_or-replicate, get_or-set_same, get_or-set_other}
use Rattle.std.proofs.lemmas.Bool.{cases_eq}
use Rattle.circuit.specs.Rows.{row_at}
use Rattle.circuit.specs.declared.row.Row.{Row}
use Rattle.circuit.specs.declared.row.Span.{Span}
use Rattle.netlist.specs.Accepted.{Accepted}
use Rattle.netlist.specs.Definitions.{line_of, placed, resolved}
use Rattle.netlist.specs.Drawn.{no_span}
use Rattle.netlist.specs.Names.{bytes_of, name_of}
use Rattle.netlist.specs.declared.fault.NetlistFault.{NetlistFault}
use Rattle.netlist.specs.declared.fault.NetlistFault.TheVariants.{UndefinedPin}
use Rattle.netlist.proofs.Found.{line_some}

-- what follows one pin
abbrev pub next_pins : List ℕ → List Row → List Span → ℕ → Result (List ℕ) NetlistFault → Result (List ℕ) NetlistFault
next_pins text rows ss i (Ok more) = resolved text rows ss more (i + 1)
next_pins text rows ss i (Err f) = Err f

module _ (text : List ℕ) (rows : List Row) (pins : List Span) (ns : List ℕ) (i : ℕ) where
  pub pin_on : (n : ℕ) (d : Span) → i < length pins → line_of text rows (get_or pins i d) ≡ Some n → resolved text rows (drop i pins) ns i ≡ resolved text rows (drop (i + 1) pins) (set ns i n) (i + 1)
  unfolding resolved
  pin_on n d h e = at_drop_more (λ l. resolved text rows l ns i) pins i d h ∙ ap (λ o. next_pins text rows (drop (i + 1) pins) i (placed o (get_or pins i d) ns i)) e

  pub pin_fault : (d : Span) → i < length pins → line_of text rows (get_or pins i d) ≡ None → resolved text rows (drop i pins) ns i ≡ Err (UndefinedPin (get_or pins i d).offset)
  unfolding resolved
  pin_fault d h e = at_drop_more (λ l. resolved text rows l ns i) pins i d h ∙ ap (λ o. next_pins text rows (drop (i + 1) pins) i (placed o (get_or pins i d) ns i)) e

  pub pin_all : length pins ≤ i → resolved text rows (drop i pins) ns i ≡ Ok ns
  unfolding resolved
  pin_all h = at_drop_all (λ l. resolved text rows l ns i) pins i h

-- the first i pins are set to the lines that their words name, and the others are 0
pub record Pinned (text : List ℕ) (rows : List Row) (ss : List Span) (i : ℕ) (ns : List ℕ) : Type 0 where
  pub eight : length ns ≡ 8
  pub used : (j : ℕ) → j < i → (get_or ns j 0 < length rows) × (name_of text (row_at rows (get_or ns j 0)) ≡ bytes_of text (get_or ss j no_span))
  pub unused : (j : ℕ) → i ≤ j → j < 8 → get_or ns j 0 ≡ 0

pinned_more : (text : List ℕ) (rows : List Row) (ss : List Span) (i : ℕ) (ns : List ℕ) (n : ℕ) → i < 8 → (n < length rows) × (name_of text (row_at rows n) ≡ bytes_of text (get_or ss i no_span)) → Pinned text rows ss i ns → Pinned text rows ss (i + 1) (set ns i n)
pinned_more text rows ss i ns n h at p =
    let eight : length ns ≡ 8 = p.eight in
    let Ok-pin : ℕ → ℕ → Type 0 = λ j m. (m < length rows) × (name_of text (row_at rows m) ≡ bytes_of text (get_or ss j no_span)) in
    record {
      eight = length-set ns i n ∙ eight;
      used = λ j l.
          elim (cases_eq j i) [
            | inl e ↦ subst (λ m. Ok-pin m (get_or (set ns i n) m 0)) (sym e) (subst (Ok-pin i) (sym (get_or-set_same ns i n 0 (omega arith))) at)
            | inr e ↦ subst (Ok-pin j) (sym (get_or-set_other ns i j n 0 e)) (p.used j (omega arith))
          ];
      unused = λ j l m. get_or-set_other ns i j n 0 (λ e. omega arith) ∙ p.unused j (omega arith) m;
    }

pins_step : (text : List ℕ) (rows : List Row) (all : List Span) (s : Span) (ss : List Span) (ns : List ℕ) (i : ℕ) →
    i < 8 →
    get_or all i no_span ≡ s →
    Pinned text rows all i ns →
    ((ms : List ℕ) → Pinned text rows all (i + 1) ms → Accepted (resolved text rows ss ms (i + 1)) (Pinned text rows all (length all))) →
    (o : Option ℕ) → line_of text rows s ≡ o →
    Accepted (next_pins text rows ss i (placed o s ns i)) (Pinned text rows all (length all))
pins_step text rows all s ss ns i h e p go None found = tt
pins_step text rows all s ss ns i h e p go (Some n) found =
    let at = line_some text rows s n found in
    go (set ns i n) (pinned_more text rows all i ns n h (at.0, at.1 ∙ ap (bytes_of text) (sym e)) p)

-- what is left of a list after its first n elements
pub record Left {X : Type 0} (all : List X) (d : X) (n : ℕ) (xs : List X) : Type 0 where
  pub long : n + length xs ≡ length all
  pub each : (k : ℕ) → get_or all (n + k) d ≡ get_or xs k d

pub left_all : {X : Type 0} (all : List X) (d : X) → Left all d 0 all
left_all all d = record { long = omega arith; each = λ k. ap (λ m. get_or all m d) (omega arith) }

pub left_head : {X : Type 0} (all : List X) (d : X) (n : ℕ) (x : X) (xs : List X) → Left all d n (x ∷ xs) → get_or all n d ≡ x
left_head all d n x xs l = ap (λ m. get_or all m d) (omega arith) ∙ l.each 0

pub left_tail : {X : Type 0} (all : List X) (d : X) (n : ℕ) (x : X) (xs : List X) → Left all d n (x ∷ xs) → Left all d (n + 1) xs
left_tail all d n x xs l =
    let long : n + length (x ∷ xs) ≡ length all = l.long in
    record { long = omega arith; each = λ k. ap (λ m. get_or all m d) (omega arith) ∙ l.each (suc k) }

resolved_pinned : (text : List ℕ) (rows : List Row) (all : List Span) → length all ≤ 8 → (ss : List Span) (ns : List ℕ) (i : ℕ) → Left all no_span i ss → Pinned text rows all i ns → Accepted (resolved text rows ss ns i) (Pinned text rows all (length all))
unfolding resolved
resolved_pinned text rows all h [] ns i l p =
    let same : i ≡ length all = omega (arith, l.long) in
    subst (λ n. Pinned text rows all n ns) same p
resolved_pinned text rows all h (s ∷ ss) ns i l p =
    pins_step text rows all s ss ns i (omega (arith, l.long)) (left_head all no_span i s ss l) p
    (λ ms q. resolved_pinned text rows all h ss ms (i + 1) (left_tail all no_span i s ss l) q) (line_of text rows s) refl

-- the lines of all pins
pub resolved_all : (text : List ℕ) (rows : List Row) (ss : List Span) → length ss ≤ 8 → Accepted (resolved text rows ss (replicate 8 0) 0) (Pinned text rows ss (length ss))
resolved_all text rows ss h =
    resolved_pinned text rows ss h ss (replicate 8 0) 0 (left_all ss no_span)
    (record { eight = refl; used = λ j k. absurd (omega arith); unused = λ j k m. get_or-replicate 8 j 0 0 m })
