-- The lines that an accepted text marks are those of which it has an OUTPUT.
use Rattle.std.proofs.Common.{◌≡◌, ℕ, zero, suc, ◌<◌, true, false, ◌⊎◌, List, [], ◌∷◌, ◌++◌, map, length, get_or, set, Some, None, Ok, Err, Decides, Option, Result, sym, refl, ap, ◌∙◌, subst, inl, inr, arith, length-set}
use Rattle.std.proofs.lemmas.List.{get_or-set_same, get_or-set_other}
use Rattle.std.proofs.lemmas.Bool.{cases_eq, cases_order, both_ways}
use Rattle.circuit.specs.Rows.{no_row, row_at}
use Rattle.circuit.specs.declared.row.Row.{Row}
use Rattle.circuit.specs.declared.row.Span.{Span}
use Rattle.netlist.specs.Accepted.{Accepted, SaysOutput, HasOutput, LinesOf}
use Rattle.netlist.specs.Definitions.{line_of}
use Rattle.netlist.specs.Names.{bytes_of, name_of}
use Rattle.netlist.specs.Reading.{in_turn, lines_from, statements_from, output_word, as_output, marked_at, marked_by, marked_line, marked, reading}
use Rattle.netlist.specs.Statements.{said}
use Rattle.netlist.specs.Tokens.{Tok}
use Rattle.netlist.specs.declared.fault.NetlistFault.{NetlistFault}
use Rattle.netlist.specs.declared.fault.TokenFault.{TokenFault}
use Rattle.netlist.specs.declared.state.State.TheVariants.{Start}
use Rattle.netlist.specs.declared.statement.Statement.{Statement}
use Rattle.netlist.proofs.Found.{line_some}
use Rattle.netlist.proofs.Grows.{Fresh, accepted_at, accepted_both, accepted_weaker, rows_keep, reading_from}
use Rattle.netlist.proofs.Laws.{Unique, unique_grow, OwnLines, reading_own}
use Rattle.netlist.proofs.OneMore.{row_each, mark_each, name_kept}
use Rattle.netlist.proofs.Turns.{then_turn}
use Rattle.netlist.proofs.Words.{lines_before}

-- the rows with a mark at each name of S, and else as they were
record Marked (text : List ℕ) (S : List ℕ → Type 0) (rows more : List Row) : Type 0 where
  long : length more ≡ length rows
  names : (i : ℕ) → name_of text (row_at more i) ≡ name_of text (row_at rows i)
  was : (i : ℕ) → i < length rows → (row_at more i).output ≡ true → ((row_at rows i).output ≡ true) ⊎ S (name_of text (row_at rows i))
  stays : (i : ℕ) → i < length rows → (row_at rows i).output ≡ true → (row_at more i).output ≡ true
  sets : (i : ℕ) → i < length rows → S (name_of text (row_at rows i)) → (row_at more i).output ≡ true

unique_same : (text : List ℕ) (rows : List Row) → Unique text rows → (i j : ℕ) → i < length rows → j < length rows → name_of text (row_at rows i) ≡ name_of text (row_at rows j) → i ≡ j
unique_same text rows u i j h k e =
    elim (cases_order i j) [ inl same ↦ same | inr (inl l) ↦ absurd (u i j l k e) | inr (inr g) ↦ absurd (u j i g h (sym e)) ]

module _ (text : List ℕ) (rows : List Row) (u : Unique text rows) (x : Statement) where
  at_marks : (s : Span) (o : Option ℕ) → output_word text x ≡ Some s → line_of text rows s ≡ o → Accepted (marked_at rows s o) (Marked text (SaysOutput text (Ok x)) rows)
  at_marks s None e f = tt
  at_marks s (Some n) e f =
      let at = line_some text rows s n f in
      let inside : n < length rows = at.0 in
      let row = as_output (row_at rows n) in
      record {
        long = length-set rows n row;
        names = name_kept text rows n inside;
        was = λ i h t.
            elim (cases_eq i n) [
              | inl same ↦ inr (x, s, refl, e, sym at.1 ∙ ap (λ k. name_of text (row_at rows k)) (sym same))
              | inr other ↦ inl (ap (λ (r : Row). r.output) (sym (get_or-set_other rows n i row no_row other)) ∙ t)
            ];
        stays = λ i h t. mark_each rows n inside (λ r. r.output ≡ true) i (λ p. refl) t;
        sets = λ i h says.
            let p : ◌≡◌ {A = Result Statement TokenFault} (Ok x) (Ok says.0) = says.2 in
            let q : output_word text says.0 ≡ Some says.1 = says.3 in
            let word : says.1 ≡ s = cc in
            let same : n ≡ i = unique_same text rows u n i inside h (at.1 ∙ ap (bytes_of text) (sym word) ∙ says.4) in
            subst (λ k. (row_at (set rows n row) k).output ≡ true) same (ap (λ (r : Row). r.output) (get_or-set_same rows n row no_row inside));
      }

  by_marks : (o : Option Span) → output_word text x ≡ o → Accepted (marked_by text rows o) (Marked text (SaysOutput text (Ok x)) rows)
  by_marks None e =
      record {
        long = refl;
        names = λ i. refl;
        was = λ i h t. inl t;
        stays = λ i h t. t;
        sets = λ i h says.
            let p : ◌≡◌ {A = Result Statement TokenFault} (Ok x) (Ok says.0) = says.2 in
            let q : output_word text says.0 ≡ Some says.1 = says.3 in
            let z : ◌≡◌ {A = ℕ} 0 1 = cc in
            absurd (omega arith);
      }
  by_marks (Some s) e = at_marks s (line_of text rows s) e refl

line_marks : (text : List ℕ) (rows : List Row) → Unique text rows → (r : Result Statement TokenFault) → Accepted (marked_line text rows r) (Marked text (SaysOutput text r) rows)
line_marks text rows u (Ok x) = by_marks text rows u x (output_word text x) refl
line_marks text rows u (Err f) = tt

abbrev AnyOutput : List ℕ → List (List Tok) → List ℕ → Type 0
AnyOutput text [] name = ⊥
AnyOutput text (l ∷ ls) name = SaysOutput text (said Start l) name ⊎ AnyOutput text ls name

any_has : (text : List ℕ) (ls : List (List Tok)) (name : List ℕ) → AnyOutput text ls name → HasOutput text ls name
any_has text [] name a = absurd a
any_has text (l ∷ ls) name (inl says) = (0, omega arith, says)
any_has text (l ∷ ls) name (inr a) = let at = any_has text ls name a in (suc at.0, omega (arith, at.1), at.2)

has_any : (text : List ℕ) (ls : List (List Tok)) (name : List ℕ) (k : ℕ) → k < length ls → SaysOutput text (said Start (get_or ls k [])) name → AnyOutput text ls name
has_any text [] name k h says = absurd (omega arith)
has_any text (l ∷ ls) name zero h says = inl says
has_any text (l ∷ ls) name (suc k) h says = inr (has_any text ls name k (omega arith) says)

module _ (text : List ℕ) (S : List ℕ → Type 0) (rows mid : List Row) (a : Marked text S rows mid) where
  marked_unique : Unique text rows → Unique text mid
  marked_unique u i j h k e = u i j h (omega (arith, a.long)) (sym (a.names i) ∙ e ∙ a.names j)

  marked_then : (S' : List ℕ → Type 0) (more : List Row) → Marked text S' mid more → Marked text (λ n. S n ⊎ S' n) rows more
  marked_then S' more b =
      let long : length mid ≡ length rows = a.long in
      record {
        long = b.long ∙ a.long;
        names = λ i. b.names i ∙ a.names i;
        was = λ i h t.
            elim (b.was i (omega arith) t) [
              | inl m ↦ elim (a.was i h m) [ inl r ↦ inl r | inr s ↦ inr (inl s) ]
              | inr s ↦ inr (inr (subst S' (a.names i) s))
            ];
        stays = λ i h t. b.stays i (omega arith) (a.stays i h t);
        sets = λ i h says.
            elim says [ inl s ↦ b.stays i (omega arith) (a.sets i h s) | inr s ↦ b.sets i (omega arith) (subst S' (sym (a.names i)) s) ];
      }

marks_then : (text : List ℕ) (S : List ℕ → Type 0) (rows : List Row) (ls : List (List Tok)) → Unique text rows → ((mid : List Row) → Unique text mid → Accepted (marked text mid (map (said Start) ls)) (Marked text (AnyOutput text ls) mid)) → (r : Result (List Row) NetlistFault) → Accepted r (Marked text S rows) → Accepted (then_turn (marked_line text) (map (said Start) ls) r) (Marked text (λ n. S n ⊎ AnyOutput text ls n) rows)
marks_then text S rows ls u go (Ok mid) a =
    accepted_weaker (Marked text (AnyOutput text ls) mid) (Marked text (λ n. S n ⊎ AnyOutput text ls n) rows) (marked text mid (map (said Start) ls))
    (λ more b. marked_then text S rows mid a (AnyOutput text ls) more b) (go mid (marked_unique text S rows mid a u))
marks_then text S rows ls u go (Err f) a = tt

all_marks : (text : List ℕ) (ls : List (List Tok)) (rows : List Row) → Unique text rows → Accepted (marked text rows (map (said Start) ls)) (Marked text (AnyOutput text ls) rows)
unfolding in_turn
all_marks text [] rows u = record { long = refl; names = λ i. refl; was = λ i h t. inl t; stays = λ i h t. t; sets = λ i h a. absurd a }
all_marks text (l ∷ ls) rows u =
    marks_then text (SaysOutput text (said Start l)) rows ls u (all_marks text ls) (marked_line text rows (said Start l)) (line_marks text rows u (said Start l))

abbrev OutputsOf : List ℕ → List Row → Type 0
OutputsOf text rows = (i : ℕ) → i < length rows → Decides (row_at rows i).output (HasOutput text (lines_from text 0) (name_of text (row_at rows i)))

-- the rows before any mark
record Unmarked (text : List ℕ) (rows : List Row) : Type 0 where
  unique : Unique text rows
  off : (i : ℕ) → i < length rows → (row_at rows i).output ≡ false

unmarked_grow : (text : List ℕ) (rows : List Row) (row : Row) → length rows < 1024 → Fresh text rows row → Unmarked text rows → Unmarked text (rows ++ row ∷ [])
unmarked_grow text rows row h new m = record { unique = unique_grow text rows row new m.unique; off = row_each rows row (λ i r. r.output ≡ false) m.off new.unmarked }

outputs_right : (text : List ℕ) (rows more : List Row) → Unmarked text rows → Marked text (AnyOutput text (lines_from text 0)) rows more → OutputsOf text more
outputs_right text rows more m a i h =
    let here : i < length rows = omega (arith, a.long) in
    let S : List ℕ → Type 0 = AnyOutput text (lines_from text 0) in (
      λ t. elim (a.was i here t) [
        | inl r ↦ absurd (both_ways _ (m.off i here) r)
        | inr s ↦ any_has text (lines_from text 0) _ (subst S (sym (a.names i)) s)
      ],
      λ has. a.sets i here (subst S (a.names i) (has_any text (lines_from text 0) _ has.0 has.1 has.2)),
    )

reading_outputs : (text : List ℕ) (room : ℕ) → Accepted (reading text room) (OutputsOf text)
reading_outputs text room =
    reading_from text room (OutputsOf text) (Unmarked text)
    (rows_keep text room (Unmarked text) (unmarked_grow text) (lines_from text 0) (lines_before text) [] (record { unique = λ i j h k e. omega arith; off = λ i h. absurd (omega arith) }))
    (λ rows m. accepted_weaker (Marked text (AnyOutput text (lines_from text 0)) rows) (OutputsOf text) (marked text rows (statements_from text 0)) (λ more a. outputs_right text rows more m a) (all_marks text (lines_from text 0) rows m.unique))

-- what holds of the lines of each accepted text
pub reading_lines : (text : List ℕ) (room : ℕ) (rows : List Row) → reading text room ≡ Ok rows → LinesOf text rows
reading_lines text room rows e =
    let both = accepted_at (λ rows. OwnLines text rows × OutputsOf text rows) (reading text room) rows e (accepted_both (OwnLines text) (OutputsOf text) (reading text room) (reading_own text room) (reading_outputs text room)) in
    record { filled = both.0.filled; spelt = both.0.spelt; unique = both.0.unique; marks = both.1 }
