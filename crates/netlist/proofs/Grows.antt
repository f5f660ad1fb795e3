-- What each statement and each mark of an accepted text does to the rows.
use Rattle.std.proofs.Common.{◌≡◌, ℕ, ◌<◌, true, false, cond, eqb, leb, List, [], ◌∷◌, ◌++◌, map, length, take, set, replicate, is_some, IfSome, Some, None, Ok, Err, Option, Result, sym, refl, subst, arith}
use Rattle.std.specs.List.{AllByRecursion}
use Rattle.std.proofs.lemmas.List.Elements.{All-from_get_or, All-nil}
use Rattle.std.proofs.lemmas.List.{length-take, get_or-take}
use Rattle.std.proofs.lemmas.Bool.{cond_both, leb-false, both_ways}
use Rattle.circuit.specs.Kinds.{takes, is_input, is_gate}
use Rattle.circuit.specs.Rows.{row_at, pins_of, counted, inputs, Below}
use Rattle.circuit.specs.declared.kind.Kind.{Kind}
use Rattle.circuit.specs.declared.row.Row.{Row}
use Rattle.circuit.specs.declared.row.Span.{Span}
use Rattle.netlist.specs.Accepted.{Accepted, NameIn}
use Rattle.netlist.specs.Definitions.{line_of, resolved, declares, gate_row, gate_with, gates, defining, defined, extended}
use Rattle.netlist.specs.Keywords.{port_of, kind_of}
use Rattle.netlist.specs.Names.{bytes_of}
use Rattle.netlist.specs.Reading.{in_turn, lines_from, statements_from, after_line, rows_of, output_word, as_output, marked_at, marked_by, marked_line, marked, with_input, with_marks, reading}
use Rattle.netlist.specs.Statements.{used_of, said}
use Rattle.netlist.specs.Tokens.{Tok}
use Rattle.netlist.specs.declared.fault.NetlistFault.{NetlistFault}
use Rattle.netlist.specs.declared.fault.NetlistFault.TheVariants.{TooLarge}
use Rattle.netlist.specs.declared.fault.TokenFault.{TokenFault}
use Rattle.netlist.specs.declared.keyword.Port.{Port}
use Rattle.netlist.specs.declared.keyword.Port.TheVariants.{Input, Output}
use Rattle.netlist.specs.declared.pins.Pins.{Pins}
use Rattle.netlist.specs.declared.state.State.TheVariants.{Start}
use Rattle.netlist.specs.declared.statement.Declaration.{Declaration as Declares}
use Rattle.netlist.specs.declared.statement.Gate.{Gate as Gates}
use Rattle.netlist.specs.declared.statement.Statement.{Statement}
use Rattle.netlist.specs.declared.statement.Statement.TheVariants.{Empty, Declaration, Gate}
use Rattle.netlist.proofs.Found.{line_some, none_from}
use Rattle.netlist.proofs.Resolved.{Pinned, resolved_all}
use Rattle.netlist.proofs.Turns.{then_from}
use Rattle.netlist.proofs.Words.{Before, Eight, Sound, said_sound, lines_before}

pub accepted_at : {X Y : Type 0} (P : X → Type 0) (r : Result X Y) (x : X) → r ≡ Ok x → Accepted r P → P x
accepted_at P r x e a = subst (λ q. Accepted q P) e a

pub accepted_weaker : {X Y : Type 0} (P Q : X → Type 0) (r : Result X Y) → ((x : X) → P x → Q x) → Accepted r P → Accepted r Q
accepted_weaker P Q (Ok x) f a = f x a
accepted_weaker P Q (Err e) f a = tt

pub accepted_both : {X Y : Type 0} (P Q : X → Type 0) (r : Result X Y) → Accepted r P → Accepted r Q → Accepted r (λ x. P x × Q x)
accepted_both P Q (Ok x) a b = (a, b)
accepted_both P Q (Err e) a b = tt

-- a row that a statement defines after the rows so far
pub record Fresh (text : List ℕ) (rows : List Row) (row : Row) : Type 0 where
  pub few_inputs : is_input row.kind ≡ true → inputs rows < 256
  pub pin_count : counted row.kind row.count ≡ true
  pub pins_below : Below (length rows) (pins_of row)
  pub new : line_of text rows row.name ≡ None
  pub spelt : NameIn text row.name
  pub unmarked : row.output ≡ false

-- no word names an input's kind
pub kind_gate : (w : List ℕ) → is_input (kind_of w) ≡ false
kind_gate w = grind arith

module _ (text : List ℕ) (rows : List Row) where
  pins_within : (kind : Kind) (ps : Pins) (ns : List ℕ) → Eight (Some ps) → Pinned text rows (used_of ps) (length (used_of ps)) ns → Below (length rows) (cond (is_gate (Some kind)) (take ps.count ns) [])
  pins_within kind ps ns eight f =
      cond_both (is_gate (Some kind)) (take ps.count ns) [] (Below (length rows))
      (λ g. All-from_get_or (λ m. m < length rows) (take ps.count ns) 0 (λ j h.
      let low : j < ps.count = omega (arith, length-take ps.count ns) in
      let used : j < length (used_of ps) = omega (arith, length-take ps.count ps.spans, eight.0) in
      subst (λ m. m < length rows) (sym (get_or-take ps.count ns j 0 low)) (f.used j used).0))
      (λ g. All-nil (λ m. m < length rows))

  gate_fresh : (kind : Kind) (l : Span) (ps : Pins) (r : Result (List ℕ) NetlistFault) → is_input (Some kind) ≡ false → takes kind ps.count ≡ true → line_of text rows l ≡ None → NameIn text l → Eight (Some ps) → Accepted r (Pinned text rows (used_of ps) (length (used_of ps))) → Accepted (gate_row kind l ps.count r) (Fresh text rows)
  gate_fresh kind l ps (Ok ns) off e new n eight f =
      record {
        few_inputs = λ i. absurd (both_ways _ off i);
        pin_count = e;
        pins_below = pins_within kind ps ns eight f;
        new = new;
        spelt = n;
        unmarked = refl;
      }
  gate_fresh kind l ps (Err x) off e new n eight f = tt

  gate_with_fresh : (kind : Kind) (l : Span) (o : Option Pins) (close : ℕ) → is_input (Some kind) ≡ false → NameIn text l → Eight o → Accepted (gate_with text rows kind l o close) (Fresh text rows)
  gate_with_fresh kind l None close off n eight = tt
  gate_with_fresh kind l (Some ps) close off n eight =
      cond_both (takes kind ps.count) _ _ (λ r. Accepted r (Fresh text rows))
      (λ e. cond_both (is_some (line_of text rows l)) _ _ (λ r. Accepted r (Fresh text rows)) (λ f. tt)
      (λ f. gate_fresh kind l ps (resolved text rows (used_of ps) (replicate 8 0) 0) off e (none_from _ f) n eight
      (resolved_all text rows (used_of ps) (omega (arith, length-take ps.count ps.spans, eight.1)))))
      (λ e. tt)

  gates_fresh : (o : Option Kind) (g : Gates) (close : ℕ) → is_input o ≡ false → NameIn text g.line → Eight g.pins → Accepted (gates text rows o g close) (Fresh text rows)
  gates_fresh None g close off n eight = tt
  gates_fresh (Some kind) g close off n eight = gate_with_fresh kind g.line g.pins close off n eight

  defining_fresh : (r : Result Row NetlistFault) → Accepted r (Fresh text rows) → Accepted (defining r) (λ o. IfSome o (Fresh text rows))
  defining_fresh (Ok row) a = a
  defining_fresh (Err f) a = tt

  declares_fresh : (o : Option Port) (d : Declares) → NameIn text d.word → Accepted (declares text rows o d) (λ o. IfSome o (Fresh text rows))
  declares_fresh None d n = tt
  declares_fresh (Some Output) d n = tt
  declares_fresh (Some Input) d n =
      cond_both (is_some (line_of text rows d.word)) _ _ (λ r. Accepted r (λ o. IfSome o (Fresh text rows))) (λ e. tt)
      (λ e. cond_both (leb 256 (inputs rows)) _ _ (λ r. Accepted r (λ o. IfSome o (Fresh text rows))) (λ f. tt) (λ f.
      record {
        few_inputs = λ i. leb-false 256 (inputs rows) f;
        pin_count = refl;
        pins_below = λ j h. omega arith;
        new = none_from _ e;
        spelt = n;
        unmarked = refl;
      }))

  pub defined_fresh : (x : Statement) → Sound text x → Accepted (defined text rows x) (λ o. IfSome o (Fresh text rows))
  defined_fresh Empty h = tt
  defined_fresh (Declaration d) h = declares_fresh (port_of (bytes_of text d.keyword)) d h
  defined_fresh (Gate g close) h =
      defining_fresh (gates text rows (kind_of (bytes_of text g.kind)) g close) (gates_fresh (kind_of (bytes_of text g.kind)) g close (kind_gate (bytes_of text g.kind)) h.0 h.1)

-- What holds of no rows, and still holds with one row more and with one mark more, holds of the lines of
-- each accepted text.
module _ (text : List ℕ) (room : ℕ) (P : List Row → Type 0) (grow : (rows : List Row) (row : Row) → length rows < 1024 → Fresh text rows row → P rows → P (rows ++ row ∷ [])) where
  extended_keeps : (rows : List Row) (r : Result (Option Row) NetlistFault) → P rows → Accepted r (λ o. IfSome o (Fresh text rows)) → Accepted (extended room rows r) P
  extended_keeps rows (Ok None) p a = p
  extended_keeps rows (Ok (Some row)) p a =
      cond_both (leb 1024 (length rows)) _ _ (λ r. Accepted r P) (λ e. tt) (λ e.
      cond_both (leb room (length rows)) _ _ (λ r. Accepted r P) (λ f. tt) (λ f. grow rows row (leb-false 1024 (length rows) e) a p))
  extended_keeps rows (Err f) p a = tt

  line_keeps : (rows : List Row) (r : Result Statement TokenFault) → P rows → Accepted r (Sound text) → Accepted (after_line text room rows r) P
  line_keeps rows (Ok x) p a = extended_keeps rows (defined text rows x) p (defined_fresh text rows x a)
  line_keeps rows (Err f) p a = tt

pub rows_keep : (text : List ℕ) (room : ℕ) (P : List Row → Type 0) → ((rows : List Row) (row : Row) → length rows < 1024 → Fresh text rows row → P rows → P (rows ++ row ∷ [])) → (ls : List (List Tok)) → AllByRecursion (AllByRecursion (Before (length text))) ls → (rows : List Row) → P rows → Accepted (rows_of text room rows (map (said Start) ls)) P
unfolding in_turn
rows_keep text room P grow [] a rows p = p
rows_keep text room P grow (l ∷ ls) a rows p =
    then_from (after_line text room) P P (map (said Start) ls) (after_line text room rows (said Start l)) (rows_keep text room P grow ls a.1)
    (line_keeps text room P grow rows (said Start l) p (said_sound text l a.0))

module _ (text : List ℕ) (P : List Row → Type 0) (set-mark : (rows : List Row) (i : ℕ) → i < length rows → P rows → P (set rows i (as_output (row_at rows i)))) where
  at_keeps : (rows : List Row) (s : Span) (o : Option ℕ) → ((n : ℕ) → o ≡ Some n → n < length rows) → P rows → Accepted (marked_at rows s o) P
  at_keeps rows s None h p = tt
  at_keeps rows s (Some i) h p = set-mark rows i (h i refl) p

  by_keeps : (rows : List Row) (o : Option Span) → P rows → Accepted (marked_by text rows o) P
  by_keeps rows None p = p
  by_keeps rows (Some s) p = at_keeps rows s (line_of text rows s) (λ n e. (line_some text rows s n e).0) p

  mark_keeps : (rows : List Row) (r : Result Statement TokenFault) → P rows → Accepted (marked_line text rows r) P
  mark_keeps rows (Ok x) p = by_keeps rows (output_word text x) p
  mark_keeps rows (Err f) p = tt

pub marks_keep : (text : List ℕ) (P : List Row → Type 0) → ((rows : List Row) (i : ℕ) → i < length rows → P rows → P (set rows i (as_output (row_at rows i)))) → (ls : List (List Tok)) (rows : List Row) → P rows → Accepted (marked text rows (map (said Start) ls)) P
unfolding in_turn
marks_keep text P set-mark [] rows p = p
marks_keep text P set-mark (l ∷ ls) rows p =
    then_from (marked_line text) P P (map (said Start) ls) (marked_line text rows (said Start l)) (marks_keep text P set-mark ls) (mark_keeps text P set-mark rows (said Start l) p)

pub with_input_keeps : (text : List ℕ) (P : List Row → Type 0) (r : Result (List Row) NetlistFault) → Accepted r P → Accepted (with_input text r) P
with_input_keeps text P (Ok rows) a = cond_both (eqb (inputs rows) 0) _ _ (λ r. Accepted r P) (λ e. tt) (λ e. a)
with_input_keeps text P (Err f) a = tt

with_marks_from : (text : List ℕ) (P Q : List Row → Type 0) (r : Result (List Row) NetlistFault) → ((rows : List Row) → Q rows → Accepted (marked text rows (statements_from text 0)) P) → Accepted r Q → Accepted (with_marks text r) P
with_marks_from text P Q (Ok rows) go a = with_input_keeps text P (marked text rows (statements_from text 0)) (go rows a)
with_marks_from text P Q (Err f) go a = tt

-- Q of the rows before the marks, and then P of the marked ones
pub reading_from : (text : List ℕ) (room : ℕ) (P Q : List Row → Type 0) → Accepted (rows_of text room [] (statements_from text 0)) Q → ((rows : List Row) → Q rows → Accepted (marked text rows (statements_from text 0)) P) → Accepted (reading text room) P
unfolding reading
reading_from text room P Q a go =
    cond_both (leb (length text) 1048576) (with_marks text (rows_of text room [] (statements_from text 0))) (Err TooLarge) (λ (r : Result (List Row) NetlistFault). Accepted r P)
    (λ e. with_marks_from text P Q (rows_of text room [] (statements_from text 0)) go a) (λ e. tt)

pub reading_keeps : (text : List ℕ) (room : ℕ) (P : List Row → Type 0) → ((rows : List Row) (row : Row) → length rows < 1024 → Fresh text rows row → P rows → P (rows ++ row ∷ [])) → ((rows : List Row) (i : ℕ) → i < length rows → P rows → P (set rows i (as_output (row_at rows i)))) → P [] → Accepted (reading text room) P
reading_keeps text room P grow set-mark p =
    reading_from text room P P (rows_keep text room P grow (lines_from text 0) (lines_before text) [] p) (marks_keep text P set-mark (lines_from text 0))
