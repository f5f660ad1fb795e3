-- Each line of an accepted text comes from a text line, and its row keeps what that text line says.
use Rattle.std.proofs.Common.{◌≡◌, ℕ, ◌+◌, ◌<◌, ◌≤◌, true, leb, List, [], ◌∷◌, ◌++◌, map, length, get_or, set, replicate, is_some, Some, None, Ok, Err, Option, Result, sym, refl, ap, ◌∙◌, subst, inl, inr, arith, length-set, MatchOption}
use Rattle.std.specs.List.{AllByRecursion}
use Rattle.std.proofs.lemmas.List.{length-take, length_push, get_or_push, get_or_append_left, get_or-take}
use Rattle.std.proofs.lemmas.Bool.{cond_both, cases_lt}
use Rattle.circuit.specs.Kinds.{takes}
use Rattle.circuit.specs.Rows.{row_at, inputs}
use Rattle.circuit.specs.declared.kind.Kind.{Kind}
use Rattle.circuit.specs.declared.row.Row.{Row}
use Rattle.netlist.specs.Accepted.{Accepted}
use Rattle.netlist.specs.Definitions.{line_of, resolved, declares, gate_row, gate_with, gates, defining, defined, extended}
use Rattle.netlist.specs.Drawn.{no_span, GateRow, Keeps, Defines, Draws, ComesFrom, Drawn}
use Rattle.netlist.specs.Keywords.{port_of, kind_of}
use Rattle.netlist.specs.Names.{bytes_of, name_of}
use Rattle.netlist.specs.Reading.{in_turn, lines_from, after_line, rows_of, as_output, reading}
use Rattle.netlist.specs.Statements.{used_of, said}
use Rattle.netlist.specs.Tokens.{Tok}
use Rattle.netlist.specs.declared.fault.NetlistFault.{NetlistFault}
use Rattle.netlist.specs.declared.fault.TokenFault.{TokenFault}
use Rattle.netlist.specs.declared.keyword.Port.{Port}
use Rattle.netlist.specs.declared.keyword.Port.TheVariants.{Input, Output}
use Rattle.netlist.specs.declared.state.State.TheVariants.{Start}
use Rattle.netlist.specs.declared.pins.Pins.{Pins}
use Rattle.netlist.specs.declared.statement.Declaration.{Declaration as Declares}
use Rattle.netlist.specs.declared.statement.Gate.{Gate as Gates}
use Rattle.netlist.specs.declared.statement.Statement.{Statement}
use Rattle.netlist.specs.declared.statement.Statement.TheVariants.{Empty, Declaration, Gate}
use Rattle.netlist.proofs.Grows.{accepted_at, accepted_weaker, marks_keep, reading_from}
use Rattle.netlist.proofs.OneMore.{row_before, row_last, mark_each, name_kept}
use Rattle.netlist.proofs.Resolved.{Pinned, Left, left_all, left_head, left_tail, resolved_all}
use Rattle.netlist.proofs.Turns.{then_from}
use Rattle.netlist.proofs.Words.{Before, Eight, Sound, said_sound, lines_before}

-- only the names of the lines before matter
keeps_with : (text : List ℕ) (rows more : List Row) (i : ℕ) → ((m : ℕ) → m < i → name_of text (row_at more m) ≡ name_of text (row_at rows m)) → (row : Row) (x : Statement) → Keeps text rows i row x → Keeps text more i row x
keeps_with text rows more i same row Empty g = g
keeps_with text rows more i same row (Declaration d) g = g
keeps_with text rows more i same row (Gate x close) g =
    record {
      words = g.words;
      given = g.given;
      kind = g.kind;
      count = g.count;
      lawful = g.lawful;
      name = g.name;
      eight = g.eight;
      used = λ j h. ((g.used j h).0, same _ (g.used j h).0 ∙ (g.used j h).1);
      unused = g.unused;
    }

-- a mark changes nothing of it
keeps_marked : (text : List ℕ) (rows : List Row) (i : ℕ) (row : Row) (x : Statement) → Keeps text rows i row x → Keeps text rows i (as_output row) x
keeps_marked text rows i row Empty g = g
keeps_marked text rows i row (Declaration d) g = record { keyword = g.keyword; kind = g.kind; count = g.count; pins = g.pins; name = g.name }
keeps_marked text rows i row (Gate x close) g =
    record { words = g.words; given = g.given; kind = g.kind; count = g.count; lawful = g.lawful; name = g.name; eight = g.eight; used = g.used; unused = g.unused }

module _ (text : List ℕ) (rows : List Row) where
  module _ (g : Gates) where
    abbrev GateFor : Row → Type 0
    GateFor row = GateRow text rows (length rows) row g

    gate_keeps : (kind : Kind) (ps : Pins) (r : Result (List ℕ) NetlistFault) → g.pins ≡ Some ps → kind_of (bytes_of text g.kind) ≡ Some kind → takes kind ps.count ≡ true → Eight (Some ps) → Accepted r (Pinned text rows (used_of ps) (length (used_of ps))) → Accepted (gate_row kind g.line ps.count r) GateFor
    gate_keeps kind ps (Ok ns) given e t eight p =
        let long : length (used_of ps) ≡ ps.count = omega (arith, length-take ps.count ps.spans, eight.0, eight.1) in
        record {
          words = ps;
          given = given;
          kind = sym e;
          count = refl;
          lawful = t;
          name = refl;
          eight = p.eight;
          used = λ j h.
              let at = p.used j (omega arith) in
              (at.0, at.1 ∙ ap (bytes_of text) (get_or-take ps.count ps.spans j no_span h));
          unused = λ j h m. p.unused j (omega arith) m;
        }
    gate_keeps kind ps (Err f) given e t eight p = tt

    gate_with_keeps : (kind : Kind) (o : Option Pins) (close : ℕ) → g.pins ≡ o → kind_of (bytes_of text g.kind) ≡ Some kind → Eight o → Accepted (gate_with text rows kind g.line o close) GateFor
    gate_with_keeps kind None close given e eight = tt
    gate_with_keeps kind (Some ps) close given e eight =
        cond_both (takes kind ps.count) _ _ (λ r. Accepted r GateFor)
        (λ t. cond_both (is_some (line_of text rows g.line)) _ _ (λ r. Accepted r GateFor) (λ f. tt)
        (λ f. gate_keeps kind ps (resolved text rows (used_of ps) (replicate 8 0) 0) given e t eight
        (resolved_all text rows (used_of ps) (omega (arith, length-take ps.count ps.spans, eight.1)))))
        (λ t. tt)

    gates_keep : (o : Option Kind) (close : ℕ) → kind_of (bytes_of text g.kind) ≡ o → Eight g.pins → Accepted (gates text rows o g close) GateFor
    gates_keep None close e eight = tt
    gates_keep (Some kind) close e eight = gate_with_keeps kind g.pins close refl e eight

  -- the row that the statement defines, if it defines one
  abbrev RowFor : Statement → Option Row → Type 0
  RowFor x o = MatchOption o (Draws text x → ⊥) (λ row. Keeps text rows (length rows) row x)

  defining_keeps : (g : Gates) (close : ℕ) (r : Result Row NetlistFault) → Accepted r (λ row. GateRow text rows (length rows) row g) → Accepted (defining r) (RowFor (Gate g close))
  defining_keeps g close (Ok row) a = a
  defining_keeps g close (Err f) a = tt

  declares_keeps : (o : Option Port) (d : Declares) → port_of (bytes_of text d.keyword) ≡ o → Accepted (declares text rows o d) (RowFor (Declaration d))
  declares_keeps None d e = tt
  declares_keeps (Some Output) d e = λ draws. let z : ◌≡◌ {A = Option Port} (Some Input) (Some Output) = sym draws ∙ e in let y : ◌≡◌ {A = ℕ} 0 1 = cc in omega arith
  declares_keeps (Some Input) d e =
      cond_both (is_some (line_of text rows d.word)) _ _ (λ r. Accepted r (RowFor (Declaration d))) (λ f. tt)
      (λ f. cond_both (leb 256 (inputs rows)) _ _ (λ r. Accepted r (RowFor (Declaration d))) (λ g. tt)
      (λ g. record { keyword = e; kind = refl; count = refl; pins = refl; name = refl }))

  defined_keeps : (x : Statement) → Sound text x → Accepted (defined text rows x) (RowFor x)
  defined_keeps Empty h = λ d. d
  defined_keeps (Declaration d) h = declares_keeps (port_of (bytes_of text d.keyword)) d refl
  defined_keeps (Gate g close) h =
      defining_keeps g close (gates text rows (kind_of (bytes_of text g.kind)) g close) (gates_keep g (kind_of (bytes_of text g.kind)) close refl h.1)

-- the rows of the first n text lines
record DrawnSoFar (text : List ℕ) (ls : List (List Tok)) (n : ℕ) (rows : List Row) : Type 0 where
  from : List ℕ
  one_each : length from ≡ length rows
  inside : (i : ℕ) → i < length rows → get_or from i 0 < n
  comes : (i : ℕ) → i < length rows → ComesFrom text ls rows i (get_or from i 0)
  in_order : (i j : ℕ) → i < j → j < length rows → get_or from i 0 < get_or from j 0
  no_more : (k : ℕ) → k < n → (x : Statement) × (said Start (get_or ls k []) ≡ Ok x) × (Draws text x → (i : ℕ) × (i < length rows) × (get_or from i 0 ≡ k))

drawn_none : (text : List ℕ) (ls : List (List Tok)) → DrawnSoFar text ls 0 []
drawn_none text ls =
    record {
      from = [];
      one_each = refl;
      inside = λ i h. absurd (omega arith);
      comes = λ i h. absurd (omega arith);
      in_order = λ i j h k. absurd (omega arith);
      no_more = λ k h. absurd (omega arith);
    }

module _ (text : List ℕ) (ls : List (List Tok)) (n : ℕ) (rows : List Row) (x : Statement) (e : said Start (get_or ls n []) ≡ Ok x) (d : DrawnSoFar text ls n rows) where
  -- a text line that defines nothing
  drawn_same : (Draws text x → ⊥) → DrawnSoFar text ls (n + 1) rows
  drawn_same none =
      record {
        from = d.from;
        one_each = d.one_each;
        inside = λ i h. omega (arith, d.inside i h);
        comes = d.comes;
        in_order = d.in_order;
        no_more = λ k h.
            elim (cases_lt k n) [
              | inl l ↦ d.no_more k l
              | inr g ↦ let same : n ≡ k = omega arith in (x, ap (λ m. said Start (get_or ls m [])) (sym same) ∙ e, λ draws. absurd (none draws))
            ];
      }

  -- a text line that defines a row
  module _ (row : Row) (keeps : Keeps text rows (length rows) row x) where
    from_before : (i : ℕ) → i < length rows → get_or (d.from ++ n ∷ []) i 0 ≡ get_or d.from i 0
    from_before i h = get_or_append_left d.from (n ∷ []) 0 i (omega (arith, d.one_each))

    from_last : get_or (d.from ++ n ∷ []) (length rows) 0 ≡ n
    from_last = get_or_push d.from n 0 (length rows) d.one_each

    last_row : (i : ℕ) → i < length (rows ++ row ∷ []) → length rows ≤ i → i ≡ length rows
    last_row i h g = omega (arith, length_push rows row)

    comes_more : (i : ℕ) (x : Statement) → i ≤ length rows → Keeps text rows i (row_at (rows ++ row ∷ []) i) x → Defines text (rows ++ row ∷ []) i x
    comes_more i x h = keeps_with text rows (rows ++ row ∷ []) i (λ m l. ap (name_of text) (row_before rows row m (omega arith))) (row_at (rows ++ row ∷ []) i) x

    drawn_more : DrawnSoFar text ls (n + 1) (rows ++ row ∷ [])
    drawn_more =
        let more = rows ++ row ∷ [] in
        let long : length more ≡ length rows + 1 = length_push rows row in
        record {
          from = d.from ++ n ∷ [];
          one_each = length_push d.from n ∙ ap (λ m. m + 1) d.one_each ∙ sym long;
          inside = λ i h.
              elim (cases_lt i (length rows)) [
                | inl l ↦ omega (arith, from_before i l, d.inside i l)
                | inr g ↦ subst (λ m. get_or (d.from ++ n ∷ []) m 0 < n + 1) (sym (last_row i h g)) (omega (arith, from_last))
              ];
          comes = λ i h.
              elim (cases_lt i (length rows)) [
                | inl l ↦
                    let was = d.comes i l in
                    subst (ComesFrom text ls more i) (sym (from_before i l))
                    (was.0, was.1, comes_more i was.0 (omega arith) (subst (λ r. Keeps text rows i r was.0) (sym (row_before rows row i l)) was.2))
                | inr g ↦
                    subst (λ m. ComesFrom text ls more m (get_or (d.from ++ n ∷ []) m 0)) (sym (last_row i h g))
                    (subst (ComesFrom text ls more (length rows)) (sym from_last)
                    (x, e, comes_more (length rows) x (omega arith) (subst (λ r. Keeps text rows (length rows) r x) (sym (row_last rows row)) keeps)))
              ];
          in_order = λ i j h k.
              let low : i < length rows = omega arith in
              elim (cases_lt j (length rows)) [
                | inl l ↦ omega (arith, from_before i low, from_before j l, d.in_order i j h l)
                | inr g ↦ subst (λ m. get_or (d.from ++ n ∷ []) i 0 < get_or (d.from ++ n ∷ []) m 0) (sym (last_row j k g)) (omega (arith, from_before i low, d.inside i low, from_last))
              ];
          no_more = λ k h.
              elim (cases_lt k n) [
                | inl l ↦
                    let was = d.no_more k l in
                    (was.0, was.1, λ draws. let at = was.2 draws in (at.0, omega (arith, at.1), from_before at.0 at.1 ∙ at.2))
                | inr g ↦
                    let same : n ≡ k = omega arith in
                    (x, ap (λ m. said Start (get_or ls m [])) (sym same) ∙ e, λ draws. (length rows, omega arith, from_last ∙ same))
              ];
        }

module _ (text : List ℕ) (room : ℕ) (all : List (List Tok)) where
  extended_draws : (n : ℕ) (rows : List Row) (x : Statement) → said Start (get_or all n []) ≡ Ok x → DrawnSoFar text all n rows → (r : Result (Option Row) NetlistFault) → Accepted r (RowFor text rows x) → Accepted (extended room rows r) (DrawnSoFar text all (n + 1))
  extended_draws n rows x e d (Ok None) a = drawn_same text all n rows x e d a
  extended_draws n rows x e d (Ok (Some row)) a =
      cond_both (leb 1024 (length rows)) _ _ (λ r. Accepted r (DrawnSoFar text all (n + 1))) (λ f. tt) (λ f.
      cond_both (leb room (length rows)) _ _ (λ r. Accepted r (DrawnSoFar text all (n + 1))) (λ g. tt) (λ g. drawn_more text all n rows x e d row a))
  extended_draws n rows x e d (Err f) a = tt

  line_draws : (n : ℕ) (rows : List Row) (r : Result Statement TokenFault) → said Start (get_or all n []) ≡ r → DrawnSoFar text all n rows → Accepted r (Sound text) → Accepted (after_line text room rows r) (DrawnSoFar text all (n + 1))
  line_draws n rows (Ok x) e d s = extended_draws n rows x e d (defined text rows x) (defined_keeps text rows x s)
  line_draws n rows (Err f) e d s = tt

  rows_drawn : (ls : List (List Tok)) → AllByRecursion (AllByRecursion (Before (length text))) ls → (n : ℕ) (rows : List Row) → Left all [] n ls → DrawnSoFar text all n rows → Accepted (rows_of text room rows (map (said Start) ls)) (DrawnSoFar text all (length all))
  unfolding in_turn
  rows_drawn [] a n rows l d =
      let same : n ≡ length all = omega (arith, l.long) in
      subst (λ m. DrawnSoFar text all m rows) same d
  rows_drawn (t ∷ ts) a n rows l d =
      then_from (after_line text room) (DrawnSoFar text all (length all)) (DrawnSoFar text all (n + 1)) (map (said Start) ts) (after_line text room rows (said Start t)) (λ more q. rows_drawn ts a.1 (n + 1) more (left_tail all [] n t ts l) q)
      (line_draws n rows (said Start t) (ap (said Start) (left_head all [] n t ts l)) d (said_sound text t a.0))

drawn_all : (text : List ℕ) (rows : List Row) → DrawnSoFar text (lines_from text 0) (length (lines_from text 0)) rows → Drawn text rows
drawn_all text rows d = record { from = d.from; one_each = d.one_each; inside = d.inside; comes = d.comes; in_order = d.in_order; no_more = d.no_more }

drawn_mark : (text : List ℕ) (rows : List Row) (i : ℕ) → i < length rows → Drawn text rows → Drawn text (set rows i (as_output (row_at rows i)))
drawn_mark text rows i h d =
    let more = set rows i (as_output (row_at rows i)) in
    let long : length more ≡ length rows = length-set rows i (as_output (row_at rows i)) in
    record {
      from = d.from;
      one_each = d.one_each ∙ sym long;
      inside = λ k g. d.inside k (omega arith);
      comes = λ k g.
          let was = d.comes k (omega arith) in (
            was.0,
            was.1,
            mark_each rows i h (λ r. Keeps text more k r was.0) k (keeps_marked text more k (row_at rows k) was.0)
                (keeps_with text rows more k (λ m l. name_kept text rows i h m) (row_at rows k) was.0 was.2),
          );
      in_order = λ a b g k. d.in_order a b g (omega arith);
      no_more = λ k g. let was = d.no_more k g in (was.0, was.1, λ draws. let at = was.2 draws in (at.0, omega (arith, at.1), at.2));
    }

-- the lines of an accepted text are those that its text lines define
pub reading_drawn : (text : List ℕ) (room : ℕ) (rows : List Row) → reading text room ≡ Ok rows → Drawn text rows
reading_drawn text room rows e =
    let all = lines_from text 0 in
    accepted_at (Drawn text) (reading text room) rows e
    (reading_from text room (Drawn text) (Drawn text)
    (accepted_weaker (DrawnSoFar text all (length all)) (Drawn text) (rows_of text room [] (map (said Start) all)) (drawn_all text)
    (rows_drawn text room all all (lines_before text) 0 [] (left_all all []) (drawn_none text all)))
    (marks_keep text (Drawn text) (drawn_mark text) all))
