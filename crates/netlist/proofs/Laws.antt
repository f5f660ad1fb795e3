-- The laws of the lines of an accepted text.
use Rattle.std.proofs.Common.{◌≡◌, ℕ, ◌<◌, true, List, [], ◌∷◌, ◌++◌, length, set, is_some, Some, None, Option, sym, refl, ap, ◌∙◌, inl, inr, arith, length-set}
use Rattle.std.proofs.lemmas.List.{length_push}
use Rattle.std.proofs.lemmas.Bool.{cases_lt, cases_Bool, cond-true, cond-false}
use Rattle.circuit.specs.Kinds.{is_input}
use Rattle.circuit.specs.Rows.{row_at, named, pins_of, counted, inputs, Below, Lawful}
use Rattle.circuit.specs.declared.kind.Kind.{Kind}
use Rattle.circuit.specs.declared.row.Row.{Row}
use Rattle.netlist.specs.Accepted.{Accepted, NameIn}
use Rattle.netlist.specs.Names.{name_of}
use Rattle.netlist.specs.Reading.{as_output, reading}
use Rattle.netlist.proofs.Found.{line_none}
use Rattle.netlist.proofs.Inputs.{inputs_push, inputs_mark}
use Rattle.netlist.proofs.OneMore.{row_before, row_last, row_each, mark_each, name_kept}
use Rattle.netlist.proofs.Grows.{Fresh, reading_keeps}

lawful_grow : (text : List ℕ) (rows : List Row) (row : Row) → length rows < 1024 → Fresh text rows row → Lawful rows → Lawful (rows ++ row ∷ [])
lawful_grow text rows row h new l =
    record {
      few_lines = omega (arith, length_push rows row);
      few_inputs =
          elim (cases_Bool (is_input row.kind)) [
            | inl e ↦ omega (arith, inputs_push rows row, cond-true {A = ℕ} (is_input row.kind) 1 0 e, new.few_inputs e)
            | inr e ↦ omega (arith, inputs_push rows row, cond-false {A = ℕ} (is_input row.kind) 1 0 e, l.few_inputs)
          ];
      pin_counts = row_each rows row (λ i r. counted r.kind r.count ≡ true) l.pin_counts new.pin_count;
      pins_below = row_each rows row (λ i r. Below i (pins_of r)) l.pins_below new.pins_below;
    }

lawful_mark : (rows : List Row) (i : ℕ) → i < length rows → Lawful rows → Lawful (set rows i (as_output (row_at rows i)))
lawful_mark rows i h l =
    let more = set rows i (as_output (row_at rows i)) in
    let long : length more ≡ length rows = length-set rows i (as_output (row_at rows i)) in
    let same : inputs more ≡ inputs rows = inputs_mark rows i h in
    record {
      few_lines = omega (arith, long, l.few_lines);
      few_inputs = omega (arith, same, l.few_inputs);
      pin_counts = λ k g. mark_each rows i h (λ r. counted r.kind r.count ≡ true) k (λ p. p) (l.pin_counts k (omega arith));
      pins_below = λ k g. mark_each rows i h (λ r. Below k (pins_of r)) k (λ p. p) (l.pins_below k (omega arith));
    }

pub lawful_none : Lawful []
lawful_none = record { few_lines = omega arith; few_inputs = omega arith; pin_counts = λ i h. absurd (omega arith); pins_below = λ i h. absurd (omega arith) }

pub reading_words : (text : List ℕ) (room : ℕ) → Accepted (reading text room) Lawful
reading_words text room = reading_keeps text room Lawful (lawful_grow text) lawful_mark lawful_none

pub counted_named : (k : Option Kind) (c : ℕ) → counted k c ≡ true → is_some k ≡ true
counted_named None c e = e
counted_named (Some k) c e = refl

-- a lawful row has a kind
pub lawful_named : (rows : List Row) → Lawful rows → (i : ℕ) → i < length rows → named (row_at rows i) ≡ true
lawful_named rows l i h = counted_named (row_at rows i).kind (row_at rows i).count (l.pin_counts i h)

abbrev pub Unique : List ℕ → List Row → Type 0
Unique text rows = (i j : ℕ) → i < j → j < length rows → name_of text (row_at rows i) ≡ name_of text (row_at rows j) → ⊥

pub unique_grow : (text : List ℕ) (rows : List Row) (row : Row) → Fresh text rows row → Unique text rows → Unique text (rows ++ row ∷ [])
unique_grow text rows row new u i j h k e =
    elim (cases_lt j (length rows)) [
      | inl l ↦ u i j h l (ap (name_of text) (sym (row_before rows row i (omega arith))) ∙ e ∙ ap (name_of text) (row_before rows row j l))
      | inr g ↦
          let last : j ≡ length rows = omega (arith, length_push rows row) in
          line_none text rows row.name new.new i (omega arith)
          (ap (name_of text) (sym (row_before rows row i (omega arith))) ∙ e ∙ ap (λ n. name_of text (row_at (rows ++ row ∷ []) n)) last ∙ ap (name_of text) (row_last rows row))
    ]

-- what the rows so far keep
pub record OwnLines (text : List ℕ) (rows : List Row) : Type 0 where
  pub filled : (i : ℕ) → i < length rows → named (row_at rows i) ≡ true
  pub spelt : (i : ℕ) → i < length rows → NameIn text (row_at rows i).name
  pub unique : Unique text rows

lines_grow : (text : List ℕ) (rows : List Row) (row : Row) → length rows < 1024 → Fresh text rows row → OwnLines text rows → OwnLines text (rows ++ row ∷ [])
lines_grow text rows row h new l =
    record {
      filled = row_each rows row (λ i r. named r ≡ true) l.filled (counted_named row.kind row.count new.pin_count);
      spelt = row_each rows row (λ i r. NameIn text r.name) l.spelt new.spelt;
      unique = unique_grow text rows row new l.unique;
    }

lines_mark : (text : List ℕ) (rows : List Row) (i : ℕ) → i < length rows → OwnLines text rows → OwnLines text (set rows i (as_output (row_at rows i)))
lines_mark text rows i h l =
    let long : length (set rows i (as_output (row_at rows i))) ≡ length rows = length-set rows i (as_output (row_at rows i)) in
    record {
      filled = λ k g. mark_each rows i h (λ r. named r ≡ true) k (λ p. p) (l.filled k (omega arith));
      spelt = λ k g. mark_each rows i h (λ r. NameIn text r.name) k (λ p. p) (l.spelt k (omega arith));
      unique = λ a b g k e. l.unique a b g (omega arith) (sym (name_kept text rows i h a) ∙ e ∙ name_kept text rows i h b);
    }

lines_none : (text : List ℕ) → OwnLines text []
lines_none text = record { filled = λ i h. absurd (omega arith); spelt = λ i h. absurd (omega arith); unique = λ i j h k e. omega arith }

-- each line of an accepted text has a kind and a name of its own
pub reading_own : (text : List ℕ) (room : ℕ) → Accepted (reading text room) (OwnLines text)
reading_own text room = reading_keeps text room (OwnLines text) (lines_grow text) (lines_mark text) (lines_none text)
