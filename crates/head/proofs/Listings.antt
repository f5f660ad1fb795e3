-- Laws of the rows of a sheet.
use Rattle.std.proofs.Common.{◌≡◌, ℕ, ◌+◌, ◌-◌, ◌*◌, ◌<◌, ◌≤◌, Bool, true, false, cond, ◌&&◌, eqb, ltb, List, ◌++◌, length, get_or, take, drop, Some, None, Ok, Err, sym, refl, ap, ◌∙◌, inl, inr, add-mul, one-mul, le-div_iff_mul-le, arith, length-drop, length-append, length-take-le, take-append-drop, IsTrue, MatchOption, Option, get_or-drop, get_or-take, ext_get_or}
use denote.Ref.{Bor}
use denote.Param.Members.{Mut, Called}
use Rattle.std.specs.Option.{ok_or}
use Rattle.std.specs.Prelude.{IfSome, IsSomeAnd}
use Rattle.std.specs.Iterator.Runs.{Run, AllItemsGive, IsFirstToGive, IsChunksExactRun, CallKeepsClosure}
use Rattle.std.specs.Option.{option_map}
use Rattle.std.specs.List.{IsSubsliceAt}
use Rattle.std.proofs.lemmas.Option.{none-some}
use Rattle.std.specs.Str.{bytes_eq}
use Rattle.std.proofs.lemmas.List.{take-append-le}
use Rattle.std.proofs.lemmas.Slice.Eq.{bytes_eq-Decides}
use Rattle.std.proofs.Math.ListN.{get_or-append}
use Rattle.std.proofs.lemmas.Bool.Decides.{nat_tests}
use Rattle.std.proofs.lemmas.Bool.{lt-ltb, eqb-true, and_from, and_parts, or_cases, cond-true, cases_Bool}
use Rattle.circuit.proofs.Finds.{first_is, first_none}
use Rattle.head.specs.declared.fault.HeadFault.TheVariants.{Open}
use Rattle.head.specs.declared.reading.Reading.{Reading}
use Rattle.head.specs.declared.reading.Reading.TheVariants.{High, Low}
use Rattle.head.specs.Meaning.{open', answered}
use Rattle.head.specs.Sheets.{row_count, row_mark, row_vector, answers, answering, marked, mark_reading, mark_standing, listed, sheet, Says, Silent, ByRows}

-- where the next row starts
pub next_start : (j w : ℕ) → (j + 1) * (w + 1) ≡ j * (w + 1) + (w + 1)
next_start j w = omega (arith, add-mul j 1 (w + 1), one-mul (w + 1))

whole_below : (w : ℕ) (rows : List ℕ) (j : ℕ) → (j + 1) * (w + 1) ≤ length rows → j < row_count w rows
whole_below w rows j h =
    let le : j + 1 ≤ row_count w rows = (le-div_iff_mul-le {k = w + 1} {x = j + 1} {y = length rows} (omega arith)).1 h in
    omega arith

-- what a row that says r, or nothing, tells of its bytes and its mark
said_some : (same : Bool) (b : ℕ) (r : Reading) → cond same (mark_reading b) None ≡ Some r → ((marked b && same) ≡ true) × (cond (eqb b 72) High Low ≡ r)
said_some same b r e = (grind (arith, nat_tests), grind (arith, nat_tests))

said_none : (same : Bool) (b : ℕ) → cond same (mark_reading b) None ≡ None → (marked b && same) ≡ false
said_none same b e = grind (arith, nat_tests)

-- x is row j with its mark
pub record RowAt (w : ℕ) (rows v : List ℕ) (j : ℕ) (x : List ℕ) : Type 0 where
  pub inside : j < row_count w rows
  pub said : (r : Reading) → cond (bytes_eq (take (length x - 1) x) v) (mark_reading (get_or x (length x - 1) 0)) None ≡ Some r → (answers w rows v j ≡ true) × (cond (eqb (row_mark w rows j) 72) High Low ≡ r)
  pub unsaid : cond (bytes_eq (take (length x - 1) x) v) (mark_reading (get_or x (length x - 1) 0)) None ≡ None → answers w rows v j ≡ false

-- the first w + 1 bytes of what is left from row j on
pub row_at : (w : ℕ) (rows v : List ℕ) (j : ℕ) (x rest : List ℕ) → drop (j * (w + 1)) rows ≡ x ++ rest → length x ≡ w + 1 → RowAt w rows v j x
row_at w rows v j x rest front long =
    let last : length x - 1 ≡ w = omega arith in
    let mark : get_or x (length x - 1) 0 ≡ row_mark w rows j =
    ap (λ n. get_or x n 0) last
    ∙ sym (get_or-append x rest 0 w (omega arith))
    ∙ ap (λ (l : List ℕ). get_or l w 0) (sym front)
    ∙ get_or-drop (j * (w + 1)) rows w 0 in
    let vector : take (length x - 1) x ≡ row_vector w rows j =
    ap (λ n. take n x) last ∙ sym (take-append-le w x rest (omega arith)) ∙ ap (take w) (sym front) in
    let same : cond (bytes_eq (take (length x - 1) x) v) (mark_reading (get_or x (length x - 1) 0)) None ≡ cond (bytes_eq (row_vector w rows j) v) (mark_reading (row_mark w rows j)) None =
    ap (λ b. cond (bytes_eq (take (length x - 1) x) v) (mark_reading b) None) mark ∙ ap (λ l. cond (bytes_eq l v) (mark_reading (row_mark w rows j)) None) vector in
    record {
      inside = whole_below w rows j (omega (arith, next_start j w, length-drop (j * (w + 1)) rows, ap length front, length-append x rest));
      said = λ r e. said_some (bytes_eq (row_vector w rows j) v) (row_mark w rows j) r (sym same ∙ e);
      unsaid = λ e. said_none (bytes_eq (row_vector w rows j) v) (row_mark w rows j) (sym same ∙ e);
    }

-- the first row that answers
pub listed_at : (w : ℕ) (rows v : List ℕ) (j : ℕ) → j < row_count w rows → answers w rows v j ≡ true → ((k : ℕ) → k < j → answers w rows v k ≡ false) → listed w rows v ≡ mark_standing (row_mark w rows j)
listed_at w rows v j h e f =
    let is : answering w rows v ≡ j = first_is (row_count w rows) (answers w rows v) j h e f in
    ap (λ i. cond (ltb i (row_count w rows)) (mark_standing (row_mark w rows i)) open') is ∙ cond-true _ _ _ (lt-ltb _ _ h)

pub listed_none : (w : ℕ) (rows v : List ℕ) → ((k : ℕ) → k < row_count w rows → answers w rows v k ≡ false) → listed w rows v ≡ open'
listed_none w rows v f =
    let is : answering w rows v ≡ row_count w rows = first_none (row_count w rows) (answers w rows v) f in
    grind (arith, nat_tests, is)

pub finds : (w : ℕ) (rows v : List ℕ) (j : ℕ) → j < row_count w rows → answers w rows v j ≡ true → ((k : ℕ) → k < j → answers w rows v k ≡ false) → answered 0 (listed w rows v) ≡ Ok (cond (eqb (row_mark w rows j) 72) High Low)
finds w rows v j h e f = let is = listed_at w rows v j h e f in grind (arith, nat_tests, is)

pub finds_none : (w : ℕ) (rows v : List ℕ) → ((k : ℕ) → k < row_count w rows → answers w rows v k ≡ false) → answered 0 (listed w rows v) ≡ Err (Open 0)
finds_none w rows v f = ap (answered 0) (listed_none w rows v f)

below_whole : (w : ℕ) (rows : List ℕ) (j : ℕ) → j < row_count w rows → (j + 1) * (w + 1) ≤ length rows
below_whole w rows j h = (le-div_iff_mul-le {k = w + 1} {x = j + 1} {y = length rows} (omega arith)).0 (omega arith)

-- the bytes of a row's vector
row_byte : (w : ℕ) (rows : List ℕ) (j k : ℕ) → k < w → get_or (row_vector w rows j) k 0 ≡ get_or rows (j * (w + 1) + k) 0
row_byte w rows j k h = get_or-take w (drop (j * (w + 1)) rows) k 0 h ∙ get_or-drop (j * (w + 1)) rows k 0

row_length : (w : ℕ) (rows : List ℕ) (j : ℕ) → (j + 1) * (w + 1) ≤ length rows → length (row_vector w rows j) ≡ w
row_length w rows j h =
    length-take-le w (drop (j * (w + 1)) rows) (omega (arith, length-drop (j * (w + 1)) rows, next_start j w))

says_vector : (w : ℕ) (rows v : List ℕ) (j b : ℕ) → length v ≡ w → Says w rows v j b → row_vector w rows j ≡ v
says_vector w rows v j b long s =
    let n = row_length w rows j s.whole in
    ext_get_or 0 (row_vector w rows j) v (n ∙ sym long) (λ k h. let in_row : k < w = omega (arith, n) in row_byte w rows j k in_row ∙ s.bytes k in_row)

says_answers : (w : ℕ) (rows v : List ℕ) (j b : ℕ) → length v ≡ w → marked b ≡ true → Says w rows v j b → answers w rows v j ≡ true
says_answers w rows v j b long m s =
    and_from (marked (row_mark w rows j)) (bytes_eq (row_vector w rows j) v)
    (ap marked s.ends ∙ m)
    ((bytes_eq-Decides (row_vector w rows j) v).1 (says_vector w rows v j b long s))

answers_says : (w : ℕ) (rows v : List ℕ) (j b : ℕ) → j < row_count w rows → bytes_eq (row_vector w rows j) v ≡ true → row_mark w rows j ≡ b → Says w rows v j b
answers_says w rows v j b h e m =
    let same : row_vector w rows j ≡ v = (bytes_eq-Decides (row_vector w rows j) v).0 e in
    record {
      whole = below_whole w rows j h;
      bytes = λ k l. sym (row_byte w rows j k l) ∙ ap (λ (u : List ℕ). get_or u k 0) same;
      ends = m;
    }

silent_fails : (w : ℕ) (rows v : List ℕ) (j : ℕ) → j < row_count w rows → Silent w rows v j → answers w rows v j ≡ false
silent_fails w rows v j h quiet =
    elim (cases_Bool (answers w rows v j)) [
      | inl e ↦
          let both = and_parts (marked (row_mark w rows j)) (bytes_eq (row_vector w rows j) v) e in
          elim (or_cases (eqb (row_mark w rows j) 72) (eqb (row_mark w rows j) 76) both.0) [
            | inl a ↦ absurd (quiet.0 (answers_says w rows v j 72 h both.1 (eqb-true (row_mark w rows j) 72 a)))
            | inr a ↦ absurd (quiet.1 (answers_says w rows v j 76 h both.1 (eqb-true (row_mark w rows j) 76 a)))
          ]
      | inr e ↦ e
    ]

-- the first row that says b, H or L, of v
says_listed : (w : ℕ) (rows v : List ℕ) (j b : ℕ) → length v ≡ w → marked b ≡ true → Says w rows v j b → ((i : ℕ) → i < j → Silent w rows v i) → listed w rows v ≡ mark_standing b
says_listed w rows v j b long m s before =
    let h : j < row_count w rows = whole_below w rows j s.whole in
    listed_at w rows v j h (says_answers w rows v j b long m s) (λ k l. silent_fails w rows v k (omega arith) (before k l))
    ∙ ap mark_standing s.ends

pub by_rows : (w : ℕ) (rows : List ℕ) → ByRows w rows (sheet w rows)
by_rows w rows =
    record {
      wide = refl;
      on_high = λ v j long bin s before. let is = says_listed w rows v j 72 long refl s before in grind (arith, is);
      on_low = λ v j long bin s before. let is = says_listed w rows v j 76 long refl s before in grind (arith, is);
      on_none = λ v long quiet. let is = listed_none w rows v (λ k h. silent_fails w rows v k h (quiet k)) in grind (arith, is);
      on_others = λ v other. grind arith;
    }

-- what a search over the chunks of w + 1 bytes finds, from what each call answered
module _ (w : ℕ) (rows v : List ℕ) (Calls : Bor (List ℕ) → Option Reading → Type 0) (calls : (x : Bor (List ℕ)) (y : Option Reading) → Calls x y → y ≡ cond (bytes_eq (take (length x.now - 1) x.now) v) (mark_reading (get_or x.now (length x.now - 1) 0)) None) where
  abbrev Chunk : ℕ → Bor (List ℕ) → Type 0
  Chunk k x = (length x.now ≡ w + 1) × (k * (w + 1) + (w + 1) ≤ length rows) × IsSubsliceAt (w + 1) rows (k * (w + 1)) x.now

  row_called : (k : ℕ) (y : Option Reading) (o : Option (Bor (List ℕ))) → IfSome o (Chunk k) → IsSomeAnd o (λ x. Calls x y) → (x : Bor (List ℕ)) × RowAt w rows v k x.now × Calls x y
  row_called k y None c s = absurd s
  row_called k y (Some x) c s =
      let left : List ℕ = drop (k * (w + 1)) rows in
      let cut : left ≡ x.now ++ drop (w + 1) left = sym (take-append-drop (w + 1) left) ∙ ap (λ l. l ++ drop (w + 1) left) (sym c.2.0) in
      (x, row_at w rows v k x.now (drop (w + 1) left) cut c.0, s)

  there : (P : Bor (List ℕ) → Type 0) (o : Option (Bor (List ℕ))) (z : Bor (List ℕ)) → option_map (λ y. y) o ≡ Some z → IfSome o P → IsSomeAnd o P
  there P None z e i = absurd (none-some z e)
  there P (Some x) z e i = i

  silent : (k : ℕ) (o : Option (Bor (List ℕ))) → IfSome o (Chunk k) → IsSomeAnd o (λ x. Calls x None) → answers w rows v k ≡ false
  silent k o c s = let r = row_called k None o c s in r.1.unsaid (sym (calls r.0 None r.2))

  pub run_finds : (at : ℕ → Option (Bor (List ℕ))) → ((k : ℕ) → IfSome (at k) (Chunk k)) → (i : ℕ) (y : Reading) → IsSomeAnd (at i) (λ x. Calls x (Some y)) → ((k : ℕ) → k < i → IsSomeAnd (at k) (λ x. Calls x None)) → Ok y ≡ answered 0 (listed w rows v)
  run_finds at chunks i y hit miss =
      let r = row_called i (Some y) (at i) (chunks i) hit in
      let said = r.1.said y (sym (calls r.0 (Some y) r.2)) in
      ap Ok (sym said.1) ∙ sym (finds w rows v i r.1.inside said.0 (λ k h. silent k (at k) (chunks k) (miss k h)))

  pub run_none : (at : ℕ → Option (Bor (List ℕ))) → ((k : ℕ) → IfSome (at k) (Chunk k)) → ((k : ℕ) → k < row_count w rows → (z : Bor (List ℕ)) × (option_map (λ y. y) (at k) ≡ Some z)) → ((k : ℕ) → IfSome (at k) (λ x. Calls x None)) → Err (Open 0) ≡ answered 0 (listed w rows v)
  run_none at chunks each miss =
      sym (finds_none w rows v (λ k h. let z = each k h in silent k (at k) (chunks k) (there (λ x. Calls x None) (at k) z.0 z.1 (miss k))))

-- the same of a run of `find_map` over those chunks
pub run_found : {S F : Type 0} {steps : S → Option (Bor (List ℕ)) → S → Type 0} {g : Mut F (Bor (List ℕ) × Unit {0}) (Option Reading)} {f : F} (w : ℕ) (rows v : List ℕ) (z : Bor (List ℕ)) (p : Run steps) → IsChunksExactRun p (w + 1) rows → CallKeepsClosure g f → ((x : Bor (List ℕ)) (y : Option Reading) → Called g f (x, tt) y f → y ≡ cond (bytes_eq (take (length x.now - 1) x.now) v) (mark_reading (get_or x.now (length x.now - 1) 0)) None) → (r : Option Reading) → MatchOption r (IsTrue p.whole × AllItemsGive p g f None) (λ y. (i : ℕ) × (i < p.len) × (p.len ≡ i + 1) × IsFirstToGive p g f (Some y) None i) → ok_or r (Open 0) ≡ answered 0 (listed w rows v)
run_found {g} {f} w rows v z p chunks keeps calls None (whole, miss) =
    run_none w rows v (λ x y. Called g f (x, tt) y f) calls p.at chunks.2 (λ k h. (_, p.reads k z (omega (arith, chunks.1 whole)))) (miss keeps)
run_found {g} {f} w rows v z p chunks keeps calls (Some y) (i, _, _, first) =
    run_finds w rows v (λ x y. Called g f (x, tt) y f) calls p.at chunks.2 i y (first keeps).0 (first keeps).1
