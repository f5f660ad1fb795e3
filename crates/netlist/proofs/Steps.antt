-- One byte of a text, or a run of them.
use Rattle.std.proofs.Common.{◌≡◌, ℕ, zero, suc, ◌+◌, ◌-◌, ◌<◌, ◌≤◌, Bool, true, false, eqb, List, [], ◌∷◌, ◌++◌, length, get_or, take, drop, Some, None, sym, ap, ◌∙◌, ⊎_elim, add-zero, arith, length-drop}
use Rattle.std.specs.Prelude.{position}
use Rattle.std.specs.List.{prefix_len}
use Rattle.std.proofs.lemmas.List.{at_drop_more, at_drop_all, get_or-drop, take_all}
use Rattle.std.proofs.lemmas.List.Quantifiers.{position-Some}
use Rattle.std.proofs.lemmas.List.Sums.{prefix_len-le-length, prefix_len_passes, prefix_len_stops, prefix_len-drop_yes}
use Rattle.std.proofs.lemmas.Bool.{cond-true, cond-false, ne_eqb, cases_lt}
use Rattle.std.proofs.lemmas.Bool.Decides.{nat_tests}
use Rattle.netlist.specs.Bytes.{word_byte, blank_byte, stop_byte}
use Rattle.netlist.specs.Tokens.{Tok, word, mark, end, flush, tokens, line, later, lines_after, Next}
use Rattle.netlist.proofs.Positions.{position_none}

blank_not_word : (b : ℕ) → blank_byte b ≡ true → word_byte b ≡ false
blank_not_word b e = grind (arith, nat_tests)

stop_not_word : (b : ℕ) → stop_byte b ≡ true → word_byte b ≡ false
stop_not_word b e = grind (arith, nat_tests)

stop_not_blank : (b : ℕ) → stop_byte b ≡ true → blank_byte b ≡ false
stop_not_blank b e = grind (arith, nat_tests)

pub at_word : (w text : List ℕ) (i : ℕ) → i < length text → word_byte (get_or text i 0) ≡ true → tokens w (drop i text) i ≡ tokens (w ++ get_or text i 0 ∷ []) (drop (i + 1) text) (i + 1)
unfolding tokens
at_word w text i h e = at_drop_more (λ l. tokens w l i) text i 0 h ∙ cond-true _ _ _ e

pub at_blank : (text : List ℕ) (i : ℕ) → i < length text → blank_byte (get_or text i 0) ≡ true → line text i ≡ line text (i + 1)
unfolding tokens flush
at_blank text i h e = at_drop_more (λ l. tokens [] l i) text i 0 h ∙ cond-false _ _ _ (blank_not_word (get_or text i 0) e) ∙ cond-true _ _ _ e

pub at_stop : (text : List ℕ) (i : ℕ) → i < length text → stop_byte (get_or text i 0) ≡ true → line text i ≡ end i ∷ []
unfolding tokens flush
at_stop text i h e = at_drop_more (λ l. tokens [] l i) text i 0 h ∙ cond-false _ _ _ (stop_not_word (get_or text i 0) e) ∙ cond-false _ _ _ (stop_not_blank (get_or text i 0) e) ∙ cond-true _ _ _ e

pub at_mark : (text : List ℕ) (i : ℕ) → i < length text → word_byte (get_or text i 0) ≡ false → blank_byte (get_or text i 0) ≡ false → stop_byte (get_or text i 0) ≡ false → line text i ≡ mark (get_or text i 0) i ∷ line text (i + 1)
unfolding tokens flush
at_mark text i h e f g = at_drop_more (λ l. tokens [] l i) text i 0 h ∙ cond-false _ _ _ e ∙ cond-false _ _ _ f ∙ cond-false _ _ _ g

pub at_end : (text : List ℕ) (i : ℕ) → length text ≤ i → line text i ≡ end i ∷ []
unfolding tokens flush
at_end text i h = at_drop_all (λ l. tokens [] l i) text i h

flushed : (w : List ℕ) (p : ℕ) (ts : List Tok) → 0 < length w → flush w p ts ≡ word w (p - length w) ∷ ts
unfolding flush
flushed w p ts h = cond-false _ _ _ (ne_eqb (length w) 0 (λ e. omega arith))

-- a word ends where no byte of a word follows
pub at_word_end : (w text : List ℕ) (i : ℕ) → 0 < length w → (i < length text → word_byte (get_or text i 0) ≡ false) → tokens w (drop i text) i ≡ word w (i - length w) ∷ line text i
unfolding tokens flush
at_word_end w text i some e =
    ⊎_elim
    (λ h. at_drop_more (λ l. tokens w l i) text i 0 h ∙ cond-false _ _ _ (e h) ∙ flushed w i _ some ∙ ap (λ ts. word w (i - length w) ∷ ts) (sym (at_drop_more (λ l. tokens [] l i) text i 0 h ∙ cond-false _ _ _ (e h))))
    (λ h. at_drop_all (λ l. tokens w l i) text i h ∙ flushed w i _ some ∙ ap (λ ts. word w (i - length w) ∷ ts) (sym (at_end text i h)))
    (cases_lt i (length text))

passed : (text : List ℕ) (i : ℕ) → i < length text → eqb (get_or text i 0) 10 ≡ false → lines_after text (i + 1) ≡ lines_after text i
unfolding later
passed text i h e = sym (at_drop_more (λ l. later l i) text i 0 h ∙ cond-false _ _ _ e)

-- the end of a line
at_ten : (text : List ℕ) (i : ℕ) → i < length text → eqb (get_or text i 0) 10 ≡ true → lines_after text i ≡ line text (i + 1) ∷ lines_after text (i + 1)
unfolding later
at_ten text i h e = at_drop_more (λ l. later l i) text i 0 h ∙ cond-true _ _ _ e

no_more : (text : List ℕ) (i : ℕ) → length text ≤ i → lines_after text i ≡ []
unfolding later
no_more text i h = at_drop_all (λ l. later l i) text i h

-- what n steps leave alone
run_same : {A : Type 0} (f : ℕ → A) (at n : ℕ) → ((k : ℕ) → k < n → f (at + k) ≡ f (at + k + 1)) → f at ≡ f (at + n)
run_same f at zero each = ap f (sym (add-zero at))
run_same f at (suc n) each = run_same f at n (λ k h. each k (omega arith)) ∙ each n (omega arith) ∙ ap f (omega arith)

module _ (text : List ℕ) (at : ℕ) where
  -- what stands from `at` on
  abbrev pub rest : List ℕ
  rest = take (length text - at) (drop at text)

  rest_is : rest ≡ drop at text
  rest_is = take_all (length text - at) (drop at text) (omega (arith, length-drop at text))

  rest_long : length rest ≡ length text - at
  rest_long = ap length rest_is ∙ length-drop at text

  rest_at : (k : ℕ) → get_or rest k 0 ≡ get_or text (at + k) 0
  rest_at k = ap (λ bs. get_or bs k 0) rest_is ∙ get_or-drop at text k 0

  -- a run goes as far as its test passes
  pub run_within : (p : ℕ → Bool) → at ≤ length text → at + prefix_len p rest ≤ length text
  run_within p h = omega (arith, h, rest_long, prefix_len-le-length p rest)

  pub run_passes : (p : ℕ → Bool) (k : ℕ) → k < prefix_len p rest → p (get_or text (at + k) 0) ≡ true
  run_passes p k h = ap p (sym (rest_at k)) ∙ prefix_len_passes p rest k 0 h

  pub run_stops : (p : ℕ → Bool) → at + prefix_len p rest < length text → p (get_or text (at + prefix_len p rest) 0) ≡ false
  run_stops p h = ap p (sym (rest_at (prefix_len p rest))) ∙ prefix_len_stops p rest 0 (omega (arith, h, rest_long))

  pub run_begins : (p : ℕ → Bool) → at < length text → p (get_or text at 0) ≡ true → 0 < prefix_len p rest
  run_begins p h e =
      let first : p (get_or rest 0 0) ≡ true = ap p (rest_at 0 ∙ ap (λ i. get_or text i 0) (add-zero at)) ∙ e in
      omega (arith, prefix_len-drop_yes p rest 0 0 (omega (arith, h, rest_long)) first)

  -- blanks are passed over
  pub run_blank : at ≤ length text → line text at ≡ line text (at + prefix_len blank_byte rest)
  run_blank h =
      run_same (line text) at (prefix_len blank_byte rest)
      (λ k l. at_blank text (at + k) (omega (arith, l, run_within blank_byte h)) (run_passes blank_byte k l))

  run_other : (n : ℕ) → at + n ≤ length text → ((k : ℕ) → k < n → eqb (get_or rest k 0) 10 ≡ false) → lines_after text at ≡ lines_after text (at + n)
  run_other n h each =
      run_same (lines_after text) at n
      (λ k l. sym (passed text (at + k) (omega arith) (ap (λ b. eqb b 10) (sym (rest_at k)) ∙ each k l)))

  pub next_none : at ≤ length text → position (λ b. eqb b 10) rest ≡ None → lines_after text at ≡ []
  next_none h e =
      run_other (length text - at) (omega arith) (λ k l. position_none (λ b. eqb b 10) rest 0 e k (omega (arith, rest_long)))
      ∙ no_more text (at + (length text - at)) (omega arith)

  pub next_some : (n : ℕ) → at ≤ length text → position (λ b. eqb b 10) rest ≡ Some n → Next text at (Some (at + n + 1))
  next_some n h e =
      let found = position-Some (λ b. eqb b 10) rest n 0 e in
      let inside : at + n < length text = omega (arith, found.0, rest_long) in (
        run_other n (omega arith) found.2 ∙ at_ten text (at + n) inside (ap (λ b. eqb b 10) (sym (rest_at n)) ∙ found.1),
        omega arith,
        omega arith,
      )

-- the first token after n blanks
module _ (text : List ℕ) (at n : ℕ) (h : at ≤ length text) (e : n ≡ prefix_len blank_byte (rest text at)) where
  pub after_blanks : line text at ≡ line text (at + n)
  after_blanks = rw e (run_blank text at h)

  pub solid : at + n < length text → blank_byte (get_or text (at + n) 0) ≡ false
  solid = rw e (run_stops text at blank_byte)
