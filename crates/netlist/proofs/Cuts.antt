-- A text line is cut into tokens in one way.
use Rattle.std.proofs.Common.{◌≡◌, ℕ, zero, suc, ◌+◌, ◌-◌, ◌<◌, ◌≤◌, true, false, List, [], ◌∷◌, ◌++◌, length, get_or, take, drop, sym, refl, ap, ◌∙◌, subst, ⊎_elim, add-zero, arith, length-drop}
use Rattle.std.proofs.lemmas.List.{take_more, get_or-drop, length-take-le}
use Rattle.std.proofs.lemmas.Bool.{cases_Bool, cases_lt}
use Rattle.std.specs.List.{prefix_len}
use Rattle.netlist.specs.Bytes.{word_byte, blank_byte, stop_byte}
use Rattle.netlist.specs.Cutting.{Cut, blank, whole_word, alone, end_of_text, stop}
use Rattle.netlist.specs.Tokens.{Tok, word, mark, tokens, line}
use Rattle.netlist.proofs.Steps.{rest, run_within, run_passes, run_stops, run_begins, at_word, at_blank, at_stop, at_mark, at_end, at_word_end}

-- the bytes from `at` on that have been read into a word
run_on : (text : List ℕ) (at n : ℕ) → at + n ≤ length text → ((k : ℕ) → k < n → word_byte (get_or text (at + k) 0) ≡ true) → line text at ≡ tokens (take n (drop at text)) (drop (at + n) text) (at + n)
run_on text at zero h each = rw add-zero refl
run_on text at (suc n) h each =
    let here : at + n < length text = omega arith in
    let inside : n < length (drop at text) = omega (arith, length-drop at text) in
    let grown : take (n + 1) (drop at text) ≡ take n (drop at text) ++ get_or text (at + n) 0 ∷ [] = take_more (drop at text) n 0 inside ∙ ap (λ b. take n (drop at text) ++ b ∷ []) (get_or-drop at text n 0) in
    let further : at + n + 1 ≡ at + suc n = omega arith in
    let one : n + 1 ≡ suc n = omega arith in
    run_on text at n (omega arith) (λ k l. each k (omega arith))
    ∙ at_word (take n (drop at text)) text (at + n) here (each n (omega arith))
    ∙ ap (λ w. tokens w (drop (at + n + 1) text) (at + n + 1)) (sym grown)
    ∙ ap (λ m. tokens (take m (drop at text)) (drop (at + n + 1) text) (at + n + 1)) one
    ∙ ap (λ q. tokens (take (suc n) (drop at text)) (drop q text) q) further

-- a word goes as far as it can
pub run_word : (text : List ℕ) (at n : ℕ) → 0 < n → at + n ≤ length text → ((k : ℕ) → k < n → word_byte (get_or text (at + k) 0) ≡ true) → (at + n < length text → word_byte (get_or text (at + n) 0) ≡ false) → line text at ≡ word (take n (drop at text)) at ∷ line text (at + n)
run_word text at n some h each over =
    let long : length (take n (drop at text)) ≡ n = length-take-le n (drop at text) (omega (arith, length-drop at text)) in
    let back : at + n - length (take n (drop at text)) ≡ at = omega arith in
    run_on text at n h each ∙ at_word_end (take n (drop at text)) text (at + n) (omega arith) over ∙ ap (λ p. word (take n (drop at text)) p ∷ line text (at + n)) back

-- a word of n bytes
pub word_first : (text : List ℕ) (at n : ℕ) → at < length text → word_byte (get_or text at 0) ≡ true → n ≡ prefix_len word_byte (rest text at) → line text at ≡ word (take n (drop at text)) at ∷ line text (at + n)
word_first text at n h first e =
    rw e (run_word text at (prefix_len word_byte (rest text at)) (run_begins text at word_byte h first) (run_within text at word_byte (omega arith)) (run_passes text at word_byte) (run_stops text at word_byte))

cut_is : (text : List ℕ) {at : ℕ} {ts : List Tok} → Cut text at ts → ts ≡ line text at
cut_is text (blank {at = at} h e c) = cut_is text c ∙ sym (at_blank text at h e)
cut_is text (whole_word {at = at} n some h each over c) = ap (λ ts. word (take n (drop at text)) at ∷ ts) (cut_is text c) ∙ sym (run_word text at n some h each over)
cut_is text (alone {at = at} h e f g c) = ap (λ ts. mark (get_or text at 0) at ∷ ts) (cut_is text c) ∙ sym (at_mark text at h e f g)
cut_is text (end_of_text {at = at} e) = sym (at_end text at (omega arith))
cut_is text (stop {at = at} h e) = sym (at_stop text at h e)

pub cut_line : (text : List ℕ) (at : ℕ) (ts : List Tok) → Cut text at ts → ts ≡ line text at
cut_line text at ts c = cut_is text c

cut_as : (text : List ℕ) (at : ℕ) (ts : List Tok) → line text at ≡ ts → Cut text at ts → Cut text at (line text at)
cut_as text at ts e c = subst (λ us. Cut text at us) (sym e) c

cut_within : (text : List ℕ) (at fuel : ℕ) → at ≤ length text → length text ≤ at + fuel → Cut text at (line text at)
cut_within text at zero h room = cut_as text at _ (at_end text at (omega arith)) (end_of_text (omega arith))
cut_within text at (suc fuel) h room =
    ⊎_elim
    (λ l.
    ⊎_elim
    (λ e.
    let n = prefix_len word_byte (rest text at) in
    let some : 0 < n = run_begins text at word_byte l e in
    let fits : at + n ≤ length text = run_within text at word_byte h in
    let each = run_passes text at word_byte in
    let over = run_stops text at word_byte in
    cut_as text at _ (run_word text at n some fits each over) (whole_word n some fits each over (cut_within text (at + n) fuel fits (omega arith))))
    (λ e.
    let next = cut_within text (at + 1) fuel (omega arith) (omega arith) in
    ⊎_elim
    (λ f. cut_as text at _ (at_blank text at l f) (blank l f next))
    (λ f.
    ⊎_elim
    (λ g. cut_as text at _ (at_stop text at l g) (stop l g))
    (λ g. cut_as text at _ (at_mark text at l e f g) (alone l e f g next))
    (cases_Bool (stop_byte (get_or text at 0))))
    (cases_Bool (blank_byte (get_or text at 0))))
    (cases_Bool (word_byte (get_or text at 0))))
    (λ l. cut_as text at _ (at_end text at l) (end_of_text (omega arith)))
    (cases_lt at (length text))

pub line_cut : (text : List ℕ) (at : ℕ) → at ≤ length text → Cut text at (line text at)
line_cut text at h = cut_within text at (length text) h (omega arith)
