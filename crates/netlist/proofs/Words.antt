-- The words of a text line, and the names and pins that its statement has.
use Rattle.std.proofs.Common.{ControlFlow, Continue, Break, ◌≡◌, ℕ, ◌+◌, ◌-◌, ◌≤◌, eqb, leb, List, [], ◌∷◌, ◌++◌, length, IfSome, Some, None, Option, Ok, Err, refl, ◌∙◌, arith, length-set}
use Rattle.std.specs.List.{AllByRecursion}
use Rattle.std.proofs.lemmas.List.{length_push}
use Rattle.std.proofs.lemmas.Bool.{cond_both, leb-true, leb-false, eqb-false}
use Rattle.circuit.specs.declared.row.Span.{Span}
use Rattle.netlist.specs.Accepted.{Accepted, NameIn}
use Rattle.netlist.specs.Bytes.{word_byte, blank_byte, stop_byte}
use Rattle.netlist.specs.Reading.{lines_from}
use Rattle.netlist.specs.Statements.{more_added, with_pin, span_of, to, on_word, on_mark, on_end, stepped, said, Step}
use Rattle.netlist.specs.Tokens.{Tok, word, mark, end, flush, tokens, later}
use Rattle.netlist.proofs.Said.{then_said}
use Rattle.netlist.specs.declared.pins.Pins.{Pins}
use Rattle.netlist.specs.declared.state.State.{State}
use Rattle.netlist.specs.declared.state.State.TheVariants.{Start, Named, Declaring, Declared, DeclarationClosed, Driven, Kinded, Opened, Pinned, GateClosed}
use Rattle.netlist.specs.declared.statement.Statement.{Statement}
use Rattle.netlist.specs.declared.statement.Statement.TheVariants.{Empty, Declaration, Gate}

-- a word has a byte, and stands before place n
abbrev pub Before : ℕ → Tok → Type 0
Before n (word w p) = (1 ≤ length w) × (p + length w ≤ n)
Before n (mark b p) = Unit {0}
Before n (end p) = Unit {0}

flush_before : (n : ℕ) (w : List ℕ) (p : ℕ) (ts : List Tok) → length w ≤ p → p ≤ n → AllByRecursion (Before n) ts → AllByRecursion (Before n) (flush w p ts)
unfolding flush
flush_before n w p ts h k a =
    cond_both (eqb (length w) 0) ts (word w (p - length w) ∷ ts) (AllByRecursion (Before n)) (λ e. a) (λ e.
    let some : length w ≡ 0 → ⊥ = eqb-false (length w) 0 e in
    ((omega arith, omega arith), a))

pub tokens_before : (n : ℕ) (w bs : List ℕ) (p : ℕ) → length w ≤ p → p + length bs ≤ n → AllByRecursion (Before n) (tokens w bs p)
unfolding tokens
tokens_before n w [] p h k = flush_before n w p (end p ∷ []) h (omega arith) (tt, tt)
tokens_before n w (b ∷ bs) p h k =
    let rest : AllByRecursion (Before n) (tokens [] bs (p + 1)) = tokens_before n [] bs (p + 1) (omega arith) (omega arith) in
    cond_both (word_byte b) _ _ (AllByRecursion (Before n))
    (λ e. tokens_before n (w ++ b ∷ []) bs (p + 1) (omega (arith, length_push w b)) (omega arith))
    (λ e. flush_before n w p _ h (omega arith)
    (cond_both (blank_byte b) _ _ (AllByRecursion (Before n)) (λ e. rest)
    (λ e. cond_both (stop_byte b) (end p ∷ []) (mark b p ∷ tokens [] bs (p + 1)) (AllByRecursion (Before n)) (λ e. (tt, tt)) (λ e. (tt, rest)))))

later_before : (n : ℕ) (bs : List ℕ) (p : ℕ) → p + length bs ≤ n → AllByRecursion (AllByRecursion (Before n)) (later bs p)
unfolding later
later_before n [] p k = tt
later_before n (b ∷ bs) p k =
    let more : AllByRecursion (AllByRecursion (Before n)) (later bs (p + 1)) = later_before n bs (p + 1) (omega arith) in
    cond_both (eqb b 10) _ _ (AllByRecursion (AllByRecursion (Before n))) (λ e. (tokens_before n [] bs (p + 1) (omega arith) (omega arith), more)) (λ e. more)

-- each word of the text lines stands in the text
pub lines_before : (text : List ℕ) → AllByRecursion (AllByRecursion (Before (length text))) (lines_from text 0)
lines_before text =
    (tokens_before (length text) [] text 0 (omega arith) (omega arith), later_before (length text) text 0 (omega arith))

-- as many places as a gate may have pins, and no more pins
abbrev pub Eight : Option Pins → Type 0
Eight o = IfSome o (λ ps. (length ps.spans ≡ 8) × (ps.count ≤ 8))

-- the names of a statement stand in the text, and its pins are eight places
abbrev pub Sound : List ℕ → Statement → Type 0
Sound text Empty = Unit {0}
Sound text (Declaration d) = NameIn text d.word
Sound text (Gate g close) = NameIn text g.line × Eight g.pins

abbrev Ready : List ℕ → State → Type 0
Ready text Start = Unit {0}
Ready text (Named n) = NameIn text n
Ready text (Declaring k) = Unit {0}
Ready text (Declared d) = NameIn text d.word
Ready text (DeclarationClosed d) = NameIn text d.word
Ready text (Driven l) = NameIn text l
Ready text (Kinded l k) = NameIn text l
Ready text (Opened g) = NameIn text g.line × Eight g.pins
Ready text (Pinned g) = NameIn text g.line × Eight g.pins
Ready text (GateClosed g c) = NameIn text g.line × Eight g.pins

abbrev Goes : List ℕ → ControlFlow Statement State → Type 0
Goes text (Continue n) = Ready text n
Goes text (Break x) = Sound text x

named_word : (text w : List ℕ) (p : ℕ) (next : Span → State) → 1 ≤ length w → p + length w ≤ length text → ((s : Span) → NameIn text s → Ready text (next s)) → Accepted (to next (span_of w p)) (Goes text)
named_word text w p next h k f =
    cond_both (leb (length w) 16) (Ok (record { offset = p; len = length w })) _ (λ r. Accepted (to next r) (Goes text))
    (λ e. f (record { offset = p; len = length w }) (record { some = h; few = leb-true (length w) 16 e; inside = k }))
    (λ e. tt)

added_eight : (o : Option Pins) (s : Span) → Eight o → Eight (more_added o s)
added_eight None s e = tt
added_eight (Some ps) s e = cond_both (leb 8 ps.count) _ _ Eight (λ t. tt) (λ t. (length-set ps.spans ps.count s ∙ e.0, omega (arith, leb-false 8 ps.count t)))

word_goes : (text : List ℕ) (s : State) (w : List ℕ) (p : ℕ) → 1 ≤ length w → p + length w ≤ length text → Ready text s → Accepted (on_word s w p) (Goes text)
word_goes text Start w p h k r = named_word text w p (λ s. Named s) h k (λ s n. n)
word_goes text (Named n) w p h k r = tt
word_goes text (Declaring d) w p h k r = named_word text w p (λ s. Declared (record { keyword = d; word = s })) h k (λ s n. n)
word_goes text (Declared d) w p h k r = tt
word_goes text (DeclarationClosed d) w p h k r = tt
word_goes text (Driven l) w p h k r = named_word text w p (λ s. Kinded l s) h k (λ s n. r)
word_goes text (Kinded l d) w p h k r = tt
word_goes text (Opened g) w p h k r = named_word text w p (λ s. Pinned (with_pin g s)) h k (λ s n. (r.0, added_eight g.pins s r.1))
word_goes text (Pinned g) w p h k r = tt
word_goes text (GateClosed g c) w p h k r = tt

mark_goes : (text : List ℕ) (s : State) (b p : ℕ) → Ready text s → Accepted (on_mark s b p) (Goes text)
mark_goes text Start b p r = tt
mark_goes text (Named n) b p r =
    cond_both (eqb b 40) _ _ (λ x. Accepted x (Goes text)) (λ e. tt) (λ e. cond_both (eqb b 61) _ _ (λ x. Accepted x (Goes text)) (λ e. r) (λ e. tt))
mark_goes text (Declaring d) b p r = tt
mark_goes text (Declared d) b p r = cond_both (eqb b 41) _ _ (λ x. Accepted x (Goes text)) (λ e. r) (λ e. tt)
mark_goes text (DeclarationClosed d) b p r = tt
mark_goes text (Driven l) b p r = tt
mark_goes text (Kinded l d) b p r = cond_both (eqb b 40) _ _ (λ x. Accepted x (Goes text)) (λ e. (r, (refl, omega arith))) (λ e. tt)
mark_goes text (Opened g) b p r = tt
mark_goes text (Pinned g) b p r =
    cond_both (eqb b 44) _ _ (λ x. Accepted x (Goes text)) (λ e. r) (λ e. cond_both (eqb b 41) _ _ (λ x. Accepted x (Goes text)) (λ e. r) (λ e. tt))
mark_goes text (GateClosed g c) b p r = tt

end_goes : (text : List ℕ) (s : State) (p : ℕ) → Ready text s → Accepted (on_end s p) (Goes text)
end_goes text Start p r = tt
end_goes text (Named n) p r = tt
end_goes text (Declaring d) p r = tt
end_goes text (Declared d) p r = tt
end_goes text (DeclarationClosed d) p r = r
end_goes text (Driven l) p r = tt
end_goes text (Kinded l d) p r = tt
end_goes text (Opened g) p r = tt
end_goes text (Pinned g) p r = tt
end_goes text (GateClosed g c) p r = r

step_goes : (text : List ℕ) (s : State) (t : Tok) → Before (length text) t → Ready text s → Accepted (stepped s t) (Goes text)
step_goes text s (word w p) h r = word_goes text s w p h.0 h.1 r
step_goes text s (mark b p) h r = mark_goes text s b p r
step_goes text s (end p) h r = end_goes text s p r

said_from : (text : List ℕ) (ts : List Tok) → ((s : State) → Ready text s → Accepted (said s ts) (Sound text)) → (r : Step) → Accepted r (Goes text) → Accepted (then_said ts r) (Sound text)
said_from text ts f (Ok (Continue n)) g = f n g
said_from text ts f (Ok (Break x)) g = g
said_from text ts f (Err e) g = tt

said_ready : (text : List ℕ) (ts : List Tok) → AllByRecursion (Before (length text)) ts → (s : State) → Ready text s → Accepted (said s ts) (Sound text)
unfolding said
said_ready text [] a s r = tt
said_ready text (t ∷ ts) a s r = said_from text ts (said_ready text ts a.1) (stepped s t) (step_goes text s t a.0 r)

-- the statement of a text line is sound
pub said_sound : (text : List ℕ) (l : List Tok) → AllByRecursion (Before (length text)) l → Accepted (said Start l) (Sound text)
said_sound text l a = said_ready text l a Start tt
