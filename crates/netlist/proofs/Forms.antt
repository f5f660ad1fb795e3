-- The well-formed text lines are those that are read.
use Rattle.std.proofs.Common.{Continue, Break, ◌≡◌, ℕ, ◌+◌, ◌<◌, cond, eqb, leb, List, [], ◌∷◌, ◌++◌, length, drop, Some, Ok, Err, fold, Option, Result, sym, refl, ap, ◌∙◌, append_assoc, arith}
use Rattle.std.proofs.lemmas.List.Sums.{fold_push}
use Rattle.std.proofs.lemmas.Bool.{cond-true, cond_both, le-leb, leb-true, leb-false, eqb-true}
use Rattle.circuit.specs.declared.row.Span.{Span}
use Rattle.netlist.specs.Grammar.{span_at, collected, PinWords, last_pin, more_pins, empty, declaration, gate, Short, Form, OneEnd, only_end, after_word, after_mark, AnyLength, tok_place, Fair}
use Rattle.netlist.specs.Statements.{no_pins, more_added, span_of, to, stepped, said, Step}
use Rattle.netlist.proofs.Said.{then_said, said_step}
use Rattle.netlist.specs.Bytes.{word_byte, blank_byte, stop_byte}
use Rattle.netlist.specs.Tokens.{Tok, word, mark, end, flush, tokens, line}
use Rattle.netlist.specs.declared.fault.TokenFault.{TokenFault}
use Rattle.netlist.specs.declared.fault.TokenFault.TheVariants.{OutOfForm, TooLong}
use Rattle.netlist.specs.declared.pins.Pins.{Pins}
use Rattle.netlist.specs.declared.state.State.{State}
use Rattle.netlist.specs.declared.state.State.TheVariants.{Start, Named, Declaring, Declared, DeclarationClosed, Driven, Kinded, Opened, Pinned, GateClosed}
use Rattle.netlist.specs.declared.statement.Declaration.{Declaration as Declares}
use Rattle.netlist.specs.declared.statement.Gate.{Gate as Gates}
use Rattle.netlist.specs.declared.statement.Statement.{Statement}
use Rattle.netlist.specs.declared.statement.Statement.TheVariants.{Gate}

abbrev pub declared : Span → Span → Declares
declared k s = record { keyword = k; word = s }

abbrev pub gated : Span → Span → Option Pins → Gates
gated l k ps = record { line = l; kind = k; pins = ps }

short_span : (w : List ℕ) (p : ℕ) → Short (length w) → span_of w p ≡ Ok (span_at w p)
short_span w p h = cond-true _ _ _ (le-leb (length w) 16 h)

-- one short word on
word_on : (s : State) (next : Span → State) (w : List ℕ) (p : ℕ) (ts : List Tok) → Short (length w) → stepped s (word w p) ≡ to next (span_of w p) → said s (word w p ∷ ts) ≡ said (next (span_at w p)) ts
word_on s next w p ts h e = said_step s (word w p) ts ∙ ap (then_said ts) (e ∙ ap (to next) (short_span w p h))

pins_say : (l k : Span) (ps : Option Pins) (c e : ℕ) {ts : List Tok} {ss : List Span} → PinWords Short ts ss → said (Opened (gated l k ps)) (ts ++ mark 41 c ∷ end e ∷ []) ≡ Ok (Gate (gated l k (fold more_added ps ss)) c)
unfolding said
pins_say l k ps c e (last_pin {w = w} {p = p} h) = word_on (Opened (gated l k ps)) (λ s. Pinned (gated l k (more_added ps s))) w p (mark 41 c ∷ end e ∷ []) h refl
pins_say l k ps c e (more_pins {w = w} {p = p} {c = d} {ts = ts} h r) =
    word_on (Opened (gated l k ps)) (λ s. Pinned (gated l k (more_added ps s))) w p (mark 44 d ∷ (ts ++ mark 41 c ∷ end e ∷ [])) h refl ∙ pins_say l k (more_added ps (span_at w p)) c e r

pub form_says : (ts : List Tok) (x : Statement) → Form ts x → said Start ts ≡ Ok x
unfolding said
form_says ts x empty = refl
form_says ts x (declaration {k = k} {n = n} {pk = pk} {o = o} {pn = pn} {c = c} {e = e} hk hn) =
    let rest = mark 41 c ∷ end e ∷ [] in
    word_on Start (λ s. Named s) k pk (mark 40 o ∷ word n pn ∷ rest) hk refl ∙ word_on (Declaring (span_at k pk)) (λ s. Declared (declared (span_at k pk) s)) n pn rest hn refl
form_says ts x (gate {l = l} {k = k} {pl = pl} {q = q} {pk = pk} {o = o} {c = c} {ps = ps} e hl hk r) =
    let rest = mark 40 o ∷ (ps ++ mark 41 c ∷ end e ∷ []) in
    word_on Start (λ s. Named s) l pl (mark 61 q ∷ word k pk ∷ rest) hl refl ∙ word_on (Driven (span_at l pl)) (λ s. Kinded (span_at l pl) s) k pk rest hk refl ∙ pins_say (span_at l pl) (span_at k pk) (Some no_pins) c e r

-- pins with a comma after each
pub data Commas (Fit : ℕ → Type 0) : List Tok → List Span → Type 0 where
  no_pin : Commas Fit [] []
  comma : {ps : List Tok} {ss : List Span} (c : ℕ) → PinWords Fit ps ss → Commas Fit (ps ++ mark 44 c ∷ []) ss

-- a beginning of a text line, and the state that it leads to
pub data Reached (Fit : ℕ → Type 0) : List Tok → State → Type 0 where
  at_start : Reached Fit [] Start
  at_named : {w : List ℕ} {p : ℕ} → Fit (length w) → Reached Fit (word w p ∷ []) (Named (span_at w p))
  at_declaring : {w : List ℕ} {p o : ℕ} → Fit (length w) → Reached Fit (word w p ∷ mark 40 o ∷ []) (Declaring (span_at w p))
  at_declared : {k n : List ℕ} {pk o pn : ℕ} → Fit (length k) → Fit (length n) → Reached Fit (word k pk ∷ mark 40 o ∷ word n pn ∷ []) (Declared (declared (span_at k pk) (span_at n pn)))
  at_closed : {k n : List ℕ} {pk o pn c : ℕ} → Fit (length k) → Fit (length n) → Reached Fit (word k pk ∷ mark 40 o ∷ word n pn ∷ mark 41 c ∷ []) (DeclarationClosed (declared (span_at k pk) (span_at n pn)))
  at_driven : {w : List ℕ} {p q : ℕ} → Fit (length w) → Reached Fit (word w p ∷ mark 61 q ∷ []) (Driven (span_at w p))
  at_kinded : {l k : List ℕ} {pl q pk : ℕ} → Fit (length l) → Fit (length k) → Reached Fit (word l pl ∷ mark 61 q ∷ word k pk ∷ []) (Kinded (span_at l pl) (span_at k pk))
  at_opened : {l k : List ℕ} {pl q pk o : ℕ} {ps : List Tok} {ss : List Span} {pins : Option Pins} → Fit (length l) → Fit (length k) → Commas Fit ps ss → pins ≡ collected ss → Reached Fit (word l pl ∷ mark 61 q ∷ word k pk ∷ mark 40 o ∷ ps) (Opened (gated (span_at l pl) (span_at k pk) pins))
  at_pinned : {l k : List ℕ} {pl q pk o : ℕ} {ps : List Tok} {ss : List Span} {pins : Option Pins} → Fit (length l) → Fit (length k) → PinWords Fit ps ss → pins ≡ collected ss → Reached Fit (word l pl ∷ mark 61 q ∷ word k pk ∷ mark 40 o ∷ ps) (Pinned (gated (span_at l pl) (span_at k pk) pins))
  at_gate_closed : {l k : List ℕ} {pl q pk o c : ℕ} {ps : List Tok} {ss : List Span} {pins : Option Pins} → Fit (length l) → Fit (length k) → PinWords Fit ps ss → pins ≡ collected ss → Reached Fit (word l pl ∷ mark 61 q ∷ word k pk ∷ mark 40 o ∷ (ps ++ mark 41 c ∷ [])) (GateClosed (gated (span_at l pl) (span_at k pk) pins) c)

-- what holds of short words holds of words of any length
pub any_pins : {ps : List Tok} {ss : List Span} → PinWords Short ps ss → PinWords AnyLength ps ss
any_pins (last_pin h) = last_pin tt
any_pins (more_pins h r) = more_pins tt (any_pins r)

any_commas : {ps : List Tok} {ss : List Span} → Commas Short ps ss → Commas AnyLength ps ss
any_commas no_pin = no_pin
any_commas (comma c r) = comma c (any_pins r)

pub any_reached : {pre : List Tok} {s : State} → Reached Short pre s → Reached AnyLength pre s
any_reached at_start = at_start
any_reached (at_named h) = at_named tt
any_reached (at_declaring h) = at_declaring tt
any_reached (at_declared h g) = at_declared tt tt
any_reached (at_closed h g) = at_closed tt tt
any_reached (at_driven h) = at_driven tt
any_reached (at_kinded h g) = at_kinded tt tt
any_reached (at_opened h g r e) = at_opened tt tt (any_commas r) e
any_reached (at_pinned h g r e) = at_pinned tt tt (any_pins r) e
any_reached (at_gate_closed h g r e) = at_gate_closed tt tt (any_pins r) e

abbrev pub Last : Tok → Type 0
Last (word w p) = ⊥
Last (mark b p) = ⊥
Last (end p) = Unit {0}

-- a word that is too long, where a word may stand
pub record Long (pre : List Tok) (t : Tok) (p : ℕ) : Type 0 where
  pub bytes : List ℕ
  pub is : t ≡ word bytes p
  pub too_long : 16 < length bytes
  pub state : State
  pub reached : Reached AnyLength (pre ++ word bytes p ∷ []) state

-- what a token after such a beginning leads to
abbrev pub After : List Tok → Tok → Step → Type 0
After pre t (Ok (Continue n)) = Reached Short (pre ++ t ∷ []) n × Fair t
After pre t (Ok (Break x)) = Form (pre ++ t ∷ []) x × Last t
After pre t (Err (OutOfForm p)) = tok_place t ≡ p
After pre t (Err (TooLong p)) = Long pre t p

word_after : (pre : List Tok) (w : List ℕ) (p : ℕ) (next : Span → State) → (Short (length w) → Reached Short (pre ++ word w p ∷ []) (next (span_at w p))) → Reached AnyLength (pre ++ word w p ∷ []) (next (span_at w p)) → After pre (word w p) (to next (span_of w p))
word_after pre w p next f any =
    cond_both (leb (length w) 16) _ _ (λ r. After pre (word w p) (to next r))
    (λ e. (f (leb-true (length w) 16 e), leb-true (length w) 16 e))
    (λ e. record { bytes = w; is = refl; too_long = leb-false (length w) 16 e; state = next (span_at w p); reached = any })

mark_after : (pre : List Tok) (a b p : ℕ) (n : State) (other : Step) → Reached Short (pre ++ mark a p ∷ []) n → After pre (mark b p) other → After pre (mark b p) (cond (eqb b a) (Ok (Continue n)) other)
mark_after pre a b p n other f g = cond_both (eqb b a) _ _ (After pre (mark b p)) (λ e. (rw (eqb-true b a e) f, tt)) (λ _. g)

pins_push : (Fit : ℕ → Type 0) {ps : List Tok} {ss : List Span} (w : List ℕ) (p c : ℕ) → PinWords Fit ps ss → Fit (length w) → PinWords Fit (ps ++ mark 44 c ∷ word w p ∷ []) (ss ++ span_at w p ∷ [])
pins_push Fit w p c (last_pin h) g = more_pins h (last_pin g)
pins_push Fit w p c (more_pins h r) g = more_pins h (pins_push Fit w p c r g)

pub commas_push : (Fit : ℕ → Type 0) {ps : List Tok} {ss : List Span} (w : List ℕ) (p : ℕ) → Commas Fit ps ss → Fit (length w) → PinWords Fit (ps ++ word w p ∷ []) (ss ++ span_at w p ∷ [])
commas_push Fit w p no_pin h = last_pin h
commas_push Fit w p (comma {ps = ps} c r) h = rw append_assoc (pins_push Fit w p c r h)

-- one pin more
more : (pins : Option Pins) (ss : List Span) (s : Span) → pins ≡ collected ss → more_added pins s ≡ collected (ss ++ s ∷ [])
more pins ss s e = ap (λ q. more_added q s) e ∙ sym (fold_push more_added (Some no_pins) ss s)

pub step : {pre : List Tok} {s : State} → Reached Short pre s → (t : Tok) → After pre t (stepped s t)
step at_start (word w p) = word_after [] w p (λ s. Named s) (λ h. at_named h) (at_named tt)
step at_start (mark b p) = refl
step at_start (end p) = (empty, tt)
step (at_named h) (word w p) = refl
step (at_named {w = v} {p = q} h) (mark b p) =
    let pre = word v q ∷ [] in mark_after pre 40 b p _ _ (at_declaring h) (mark_after pre 61 b p _ _ (at_driven h) refl)
step (at_named h) (end p) = refl
step (at_declaring {w = v} {p = q} {o = o} h) (word w p) = word_after (word v q ∷ mark 40 o ∷ []) w p (λ s. Declared (declared (span_at v q) s)) (λ g. at_declared h g) (at_declared tt tt)
step (at_declaring h) (mark b p) = refl
step (at_declaring h) (end p) = refl
step (at_declared h g) (word w p) = refl
step (at_declared {k = k} {n = n} {pk = pk} {o = o} {pn = pn} h g) (mark b p) = mark_after (word k pk ∷ mark 40 o ∷ word n pn ∷ []) 41 b p _ _ (at_closed h g) refl
step (at_declared h g) (end p) = refl
step (at_closed h g) (word w p) = refl
step (at_closed h g) (mark b p) = refl
step (at_closed h g) (end p) = (declaration h g, tt)
step (at_driven {w = v} {p = q} {q = o} h) (word w p) = word_after (word v q ∷ mark 61 o ∷ []) w p (λ s. Kinded (span_at v q) s) (λ g. at_kinded h g) (at_kinded tt tt)
step (at_driven h) (mark b p) = refl
step (at_driven h) (end p) = refl
step (at_kinded h g) (word w p) = refl
step (at_kinded {l = l} {k = k} {pl = pl} {q = q} {pk = pk} h g) (mark b p) = mark_after (word l pl ∷ mark 61 q ∷ word k pk ∷ []) 40 b p _ _ (at_opened h g no_pin refl) refl
step (at_kinded h g) (end p) = refl
step (at_opened {l = l} {k = k} {pl = pl} {q = q} {pk = pk} {o = o} {ps = ps} {ss = ss} {pins = pins} h g r e) (word w p) =
    word_after (word l pl ∷ mark 61 q ∷ word k pk ∷ mark 40 o ∷ ps) w p (λ s. Pinned (gated (span_at l pl) (span_at k pk) (more_added pins s)))
    (λ i. at_pinned h g (commas_push Short w p r i) (more pins ss (span_at w p) e))
    (at_pinned tt tt (commas_push AnyLength w p (any_commas r) tt) (more pins ss (span_at w p) e))
step (at_opened h g r e) (mark b p) = refl
step (at_opened h g r e) (end p) = refl
step (at_pinned h g r e) (word w p) = refl
step (at_pinned {l = l} {k = k} {pl = pl} {q = q} {pk = pk} {o = o} {ps = ps} h g r e) (mark b p) =
    let pre = word l pl ∷ mark 61 q ∷ word k pk ∷ mark 40 o ∷ ps in
    mark_after pre 44 b p _ _ (at_opened h g (comma p r) e) (mark_after pre 41 b p _ _ (at_gate_closed h g r e) refl)
step (at_pinned h g r e) (end p) = refl
step (at_gate_closed h g r e) (word w p) = refl
step (at_gate_closed h g r e) (mark b p) = refl
step (at_gate_closed {c = c} {ps = ps} {ss = ss} h g r e) (end p) = (rw (append_assoc, e) (gate p h g r), tt)

err_not_ok : (f : TokenFault) (x : Statement) → ◌≡◌ {A = Result Statement TokenFault} (Err f) (Ok x) → ⊥
err_not_ok f x e = let z : ◌≡◌ {A = ℕ} 0 1 = cc in omega arith

same_said : (x y : Statement) → ◌≡◌ {A = Result Statement TokenFault} (Ok x) (Ok y) → x ≡ y
same_said x y e = cc

-- a line is in form if its beginning has led to a state, and its rest is read from there
inner : (pre : List Tok) (t : Tok) (ts : List Tok) (x : Statement) (r : Step) → (Last t → ⊥) → After pre t r → then_said ts r ≡ Ok x → ((n : State) → Reached Short (pre ++ t ∷ []) n → said n ts ≡ Ok x → Form ((pre ++ t ∷ []) ++ ts) x) → Form (pre ++ t ∷ ts) x
inner pre t ts x (Ok (Continue n)) inside a e go = rw append_assoc at (go n a.0 e)
inner pre t ts x (Ok (Break y)) inside a e go = absurd (inside a.1)
inner pre t ts x (Err f) inside a e go = absurd (err_not_ok f x e)

outer : (pre : List Tok) (t : Tok) (x : Statement) (r : Step) → After pre t r → then_said [] r ≡ Ok x → Form (pre ++ t ∷ []) x
unfolding said
outer pre t x (Ok (Continue n)) a e = absurd (err_not_ok _ x e)
outer pre t x (Ok (Break y)) a e = rw (sym (same_said y x e)) a.0
outer pre t x (Err f) a e = absurd (err_not_ok f x e)

says : (pre : List Tok) (s : State) (x : Statement) {ts : List Tok} → Reached Short pre s → OneEnd ts → said s ts ≡ Ok x → Form (pre ++ ts) x
says pre s x r (only_end {p = p}) e = outer pre (end p) x (stepped s (end p)) (step r (end p)) (sym (said_step s (end p) []) ∙ e)
says pre s x r (after_word {w = w} {p = p} {ts = ts} o) e =
    inner pre (word w p) ts x (stepped s (word w p)) (λ z. z) (step r (word w p)) (sym (said_step s (word w p) ts) ∙ e) (λ n q f. says (pre ++ word w p ∷ []) n x q o f)
says pre s x r (after_mark {b = b} {p = p} {ts = ts} o) e =
    inner pre (mark b p) ts x (stepped s (mark b p)) (λ z. z) (step r (mark b p)) (sym (said_step s (mark b p) ts) ∙ e) (λ n q f. says (pre ++ mark b p ∷ []) n x q o f)

pub says_form : (ts : List Tok) (x : Statement) → OneEnd ts → said Start ts ≡ Ok x → Form ts x
says_form ts x o e = says [] Start x at_start o e

flush_one_end : (w : List ℕ) (p : ℕ) (ts : List Tok) → OneEnd ts → OneEnd (flush w p ts)
unfolding flush
flush_one_end w p ts o = cond_both (eqb (length w) 0) _ _ OneEnd (λ _. o) (λ _. after_word o)

tokens_one_end : (w bs : List ℕ) (p : ℕ) → OneEnd (tokens w bs p)
unfolding tokens
tokens_one_end w [] p = flush_one_end w p (end p ∷ []) only_end
tokens_one_end w (b ∷ bs) p =
    cond_both (word_byte b) _ _ OneEnd
    (λ _. tokens_one_end (w ++ b ∷ []) bs (p + 1))
    (λ _. flush_one_end w p _ (cond_both (blank_byte b) _ _ OneEnd (λ _. tokens_one_end [] bs (p + 1)) (λ _. cond_both (stop_byte b) _ _ OneEnd (λ _. only_end) (λ _. after_mark (tokens_one_end [] bs (p + 1))))))

pub line_one_end : (text : List ℕ) (at : ℕ) → OneEnd (line text at)
line_one_end text at = tokens_one_end [] (drop at text) at

pins_one_end : {ps : List Tok} {ss : List Span} (us : List Tok) → PinWords Short ps ss → OneEnd us → OneEnd (ps ++ us)
pins_one_end us (last_pin h) o = after_word o
pins_one_end us (more_pins h r) o = after_word (after_mark (pins_one_end us r o))

pub form_one_end : (ts : List Tok) (x : Statement) → Form ts x → OneEnd ts
form_one_end ts x empty = only_end
form_one_end ts x (declaration h g) = after_word (after_mark (after_word (after_mark only_end)))
form_one_end ts x (gate {c = c} e h g r) = after_word (after_mark (after_word (after_mark (pins_one_end (mark 41 c ∷ end e ∷ []) r (after_mark only_end)))))
