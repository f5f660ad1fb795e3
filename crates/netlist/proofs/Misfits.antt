-- A text line is refused at the first token that is out of form or too long.
use Rattle.std.proofs.Common.{Continue, Break, ◌≡◌, ℕ, ◌<◌, ◌≤◌, leb, ◌⊎◌, List, [], ◌∷◌, ◌++◌, length, Some, Ok, Err, Option, Result, sym, refl, ap, ◌∙◌, subst, inl, inr, ⊎_elim, append_assoc, arith}
use Rattle.std.specs.List.{AllByRecursion}
use Rattle.std.proofs.ByRecursion.{All-push, All-append}
use Rattle.std.proofs.lemmas.Bool.{cond_both}
use Rattle.circuit.specs.declared.row.Span.{Span}
use Rattle.netlist.specs.Grammar.{span_at, collected, PinWords, last_pin, more_pins, FormWith, empty, declaration, gate, Short, Form, OneEnd, only_end, after_word, after_mark, AnyLength, Viable, tok_place, Fair, Misfit, Overlong}
use Rattle.netlist.specs.Statements.{no_pins, more_added, span_of, to, stepped, said, Step}
use Rattle.netlist.specs.Tokens.{Tok, word, mark, end}
use Rattle.netlist.specs.declared.fault.TokenFault.{TokenFault}
use Rattle.netlist.specs.declared.fault.TokenFault.TheVariants.{OutOfForm, TooLong}
use Rattle.netlist.specs.declared.pins.Pins.{Pins}
use Rattle.netlist.specs.declared.state.State.{State}
use Rattle.netlist.specs.declared.state.State.TheVariants.{Start, Named, Declaring, Declared, Driven, Kinded, Opened, Pinned}
use Rattle.netlist.specs.declared.statement.Statement.{Statement}
use Rattle.netlist.specs.declared.statement.Statement.TheVariants.{Empty, Gate}
use Rattle.netlist.proofs.Said.{then_said, said_step}
use Rattle.netlist.proofs.Forms.{declared, gated, Reached, at_start, at_named, at_declaring, at_declared, at_closed, at_driven, at_kinded, at_opened, at_pinned, at_gate_closed, any_pins, any_reached, commas_push, Long, After, step, says_form}

-- the word that ends a line which lacks one
letter : Tok
letter = word (65 ∷ []) 0

closing : List Tok
closing = mark 41 0 ∷ end 0 ∷ []

-- each state is on the way to a whole line
pub viable : {pre : List Tok} {s : State} → Reached AnyLength pre s → Viable pre
unfolding letter closing
viable at_start = (end 0 ∷ [], Empty, empty)
viable (at_named h) = (mark 40 0 ∷ letter ∷ closing, _, declaration tt tt)
viable (at_declaring h) = (letter ∷ closing, _, declaration tt tt)
viable (at_declared h g) = (closing, _, declaration tt tt)
viable (at_closed h g) = (end 0 ∷ [], _, declaration tt tt)
viable (at_driven h) = (letter ∷ mark 40 0 ∷ letter ∷ closing, _, gate 0 tt tt (last_pin tt))
viable (at_kinded h g) = (mark 40 0 ∷ letter ∷ closing, _, gate 0 tt tt (last_pin tt))
viable (at_opened {l = l} {k = k} {pl = pl} {q = q} {pk = pk} {o = o} h g r e) = (letter ∷ closing, _, rw append_assoc at (gate {l = l} {k = k} {pl = pl} {q = q} {pk = pk} {o = o} {c = 0} 0 tt tt (commas_push AnyLength (65 ∷ []) 0 r tt)))
viable (at_pinned h g r e) = (closing, _, gate 0 tt tt r)
viable (at_gate_closed {l = l} {k = k} {pl = pl} {pk = pk} {c = c} {ss = ss} h g r e) = (end 0 ∷ [], Gate (gated (span_at l pl) (span_at k pk) (collected ss)) c, rw append_assoc (gate 0 tt tt r))

-- no token is out of form
abbrev InForm : Result Statement TokenFault → Type 0
InForm (Ok x) = Unit {0}
InForm (Err (OutOfForm p)) = ⊥
InForm (Err (TooLong p)) = Unit {0}

any_on : (s : State) (next : Span → State) (w : List ℕ) (p : ℕ) (ts : List Tok) → stepped s (word w p) ≡ to next (span_of w p) → InForm (said (next (span_at w p)) ts) → InForm (said s (word w p ∷ ts))
any_on s next w p ts e f =
    subst InForm (sym (said_step s (word w p) ts ∙ ap (then_said ts) e)) (cond_both (leb (length w) 16) _ _ (λ r. InForm (then_said ts (to next r))) (λ _. f) (λ _. tt))

pins_in_form : (l k : Span) (ps : Option Pins) (c e : ℕ) {ts : List Tok} {ss : List Span} → PinWords AnyLength ts ss → InForm (said (Opened (gated l k ps)) (ts ++ mark 41 c ∷ end e ∷ []))
unfolding said
pins_in_form l k ps c e (last_pin {w = w} {p = p} h) = any_on (Opened (gated l k ps)) (λ s. Pinned (gated l k (more_added ps s))) w p (mark 41 c ∷ end e ∷ []) refl tt
pins_in_form l k ps c e (more_pins {w = w} {p = p} {c = d} {ts = ts} h r) =
    any_on (Opened (gated l k ps)) (λ s. Pinned (gated l k (more_added ps s))) w p (mark 44 d ∷ (ts ++ mark 41 c ∷ end e ∷ [])) refl (pins_in_form l k (more_added ps (span_at w p)) c e r)

in_form : {ts : List Tok} {x : Statement} → FormWith AnyLength ts x → InForm (said Start ts)
unfolding said
in_form empty = tt
in_form (declaration {k = k} {n = n} {pk = pk} {o = o} {pn = pn} {c = c} {e = e} hk hn) =
    let rest = mark 41 c ∷ end e ∷ [] in
    any_on Start (λ s. Named s) k pk (mark 40 o ∷ word n pn ∷ rest) refl (any_on (Declaring (span_at k pk)) (λ s. Declared (declared (span_at k pk) s)) n pn rest refl tt)
in_form (gate {l = l} {k = k} {pl = pl} {q = q} {pk = pk} {o = o} {c = c} {ps = ps} e hl hk r) =
    let rest = mark 40 o ∷ (ps ++ mark 41 c ∷ end e ∷ []) in
    any_on Start (λ s. Named s) l pl (mark 61 q ∷ word k pk ∷ rest) refl (any_on (Driven (span_at l pl)) (λ s. Kinded (span_at l pl) s) k pk rest refl (pins_in_form (span_at l pl) (span_at k pk) (Some no_pins) c e r))

-- the rest of a line is read from the state that its beginning leads to
abbrev Led : List Tok → State → Type 0
Led pre s = (us : List Tok) → said Start (pre ++ us) ≡ said s us

led_on : (pre : List Tok) (s : State) (t : Tok) (us : List Tok) → Led pre s → said Start ((pre ++ t ∷ []) ++ us) ≡ then_said us (stepped s t)
led_on pre s t us led = ap (said Start) (append_assoc pre (t ∷ []) us) ∙ led (t ∷ us) ∙ said_step s t us

abbrev Refused : List Tok → TokenFault → Type 0
Refused ts (OutOfForm p) = Misfit ts p
Refused ts (TooLong p) = Overlong ts p

misfit_here : (pre : List Tok) (s : State) (t : Tok) (ts : List Tok) (p : ℕ) → Reached Short pre s → AllByRecursion Fair pre → Led pre s → stepped s t ≡ Err (OutOfForm p) → tok_place t ≡ p → Misfit (pre ++ t ∷ ts) p
misfit_here pre s t ts p r fair led e stands =
    record {
      before = pre;
      misfit = t;
      after = ts;
      splits = refl;
      stands = stands;
      fair = fair;
      goes_so_far = viable (any_reached r);
      goes_no_further = λ v. subst InForm (led_on pre s t v.0 led ∙ ap (then_said v.0) e) (in_form v.2);
    }

long_here : (pre : List Tok) (t : Tok) (ts : List Tok) (p : ℕ) → AllByRecursion Fair pre → Long pre t p → Overlong (pre ++ t ∷ ts) p
long_here pre t ts p fair h =
    record {
      before = pre;
      bytes = h.bytes;
      after = ts;
      splits = ap (λ u. pre ++ u ∷ ts) h.is;
      too_long = h.too_long;
      fair = fair;
      goes_so_far = viable h.reached;
    }

ok_not_err : (x : Statement) (f : TokenFault) → ◌≡◌ {A = Result Statement TokenFault} (Ok x) (Err f) → ⊥
ok_not_err x f e = let z : ◌≡◌ {A = ℕ} 0 1 = cc in omega arith

same_fault : (f g : TokenFault) → ◌≡◌ {A = Result Statement TokenFault} (Err f) (Err g) → f ≡ g
same_fault f g e = cc

-- the token is at fault, or else one after it
found : (pre : List Tok) (s : State) (t : Tok) (ts : List Tok) (f : TokenFault) (r : Step) → stepped s t ≡ r → After pre t r → Reached Short pre s → AllByRecursion Fair pre → Led pre s → then_said ts r ≡ Err f → ((n : State) → stepped s t ≡ Ok (Continue n) → Reached Short (pre ++ t ∷ []) n → Fair t → said n ts ≡ Err f → Refused ((pre ++ t ∷ []) ++ ts) f) → Refused (pre ++ t ∷ ts) f
found pre s t ts f (Ok (Continue n)) is a r fair led e go = subst (λ us. Refused us f) (append_assoc pre (t ∷ []) ts) (go n is a.0 a.1 e)
found pre s t ts f (Ok (Break x)) is a r fair led e go = absurd (ok_not_err x f e)
found pre s t ts f (Err (OutOfForm p)) is a r fair led e go = subst (λ g. Refused (pre ++ t ∷ ts) g) (same_fault _ _ e) (misfit_here pre s t ts p r fair led is a)
found pre s t ts f (Err (TooLong p)) is a r fair led e go = subst (λ g. Refused (pre ++ t ∷ ts) g) (same_fault _ _ e) (long_here pre t ts p fair a)

refused : (pre : List Tok) (s : State) (f : TokenFault) {ts : List Tok} → Reached Short pre s → AllByRecursion Fair pre → Led pre s → OneEnd ts → said s ts ≡ Err f → Refused (pre ++ ts) f
refused pre s f r fair led (only_end {p = p}) e =
    let t = end p in
    found pre s t [] f (stepped s t) refl (step r t) r fair led (sym (said_step s t []) ∙ e) (λ n is q h g. absurd h)
refused pre s f r fair led (after_word {w = w} {p = p} {ts = ts} o) e =
    let t = word w p in
    found pre s t ts f (stepped s t) refl (step r t) r fair led (sym (said_step s t ts) ∙ e)
    (λ n is q h g. refused (pre ++ t ∷ []) n f q (All-push Fair pre t fair h) (λ us. led_on pre s t us led ∙ ap (then_said us) is) o g)
refused pre s f r fair led (after_mark {b = b} {p = p} {ts = ts} o) e =
    let t = mark b p in
    found pre s t ts f (stepped s t) refl (step r t) r fair led (sym (said_step s t ts) ∙ e)
    (λ n is q h g. refused (pre ++ t ∷ []) n f q (All-push Fair pre t fair h) (λ us. led_on pre s t us led ∙ ap (then_said us) is) o g)

pub out_of_form : (ts : List Tok) (p : ℕ) → OneEnd ts → said Start ts ≡ Err (OutOfForm p) → Misfit ts p
out_of_form ts p o e = refused [] Start (OutOfForm p) at_start tt (λ us. refl) o e

pub too_long : (ts : List Tok) (p : ℕ) → OneEnd ts → said Start ts ≡ Err (TooLong p) → Overlong ts p
too_long ts p o e = refused [] Start (TooLong p) at_start tt (λ us. refl) o e

-- two places in one list: the same, or one before the other
apart : {X : Type 0} (a b c d : List X) (x y : X) → a ++ x ∷ b ≡ c ++ y ∷ d → ((a ≡ c) × (x ≡ y)) ⊎ (((e : List X) × (c ≡ a ++ x ∷ e)) ⊎ ((e : List X) × (a ≡ c ++ y ∷ e)))
apart [] b [] d x y h = inl (refl, cc)
apart [] b (v ∷ c) d x y h = inr (inl (c, cc))
apart (z ∷ a) b [] d x y h = inr (inr (a, cc))
apart (z ∷ a) b (v ∷ c) d x y h =
    let tails : a ++ x ∷ b ≡ c ++ y ∷ d = cc in
    let heads : z ≡ v = cc in
    ⊎_elim
    (λ s. inl (let l = s.0 in cc, s.1))
    (⊎_elim (λ s. inr (inl (s.0, let l = s.1 in cc))) (λ s. inr (inr (s.0, let l = s.1 in cc))))
    (apart a b c d x y tails)

less_viable : (a b : List Tok) → Viable (a ++ b) → Viable a
less_viable a b v = (b ++ v.0, v.1, rw append_assoc at v.2)

-- a beginning of a viable list, with one token more
next_viable : (a b e : List Tok) (t : Tok) → b ≡ a ++ t ∷ e → Viable b → Viable (a ++ t ∷ [])
next_viable a b e t h v = less_viable (a ++ t ∷ []) e (subst Viable (h ∙ sym (append_assoc a (t ∷ []) e)) v)

middle : {X : Type 0} (P : X → Type 0) (a b : List X) (x : X) → AllByRecursion P (a ++ x ∷ b) → P x
middle P [] b x h = h.0
middle P (y ∷ a) b x h = middle P a b x h.1

one_misfit : (ts : List Tok) (p q : ℕ) → Misfit ts p → Misfit ts q → p ≡ q
one_misfit ts p q m n =
    ⊎_elim
    (λ s. sym m.stands ∙ ap tok_place s.1 ∙ n.stands)
    (⊎_elim
    (λ s. absurd (m.goes_no_further (next_viable m.before n.before s.0 m.misfit s.1 n.goes_so_far)))
    (λ s. absurd (n.goes_no_further (next_viable n.before m.before s.0 n.misfit s.1 m.goes_so_far))))
    (apart m.before m.after n.before n.after m.misfit n.misfit (sym m.splits ∙ n.splits))

-- a word among fair tokens is not too long
not_fair : (ts a e : List Tok) (w : List ℕ) (p : ℕ) → AllByRecursion Fair ts → ts ≡ a ++ word w p ∷ e → 16 < length w → ⊥
not_fair ts a e w p fair h long =
    let short : length w ≤ 16 = middle Fair a e (word w p) (subst (AllByRecursion Fair) h fair) in
    omega arith

one_overlong : (ts : List Tok) (p q : ℕ) → Overlong ts p → Overlong ts q → p ≡ q
one_overlong ts p q m n =
    ⊎_elim
    (λ s. ap tok_place s.1)
    (⊎_elim
    (λ s. absurd (not_fair n.before m.before s.0 m.bytes p n.fair s.1 m.too_long))
    (λ s. absurd (not_fair m.before n.before s.0 n.bytes q m.fair s.1 n.too_long)))
    (apart m.before m.after n.before n.after (word m.bytes p) (word n.bytes q) (sym m.splits ∙ n.splits))

never_both : (ts : List Tok) (p q : ℕ) → Misfit ts p → Overlong ts q → ⊥
never_both ts p q m n =
    let w = word n.bytes q in
    ⊎_elim
    (λ s. m.goes_no_further (next_viable m.before (n.before ++ w ∷ []) [] m.misfit (let l = s.0 in let r = s.1 in cc) n.goes_so_far))
    (⊎_elim
    (λ s. m.goes_no_further (next_viable m.before n.before s.0 m.misfit s.1 (less_viable n.before (w ∷ []) n.goes_so_far)))
    (λ s. not_fair m.before n.before s.0 n.bytes q m.fair s.1 n.too_long))
    (apart m.before m.after n.before n.after m.misfit w (sym m.splits ∙ n.splits))

any_form : {ts : List Tok} {x : Statement} → Form ts x → FormWith AnyLength ts x
any_form empty = empty
any_form (declaration h g) = declaration tt tt
any_form (gate e h g r) = gate e tt tt (any_pins r)

-- no line in form has a misfit
misfit_no_form : (ts : List Tok) (p : ℕ) (x : Statement) → Misfit ts p → Form ts x → ⊥
misfit_no_form ts p x m f = m.goes_no_further (m.after, x, subst (λ us. FormWith AnyLength us x) (m.splits ∙ sym (append_assoc m.before (m.misfit ∷ []) m.after)) (any_form f))

abbrev Brief : Tok → Type 0
Brief (word w p) = Short (length w)
Brief (mark b p) = Unit {0}
Brief (end p) = Unit {0}

brief_pins : {ps : List Tok} {ss : List Span} → PinWords Short ps ss → AllByRecursion Brief ps
brief_pins (last_pin h) = (h, tt)
brief_pins (more_pins h r) = (h, (tt, brief_pins r))

brief_form : {ts : List Tok} {x : Statement} → Form ts x → AllByRecursion Brief ts
brief_form empty = (tt, tt)
brief_form (declaration h g) = (h, (tt, (g, (tt, (tt, tt)))))
brief_form (gate {c = c} {ps = ps} e h g r) = (h, (tt, (g, (tt, All-append Brief ps (mark 41 c ∷ end e ∷ []) (brief_pins r) (tt, (tt, tt))))))

-- nor a word that is too long
overlong_no_form : (ts : List Tok) (p : ℕ) (x : Statement) → Overlong ts p → Form ts x → ⊥
overlong_no_form ts p x m f =
    let short : length m.bytes ≤ 16 = middle Brief m.before m.after (word m.bytes p) (subst (AllByRecursion Brief) m.splits (brief_form f)) in
    omega arith

pub each_misfit : (ts : List Tok) (p : ℕ) → OneEnd ts → Misfit ts p → said Start ts ≡ Err (OutOfForm p)
each_misfit ts p o m = go (said Start ts) refl
  where
    go : (r : Result Statement TokenFault) → said Start ts ≡ r → said Start ts ≡ Err (OutOfForm p)
    go (Ok x) e = absurd (misfit_no_form ts p x m (says_form ts x o e))
    go (Err (OutOfForm q)) e = e ∙ ap (λ n. Err (OutOfForm n)) (one_misfit ts q p (out_of_form ts q o e) m)
    go (Err (TooLong q)) e = absurd (never_both ts p q m (too_long ts q o e))

pub each_overlong : (ts : List Tok) (p : ℕ) → OneEnd ts → Overlong ts p → said Start ts ≡ Err (TooLong p)
each_overlong ts p o m = go (said Start ts) refl
  where
    go : (r : Result Statement TokenFault) → said Start ts ≡ r → said Start ts ≡ Err (TooLong p)
    go (Ok x) e = absurd (overlong_no_form ts p x m (says_form ts x o e))
    go (Err (OutOfForm q)) e = absurd (never_both ts q p (out_of_form ts q o e) m)
    go (Err (TooLong q)) e = e ∙ ap (λ n. Err (TooLong n)) (one_overlong ts q p (too_long ts q o e) m)
