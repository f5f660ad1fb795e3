use Rattle.std.proofs.Common.{◌≡◌, ◌+◌, ◌-◌, ◌∷◌, take, drop, sym, ap, ◌∙◌, arith}
use Rattle.netlist.specs.Tokens.{line, word}
use Rattle.netlist.proofs.Cuts.{word_first}
use Rattle.netlist.proofs.Steps.{at_stop, at_mark, at_end, after_blanks, solid}
use Rattle.netlist.proofs.token.next_token.Goals as goal
use Rattle.netlist.proofs.token.next_token.Goals.{then-start-text-via-then-start-text, then-start-text-via-else-start-text+then-is_stop}

pub returns-then-start-text-clause-first : goal.returns-then-start-text-clause-first
returns-then-start-text-clause-first c =
    let text = c.args.text.now in
    let i = c.args.at + c.blanks.result in
    after_blanks text c.args.at c.blanks.result c.requires c.blanks.ensures.value
    ∙ elim c.then-start-text.branch [
      | then-start-text-via-then-start-text w ↦ at_end text i w.if-start-text.true
      | then-start-text-via-else-start-text+then-is_stop w ↦ at_stop text i w.if-start-text.false (sym w.if-is_stop.ensures)
    ]

pub returns-then-not-is_word_byte-clause-first : goal.returns-then-not-is_word_byte-clause-first
returns-then-not-is_word_byte-clause-first c =
    let text = c.args.text.now in
    let i = c.args.at + c.blanks.result in
    let inside = c.if-start-text.false in
    after_blanks text c.args.at c.blanks.result c.requires c.blanks.ensures.value
    ∙ at_mark text i inside (sym c.if-not-is_word_byte.ensures) (solid text c.args.at c.blanks.result c.requires c.blanks.ensures.value inside) (sym c.if-is_stop.ensures)

pub returns-clause-first : goal.returns-clause-first
returns-clause-first c =
    let text = c.args.text.now in
    let i = c.args.at + c.blanks.result in
    let n = c.word_len.result in
    let back : i + n - i ≡ n = omega arith in
    after_blanks text c.args.at c.blanks.result c.requires c.blanks.ensures.value
    ∙ word_first text i n c.if-start-text.false (sym c.if-not-is_word_byte.ensures) c.word_len.ensures.value
    ∙ ap (λ m. word (take m (drop i text)) i ∷ line text (i + n)) (sym back)
