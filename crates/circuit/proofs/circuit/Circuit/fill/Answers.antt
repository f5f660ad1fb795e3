use Rattle.std.proofs.Common.{◌≡◌, ◌<◌, drop, length, take, ◌∙◌, arith, length-set}
use Rattle.std.specs.Slice.Iter.{iter_rest}
use Rattle.std.proofs.lemmas.List.{drop-set-lt, length-drop, length-take-le}
use Rattle.circuit.specs.Rows.{inputs_before}
use Rattle.circuit.proofs.Builds.{levels_more}
use Rattle.circuit.proofs.Laws.{bytes_more, lawful_row, input_fed}
use Rattle.circuit.proofs.circuit.Circuit.fill.Goals as goal

pub loop-i-preserved : goal.loop-i-preserved
loop-i-preserved g c =
    let reads = g.V.LineValue.reads in
    let rows = c.args.self.now.rows.now in
    let v = c.args.vector.now in
    let i = c.loop-i.i in
    let cells = c.loop-i.cells in
    let made = c.line-value.result in
    let h = c.loop-i-test.true in
    let room : i < length cells = omega (arith, c.loop-i.invariant.2, c.requires.room) in
    let bytes : iter_rest c.loop-i.bytes ≡ drop (inputs_before rows i) v = c.loop-i.invariant.3 in
    let more = levels_more reads rows v cells i made h room (rw (← bytes) c.line-value.ensures.value) in (
      more ∙ c.loop-i.invariant.0,
      drop-set-lt (length c.args.self.now.rows.now) cells i made (omega arith) ∙ c.loop-i.invariant.1,
      length-set cells i made ∙ c.loop-i.invariant.2,
      bytes_more rows v i _ h (rw (← bytes) c.line-value.ensures.rest),
    )

pub line-value-requires-clause-sound : goal.line-value-requires-clause-sound
line-value-requires-clause-sound g c =
    let i = c.loop-i.i in
    let cells = c.loop-i.cells in
    let long : length (take i cells) ≡ i = length-take-le i cells (omega (arith, c.loop-i.invariant.2, c.requires.room)) in
    rw long (lawful_row c.args.self.now.rows.now c.args.self.now.lawful i c.loop-i-test.true)

pub line-value-requires-clause-fed : goal.line-value-requires-clause-fed
line-value-requires-clause-fed g c e =
    let rows = c.args.self.now.rows.now in
    let v = c.args.vector.now in
    let i = c.loop-i.i in
    let bytes : iter_rest c.loop-i.bytes ≡ drop (inputs_before rows i) v = c.loop-i.invariant.3 in
    rw bytes (omega (arith, length-drop (inputs_before rows i) v, input_fed rows i c.loop-i-test.true e, c.requires.fed))
