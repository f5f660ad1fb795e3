use Rattle.std.proofs.Common.{inl, inr}
use Rattle.level.specs.Tables.{and3, or3, xor3}
use Rattle.circuit.specs.Gates.{and_of, or_of, xor_of}
use Rattle.circuit.proofs.Joins.{fold_joined, and_one, or_one, xor_one, and_joins, or_joins, xor_joins, pins_joined}
use Rattle.circuit.proofs.gate.join_all.Goals as goal

pub returns-in-And : goal.returns-in-And
returns-in-And g c =
    let joins = pins_joined g.V.LineValue.reads c.args.cells.now c.args.pins.now c.index-cells-pin.result _ and3 and_of (fold_joined and3 and_of and_one and_joins) c.requires.some c.requires.below c.index-cells-pin.is (c.join.ensures and3 (λ a b r p. p)) in
    elim c.in-And.is [ inl k ↦ rw k joins | inr k ↦ rw k joins ]

pub returns-in-Or : goal.returns-in-Or
returns-in-Or g c =
    let joins = pins_joined g.V.LineValue.reads c.args.cells.now c.args.pins.now c.index-cells-pin.result _ or3 or_of (fold_joined or3 or_of or_one or_joins) c.requires.some c.requires.below c.index-cells-pin.is (c.join-in-Or.ensures or3 (λ a b r p. p)) in
    elim c.in-Or.is [ inl k ↦ rw k joins | inr k ↦ rw k joins ]

pub returns-in-Xor : goal.returns-in-Xor
returns-in-Xor g c =
    let joins = pins_joined g.V.LineValue.reads c.args.cells.now c.args.pins.now c.index-cells-pin.result _ xor3 xor_of (fold_joined xor3 xor_of xor_one xor_joins) c.requires.some c.requires.below c.index-cells-pin.is (c.join-in-Xor.ensures xor3 (λ a b r p. p)) in
    elim c.in-Xor.is [ inl k ↦ rw k joins | inr k ↦ rw k joins ]
