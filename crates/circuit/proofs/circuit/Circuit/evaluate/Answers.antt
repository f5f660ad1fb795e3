use Rattle.std.proofs.Common.{◌≡◌, is_ok, Ok, sym, ap, subst}
use Rattle.circuit.specs.Levels.{Reads}
use Rattle.circuit.specs.Rows.{inputs}
use Rattle.circuit.specs.Vectors.{vector_outcome}
use Rattle.circuit.proofs.Checks.{taken_by, taken_fits}
use Rattle.circuit.proofs.Readings.{levels_read}
use Rattle.circuit.proofs.circuit.Circuit.evaluate.Goals as goal

pub fill-requires-clause-fit : goal.fill-requires-clause-fit
fill-requires-clause-fit g c =
    let rows = c.args.self.now.rows.now in
    let v = c.args.vector.now in
    let x = g.V.LineValue.KNOWS_X in
    let took : vector_outcome x (inputs rows) v ≡ Ok tt = taken_by x c.KNOWS_X.result (inputs rows) c.inputs.result v tt c.KNOWS_X.ensures c.inputs.ensures c.in_ok-check_vector.ensures in
    taken_fits x (inputs rows) v (ap is_ok took)

pub returns-clause-readings : goal.returns-clause-readings
returns-clause-readings g c _ = subst (Reads c.args.self.now.rows.now c.args.vector.now) (sym c.fill.ensures.values) (levels_read c.args.self.now.rows.now c.args.vector.now c.args.self.now.lawful)
