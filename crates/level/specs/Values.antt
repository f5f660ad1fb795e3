-- What the values of the two kinds read.
use Rattle.std.specs.Prelude.{Bool, true, false, Some, None, Option}
use Rattle.level.specs.declared.level.Level.{Level}
use Rattle.level.specs.declared.level.Level.TheVariants.{Zero, One, X}
use Rattle.level.specs.declared.two_way.TwoWay.{TwoWay}
use Rattle.level.specs.declared.three_way.ThreeWay.{ThreeWay}

abbrev pub of_high : Bool → Level
of_high true = One
of_high false = Zero

abbrev pub of_driven : Option Bool → Level
of_driven None = X
of_driven (Some high) = of_high high

abbrev pub reads2 : TwoWay → Level
reads2 v = of_high v.0

abbrev pub reads3 : ThreeWay → Level
reads3 v = of_driven v.0
