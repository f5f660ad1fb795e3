-- What a session has accepted.
use Rattle.std.specs.Prelude.{ℕ, List, Option}
use Rattle.head.specs.declared.reading.Reading.{Reading}

-- an accepted vector: one that was tried has no reading, one that was measured has the head's
pub record Entry : Type 0 where
  pub vector : List ℕ
  pub reading : Option Reading

-- the latest entry comes first
abbrev pub History : Type 0
History = List Entry
