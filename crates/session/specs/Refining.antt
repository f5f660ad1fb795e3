-- How a vector refines the parts.
use Rattle.std.specs.Prelude.{ℕ, ◌+◌, Bool, ◌&&◌, ◌==◌, List, None, Option, length, map, slice_index, slice_index_or}
use Rattle.std.specs.List.{range_with_len}
use Rattle.level.specs.declared.level.Level.{Level}
use Rattle.level.specs.declared.level.Level.TheVariants.{Zero, One, X}
use Rattle.circuit.specs.Search.{first}
use Rattle.session.specs.Parts.{same_level}
use Rattle.session.specs.declared.parts.Names.{Names}

-- whether lines i and j have one part in ps and one level in ls
abbrev pub joined : List ℕ → List Level → ℕ → ℕ → Bool
joined ps ls i j = (slice_index ps i == slice_index ps j) && same_level (slice_index_or ls i X) (slice_index_or ls j X)

-- the smallest line of the same part that reads the same
abbrev pub refined_part : List ℕ → List Level → ℕ → ℕ
refined_part ps ls i = first (i + 1) (λ j. joined ps ls j i)

abbrev pub refined : List ℕ → List Level → List ℕ
refined ps ls = map (refined_part ps ls) (range_with_len 0 (length ls))

abbrev pub named : Names → Level → Option ℕ
named names Zero = names.zero
named names One = names.one
named names X = names.undriven

-- the names of an old part that has no line yet
abbrev pub no_names : Names
no_names = record { zero = None; one = None; undriven = None }

-- among the names of all old parts, that of the lines of one that read a level
abbrev pub name_in : List Names → ℕ → Level → Option ℕ
name_in names p a = named (slice_index_or names p no_names) a
