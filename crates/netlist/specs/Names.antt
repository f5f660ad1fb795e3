-- Parts of the text, and the lines that they name.
use Rattle.std.specs.Prelude.{if◌then◌else◌, ℕ, ◌+◌, List, [], length, take, drop, Option, nat_le, position}
use Rattle.std.specs.Str.{bytes_eq}
use Rattle.circuit.specs.declared.row.Row.{Row}
use Rattle.circuit.specs.declared.row.Span.{Span}

-- the bytes of a span, and none where the text is too short
abbrev pub bytes_of : List ℕ → Span → List ℕ
bytes_of text s = if nat_le (s.offset + s.len) (length text) then take s.len (drop s.offset text) else []

abbrev pub name_of : List ℕ → Row → List ℕ
name_of text row = bytes_of text row.name

-- the first of the rows that has the name
abbrev pub first_named : List ℕ → List ℕ → List Row → Option ℕ
first_named text name rows = position (λ row. bytes_eq (name_of text row) name) rows
