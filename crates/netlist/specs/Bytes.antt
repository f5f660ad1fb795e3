-- What the bytes of a netlist text are for.
use Rattle.std.specs.Prelude.{ℕ, Bool, ◌&&◌, ◌||◌, ◌==◌, nat_le}

-- digits, capital and small letters, and the underscore
abbrev pub word_byte : ℕ → Bool
word_byte b = (nat_le 48 b && nat_le b 57) || ((nat_le 65 b && nat_le b 90) || ((nat_le 97 b && nat_le b 122) || b == 95))

-- space, tab and carriage return
abbrev pub blank_byte : ℕ → Bool
blank_byte b = b == 32 || (b == 9 || b == 13)

-- the end of a text line, and the `#` that hides the rest of one
abbrev pub stop_byte : ℕ → Bool
stop_byte b = b == 10 || b == 35
