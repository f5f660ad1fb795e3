-- The tokens of the text lines.
use Rattle.std.specs.Prelude.{if◌then◌else◌, ◌≡◌, ℕ, ◌+◌, ◌-◌, ◌<◌, ◌≤◌, List, [], ◌∷◌, ◌++◌, length, drop, Some, None, Option, ◌==◌}
use Rattle.netlist.specs.Bytes.{word_byte, blank_byte, stop_byte}
use Rattle.netlist.specs.declared.token.Token.{Token}
use Rattle.netlist.specs.declared.token.Token.TheVariants.{Word, Mark, End}

-- a word's bytes and its place, any other byte and its place, or the place of the line's end
pub data Tok : Type 0 where
  word : List ℕ → ℕ → Tok
  mark : ℕ → ℕ → Tok
  end : ℕ → Tok

-- the word that ends before place p, if there is one, and then ts
unfoldable pub flush : List ℕ → ℕ → List Tok → List Tok
flush w p ts = if length w == 0 then ts else word w (p - length w) ∷ ts

-- the tokens of a line whose rest, from place p on, is bs; w is the word read so far
unfoldable pub tokens : List ℕ → List ℕ → ℕ → List Tok
tokens w [] p = flush w p (end p ∷ [])
tokens w (b ∷ bs) p =
    if word_byte b then tokens (w ++ b ∷ []) bs (p + 1)
    else flush w p
    (if blank_byte b then tokens [] bs (p + 1)
    else (if stop_byte b then end p ∷ [] else mark b p ∷ tokens [] bs (p + 1)))

abbrev pub tok : Token → Tok
tok (Word bytes p) = word bytes.now p
tok (Mark b p) = mark b p
tok (End p) = end p

abbrev pub place_of : Token → ℕ
place_of (Word bytes p) = p
place_of (Mark b p) = p
place_of (End p) = p

-- the tokens of a line's rest from `at` on
abbrev pub line : List ℕ → ℕ → List Tok
line text at = tokens [] (drop at text) at

-- the same, or none after the line's end
abbrev pub tokens_of : List ℕ → Option ℕ → List Tok
tokens_of text None = []
tokens_of text (Some at) = line text at

-- the tokens of each text line that begins after a byte 10 of bs, which stands at p
unfoldable pub later : List ℕ → ℕ → List (List Tok)
later [] p = []
later (b ∷ bs) p = if b == 10 then tokens [] bs (p + 1) ∷ later bs (p + 1) else later bs (p + 1)

-- the text lines that begin after place p
abbrev pub lines_after : List ℕ → ℕ → List (List Tok)
lines_after text p = later (drop p text) p

-- the text line after the one at `at`, if there is one, begins there
abbrev pub Next : List ℕ → ℕ → Option ℕ → Type 0
Next text at None = lines_after text at ≡ []
Next text at (Some q) = (lines_after text at ≡ line text q ∷ lines_after text q) × (at < q) × (q ≤ length text)
