-- How the bytes of a text line are cut into tokens.
use Rattle.std.specs.Prelude.{◌≡◌, ℕ, ◌+◌, ◌<◌, ◌≤◌, true, false, List, [], ◌∷◌, length, take, drop, slice_index}
use Rattle.netlist.specs.Bytes.{word_byte, blank_byte, stop_byte}
use Rattle.netlist.specs.Tokens.{Tok, word, mark, end, line}

-- The tokens of a text line from a place on. Up to the line's end each byte is a blank between tokens, or
-- belongs to a word, which goes on as far as it can, or stands alone. The line ends where the text ends, or
-- before it at a stop byte.
pub data Cut (text : List ℕ) : ℕ → List Tok → Type 0 where
  blank : {at : ℕ} {ts : List Tok} → at < length text → blank_byte (slice_index text at) ≡ true → Cut text (at + 1) ts → Cut text at ts
  whole_word : {at : ℕ} {ts : List Tok} (n : ℕ) → 0 < n → at + n ≤ length text → ((k : ℕ) → k < n → word_byte (slice_index text (at + k)) ≡ true) → (at + n < length text → word_byte (slice_index text (at + n)) ≡ false) → Cut text (at + n) ts → Cut text at (word (take n (drop at text)) at ∷ ts)
  alone : {at : ℕ} {ts : List Tok} → at < length text → word_byte (slice_index text at) ≡ false → blank_byte (slice_index text at) ≡ false → stop_byte (slice_index text at) ≡ false → Cut text (at + 1) ts → Cut text at (mark (slice_index text at) at ∷ ts)
  end_of_text : {at : ℕ} → at ≡ length text → Cut text at (end at ∷ [])
  stop : {at : ℕ} → at < length text → stop_byte (slice_index text at) ≡ true → Cut text at (end at ∷ [])

-- There is one way to cut a text line, and the reader cuts so.
pub record CutOneWay : Type 0 where
  pub the_line_is_cut : (text : List ℕ) (at : ℕ) → at ≤ length text → Cut text at (line text at)
  pub no_other_cut : (text : List ℕ) (at : ℕ) (ts : List Tok) → Cut text at ts → ts ≡ line text at
