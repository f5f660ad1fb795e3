-- Answers from a list of readings: rows of w bytes of a vector and then one byte, the mark.
use Rattle.std.specs.Prelude.{◌≡◌, ℕ, ◌+◌, ◌*◌, ◌/◌, ◌<◌, ◌≤◌, Bool, true, false, if◌then◌else◌, ◌&&◌, ◌||◌, List, Some, None, Option, length, take, drop, ◌==◌, nat_lt, slice_index}
use Rattle.std.specs.Str.{bytes_eq}
use Rattle.circuit.specs.Search.{first}
use Rattle.head.specs.declared.reading.Reading.{Reading}
use Rattle.head.specs.declared.reading.Reading.TheVariants.{High, Low}
use Rattle.head.specs.Meaning.{Meaning, Standing, high, low, open', binary}

-- how many rows are whole: a short last one does not count
abbrev pub row_count : ℕ → List ℕ → ℕ
row_count w rows = length rows / (w + 1)

abbrev pub row_vector : ℕ → List ℕ → ℕ → List ℕ
row_vector w rows j = take w (drop (j * (w + 1)) rows)

abbrev pub row_mark : ℕ → List ℕ → ℕ → ℕ
row_mark w rows j = slice_index rows (j * (w + 1) + w)

-- H or L
abbrev pub marked : ℕ → Bool
marked b = b == 72 || b == 76

-- what it says, if it is one of them
abbrev pub mark_reading : ℕ → Option Reading
mark_reading b = if marked b then Some (if b == 72 then High else Low) else None

-- whether row j is not skipped, and has the vector v
abbrev pub answers : ℕ → List ℕ → List ℕ → ℕ → Bool
answers w rows v j = marked (row_mark w rows j) && bytes_eq (row_vector w rows j) v

-- the first row that answers v, or the number of rows
abbrev pub answering : ℕ → List ℕ → List ℕ → ℕ
answering w rows v = first (row_count w rows) (answers w rows v)

abbrev pub mark_standing : ℕ → Standing
mark_standing b = if b == 72 then high else low

-- what the rows say of v
abbrev pub listed : ℕ → List ℕ → List ℕ → Standing
listed w rows v =
    if nat_lt (answering w rows v) (row_count w rows) then mark_standing (row_mark w rows (answering w rows v)) else open'

abbrev pub sheet : ℕ → List ℕ → Meaning
sheet w rows = record { width = w; adaptors = 0; standing = λ v. if binary v then listed w rows v else open' }

-- row j, byte by byte: it is whole, its vector is v, and the byte b ends it
pub record Says (w : ℕ) (rows v : List ℕ) (j b : ℕ) : Type 0 where
  pub whole : (j + 1) * (w + 1) ≤ length rows
  pub bytes : (k : ℕ) → k < w → slice_index rows (j * (w + 1) + k) ≡ slice_index v k
  pub ends : slice_index rows (j * (w + 1) + w) ≡ b

-- row j says neither H nor L of v
abbrev pub Silent : ℕ → List ℕ → List ℕ → ℕ → Type 0
Silent w rows v j = (Says w rows v j 72 → ⊥) × (Says w rows v j 76 → ⊥)

-- m answers by the first row that says H or L of the vector, and is open without one
pub record ByRows (w : ℕ) (rows : List ℕ) (m : Meaning) : Type 0 where
  pub wide : m.width ≡ w
  pub on_high : (v : List ℕ) (j : ℕ) → length v ≡ w → binary v ≡ true → Says w rows v j 72 → ((i : ℕ) → i < j → Silent w rows v i) → m.standing v ≡ high
  pub on_low : (v : List ℕ) (j : ℕ) → length v ≡ w → binary v ≡ true → Says w rows v j 76 → ((i : ℕ) → i < j → Silent w rows v i) → m.standing v ≡ low
  pub on_none : (v : List ℕ) → length v ≡ w → ((i : ℕ) → Silent w rows v i) → m.standing v ≡ open'
  pub on_others : (v : List ℕ) → binary v ≡ false → m.standing v ≡ open'
