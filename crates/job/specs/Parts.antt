-- The parts of a job: netlist, `%` line and vector lines.
use Rattle.std.specs.Prelude.{◌≡◌, ℕ, ◌+◌, ◌-◌, ◌<◌, ◌≤◌, Bool, ◌&&◌, ◌||◌, List, count_by, length, take, drop, Ok, Err, Result, ◌==◌, slice_index}
use Rattle.std.specs.List.{before_first, list_all}
use Rattle.circuit.specs.Search.{first}
use Rattle.netlist.specs.Bytes.{blank_byte}
use Rattle.job.specs.declared.fault.JobFault.{JobFault}
use Rattle.job.specs.declared.fault.JobFault.TheVariants.{TooLarge, NoPercentLine, Netlist}
use Rattle.job.specs.declared.split.Job.{Job}

-- a line begins at the start of the job and after each byte 10
abbrev pub begins : List ℕ → ℕ → Bool
begins job s = s == 0 || slice_index job (s - 1) == 10

-- the line that begins at s, up to its byte 10 or the end of the job
abbrev pub line_at : List ℕ → ℕ → List ℕ
line_at job s = before_first (λ b. b == 10) (drop s job)

-- where it ends
abbrev pub line_end : List ℕ → ℕ → ℕ
line_end job s = s + length (line_at job s)

-- a single `%`, and else blanks
abbrev pub percent_line : List ℕ → Bool
percent_line l = count_by (λ b. b == 37) l == 1 && list_all (λ b. b == 37 || blank_byte b) l

-- where the first `%` line begins, or the job's length
abbrev pub percent_at : List ℕ → ℕ
percent_at job = first (length job) (λ s. begins job s && percent_line (line_at job s))

-- how a job is cut: the netlist is all before the `%` line, and the vector lines all after it
abbrev pub Split : List ℕ → Result Job JobFault → Type 0
Split job (Ok j) = (length job ≤ 32768) × (percent_at job < length job) × (j.netlist.now ≡ take (percent_at job) job) × (j.vectors.now ≡ drop (line_end job (percent_at job) + 1) job)
Split job (Err TooLarge) = 32768 < length job
Split job (Err (NoPercentLine n)) = (length job ≤ 32768) × (n ≡ length job) × (percent_at job ≡ length job)
Split job (Err (Netlist f)) = ⊥
