-- The first line of a listing.
use Rattle.std.specs.Prelude.{ℕ, ◌++◌, if◌then◌else◌, List, codes, length, take, Ok, Err, Result, ◌==◌, nat_lt}
use Rattle.std.specs.Fmt.{decimal}
use Rattle.circuit.specs.Bridges.{pairs}
use Rattle.circuit.specs.Feedback.{feedback_bridges}
use Rattle.circuit.specs.Rows.{inputs, outputs}
use Rattle.circuit.specs.declared.row.Row.{Row}
use Rattle.netlist.specs.Reading.{reading}
use Rattle.netlist.specs.declared.fault.NetlistFault.{NetlistFault}
use Rattle.job.specs.Parts.{percent_at}
use Rattle.job.specs.declared.fault.JobFault.{JobFault}
use Rattle.job.specs.declared.fault.JobFault.TheVariants.{TooLarge, NoPercentLine, Netlist}
use Rattle.job.specs.declared.summary.Summary.{Summary}

-- how many lines, inputs, outputs, bridges and feedback bridges a circuit has
abbrev pub summary_of : List Row → Summary
summary_of rows = record { lines = length rows; inputs = inputs rows; outputs = outputs rows; bridges = pairs (length rows); feedback = feedback_bridges rows }

abbrev pub summed : Result (List Row) NetlistFault → Result Summary JobFault
summed (Ok rows) = Ok (summary_of rows)
summed (Err f) = Err (Netlist f)

-- of the netlist before the `%` line, read with room for 64 lines
abbrev pub summary_outcome : List ℕ → Result Summary JobFault
summary_outcome job =
    if nat_lt 32768 (length job) then Err TooLarge
    else if percent_at job == length job then Err (NoPercentLine (length job))
    else summed (reading (take (percent_at job) job) 64)

abbrev pub summary_text : Summary → List ℕ
summary_text s =
    codes "lines " ++ decimal s.lines ++ codes " inputs " ++ decimal s.inputs ++ codes " outputs " ++ decimal s.outputs
    ++ codes " bridges " ++ decimal s.bridges ++ codes " feedback " ++ decimal s.feedback
