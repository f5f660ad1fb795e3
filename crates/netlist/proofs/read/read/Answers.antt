use Rattle.std.proofs.Common.{length}
use Rattle.netlist.proofs.Accepts.{lines_answered, drawn_answered, longer_answered}
use Rattle.netlist.proofs.Cuts.{line_cut, cut_line}
use Rattle.netlist.proofs.Forms.{form_says, says_form, form_one_end, line_one_end}
use Rattle.netlist.proofs.Leaves.{makes_circuit}
use Rattle.netlist.proofs.Misfits.{out_of_form, each_misfit, too_long, each_overlong}
use Rattle.netlist.proofs.read.read.Goals as goal

pub returns : goal.returns
returns c =
    let text = c.args.text.now in
    let room = length c.args.rows.now in
    let rows = c.read_or_blank.new.rows in
    let r = c.read_or_blank.result in
    let answers = c.read_or_blank.ensures in
    record {
      answers = answers;
      circuit = makes_circuit text room rows r answers;
      lines = lines_answered text room rows r answers;
      drawn = drawn_answered text room rows r answers;
      longer = longer_answered text room rows r answers;
      cut = record { the_line_is_cut = line_cut; no_other_cut = cut_line };
      grammar = record { every_form_is_read = form_says; only_forms_are_read = says_form; each_form_has_one_end = form_one_end; each_line_has_one_end = line_one_end };
      in_place = record { out_of_form = out_of_form; each_misfit = each_misfit; too_long = too_long; each_overlong = each_overlong };
    }
