use Rattle.std.proofs.Common.{◌≡◌, length, Some}
use Rattle.std.specs.List.{AllByRecursion}
use Rattle.netlist.specs.Grammar.{OneEnd}
use Rattle.netlist.specs.Statements.{said}
use Rattle.netlist.specs.Tokens.{line, lines_after, tokens_of}
use Rattle.netlist.specs.declared.state.State.TheVariants.{Start}
use Rattle.netlist.proofs.Ends.{Ends}
use Rattle.netlist.proofs.Words.{Before}
use Rattle.netlist.proofs.statements.Statements.read_statement.Given as goal

abbrev pub invariant-loop-token : goal.invariant-loop-token
invariant-loop-token l =
    let text = l.initial.self.text.bytes.now in
    let left = tokens_of l.token-iterator.text.now l.token-iterator.next in
    (said l.state left ≡ said Start (line text l.at))
    × OneEnd left
    × AllByRecursion (Before (length text)) left
    × AllByRecursion (Ends text (lines_after text l.at)) left
    × (l.self.text.bytes.now ≡ text)
    × (l.self.end ≡ Some l.at)
