use Rattle.std.proofs.Common.{rules, ◌≡◌}
use Rattle.std.proofs.lemmas.Result.{IfOk-weaker}
use Rattle.std.specs.List.{slice_index_or}
use Rattle.clap.specs.Words.{rule_of}
use Rattle.command_words.specs.Grammar.{raw_option, raw_positionals}
use Rattle.command_words.proofs.GrownCommand.{finished, grown, no_row}
use Rattle.command_words.proofs.split.grammar.Goals as goal

pub loop-row-preserved : goal.loop-row-preserved
loop-row-preserved c =
    let is : rule_of c.long.result ≡ raw_option (slice_index_or c.args.rows.now c.loop-row.row-index no_row).name.now = search rules in
    grown c.args.name.now c.args.rows.now c.loop-row.row-index no_row c.loop-row.command c.in_ok-command.command (rule_of c.long.result) c.loop-row-test.true
    c.loop-row.invariant (c.in_ok-command.ensures.shape (search rules)) is

pub returns : goal.returns
returns c =
    let is : rule_of c.action.result ≡ raw_positionals = search rules in
    IfOk-weaker c.arg-2.result _ _
    (λ command added. finished c.args.name.now c.args.rows.now c.loop-row.row-index c.loop-row.command command (rule_of c.action.result) (search rules)
    c.loop-row.invariant (added.shape (search rules)) is)
    c.arg-2.ensures
