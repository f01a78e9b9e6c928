use Rattle.std.proofs.lemmas.Result.{IfOk-weaker}
use Rattle.mx_words.proofs.CommandLineProofs.CommandLineLemmas.{one_word_more}
use Rattle.mx_words.proofs.command_line.command_line.command.Goals as goal

pub returns : goal.returns
returns c =
    let one = one_word_more _ _ _ _ _ c.in_ok-office_command.ensures c.in_ok-try_command.ensures c.in_ok-subcommand.ensures in
    let two = one_word_more _ _ _ _ _ one c.in_ok-init_command.ensures c.in_ok-subcommand-2.ensures in
    let three = one_word_more _ _ _ _ _ two c.in_ok-life_command.ensures c.in_ok-subcommand-3.ensures in
    let four = one_word_more _ _ _ _ _ three c.in_ok-due_command.ensures c.in_ok-subcommand-4.ensures in
    let five = one_word_more _ _ _ _ _ four c.in_ok-forecast_command.ensures c.in_ok-subcommand-5.ensures in
    let six = one_word_more _ _ _ _ _ five c.in_ok-limits_command.ensures c.in_ok-subcommand-6.ensures in
    let seven = one_word_more _ _ _ _ _ six c.in_ok-enter_command.ensures c.in_ok-subcommand-7.ensures in
    let eight = one_word_more _ _ _ _ _ seven c.in_ok-import_command.ensures c.in_ok-subcommand-8.ensures in
    let nine = one_word_more _ _ _ _ _ eight c.in_ok-programme_command.ensures c.in_ok-subcommand-9.ensures in
    let ten = one_word_more _ _ _ _ _ nine c.in_ok-serve_command.ensures c.in_ok-subcommand-10.ensures in
    let eleven = one_word_more _ _ _ _ _ ten c.in_ok-verify_command.ensures c.in_ok-subcommand-11.ensures in
    let twelve = one_word_more _ _ _ _ _ eleven c.in_ok-migrate_command.ensures c.in_ok-subcommand-12.ensures in
    let thirteen = one_word_more _ _ _ _ _ twelve c.in_ok-init_old_command.ensures c.in_ok-subcommand-13.ensures in
    let fourteen = one_word_more _ _ _ _ _ thirteen c.in_ok-explain_command.ensures c.in_ok-subcommand-14.ensures in
    let fifteen = one_word_more _ _ _ _ _ fourteen c.in_ok-fleet_command.ensures c.in_ok-subcommand-15.ensures in
    let sixteen = one_word_more _ _ _ _ _ fifteen c.in_ok-outlook_command.ensures c.in_ok-subcommand-16.ensures in
    let seventeen = one_word_more _ _ _ _ _ sixteen c.in_ok-aircraft_command.ensures c.in_ok-subcommand-17.ensures in
    let eighteen = one_word_more _ _ _ _ _ seventeen c.in_ok-components_command.ensures c.in_ok-subcommand-18.ensures in
    IfOk-weaker c.subcommand-19.result _ _ (λ whole added. one_word_more _ _ _ _ _ eighteen c.in_ok-deferred_command.ensures added) c.subcommand-19.ensures
