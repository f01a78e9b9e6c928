use Rattle.std.proofs.Common.{◌≤◌, length, ◌∙◌, ap, sym, Err, arith}
use Rattle.mx_intake.proofs.EntriesLemmas.{entries_of_value-long, entries_of_value-list}
use Rattle.mx_intake.proofs.json.commands_of_value.Goals as goal

pub returns-then-len-gt-MOST_COMMANDS-clause-err : goal.returns-then-len-gt-MOST_COMMANDS-clause-err
returns-then-len-gt-MOST_COMMANDS-clause-err c _ =
    entries_of_value-long c.args.value.now c.in-Array.list c.in-Array.is (omega arith) ∙ ap Err (sym c.of_whole-then-len-gt-MOST_COMMANDS.ensures)

pub returns-clause-ok : goal.returns-clause-ok
returns-clause-ok c =
    let short : length c.as_slice.result.now ≤ 10000 = omega arith in
    rw (entries_of_value-list c.args.value.now c.in-Array.list c.as_slice.result.now c.in-Array.is c.as_slice.ensures.value short) c.commands_of_values.ensures.ok

pub returns-clause-err : goal.returns-clause-err
returns-clause-err c =
    let short : length c.as_slice.result.now ≤ 10000 = omega arith in
    rw (entries_of_value-list c.args.value.now c.in-Array.list c.as_slice.result.now c.in-Array.is c.as_slice.ensures.value short) c.commands_of_values.ensures.err
