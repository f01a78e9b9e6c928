use Rattle.sqlite.specs.Files.{file_state}
use Rattle.mx_promise.proofs.MovedLemmas.{finds_book, keeps_moving}
use Rattle.mx_promise.proofs.moving.open_and_reopen.Goals as goal

pub returns-clause-headline : goal.returns-clause-headline
returns-clause-headline g c own at book rests =
    let end = file_state c.behind_opening.result in
    finds_book own at book end (c.behind_opening.ensures own at book rests) c.open_again.result c.open_again.ensures.clean c.open_again.ensures.found

pub returns-clause-unopened : goal.returns-clause-unopened
returns-clause-unopened g c own at book rests =
    let end = file_state c.behind_opening.result in
    keeps_moving own at book end (c.behind_opening.ensures own at book rests) c.open_again.result c.open_again.ensures.unopened
