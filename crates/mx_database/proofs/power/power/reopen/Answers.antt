use Rattle.std.proofs.Common.{arith}
use Rattle.sqlite_trees.proofs.Doubt.{no_doubt}
use Rattle.sqlite_trees.specs.View.{IsClean}
use Rattle.sqlite_store.specs.FileStore.{view}
use Rattle.sqlite.specs.State.{HasCleanDisk}
use Rattle.sqlite.specs.Files.{file_state}
use Rattle.mx_database.specs.power.Left.{HoldsWhatIsLeftOf}
use Rattle.sqlite.specs.declared.file.Leftover.TheVariants as left
use Rattle.mx_database.proofs.PowerProofs.LeftLemmas.{err_by, faithful_left, ok_by, ok_when, store_holds, wider_left}
use Rattle.mx_database.proofs.power.power.reopen.Goals as goal

pub returns-clause-clean : goal.returns-clause-clean
returns-clause-clean g c = ok_by c.reopen_left.result c.reopen_left.ensures.clean c.reopen_left.ensures.clean (λ again clean _ now.
    let none : IsClean (view c.into_store.result) = no_doubt _ (clean now) in
    omega (arith, c.into_store.ensures.quiet.clean))

pub returns-clause-found : goal.returns-clause-found
returns-clause-found g c = ok_when _ _ c.reopen_left.result c.reopen_left.ensures.clean (λ clean.
    let it = c.into_store.result in
    let none : IsClean (view it) = no_doubt _ clean in
    let given = c.into_store.ensures in
    let holds : HoldsWhatIsLeftOf c.args.conn (left.Store it) = store_holds it clean (given.numbered none) (given.sound none) (file_state c.args.conn).may_leave given.quiet.outcomes in
    c.reopen_left.ensures.found c.args.conn holds)

pub returns-clause-left : goal.returns-clause-left
returns-clause-left g c faithful =
    let it = c.into_store.result in
    let given = c.into_store.ensures in
    let clean = faithful_left faithful (left.Store it) in
    let none : IsClean (view it) = no_doubt _ clean in
    let holds : HoldsWhatIsLeftOf c.args.conn (left.Store it) = store_holds it clean (given.numbered none) (given.sound none) (file_state c.args.conn).may_leave given.quiet.outcomes in
    let sure : HasCleanDisk (file_state c.args.conn) = omega (arith, given.quiet.clean) in
    err_by c.reopen_left.result (c.reopen_left.ensures.left c.args.conn holds) (c.reopen_left.ensures.left c.args.conn holds)
    (λ why is _. (sure, wider_left _ _ (λ db may. ∣ may ∣₁) 0 _ (omega arith) why.0 why.1 (is (faithful_left faithful why.1))))
