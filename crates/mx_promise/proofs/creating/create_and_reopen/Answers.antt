use Rattle.std.proofs.Common.{◌⊎◌, OnOk, arith, subst}
use Rattle.std.proofs.Math.Logic.{∥∥₁_map}
use Rattle.sqlite.specs.Files.{file_state}
use Rattle.sqlite_catalog.specs.Listing.{IsSound}
use Rattle.mx_layout.specs.Crash.{Leaves, RestsAs}
use Rattle.mx_layout.specs.Making.{IsEmptyIn}
use Rattle.mx_layout.specs.Steps.{schema_of}
use Rattle.mx_layout.specs.Tables.{no_schema}
use Rattle.mx_database.proofs.PowerProofs.LeftLemmas.{err_by, wider_left}
use Rattle.mx_promise.specs.Created.{MayBeMade}
use Rattle.mx_promise.proofs.CreatedLemmas.{finds_before, if_opened, is_made, may_be_made, unless_store}
use Rattle.mx_promise.proofs.AgainLemmas.{if_opened_then}
use Rattle.mx_promise.proofs.creating.create_and_reopen.Goals as goal

pub returns-clause-headline : goal.returns-clause-headline
returns-clause-headline g c bare =
    let old = file_state c.args.conn in
    let end = file_state c.create-answer.new.conn in
    let made = c.create-answer.ensures in
    let first = c.requires.built in
    let crash = subst (λ n. Leaves end (λ db. IsSound no_schema db ⊎ IsEmptyIn n db)) first (made.crash bare) in
    let is_there = subst (λ n. OnOk c.create-answer.result (RestsAs end (schema_of n) (IsEmptyIn n))) first (made.made bare) in
    if_opened c.reopen-again.result c.reopen-again.ensures.clean c.reopen-again.ensures.found (λ again sure found clean.
    ∥∥₁_map (found clean) (λ one. is_made old end (file_state again) (sure clean) bare crash one c.create-answer.result is_there made.unchanged))

pub returns-clause-kept : goal.returns-clause-kept
returns-clause-kept g c taken =
    finds_before file_state (file_state c.args.conn) (file_state c.create-answer.new.conn) c.reopen-again.result (c.create-answer.ensures.kept taken) c.reopen-again.ensures.clean c.reopen-again.ensures.found

pub returns-clause-unchanged : goal.returns-clause-unchanged
returns-clause-unchanged g c =
    unless_store file_state (file_state c.args.conn) (file_state c.create-answer.new.conn) c.create-answer.result c.reopen-again.result c.create-answer.ensures.unchanged c.reopen-again.ensures.clean c.reopen-again.ensures.found

pub returns-clause-taken : goal.returns-clause-taken
returns-clause-taken g c there = if_opened_then c.reopen-again.result c.reopen-again.ensures.clean (λ again sure clean. c.create-answer.ensures.taken (sure clean) there)

pub returns-clause-unopened : goal.returns-clause-unopened
returns-clause-unopened g c bare faithful =
    let old = file_state c.args.conn in
    let end = file_state c.create-answer.new.conn in
    let made = c.create-answer.ensures in
    let first = c.requires.built in
    let crash = subst (λ n. Leaves end (λ db. IsSound no_schema db ⊎ IsEmptyIn n db)) first (made.crash bare) in
    let is_there = subst (λ n. OnOk c.create-answer.result (RestsAs end (schema_of n) (IsEmptyIn n))) first (made.made bare) in
    err_by c.reopen-again.result (c.reopen-again.ensures.left faithful) (c.reopen-again.ensures.left faithful) (λ why it _.
    wider_left _ (MayBeMade c.create-answer.result) (λ db may. ∣ may_be_made old end it.0 bare crash c.create-answer.result is_there made.unchanged db may ∣₁) 0 0 (omega arith) why.0 why.1 it.1)
