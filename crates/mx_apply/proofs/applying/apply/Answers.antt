use Rattle.std.proofs.Common.{rules, ◌≡◌, Err, Ok, Result, subst}
use Rattle.sqlite.specs.Held.{Held, state}
use Rattle.sqlite.specs.State.{Survives}
use Rattle.sqlite.specs.Store.{Ghosts}
use Rattle.mx_book.specs.commands.Act.{Entry}
use Rattle.mx_book.specs.declared.verdict.Reply.{Reply}
use Rattle.mx_book.specs.declared.verdict.Reply.TheVariants.{Accepted}
use Rattle.mx_layout.specs.declared.fault.TableFault.{TableFault}
use Rattle.mx_layout.specs.declared.fault.TableFault.TheVariants.{Store}
use Rattle.mx_apply.specs.Applies.{Applies, HasOneCommit, Runs}
use Rattle.mx_apply.proofs.ApplyLemmas.{handed_on}
use Rattle.mx_apply.proofs.CommitLemmas.{commit_survives, commits, dropped_survives, dropped_tells, in_doubt, stops, tells}
use Rattle.mx_lookups.specs.numbers.Told.{TellsDamage}
use Rattle.mx_apply.specs.Judged.{CommandDamage}
use Rattle.mx_apply.proofs.applying.apply.Goals as goal

-- the transaction is that which was begun
started : {S : Type 0} (g : Ghosts S) (command : Entry) {start begun : Held S} (last : Held S) (result : Result Reply TableFault) → start ≡ begun → Runs command (state g start) (state g last) result → Runs command (state g begun) (state g last) result
started g command last result is runs = subst (λ h. Runs command (state g h) (state g last) result) is runs

-- what is left is the connection
applied : {S : Type 0} (g : Ghosts S) (command : Entry) (old : Held S) {end left : Held S} (result : Result Reply TableFault) → end ≡ left → Applies command (state g old) (state g end) result → Applies command (state g old) (state g left) result
applied g command old result is applies = subst (λ h. Applies command (state g old) (state g h) result) is applies

survived : {S : Type 0} (g : Ghosts S) (command : Entry) (old : Held S) {end left : Held S} → end ≡ left → Survives (state g old) (state g end) (HasOneCommit command (state g old)) → Survives (state g old) (state g left) (HasOneCommit command (state g old))
survived g command old is survives = subst (λ h. Survives (state g old) (state g h) (HasOneCommit command (state g old))) is survives

-- an answer is known by the arm that it came to
answered : {S : Type 0} (g : Ghosts S) (command : Entry) (start last : Held S) {a b : Reply} → a ≡ b → Runs command (state g start) (state g last) (Ok a) → Runs command (state g start) (state g last) (Ok b)
answered g command start last is runs = subst (λ r. Runs command (state g start) (state g last) (Ok r)) is runs

pub returns-in_err-told-clause-applies : goal.returns-in_err-told-clause-applies
returns-in_err-told-clause-applies g c =
    let last = c.run_command.new.tx.conn.now in
    let e = c.in_err-told.field-0.0 in
    let same : c.drop-tx.new.self.0 ≡ c.conn-1.given.0 = search rules in
    let runs = started g.S.Store c.args.command.now last (Err e) c.transaction-tx.ensures.begun c.in_err-told.ensures.runs in
    handed_on (λ r. Applies c.args.command.now (state g.S.Store c.args.conn.now) (state g.S.Store c.conn-1.given.0) r) e c.from_residual.result c.from_residual.ensures.1
    (applied g.S.Store c.args.command.now c.args.conn.now (Err e) same (stops g.S.Store c.args.conn.now last c.args.command.now c.drop-tx.new.self.0 c.drop-tx.ensures.survives c.drop-tx.ensures.undone e runs))

pub returns-in_err-told-clause-survives : goal.returns-in_err-told-clause-survives
returns-in_err-told-clause-survives g c =
    let last = c.run_command.new.tx.conn.now in
    let e = c.in_err-told.field-0.0 in
    let same : c.drop-tx.new.self.0 ≡ c.conn-1.given.0 = search rules in
    let runs = started g.S.Store c.args.command.now last (Err e) c.transaction-tx.ensures.begun c.in_err-told.ensures.runs in
    survived g.S.Store c.args.command.now c.args.conn.now same (dropped_survives g.S.Store c.args.conn.now last c.args.command.now c.drop-tx.new.self.0 c.drop-tx.ensures.survives c.drop-tx.ensures.undone (Err e) runs)

pub returns-in-Ok-clause-applies : goal.returns-in-Ok-clause-applies
returns-in-Ok-clause-applies g c =
    let last = c.run_command.new.tx.conn.now in
    let seq = c.in-Accepted.seq in
    let same : c.commit.new.self.0 ≡ c.conn-in-Accepted-1.given.0 = search rules in
    let runs = started g.S.Store c.args.command.now last (Ok (Accepted seq)) c.transaction-tx.ensures.begun (answered g.S.Store c.args.command.now c.transaction-tx.result.conn.now last c.in-Accepted.is c.in_ok-told.ensures.runs) in
    applied g.S.Store c.args.command.now c.args.conn.now (Ok (Accepted seq)) same
    (commits g.S.Store c.args.conn.now last c.args.command.now c.commit.new.self.0 seq runs c.commit.ensures.survives g.met.S.Store.settled (λ clean. (c.in-Ok.ensures.ok clean).1))

pub returns-in-Ok-clause-survives : goal.returns-in-Ok-clause-survives
returns-in-Ok-clause-survives g c =
    let last = c.run_command.new.tx.conn.now in
    let seq = c.in-Accepted.seq in
    let same : c.commit.new.self.0 ≡ c.conn-in-Accepted-1.given.0 = search rules in
    let runs = started g.S.Store c.args.command.now last (Ok (Accepted seq)) c.transaction-tx.ensures.begun (answered g.S.Store c.args.command.now c.transaction-tx.result.conn.now last c.in-Accepted.is c.in_ok-told.ensures.runs) in
    survived g.S.Store c.args.command.now c.args.conn.now same (commit_survives g.S.Store c.args.conn.now last c.args.command.now c.commit.new.self.0 seq runs c.commit.ensures.survives)

pub returns-in-Err-clause-applies : goal.returns-in-Err-clause-applies
returns-in-Err-clause-applies g c =
    let last = c.run_command.new.tx.conn.now in
    let seq = c.in-Accepted.seq in
    let same : c.commit.new.self.0 ≡ c.conn-in-Accepted-1.given.0 = search rules in
    let runs = started g.S.Store c.args.command.now last (Ok (Accepted seq)) c.transaction-tx.ensures.begun (answered g.S.Store c.args.command.now c.transaction-tx.result.conn.now last c.in-Accepted.is c.in_ok-told.ensures.runs) in
    applied g.S.Store c.args.command.now c.args.conn.now (Err Store) same (in_doubt g.S.Store c.args.conn.now last c.args.command.now c.commit.new.self.0 seq runs c.commit.ensures.survives)

pub returns-in-Err-clause-survives : goal.returns-in-Err-clause-survives
returns-in-Err-clause-survives g c =
    let last = c.run_command.new.tx.conn.now in
    let seq = c.in-Accepted.seq in
    let same : c.commit.new.self.0 ≡ c.conn-in-Accepted-1.given.0 = search rules in
    let runs = started g.S.Store c.args.command.now last (Ok (Accepted seq)) c.transaction-tx.ensures.begun (answered g.S.Store c.args.command.now c.transaction-tx.result.conn.now last c.in-Accepted.is c.in_ok-told.ensures.runs) in
    survived g.S.Store c.args.command.now c.args.conn.now same (commit_survives g.S.Store c.args.conn.now last c.args.command.now c.commit.new.self.0 seq runs c.commit.ensures.survives)

pub returns-in_default-clause-applies : goal.returns-in_default-clause-applies
returns-in_default-clause-applies g c =
    let last = c.run_command.new.tx.conn.now in
    let told = c.in_ok-told.told in
    let same : c.drop-tx-in-Already-1.new.self.0 ≡ c.conn-in-Already-1.given.0 = search rules in
    let runs = started g.S.Store c.args.command.now last (Ok told) c.transaction-tx.ensures.begun c.in_ok-told.ensures.runs in
    applied g.S.Store c.args.command.now c.args.conn.now (Ok told) same
    (tells g.S.Store c.args.conn.now last c.args.command.now c.drop-tx-in-Already-1.new.self.0 c.drop-tx-in-Already-1.ensures.survives c.drop-tx-in-Already-1.ensures.undone told c.in_default.not-Accepted runs)

pub returns-in_default-clause-survives : goal.returns-in_default-clause-survives
returns-in_default-clause-survives g c =
    let last = c.run_command.new.tx.conn.now in
    let told = c.in_ok-told.told in
    let same : c.drop-tx-in-Already-1.new.self.0 ≡ c.conn-in-Already-1.given.0 = search rules in
    let runs = started g.S.Store c.args.command.now last (Ok told) c.transaction-tx.ensures.begun c.in_ok-told.ensures.runs in
    survived g.S.Store c.args.command.now c.args.conn.now same (dropped_survives g.S.Store c.args.conn.now last c.args.command.now c.drop-tx-in-Already-1.new.self.0 c.drop-tx-in-Already-1.ensures.survives c.drop-tx-in-Already-1.ensures.undone (Ok told) runs)

pub returns-in_err-told-clause-damage : goal.returns-in_err-told-clause-damage
returns-in_err-told-clause-damage g c =
    let command = c.args.command.now in
    let old = c.args.conn.now in
    let last = c.run_command.new.tx.conn.now in
    let e = c.in_err-told.field-0.0 in
    let same : c.drop-tx.new.self.0 ≡ c.conn-1.given.0 = search rules in
    let runs = started g.S.Store command last (Err e) c.transaction-tx.ensures.begun c.in_err-told.ensures.runs in
    let tells = subst (λ h. TellsDamage {V = Reply} (CommandDamage command) (state g.S.Store h) (state g.S.Store last) (Err e)) c.transaction-tx.ensures.begun c.in_err-told.ensures.damage in
    handed_on (λ r. TellsDamage (CommandDamage command) (state g.S.Store old) (state g.S.Store c.conn-1.given.0) r) e c.from_residual.result c.from_residual.ensures.1
    (subst (λ h. TellsDamage {V = Reply} (CommandDamage command) (state g.S.Store old) (state g.S.Store h) (Err e)) same (dropped_tells g.S.Store old last command c.drop-tx.new.self.0 c.drop-tx.ensures.survives c.drop-tx.ensures.undone (Err e) runs tells))
