use Rattle.std.proofs.Common.{rules}
use Rattle.mx_layout.proofs.FillLemmas.{filled_either, filled_ok}
use Rattle.mx_book_tables.specs.stands.Schemas.{schema_at}
use Rattle.mx_book_tables.specs.stands.Stands.{StandsAt}
use Rattle.mx_moves.specs.install.Entries.{first_point}
use Rattle.mx_moves.proofs.install.installing.install_v1.Goals as goal

pub returns-in-Ok-clause-installed : goal.returns-in-Ok-clause-installed
returns-in-Ok-clause-installed g c bare =
    filled_ok g.S.Store (schema_at first_point) (λ trees. StandsAt first_point trees c.args.book.now) c.args.conn.now c.transaction-tx.result.conn.now c.install_in.new.tx.conn.now c.transaction-tx.ensures.begun bare
    c.install_in.ensures.stays.within c.in_default.ensures.stays.inside c.in_default.ensures.makes c.commit.new.self.0 c.conn-2-1.given.0 (search rules) c.commit.ensures.survives g.met.S.Store.settled (λ clean. (c.in-Ok.ensures.ok clean).1)

pub returns-in-Ok-clause-crash : goal.returns-in-Ok-clause-crash
returns-in-Ok-clause-crash g c bare =
    filled_either g.S.Store (schema_at first_point) (λ trees. StandsAt first_point trees c.args.book.now) c.args.conn.now c.transaction-tx.result.conn.now c.install_in.new.tx.conn.now c.transaction-tx.ensures.begun bare
    c.install_in.ensures.stays.within c.in_default.ensures.stays.inside c.in_default.ensures.makes c.commit.new.self.0 c.conn-2-1.given.0 (search rules) c.commit.ensures.survives

pub returns-in-Err-commit-clause-crash : goal.returns-in-Err-commit-clause-crash
returns-in-Err-commit-clause-crash g c bare =
    filled_either g.S.Store (schema_at first_point) (λ trees. StandsAt first_point trees c.args.book.now) c.args.conn.now c.transaction-tx.result.conn.now c.install_in.new.tx.conn.now c.transaction-tx.ensures.begun bare
    c.install_in.ensures.stays.within c.in_default.ensures.stays.inside c.in_default.ensures.makes c.commit.new.self.0 c.conn-2-1.given.0 (search rules) c.commit.ensures.survives
