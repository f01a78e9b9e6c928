use Rattle.std.proofs.Common.{rules}
use Rattle.mx_layout.specs.Making.{IsEmptyIn}
use Rattle.mx_layout.specs.Steps.{schema_of}
use Rattle.mx_layout.proofs.FillLemmas.{filled_either, filled_ok}
use Rattle.mx_layout.proofs.making.create.Goals as goal

pub returns-in-Ok-clause-made : goal.returns-in-Ok-clause-made
returns-in-Ok-clause-made g c bare =
    filled_ok g.S.Store (schema_of c.args.layout.0) (IsEmptyIn c.args.layout.0) c.args.conn.now c.transaction-tx.result.conn.now c.fill_new.new.tx.conn.now c.transaction-tx.ensures.begun bare
    c.fill_new.ensures.stays.within c.in_default.ensures.stays.inside c.in_default.ensures.makes c.commit.new.self.0 c.conn-2-1.given.0 (search rules) c.commit.ensures.survives g.met.S.Store.settled (λ clean. (c.in-Ok.ensures.ok clean).1)

pub returns-in-Ok-clause-crash : goal.returns-in-Ok-clause-crash
returns-in-Ok-clause-crash g c bare =
    filled_either g.S.Store (schema_of c.args.layout.0) (IsEmptyIn c.args.layout.0) c.args.conn.now c.transaction-tx.result.conn.now c.fill_new.new.tx.conn.now c.transaction-tx.ensures.begun bare
    c.fill_new.ensures.stays.within c.in_default.ensures.stays.inside c.in_default.ensures.makes c.commit.new.self.0 c.conn-2-1.given.0 (search rules) c.commit.ensures.survives

pub returns-in-Err-commit-clause-crash : goal.returns-in-Err-commit-clause-crash
returns-in-Err-commit-clause-crash g c bare =
    filled_either g.S.Store (schema_of c.args.layout.0) (IsEmptyIn c.args.layout.0) c.args.conn.now c.transaction-tx.result.conn.now c.fill_new.new.tx.conn.now c.transaction-tx.ensures.begun bare
    c.fill_new.ensures.stays.within c.in_default.ensures.stays.inside c.in_default.ensures.makes c.commit.new.self.0 c.conn-2-1.given.0 (search rules) c.commit.ensures.survives
