use Rattle.std.proofs.Common.{rules, arith}
use Rattle.sqlite.specs.Held.{state}
use Rattle.sqlite.specs.State.{HasCleanDisk}
use Rattle.mx_layout.proofs.CrashLemmas.{within_then, stays_after}
use Rattle.mx_layout.proofs.FillLemmas.{empty_book}
use Rattle.mx_layout.proofs.making.fill.Goals as goal

pub returns-in_err-insert_office-clause-stays : goal.returns-in_err-insert_office-clause-stays
returns-in_err-insert_office-clause-stays g c = record {
  same_reference = search rules;
  inside = search rules;
  within = within_then (state g.S.Store c.args.tx.now.conn.now) (state g.S.Store c.make_tables.new.tx.conn.now) (state g.S.Store c.insert_office.new.tx.conn.now)
      c.make_tables.ensures.within c.in_ok-make_tables.ensures.mode c.insert_office.ensures.stays.within;
}

pub returns-clause-stays : goal.returns-clause-stays
returns-clause-stays g c = record {
  same_reference = search rules;
  inside = λ clean inside.
      let early : HasCleanDisk (state g.S.Store c.make_tables.new.tx.conn.now) = omega (arith, c.insert_office.ensures.stays.within.survives.clean) in
      stays_after _ _ _ (λ now. c.make_tables.ensures.within.kept now inside) early (c.in_ok-insert_office.ensures.stays.inside clean (c.in_ok-make_tables.ensures.mode early inside));
  within = within_then _ _ _ c.make_tables.ensures.within c.in_ok-make_tables.ensures.mode c.insert_office.ensures.stays.within;
}

pub returns-clause-makes : goal.returns-clause-makes
returns-clause-makes g c clean inside blank =
    let old = state g.S.Store c.make_tables.new.tx.conn.now in
    let early : HasCleanDisk old = omega (arith, c.insert_office.ensures.stays.within.survives.clean) in
    let made = c.in_ok-make_tables.ensures.makes early inside blank in
    empty_book c.args.layout.0 c.requires old.now (state g.S.Store c.insert_office.new.tx.conn.now).now made
    (c.in_ok-insert_office.ensures.adds c.args.layout.0 c.requires clean (c.in_ok-make_tables.ensures.mode early inside) made.schema_is)
