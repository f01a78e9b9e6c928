use Rattle.std.proofs.Common.{◌≡◌, true, sym, subst, ◌∙◌, arith}
use Rattle.std.specs.Prelude.{OnOk}
use Rattle.sqlite.specs.Held.{state}
use Rattle.sqlite.specs.State.{HasCleanDisk}
use Rattle.mx_book.specs.Book.{is_book}
use Rattle.mx_layout.proofs.CrashLemmas.{stays_then, within_then}
use Rattle.mx_layout.proofs.PointLemmas.{open_either}
use Rattle.mx_book_tables.specs.stands.Schemas.{schema_at}
use Rattle.mx_book_tables.specs.stands.Stands.{StandsAt}
use Rattle.mx_tables.proofs.InsertsProofs.SetLemmas.{on_weaker}
use Rattle.mx_moves.specs.install.Entries.{first_point}
use Rattle.mx_moves.proofs.InstallProofs.EntryLemmas.{new_stand}
use Rattle.mx_moves.proofs.install.installing.install_in.Goals as goal

pub add_all-requires : goal.add_all-requires
add_all-requires g c = subst (λ es. is_book es ≡ true) (sym c.as_slice.ensures.entries) c.as_slice.ensures.book.judged

pub returns-clause-stays : goal.returns-clause-stays
returns-clause-stays g c =
    let old = state g.S.Store c.args.tx.now.conn.now in
    let mid = state g.S.Store c.fill_new.new.tx.conn.now in
    let new = state g.S.Store c.add_all.new.tx.conn.now in
    record {
      same_reference = c.add_all.ensures.same_reference ∙ c.fill_new.ensures.stays.same_reference;
      inside = λ clean begun.
          let early : HasCleanDisk mid = omega (arith, c.add_all.ensures.adds.within.survives.clean) in
          let stays = c.in_default.ensures.stays.inside early begun in
          on_weaker c.add_all.result (stays_then old mid new stays) (c.add_all.ensures.adds.inside clean (stays.mode, stays.is_open));
      within = within_then old mid new c.fill_new.ensures.stays.within (λ clean begun. (c.in_default.ensures.stays.inside clean begun).mode) c.add_all.ensures.adds.within;
    }

pub returns-clause-makes : goal.returns-clause-makes
returns-clause-makes g c clean begun blank =
    let mid = state g.S.Store c.fill_new.new.tx.conn.now in
    let new = state g.S.Store c.add_all.new.tx.conn.now in
    let early : HasCleanDisk mid = omega (arith, c.add_all.ensures.adds.within.survives.clean) in
    let stays = c.in_default.ensures.stays.inside early begun in
    let made = new_stand mid.now (c.in_default.ensures.makes early begun blank) in
    subst (λ book. OnOk c.add_all.result ((new.now.schema ≡ schema_at first_point) × StandsAt first_point new.now.trees book)) c.as_slice.ensures.entries
    (c.add_all.ensures.adds.stands clean (stays.mode, stays.is_open) made.0 made.1)

pub returns-clause-open : goal.returns-clause-open
returns-clause-open g c clean =
    let early : HasCleanDisk (state g.S.Store c.fill_new.new.tx.conn.now) = omega (arith, c.add_all.ensures.adds.within.survives.clean) in
    open_either c.add_all.result (c.in_default.ensures.open early)
