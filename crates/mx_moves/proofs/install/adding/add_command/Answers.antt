use Rattle.sqlite.specs.Held.{state}
use Rattle.mx_moves.proofs.InstallProofs.EntryLemmas.{adds_one}
use Rattle.mx_moves.proofs.install.adding.add_command.Goals as goal

pub returns-in-Ok-add_rows-clause-adds : goal.returns-in-Ok-add_rows-clause-adds
returns-in-Ok-add_rows-clause-adds g c =
    adds_one c.args.book.now c.args.command.now (state g.S.Store c.args.tx.now.conn.now) (state g.S.Store c.add_rows.new.tx.conn.now) _ c.doc.ensures.shape c.requires c.add_rows.ensures.fits
    c.in-Ok-add_rows.ensures.adds c.in-Ok-add_rows.ensures.stays.inside c.add_rows.ensures.stays.within
