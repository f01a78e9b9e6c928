use Rattle.std.proofs.Common.{[], refl}
use Rattle.sqlite.specs.Held.{state}
use Rattle.mx_office.specs.Layout.{office_point}
use Rattle.mx_files.proofs.TrialLemmas.{made_rests}
use Rattle.mx_files.proofs.trying.try_in.Goals as goal

pub returns-clause-exact : goal.returns-clause-exact
returns-clause-exact g c rests clean =
    let made = made_rests (state g.S.Store c.create.new.conn) (c.in_default.ensures.made rests) in
    let opened = c.in-Ok.ensures in
    let tried = c.try_commands-tried in
    tried.ensures.exact [] opened.ready (opened.moves.kept office_point [] made refl) (clean tried.new.office.conn)
