use Rattle.std.proofs.Common.{arith}
use Rattle.mx_database.proofs.power.power.end_process.Goals as goal

pub returns : goal.returns
returns g c =
    let it = c.into_store.ensures in
    record { clean = λ clean. omega (arith, it.quiet.clean); left = it.quiet.outcomes; numbered = it.numbered; databases = it.sound }
