use Rattle.mx_book.proofs.GrowthLemmas.{life_never_falls}
use Rattle.mx_book.proofs.laws.life_never_falls.Goals as goal

pub returns : goal.returns
returns c = life_never_falls
