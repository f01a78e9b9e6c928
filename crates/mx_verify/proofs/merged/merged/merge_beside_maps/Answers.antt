use Rattle.mx_verify.proofs.MergedProofs.MergingLemmas.{gives_its_book, gives_sound}
use Rattle.mx_verify.proofs.merged.merged.merge_beside_maps.Goals as goal

pub returns-clause-given : goal.returns-clause-given
returns-clause-given c = rw (c.as_slice.ensures.value, c.rows_of.ensures) at c.merged_book.ensures

pub returns-clause-exact : goal.returns-clause-exact
returns-clause-exact c = λ book is are. gives_its_book c.args.registers.now book c.merged_book.result is are (rw (c.as_slice.ensures.value, c.rows_of.ensures) at c.merged_book.ensures)

pub returns-clause-sound : goal.returns-clause-sound
returns-clause-sound c = gives_sound c.args.registers.now c.merged_book.result (rw (c.as_slice.ensures.value, c.rows_of.ensures) at c.merged_book.ensures)
