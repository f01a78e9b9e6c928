use Rattle.std.proofs.Common.{[], List, ◌∙◌, subst, sym}
use Rattle.mx_book.specs.Book.{IsBook}
use Rattle.mx_base.specs.declared.rows.rows.BaseRow.{BaseRow}
use Rattle.mx_verify.specs.merged.Keys.{AreKeys}
use Rattle.mx_verify.specs.derived.Kept.{AreBasesAt}
use Rattle.mx_verify.proofs.DerivedProofs.KeptLemmas.{gathered, none_yet}
use Rattle.mx_verify.proofs.MergedProofs.KeyLemmas.{keys_of_none}
use Rattle.mx_verify.proofs.derived.last_bases.last_bases.Goals as goal

pub returns : goal.returns
returns c = λ o l.
    let empty = sym c.new-rows.ensures.items in
    let first = c.in_ok-add_bases.ensures [] (subst (AreBasesAt c.args.book.now []) empty (none_yet c.args.book.now)) (subst (λ (rows : List BaseRow). AreKeys rows c.new-met.result) empty (keys_of_none c.new-met.result c.new-met.ensures.empty)) in
    let second = c.in_ok-add_bases-2.ensures c.as_slice.result.now first.0 first.1 in
    gathered c.args.book.now (subst IsBook c.plain.ensures c.len.ensures.book) c.args.openings.now c.args.lines.now c.as_slice.result.now c.as_slice-2.result.now c.add_bases-2.new.rows.items o l
    (c.as_slice.ensures.value ∙ c.in_ok-stated.ensures) (c.as_slice-2.ensures.value ∙ c.in_ok-certified.ensures) second.0
