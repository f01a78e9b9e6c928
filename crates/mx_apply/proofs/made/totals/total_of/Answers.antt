use Rattle.std.proofs.Common.{◌∙◌, inl, inr, None, Option, List, refl, sym, ap}
use Rattle.std.specs.Prelude.{slice_get}
use Rattle.mx_base.specs.declared.rows.rows.TotalRow.{TotalRow}
use Rattle.mx_row_rules.specs.changes.Kept.{HasLife}
use Rattle.mx_layout.specs.declared.fault.Table.TheVariants as table
use Rattle.mx_lookups.proofs.NumbersProofs.AnyLemmas.{any_so, gives}
use Rattle.mx_lookups.proofs.NumbersProofs.BookRows.{totals_of}
use Rattle.mx_lookups.proofs.NumbersProofs.ReadLemmas.{reads_then, refused, stopped, told}
use Rattle.mx_lookups.proofs.NumbersProofs.TableLemmas.{totals}
use Rattle.mx_apply.proofs.MadeProofs.TotalLemmas.{missing_total, no_total, total_first, total_lives, total_past, total_there}
use Rattle.mx_lookups.proofs.NumbersProofs.ToldLemmas.{told_as, told_here, unread}
use Rattle.mx_apply.proofs.MadeProofs.DamageLemmas.{handed_with, told_missing, total_none}
use Rattle.mx_apply.proofs.made.totals.total_of.Goals as goal

abbrev first : List TotalRow → Option TotalRow
first rows = slice_get rows 0

pub returns-in_err-rows-clause-reads : goal.returns-in_err-rows-clause-reads
returns-in_err-rows-clause-reads g c = stopped _ _ _ _ _ _ c.from_residual.ensures.1 (totals_of c.args.number c.in_err-rows.ensures.reads)

pub returns-then-is_life-clause-reads : goal.returns-then-is_life-clause-reads
returns-then-is_life-clause-reads g c =
    told _ _ _ _ _ _ (λ book b is. total_first book c.args.number _ _ (c.deref.ensures.value ∙ is) c.in-Some.ensures.value) (totals_of c.args.number c.in_ok-rows.ensures.reads)

pub returns-then-is_life-clause-any_rows : goal.returns-then-is_life-clause-any_rows
returns-then-is_life-clause-any_rows g c =
    any_so _ _ _ _ _ _ (λ trees gave. (gave, λ there. refl)) (gives totals first (c.in-Some.ensures.value ∙ ap first c.deref.ensures.value) c.in_ok-rows.ensures.reads)

pub returns-in-Some-clause-reads : goal.returns-in-Some-clause-reads
returns-in-Some-clause-reads g c =
    let past : HasLife c.in-Some.row.now → ⊥ = λ low. (let e = sym c.if-is_life.false ∙ c.is_life.ensures.1 low in absurd cc) in
    refused _ _ _ _ _ table.Total2
    (λ book b is. past (total_lives book b c.args.number _ c.in-Some.row.now (c.deref.ensures.value ∙ is) c.in-Some.ensures.value))
    (λ clean has. total_past _ c.in-Some.row.now past ((gives totals first (c.in-Some.ensures.value ∙ ap first c.deref.ensures.value) c.in_ok-rows.ensures.reads).found clean has))
    (totals_of c.args.number c.in_ok-rows.ensures.reads)

pub returns-then-there-clause-reads : goal.returns-then-there-clause-reads
returns-then-there-clause-reads g c =
    let one = totals_of c.args.number c.in_ok-rows.ensures.reads in
    let two = c.in_ok-there-in-None.ensures in
    refused _ _ _ _ _ table.Total2
    (λ book b both. total_there book b c.args.number (sym c.if-there.true ∙ both.1) (total_first book c.args.number _ None (c.deref.ensures.value ∙ both.0) c.in-None.ensures.value))
    (missing_total c.args.number _ _ _ _ _ _ one two.reads.within (gives totals first (c.in-None.ensures.value ∙ ap first c.deref.ensures.value) c.in_ok-rows.ensures.reads) two.any_rows c.if-there.true)
    (reads_then _ _ _ _ _ _ _ one two.reads)

pub returns-clause-reads : goal.returns-clause-reads
returns-clause-reads g c =
    told _ _ _ _ _ _ (λ book b both. total_first book c.args.number _ None (c.deref.ensures.value ∙ both.0) c.in-None.ensures.value)
    (reads_then _ _ _ _ _ _ _ (totals_of c.args.number c.in_ok-rows.ensures.reads) c.in_ok-there-in-None.ensures.reads)

pub returns-clause-any_rows : goal.returns-clause-any_rows
returns-clause-any_rows g c =
    let two = c.in_ok-there-in-None.ensures in
    no_total c.args.number _ _ _ _ _ _ (totals_of c.args.number c.in_ok-rows.ensures.reads) two.reads.within (gives totals first (c.in-None.ensures.value ∙ ap first c.deref.ensures.value) c.in_ok-rows.ensures.reads) two.any_rows c.if-there.false

pub returns-in_err-there-in-None-clause-reads : goal.returns-in_err-there-in-None-clause-reads
returns-in_err-there-in-None-clause-reads g c =
    stopped _ _ _ _ _ _ c.from_residual-in_err-there-in-None.ensures.1 (reads_then _ _ _ _ _ _ _ (totals_of c.args.number c.in_ok-rows.ensures.reads) c.in_err-there-in-None.ensures.reads)

pub returns-in_err-rows-clause-damage : goal.returns-in_err-rows-clause-damage
returns-in_err-rows-clause-damage g c = told_as (λ _ _. inl) (unread totals c.from_residual.ensures.1 c.in_err-rows.ensures.reads)

pub returns-in-Some-clause-damage : goal.returns-in-Some-clause-damage
returns-in-Some-clause-damage g c =
    let past : HasLife c.in-Some.row.now → ⊥ = λ low. (let e = sym c.if-is_life.false ∙ c.is_life.ensures.1 low in absurd cc) in
    told_here table.Total2 (λ clean has. inr (inl (refl, (c.in-Some.row.now, (gives totals first (c.in-Some.ensures.value ∙ ap first c.deref.ensures.value) c.in_ok-rows.ensures.reads).found clean has, past))))

pub returns-then-there-clause-damage : goal.returns-then-there-clause-damage
returns-then-there-clause-damage g c =
    let two = c.in_ok-there-in-None.ensures in
    told_missing c.args.number _ _ _ _ _ _ (totals_of c.args.number c.in_ok-rows.ensures.reads) two.reads.within (gives totals first (c.in-None.ensures.value ∙ ap first c.deref.ensures.value) c.in_ok-rows.ensures.reads) two.any_rows c.if-there.true

pub returns-in_err-there-in-None-clause-damage : goal.returns-in_err-there-in-None-clause-damage
returns-in_err-there-in-None-clause-damage g c =
    handed_with (λ name trees none it. inr (inr (total_none c.args.number none, inl it))) c.from_residual-in_err-there-in-None.ensures.1 (totals_of c.args.number c.in_ok-rows.ensures.reads)
    (gives totals first (c.in-None.ensures.value ∙ ap first c.deref.ensures.value) c.in_ok-rows.ensures.reads) c.in_err-there-in-None.ensures.reads.within c.in_err-there-in-None.ensures.damage
