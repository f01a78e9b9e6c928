use Rattle.std.proofs.Common.{◌∙◌, inl, inr, pos, List, None, ap, subst, sym}
use Rattle.mx_registers.specs.kept.Totals.{numbers_during}
use Rattle.mx_registers.specs.kept.Spans.{span_rows}
use Rattle.mx_lookups.proofs.NumbersProofs.ReadLemmas.{reads_then, stopped, told}
use Rattle.mx_apply.proofs.MadeProofs.AmongLemmas.{among}
use Rattle.mx_apply.proofs.MadeProofs.MadeLemmas.{starved}
use Rattle.mx_apply.proofs.MadeProofs.SpanLemmas.{numbers_flown_are, spans_of_aircraft}
use Rattle.mx_lookups.proofs.NumbersProofs.AnyLemmas.{any_so}
use Rattle.mx_row_rules.specs.changes.Made.{nothing_found}
use Rattle.mx_apply.specs.made.Found.{AreTotalsOf, numbers_flown}
use Rattle.mx_apply.proofs.MadeProofs.AnyMadeLemmas.{any_then, chosen_read}
use Rattle.mx_lookups.proofs.NumbersProofs.TableLemmas.{spans}
use Rattle.sqlite.specs.declared.types.Value.TheVariants.{Int}
use Rattle.mx_base.specs.declared.rows.rows.SpanRow.{SpanRow}
use Rattle.mx_layout.specs.kept.Cells.{kept_span2}
use Rattle.mx_table_rows.specs.chosen.Choices.{has_value}
use Rattle.mx_lookups.specs.numbers.AnyRows.{AreChosen}
use Rattle.mx_lookups.proofs.NumbersProofs.ToldLemmas.{handed, unread}
use Rattle.mx_apply.specs.made.Damage.{TotalsDamage}
use Rattle.mx_apply.proofs.MadeProofs.DamageLemmas.{handed_with, told_with}
use Rattle.mx_apply.proofs.made.commands.rows_of_sector.Goals as goal

pub returns-in_err-spans-clause-reads : goal.returns-in_err-spans-clause-reads
returns-in_err-spans-clause-reads g c =
    stopped _ _ _ _ _ _ c.from_residual-in_err-spans.ensures.1 (reads_then _ _ _ _ _ _ _ c.in_ok-aircraft.ensures.reads (spans_of_aircraft c.in_ok-aircraft.aircraft c.in_err-spans.ensures.reads))

pub returns-in_err-numbers-clause-reads : goal.returns-in_err-numbers-clause-reads
returns-in_err-numbers-clause-reads g c =
    starved _ _ _ _ _ _ c.from_residual-in_err-numbers.ensures.1 (reads_then _ _ _ _ _ _ _ c.in_ok-aircraft.ensures.reads (spans_of_aircraft c.in_ok-aircraft.aircraft c.in_ok-spans.ensures.reads))

pub returns-in_err-totals-clause-reads : goal.returns-in_err-totals-clause-reads
returns-in_err-totals-clause-reads g c =
    stopped _ _ _ _ _ _ c.from_residual-in_err-totals.ensures.1
    (reads_then _ _ _ _ _ _ _ c.in_ok-aircraft.ensures.reads (reads_then _ _ _ _ _ _ _ (spans_of_aircraft c.in_ok-aircraft.aircraft c.in_ok-spans.ensures.reads) c.in_err-totals.ensures.reads))

pub returns-in_err-sector_rows-clause-reads : goal.returns-in_err-sector_rows-clause-reads
returns-in_err-sector_rows-clause-reads g c =
    starved _ _ _ _ _ _ c.from_residual-in_err-sector_rows.ensures.1
    (reads_then _ _ _ _ _ _ _ c.in_ok-aircraft.ensures.reads (reads_then _ _ _ _ _ _ _ (spans_of_aircraft c.in_ok-aircraft.aircraft c.in_ok-spans.ensures.reads) c.in_ok-totals.ensures.reads))

pub returns-clause-reads : goal.returns-clause-reads
returns-clause-reads g c =
    let n = c.in_ok-aircraft.aircraft in
    let s = c.args.sector in
    told _ _ _ _ _ _
    (λ book b all doc own.
    c.in_ok-sector_rows.ensures.of_book book doc own all.0
    (c.deref-3.ensures.value ∙ all.1.1
    ∙ ap (λ ns. among ns book) (c.deref-2.ensures.value ∙ c.in_ok-numbers.ensures ∙ numbers_flown_are book n s.off s.on _ (c.deref.ensures.value ∙ all.1.0) ∙ ap (λ m. numbers_during m s.off s.on (span_rows book)) all.0)))
    (reads_then _ _ _ _ _ _ _ c.in_ok-aircraft.ensures.reads (reads_then _ _ _ _ _ _ _ (spans_of_aircraft n c.in_ok-spans.ensures.reads) c.in_ok-totals.ensures.reads))

pub returns-clause-any_rows : goal.returns-clause-any_rows
returns-clause-any_rows g c =
    let n = c.in_ok-aircraft.aircraft in
    let s = c.args.sector in
    let flown = spans_of_aircraft n c.in_ok-spans.ensures.reads in
    let later = reads_then _ _ _ _ _ _ _ flown c.in_ok-totals.ensures.reads in
    let numbers = c.deref-2.ensures.value ∙ c.in_ok-numbers.ensures ∙ ap (numbers_flown n s) c.deref.ensures.value in
    any_so _ _ _ _ _ _
    (λ trees all. record {
      found = record nothing_found { number = n; spans = c.in_ok-spans.spans.items; totals = c.deref-3.result.now };
      looked_up = record {
        numbers = all.0;
        spans = all.1.0;
        totals = subst (λ ns. AreTotalsOf ns trees c.deref-3.result.now) numbers (subst (AreTotalsOf c.deref-2.result.now trees) (sym c.deref-3.ensures.value) all.1.1);
        lines = tt;
      };
      made = c.in_ok-sector_rows.ensures.made c.in_ok-spans.spans.items;
    })
    (any_then _ _ _ _ _ _ _ _ c.in_ok-aircraft.ensures.reads c.in_ok-aircraft.ensures.any_rows later.within
    (any_then _ _ _ _ _ _ _ _ flown (chosen_read spans c.in_ok-spans.ensures.reads) c.in_ok-totals.ensures.reads.within c.in_ok-totals.ensures.any_rows))

pub returns-in_err-aircraft-clause-damage : goal.returns-in_err-aircraft-clause-damage
returns-in_err-aircraft-clause-damage g c = handed (λ _ _. inl) c.from_residual.ensures.1 c.in_err-aircraft.ensures.damage

pub returns-in_err-spans-clause-damage : goal.returns-in_err-spans-clause-damage
returns-in_err-spans-clause-damage g c =
    let n = c.in_ok-aircraft.aircraft in
    told_with (λ name trees by it. inr (n, by, inl it)) c.in_ok-aircraft.ensures.reads c.in_ok-aircraft.ensures.any_rows c.in_err-spans.ensures.reads.within (unread spans c.from_residual-in_err-spans.ensures.1 c.in_err-spans.ensures.reads)

pub returns-in_err-totals-clause-damage : goal.returns-in_err-totals-clause-damage
returns-in_err-totals-clause-damage g c =
    let n = c.in_ok-aircraft.aircraft in
    let s = c.args.sector in
    let rows = c.in_ok-spans.spans.items in
    let flown = spans_of_aircraft n c.in_ok-spans.ensures.reads in
    let numbers = c.deref-2.ensures.value ∙ c.in_ok-numbers.ensures ∙ ap (numbers_flown n s) c.deref.ensures.value in
    told_with (λ name trees by it. inr (n, by, inr it)) c.in_ok-aircraft.ensures.reads c.in_ok-aircraft.ensures.any_rows (reads_then _ _ _ _ _ _ _ flown c.in_err-totals.ensures.reads).within
    (handed_with {Why = λ name trees. (spans : List SpanRow) × AreChosen kept_span2 None kept_span2.order (has_value 2 (Int (pos n))) trees spans × TotalsDamage (numbers_flown n s spans) name trees} (λ name trees chose it. (rows, chose, subst (λ ns. TotalsDamage ns name trees) numbers it))
    c.from_residual-in_err-totals.ensures.1 flown (chosen_read spans c.in_ok-spans.ensures.reads) c.in_err-totals.ensures.reads.within c.in_err-totals.ensures.damage)
