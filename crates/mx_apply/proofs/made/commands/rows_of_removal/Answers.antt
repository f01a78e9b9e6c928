use Rattle.std.proofs.Common.{◌∙◌, inl, inr, ◌∷◌, map, ap, subst, sym, pos, List, None}
use Rattle.mx_base.specs.declared.rows.rows.SpanRow.{SpanRow}
use Rattle.mx_lookups.proofs.NumbersProofs.BookRows.{open_spans_of}
use Rattle.mx_lookups.proofs.NumbersProofs.ReadLemmas.{reads_then, stopped, told}
use Rattle.mx_apply.proofs.MadeProofs.AmongLemmas.{among}
use Rattle.mx_apply.proofs.MadeProofs.MadeLemmas.{starved}
use Rattle.mx_apply.proofs.MadeProofs.SpanLemmas.{spans_removed_are}
use Rattle.mx_lookups.proofs.NumbersProofs.AnyLemmas.{any_so}
use Rattle.mx_row_rules.specs.changes.Made.{nothing_found}
use Rattle.mx_apply.specs.made.Found.{AreTotalsOf, numbers_removed}
use Rattle.mx_apply.proofs.MadeProofs.AnyMadeLemmas.{any_then, chosen_read}
use Rattle.sqlite.specs.declared.types.Value.TheVariants.{Int}
use Rattle.mx_layout.specs.kept.Cells.{kept_span2}
use Rattle.mx_table_rows.specs.chosen.Choices.{is_open}
use Rattle.mx_lookups.specs.numbers.AnyRows.{AreChosen}
use Rattle.mx_lookups.proofs.NumbersProofs.TableLemmas.{spans}
use Rattle.mx_lookups.proofs.NumbersProofs.ToldLemmas.{handed, unread}
use Rattle.mx_apply.specs.made.Damage.{TotalsDamage}
use Rattle.mx_apply.proofs.MadeProofs.DamageLemmas.{handed_with, told_with}
use Rattle.mx_apply.proofs.made.commands.rows_of_removal.Goals as goal

pub returns-in_err-spans-clause-reads : goal.returns-in_err-spans-clause-reads
returns-in_err-spans-clause-reads g c =
    stopped _ _ _ _ _ _ c.from_residual-in_err-spans.ensures.1 (reads_then _ _ _ _ _ _ _ c.in_ok-component.ensures.reads (open_spans_of c.in_ok-component.component c.in_err-spans.ensures.reads))

pub returns-in_err-numbers-clause-reads : goal.returns-in_err-numbers-clause-reads
returns-in_err-numbers-clause-reads g c =
    starved _ _ _ _ _ _ c.from_residual-in_err-numbers.ensures.1 (reads_then _ _ _ _ _ _ _ c.in_ok-component.ensures.reads (open_spans_of c.in_ok-component.component c.in_ok-spans.ensures.reads))

pub returns-in_err-totals-clause-reads : goal.returns-in_err-totals-clause-reads
returns-in_err-totals-clause-reads g c =
    stopped _ _ _ _ _ _ c.from_residual-in_err-totals.ensures.1
    (reads_then _ _ _ _ _ _ _ c.in_ok-component.ensures.reads (reads_then _ _ _ _ _ _ _ (open_spans_of c.in_ok-component.component c.in_ok-spans.ensures.reads) c.in_err-totals.ensures.reads))

pub returns-in_err-removal_rows-clause-reads : goal.returns-in_err-removal_rows-clause-reads
returns-in_err-removal_rows-clause-reads g c =
    starved _ _ _ _ _ _ c.from_residual-in_err-removal_rows.ensures.1
    (reads_then _ _ _ _ _ _ _ c.in_ok-component.ensures.reads (reads_then _ _ _ _ _ _ _ (open_spans_of c.in_ok-component.component c.in_ok-spans.ensures.reads) c.in_ok-totals.ensures.reads))

pub returns-clause-reads : goal.returns-clause-reads
returns-clause-reads g c =
    told _ _ _ _ _ _
    (λ book b all doc own.
    let ended = spans_removed_are book c.in_ok-component.component c.args.removal.serial c.in_ok-spans.spans.items all.0 all.1.0 in
    c.in_ok-removal_rows.ensures.of_book book doc own (c.deref-3.ensures.value ∙ ended.0)
    (c.deref-4.ensures.value ∙ all.1.1
    ∙ ap (λ ns. among ns book) (c.deref-2.ensures.value ∙ c.in_ok-numbers.ensures ∙ ap (λ l. c.in_ok-component.component ∷ map (λ (row : SpanRow). row.aircraft) l) c.deref.ensures.value ∙ ended.1)))
    (reads_then _ _ _ _ _ _ _ c.in_ok-component.ensures.reads (reads_then _ _ _ _ _ _ _ (open_spans_of c.in_ok-component.component c.in_ok-spans.ensures.reads) c.in_ok-totals.ensures.reads))

pub returns-clause-any_rows : goal.returns-clause-any_rows
returns-clause-any_rows g c =
    let m = c.in_ok-component.component in
    let opened = open_spans_of m c.in_ok-spans.ensures.reads in
    let later = reads_then _ _ _ _ _ _ _ opened c.in_ok-totals.ensures.reads in
    let numbers = c.deref-2.ensures.value ∙ c.in_ok-numbers.ensures ∙ ap (numbers_removed m) (c.deref.ensures.value ∙ sym c.deref-3.ensures.value) in
    any_so _ _ _ _ _ _
    (λ trees all. record {
      found = record nothing_found { component = m; spans = c.deref-3.result.now; totals = c.deref-4.result.now };
      looked_up = record {
        numbers = all.0;
        spans = subst (AreChosen kept_span2 None kept_span2.order (is_open 1 (Int (pos m))) trees) (sym c.deref-3.ensures.value) all.1.0;
        totals = subst (λ ns. AreTotalsOf ns trees c.deref-4.result.now) numbers (subst (AreTotalsOf c.deref-2.result.now trees) (sym c.deref-4.ensures.value) all.1.1);
        lines = tt;
      };
      made = c.in_ok-removal_rows.ensures.made m;
    })
    (any_then _ _ _ _ _ _ _ _ c.in_ok-component.ensures.reads c.in_ok-component.ensures.any_rows later.within
    (any_then _ _ _ _ _ _ _ _ opened (chosen_read spans c.in_ok-spans.ensures.reads) c.in_ok-totals.ensures.reads.within c.in_ok-totals.ensures.any_rows))

pub returns-in_err-component-clause-damage : goal.returns-in_err-component-clause-damage
returns-in_err-component-clause-damage g c = handed (λ _ _. inl) c.from_residual.ensures.1 c.in_err-component.ensures.damage

pub returns-in_err-spans-clause-damage : goal.returns-in_err-spans-clause-damage
returns-in_err-spans-clause-damage g c =
    let m = c.in_ok-component.component in
    told_with (λ name trees by it. inr (m, by, inl it)) c.in_ok-component.ensures.reads c.in_ok-component.ensures.any_rows c.in_err-spans.ensures.reads.within (unread spans c.from_residual-in_err-spans.ensures.1 c.in_err-spans.ensures.reads)

pub returns-in_err-totals-clause-damage : goal.returns-in_err-totals-clause-damage
returns-in_err-totals-clause-damage g c =
    let m = c.in_ok-component.component in
    let rows = c.in_ok-spans.spans.items in
    let opened = open_spans_of m c.in_ok-spans.ensures.reads in
    let numbers = c.deref-2.ensures.value ∙ c.in_ok-numbers.ensures ∙ ap (numbers_removed m) c.deref.ensures.value in
    told_with (λ name trees by it. inr (m, by, inr it)) c.in_ok-component.ensures.reads c.in_ok-component.ensures.any_rows (reads_then _ _ _ _ _ _ _ opened c.in_err-totals.ensures.reads).within
    (handed_with {Why = λ name trees. (spans : List SpanRow) × AreChosen kept_span2 None kept_span2.order (is_open 1 (Int (pos m))) trees spans × TotalsDamage (numbers_removed m spans) name trees} (λ name trees chose it. (rows, chose, subst (λ ns. TotalsDamage ns name trees) numbers it))
    c.from_residual-in_err-totals.ensures.1 opened (chosen_read spans c.in_ok-spans.ensures.reads) c.in_err-totals.ensures.reads.within c.in_err-totals.ensures.damage)
