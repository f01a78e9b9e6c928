use Rattle.std.proofs.Common.{◌∙◌, get_or, ◌++◌, [], ◌∷◌, take, map, All, sym, subst, ap}
use Rattle.std.proofs.lemmas.List.{map-append, take_more}
use Rattle.std.proofs.lemmas.List.Elements.{All-append, All-cons, All-nil}
use Rattle.mx_base.specs.rows.Rows.{FitsSpan}
use Rattle.mx_row_rules.specs.changes.Kept.{span_removed}
use Rattle.mx_row_rules.proofs.changes.moves.spans_ended.Goals as goal

pub spans-preserved : goal.spans-preserved
spans-preserved c =
    let change = span_removed c.args.seq c.args.to in
    let items = c.args.spans.now in
    let x = c.span-item.result in
    let i = c.spans.span-index in
    record {
      rows = c.in_ok-push.ensures.items
          ∙ ap (λ l. l ++ c.span_ended.result ∷ []) c.spans.invariant.rows
          ∙ ap (λ row. map change (take i items) ++ row ∷ []) (c.span_ended.ensures.row ∙ ap change c.span-item.is)
          ∙ sym (map-append change (take i items) (get_or items i x ∷ []))
          ∙ ap (map change) (sym (take_more items i x c.spans-test.true));
      fits = subst (All FitsSpan) (sym c.in_ok-push.ensures.items) (All-append FitsSpan _ (c.span_ended.result ∷ []) c.spans.invariant.fits (All-cons FitsSpan _ [] c.span_ended.ensures.fits (All-nil FitsSpan)));
    }
