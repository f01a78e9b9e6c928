use Rattle.std.proofs.Common.{◌≡◌, ◌∙◌, ap, sym, length, false}
use Rattle.std.proofs.lemmas.List.Elements.{All-rest}
use Rattle.std.specs.Str.{str_eq_ignore_ascii_case}
use Rattle.httparse.specs.Spans.{IsHeaderWithin, span_bytes}
use Rattle.mx_http.proofs.RequestProofs.LengthLemmas.{passes_over}
use Rattle.mx_http.proofs.request.length.next_value.Goals as goal

pub loop-header-preserved : goal.loop-header-preserved
loop-header-preserved c =
    let front = c.in-Some.ensures.cases.0 in
    let other : str_eq_ignore_ascii_case (span_bytes c.args.buf.now c.in-Some.header.now.name) c.args.name.now ≡ false =
    ap (λ n. str_eq_ignore_ascii_case n c.args.name.now) (sym c.of-field.ensures) ∙ (sym c.is_named.ensures ∙ c.if-is_named.false) in
    record {
      same = c.loop-header.invariant.same ∙ passes_over c.args.buf.now c.args.name.now c.in-Some.header.now c.loop-header.rest.now c.in-Some.later.now front other;
      within = All-rest (IsHeaderWithin (length c.args.buf.now)) c.in-Some.header.now c.in-Some.later.now c.loop-header.rest.now front c.loop-header.invariant.within;
    }
