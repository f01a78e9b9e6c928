use Rattle.std.proofs.Common.{◌≡◌, length, map, All}
use Rattle.httparse.specs.Spans.{IsHeaderWithin, header_bytes}
use Rattle.mx_http.specs.request.Fields.{values_named}
use Rattle.mx_http.proofs.request.length.next_value.Given as goal

abbrev pub invariant-loop-header : goal.invariant-loop-header
invariant-loop-header l = record {
  same : values_named l.name (map (header_bytes l.buf) l.headers) ≡ values_named l.name (map (header_bytes l.buf) l.rest);
  within : All (IsHeaderWithin (length l.buf)) l.rest;
}

abbrev pub decreases-loop-header : goal.decreases-loop-header
decreases-loop-header l = length l.rest
