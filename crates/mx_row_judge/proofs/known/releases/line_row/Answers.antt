use Rattle.std.proofs.Common.{◌∙◌, ap, rules}
use Rattle.mx_row_rules.specs.found.Given.{line_row}
use Rattle.mx_lookups.proofs.NumbersProofs.AnyLemmas.{any_so}
use Rattle.mx_row_judge.proofs.known.releases.line_row.Goals as goal

pub returns : goal.returns
returns g c = record {
  looks_up =
      record {
        same_reference = search rules;
        reads = search rules;
        any_rows = any_so _ _ _ _ _ _ (λ trees first. (c.in_ok-number.number, first, c.release_line_row.ensures.row ∙ ap (λ n. line_row c.args.seq c.args.line n c.args.certified.now) c.or_zero.ensures)) c.in_ok-number.ensures.looks_up.any_rows;
        damage = search rules;
      };
}
