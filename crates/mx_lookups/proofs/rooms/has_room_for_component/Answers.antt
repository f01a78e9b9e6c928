use Rattle.std.proofs.Common.{◌∙◌, ap, rules}
use Rattle.std.specs.Prelude.{nat_lt}
use Rattle.mx_book.specs.declared.limits.TheConstants.{MOST_COMPONENTS}
use Rattle.mx_row_rules.proofs.FoundProofs.PlaceLemmas.{room_for_components}
use Rattle.mx_lookups.proofs.NumbersProofs.TableLemmas.{components}
use Rattle.mx_lookups.proofs.NumbersProofs.ReadLemmas.{stopped, told}
use Rattle.mx_lookups.proofs.RoomLookups.{components_counted}
use Rattle.mx_lookups.proofs.NumbersProofs.ToldLemmas.{uncounted}
use Rattle.mx_lookups.proofs.rooms.has_room_for_component.Goals as goal

pub returns-in_err-count : goal.returns-in_err-count
returns-in_err-count g c = record {
  looks_up = record {
    same_reference = search rules;
    reads = stopped _ _ _ _ _ _ c.from_residual.ensures.1 (components_counted _ _ _ c.in_err-count.ensures.counts);
    any_rows = search rules;
    damage = uncounted components c.from_residual.ensures.1 c.in_err-count.ensures.counts;
  };
}

pub returns : goal.returns
returns g c = record {
  looks_up = record {
    same_reference = search rules;
    reads = told _ _ _ _ _ _ (λ book b count. ap (λ n. nat_lt n MOST_COMPONENTS) count ∙ room_for_components book) (components_counted _ _ _ c.in_ok-count.ensures.counts);
    any_rows = record { found = λ clean has. ap (λ n. nat_lt n MOST_COMPONENTS) (c.in_ok-count.ensures.counts.rows clean (components.is_in _ has)) };
    damage = search rules;
  };
}
