use Rattle.std.proofs.Common.{ap, false}
use Rattle.std.specs.Option.{option_map_or}
use Rattle.mx_book.specs.Programme.{is_ended_by}
use Rattle.mx_row_rules.proofs.FoundProofs.ProgrammeLemmas.{airframe_ended, component_ended}
use Rattle.mx_row_rules.proofs.found.programmes.retired_items_are_found.Goals as goal

pub returns : goal.returns
returns c = record {
  airframe = λ book kind tail a life day b h alive. airframe_ended kind book tail a life day b h alive;
  component = λ book kind serial x life day b h alive. component_ended kind book serial x life day b h alive;
  unknown = λ book kind item day none. ap (λ o. option_map_or (is_ended_by book kind item day) o false) none;
}
