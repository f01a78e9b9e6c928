-- Where a component is fitted, by number and by its open span.
use Rattle.std.specs.Prelude.{◌≡◌, ℕ, List, Option, is_some}
use Rattle.std.specs.Option.{option_and_then, option_map}
use Rattle.mx_book.specs.commands.Act.{Entry}
use Rattle.mx_book.specs.Span.{fitted, tail_fitted}
use Rattle.mx_registers.specs.Names.{tail_at}
use Rattle.mx_base.specs.declared.rows.rows.SpanRow.{SpanRow}

-- the number is that of the aircraft that the component with this serial number is fitted to, and there is none where it is fitted nowhere
pub record IsNumberFitted (serial : List ℕ) (book : List Entry) (number : Option ℕ) : Type 0 where
  pub tail : option_and_then (tail_at book) number ≡ tail_fitted book serial
  pub there : is_some number ≡ is_some (tail_fitted book serial)

-- the row has the number of the aircraft that the component with this serial number is fitted to, and the position; there is none where it is fitted nowhere
pub record IsSpanFitted (serial : List ℕ) (book : List Entry) (found : Option SpanRow) : Type 0 where
  pub number : IsNumberFitted serial book (option_map (λ row. row.aircraft) found)
  pub position : option_map (λ row. row.position) found ≡ option_map (λ s. s.position) (fitted book serial)
