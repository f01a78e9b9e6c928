-- The row of a forecast: by the least number of days that reaches its due.
use Rattle.std.proofs.Common.{◌≡◌, ℕ, ◌≤◌, ◌<◌, ap, sym, subst, Option, Some, None}
use Rattle.std.specs.Option.{option_map}
use Rattle.mx_book.specs.due.Reach.{IsLeast, IsLeastIfAny}
use Rattle.mx_book.proofs.DueProofs.ReachLemmas.{up_to_some, up_to_none, up_to_less}
use Rattle.mx_lists.specs.declared.due_row.DueRow.{DueRow}
use Rattle.mx_lists.specs.Forecast.{is_reached_after, row_after, forecast_row}

module _ (day days minutes cycles : ℕ) (row : DueRow) where
  pub row_none : (o : Option ℕ) → IsLeastIfAny (is_reached_after minutes cycles row) o → o ≡ None → None ≡ forecast_row day days minutes cycles row
  row_none None h e = ap (option_map (row_after day row)) (sym (up_to_none (is_reached_after minutes cycles row) days h))
  row_none (Some n) h e = (cc)

  pub row_reached : (o : Option ℕ) (n : ℕ) → IsLeastIfAny (is_reached_after minutes cycles row) o → o ≡ Some n → n ≤ days → Some (row_after day row n) ≡ forecast_row day days minutes cycles row
  row_reached None n h e low = (cc)
  row_reached (Some m) n h e low =
      let same : m ≡ n = cc in
      ap (option_map (row_after day row)) (sym (up_to_some (is_reached_after minutes cycles row) days n (subst (IsLeast (is_reached_after minutes cycles row)) same h) low))

  pub row_past : (o : Option ℕ) (n : ℕ) → IsLeastIfAny (is_reached_after minutes cycles row) o → o ≡ Some n → days < n → None ≡ forecast_row day days minutes cycles row
  row_past None n h e low = (cc)
  row_past (Some m) n h e low =
      let same : m ≡ n = cc in
      ap (option_map (row_after day row)) (sym (up_to_less (is_reached_after minutes cycles row) days n (subst (IsLeast (is_reached_after minutes cycles row)) same h) low))
