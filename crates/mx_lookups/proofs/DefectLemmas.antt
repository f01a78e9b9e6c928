-- The defect that the rows with its number and with that of its aircraft say.
use Rattle.std.proofs.Common.{◌≡◌, ◌∙◌, ℕ, List, filter, Option, Some, None, sym, ap, subst}
use Rattle.std.specs.Prelude.{IsSomeAnd, nat_eq}
use Rattle.mx_book.specs.commands.Act.{Entry}
use Rattle.mx_book.specs.Book.{IsBook}
use Rattle.mx_book.specs.Defect.{defect}
use Rattle.mx_registers.specs.Names.{seq_of_defect}
use Rattle.mx_registers.specs.Registers.{aircraft_rows, deferral_rows}
use Rattle.mx_base.specs.declared.rows.rows.AircraftRow.{AircraftRow}
use Rattle.mx_base.specs.declared.rows.rows.DeferralRow.{DeferralRow}
use Rattle.mx_row_rules.specs.found.Defects.{deferral_aircraft, defect_in}
use Rattle.mx_row_rules.proofs.FoundProofs.DeferralLemmas.{defect_found}

module _ (book : List Entry) (b : IsBook book) (doc : List ℕ) (n : ℕ) (number : seq_of_defect book doc ≡ Some n) (rows : List DeferralRow) (are : rows ≡ filter (λ (row : DeferralRow). nat_eq row.seq n) (deferral_rows book)) where
  abbrev named : ℕ → List AircraftRow
  named m = filter (λ (row : AircraftRow). nat_eq row.seq m) (aircraft_rows book)

  says : (o : Option ℕ) → deferral_aircraft rows ≡ o → IsSomeAnd o (λ m. defect_in doc rows (named m) ≡ defect book doc)
  says o is =
      let found = defect_found book b doc n number in
      let those = subst (λ r. IsSomeAnd (deferral_aircraft r) (λ m. defect_in doc r (named m) ≡ defect book doc)) (sym are) found in
      subst (λ p. IsSomeAnd p (λ m. defect_in doc rows (named m) ≡ defect book doc)) is those

  -- the rows of the deferral and of its aircraft say it
  pub defect_said : (m : ℕ) (aircraft : List AircraftRow) → deferral_aircraft rows ≡ Some m → aircraft ≡ named m → defect_in doc rows aircraft ≡ defect book doc
  defect_said m aircraft is those = ap (defect_in doc rows) those ∙ says (Some m) is

  -- there is a deferral
  pub deferral_there : deferral_aircraft rows ≡ None → ⊥
  deferral_there is = says None is
