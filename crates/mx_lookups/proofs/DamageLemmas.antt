-- What is damaged where a look-up finds nothing by a number that another found.
use Rattle.std.proofs.Common.{◌≡◌, ◌∙◌, inl, ℕ, pos, Bool, true, List, [], ◌∷◌, Option, None, Some, inr, refl, sym, ap, subst, arith}
use Rattle.std.specs.Prelude.{MatchOption, find, nat_eq, slice_get}
use Rattle.std.specs.Option.{option_map}
use Rattle.sqlite_rules.specs.Lists.{Has}
use Rattle.sqlite_rules.proofs.ListLemmas.{has_found}
use Rattle.sqlite.specs.declared.types.Value.TheVariants.{Int}
use Rattle.sqlite.specs.Order.{Row}
use Rattle.sqlite.specs.Tree.{Trees}
use Rattle.mx_base.specs.rows.Rows.{kind_number}
use Rattle.mx_base.specs.declared.rows.rows.AircraftRow.{AircraftRow}
use Rattle.mx_base.specs.declared.rows.rows.DeferralRow.{DeferralRow}
use Rattle.mx_base.specs.declared.rows.rows.EntryKind.{EntryKind}
use Rattle.mx_base.specs.declared.rows.rows.EntryKind.TheVariants as kinds
use Rattle.mx_base.specs.declared.rows.rows.EntryRow.{EntryRow}
use Rattle.mx_base.specs.declared.rows.rows.SpanRow.{SpanRow}
use Rattle.mx_layout.specs.declared.fault.Table.TheVariants as table
use Rattle.mx_layout.specs.kept.Cells.{kept_aircraft, kept_component, kept_defect, kept_entry, kept_span2}
use Rattle.mx_table_rows.specs.chosen.Choices.{has_value, is_open}
use Rattle.mx_row_rules.specs.found.Defects.{deferral_aircraft, defect_in}
use Rattle.mx_row_rules.specs.found.Names.{is_deferral, tail_in}
use Rattle.mx_row_rules.specs.found.Spans.{span_aircraft}
use Rattle.mx_lookups.specs.numbers.AnyRows.{Gives}
use Rattle.mx_lookups.specs.numbers.Damage.{IsDamaged, IsKept}
use Rattle.mx_lookups.specs.numbers.Given.{DefectNumber, DocOfNumber, NumberFitted, SerialOfNumber, TailOfNumber}
use Rattle.mx_lookups.proofs.NumbersProofs.AnyLemmas.{chosen_kept, kept_unmet, unmet}
use Rattle.mx_lookups.proofs.NumbersProofs.LookupLemmas.{number_is}

-- the open span that has the number of an aircraft
span_of : (trees : Trees) (n : ℕ) (number : Option ℕ) → MatchOption number (Some n ≡ None) (λ m. Gives kept_span2 (is_open 1 (Int (pos m))) span_aircraft trees (Some n))
    → (m : ℕ) × Gives kept_span2 (is_open 1 (Int (pos m))) span_aircraft trees (Some n)
span_of trees n None is = absurd cc
span_of trees n (Some m) is = (m, is)

-- the span of a component has the number of an aircraft that is not there
pub fitted_unmet : (trees : Trees) (serial : List ℕ) (n : ℕ) → NumberFitted serial trees (Some n) → TailOfNumber n trees None → IsDamaged table.Span2 trees
unfolding IsDamaged
fitted_unmet trees serial n one none =
    let span = span_of trees n one.found one.then in
    inr (inl (_, (1, omega arith, refl), refl, unmet kept_span2 kept_aircraft 2 (λ row. row.aircraft) (λ row. refl) table.Span2 (λ row. row.tail) span.1 none))

-- the component of a span is not there
pub component_unmet : (trees : Trees) (row : SpanRow) → IsKept kept_span2 trees row → SerialOfNumber row.component trees None → IsDamaged table.Span2 trees
unfolding IsDamaged
component_unmet trees row kept none = inr (inl (_, (0, omega arith, refl), refl, kept_unmet kept_span2 kept_component 1 (λ r. r.component) (λ r. refl) _ table.Span2 (λ r. r.serial) row kept refl refl none))

-- the aircraft of a deferral is not there
pub deferred_unmet : (trees : Trees) (row : DeferralRow) → IsKept kept_defect trees row → TailOfNumber row.aircraft trees None → IsDamaged table.Defect trees
unfolding IsDamaged
deferred_unmet trees row kept none = inr (inl (_, (6, omega arith, refl), refl, kept_unmet kept_defect kept_aircraft 1 (λ r. r.aircraft) (λ r. refl) _ table.Defect (λ r. r.tail) row kept refl refl none))

-- the entry of a deferral is not there
pub entry_unmet : (trees : Trees) (row : DeferralRow) → IsKept kept_defect trees row → DocOfNumber row.seq trees None → IsDamaged table.Defect trees
unfolding IsDamaged
entry_unmet trees row kept none = inr (inl (_, (5, omega arith, refl), refl, kept_unmet kept_defect kept_entry 0 (λ r. r.seq) (λ r. refl) _ table.Defect (λ r. r.doc) row kept refl refl none))

pub defers : (kind : EntryKind) → is_deferral kind ≡ true → kind ≡ kinds.Defer
defers kinds.Defer h = refl
defers kinds.AddAircraft h = absurd cc
defers kinds.AddComponent h = absurd cc
defers kinds.LoadProgramme h = absurd cc
defers kinds.Opening h = absurd cc
defers kinds.Sector h = absurd cc
defers kinds.Fit h = absurd cc
defers kinds.Remove h = absurd cc
defers kinds.Release h = absurd cc
defers kinds.Extend h = absurd cc

-- the entry that defers has its number
pub deferral_says : (rows : List EntryRow) (n : ℕ) (o : Option EntryRow) → o ≡ find (λ (row : EntryRow). is_deferral row.kind) rows → Some n ≡ option_map (λ (row : EntryRow). row.seq) o → (row : EntryRow) × Has rows row × (is_deferral row.kind ≡ true) × (n ≡ row.seq)
deferral_says rows n None is h = absurd cc
deferral_says rows n (Some row) is h = let one = has_found (λ (r : EntryRow). is_deferral r.kind) rows row (sym is) in (row, one.0, one.1, cc)

-- an entry that defers a defect has no deferral
pub deferral_unmet : {W : Type 0} (trees : Trees) (doc : List ℕ) (n : ℕ) (of : DeferralRow → W) → DefectNumber doc trees (Some n) → Gives kept_defect (has_value 0 (Int (pos n))) (λ rows. option_map of (slice_get rows 0)) trees None → IsDamaged table.Defect trees
unfolding IsDamaged
deferral_unmet trees doc n of one none =
    let row = deferral_says one.0 n _ refl one.2 in
    let kind : kind_number row.0.kind ≡ kind_number kinds.Defer = ap kind_number (defers row.0.kind row.2) in
    inr (inl (
      _,
      (4, omega arith, refl),
      refl,
      kept_unmet kept_entry kept_defect 0 (λ r. r.seq) (λ r. refl) _ table.Defect of row.0 (chosen_kept kept_entry row.0 one.0 row.1 one.1)
          (number_is (kind_number row.0.kind) (kind_number kinds.Defer) ∙ ap (λ m. nat_eq m (kind_number kinds.Defer)) kind) row.3 none,
    ))

-- the row of a deferral says a defect where that of its aircraft does
pub no_tail : (doc : List ℕ) (rows : List DeferralRow) (named : List AircraftRow) (m : ℕ) → Some m ≡ deferral_aircraft rows → None ≡ defect_in doc rows named → None ≡ tail_in named
no_tail doc [] named m is none = absurd cc
no_tail doc (row ∷ rows) [] m is none = refl
no_tail doc (row ∷ rows) (one ∷ named) m is none = absurd cc

-- a deferral has no aircraft
pub aircraft_unmet : (trees : Trees) (doc : List ℕ) (m : ℕ) (rows : List DeferralRow) (named : List AircraftRow) {chosen : Row → Bool} → Gives kept_defect chosen deferral_aircraft trees (Some m) → Some m ≡ deferral_aircraft rows → None ≡ defect_in doc rows named
    → Gives kept_aircraft (has_value 0 (Int (pos m))) tail_in trees (tail_in named) → IsDamaged table.Defect trees
unfolding IsDamaged
aircraft_unmet trees doc m rows named one is none gave =
    let missing : TailOfNumber m trees None = subst (TailOfNumber m trees) (sym (no_tail doc rows named m is none)) gave in
    inr (inl (_, (6, omega arith, refl), refl, unmet kept_defect kept_aircraft 1 (λ r. r.aircraft) (λ r. refl) table.Defect (λ r. r.tail) one missing))
