-- Tables that stand for a book answer each question of lists as the book does.
use Rattle.std.proofs.Common.{◌≡◌, ℕ, pos, false, List, filter, Option, None, Some, refl, sym, ap, ◌∙◌, cond, true, [], ◌∷◌, map, ap₂}
use Rattle.std.specs.Prelude.{is_some, MatchOption, nat_eq, slice_get}
use Rattle.std.specs.List.{cons_option, filter_map}
use Rattle.std.specs.Option.{option_and_then, option_map}
use Rattle.sqlite.specs.declared.types.Value.TheVariants.{Int}
use Rattle.sqlite.specs.Tree.{Trees}
use Rattle.mx_book.specs.commands.Act.{Entry}
use Rattle.mx_book.specs.declared.commands.item.Item.{Item}
use Rattle.mx_book.specs.Book.{IsBook}
use Rattle.mx_book.specs.Defect.{open_defects}
use Rattle.mx_book.specs.Programme.{tasks_or_none}
use Rattle.mx_book.specs.Span.{fitted}
use Rattle.mx_book.specs.declared.defects.Defect.{Defect}
use Rattle.mx_base.specs.declared.rows.rows.AircraftRow.{AircraftRow}
use Rattle.mx_base.specs.declared.rows.rows.ComponentRow.{ComponentRow}
use Rattle.mx_base.specs.declared.rows.rows.DeferralRow.{DeferralRow}
use Rattle.mx_registers.specs.Names.{seq_of_item, seq_of_serial, seq_of_tail, tail_at}
use Rattle.mx_registers.specs.Registers.{aircraft_rows, component_rows, deferral_rows, entry_rows}
use Rattle.mx_registers.specs.kept.Spans.{span_rows}
use Rattle.mx_layout.specs.kept.Cells.{kept_aircraft, kept_component, kept_defect, kept_entry, kept_span2}
use Rattle.mx_table_rows.specs.chosen.Choices.{is_any, is_open}
use Rattle.mx_book_tables.specs.stands.Stands.{HasRowsAt}
use Rattle.mx_row_rules.specs.found.Defects.{defect_said as deferral_said, deferred_said, left_said, open_said}
use Rattle.mx_row_rules.specs.found.Lives.{base_found}
use Rattle.mx_row_rules.specs.found.Names.{serial_in, tail_in, doc_in, doc_at}
use Rattle.mx_row_rules.specs.found.Spans.{is_open_at, is_open_of, place_said}
use Rattle.mx_row_rules.proofs.FoundProofs.FoundLemmas.{serial_numbered, tail_numbered}
use Rattle.mx_row_rules.proofs.FoundProofs.LifeLemmas.{base_is, no_base}
use Rattle.mx_row_judge.specs.Answering.{Only, AnswerListsAs}
use Rattle.mx_row_rules.proofs.FoundProofs.OpenLemmas.{fitted_nowhere, fitted_position, fitted_tail, fitted_there}
use Rattle.mx_row_rules.proofs.FoundProofs.PlaceLemmas.{all_serials, all_tails}
use Rattle.mx_lookups.specs.Fitted.{IsSpanFitted}
use Rattle.mx_lookups.specs.numbers.AnyRows.{AreSaid}
use Rattle.mx_lookups.specs.numbers.Given.{AllOpenDefects, BaseOf, DocIfOpen, DocOfNumber, FittedTo, LeftSaid, OpenDefects, OpenSaid, PlaceFitted, PlaceSaid, Serials, SpanFitted, TailOfNumber, Tails, TasksInForce}
use Rattle.mx_lookups.specs.numbers.Reads.{rows_point}
use Rattle.mx_lookups.proofs.LivesProofs.InForceLemmas.{tasks_found}
use Rattle.mx_lookups.proofs.NumbersProofs.LookupLemmas.{each_passes, is_open_at-cells, is_open_of-cells}
use Rattle.mx_lookups.proofs.NumbersProofs.TableLemmas.{aircraft as aircraft_table, components, deferrals, entries, spans}
use Rattle.mx_row_judge.proofs.GivenLemmas.{by_number, given, item_number, looked, serial_number, tail_number}
use Rattle.mx_row_judge.proofs.StandingLemmas.{answer_as, based, in_force, lived, rectified_there}
use Rattle.mx_book.specs.Base.{base}
use Rattle.mx_lists.specs.Fitted.{fitted_on}
use Rattle.mx_lists.specs.Fleet.{all_open, tails}
use Rattle.mx_lists.specs.Inventory.{place_fitted, serials}
use Rattle.mx_lookups.proofs.FittedLemmas.{no_place, nowhere, one_place}
use Rattle.mx_row_rules.proofs.FoundProofs.FittedLemmas.{none_fitted, place_of, places_found}
use Rattle.mx_row_rules.proofs.FoundProofs.OpenDefectLemmas.{all_open_found, doc_found, none_open, open_found}
use Rattle.mx_base.specs.declared.rows.rows.SpanRow.{SpanRow}

-- what rows said, where each says what it says of the book
said_is : {X V : Type 0} (Says : X → Option V → Type 0) (says : X → Option V) → ((x : X) (o : Option V) → Says x o → o ≡ says x) → (rows : List X) (answer : List V) → AreSaid Says rows answer → answer ≡ filter_map says rows
said_is Says says so [] answer none = none
said_is Says says so (row ∷ rows) answer gave = gave.4 ∙ ap₂ cons_option (so row gave.0 gave.2) (said_is Says says so rows gave.1 gave.3)

module _ (trees : Trees) (book : List Entry) (has : HasRowsAt rows_point trees book) where
  b : IsBook book
  b = has.is_book

  last_base : (item : Item) (id : List ℕ) → Only (BaseOf item id) trees (base book item id)
  last_base item id =
      looked (λ v. v ≡ base book item id) (seq_of_item book item) (item_number trees book has item) (λ none. sym (no_base book item id b none)) (λ n is v gave. based trees book has id base_found n v gave ∙ base_is book item id n b is)

  tasks_there : (kind : List ℕ) → Only (TasksInForce kind) trees (tasks_or_none book kind)
  tasks_there kind v gave = gave.2 ∙ tasks_found book kind gave.0 b (in_force trees book has kind gave.0 gave.1)

  placed : (row : SpanRow) (o : Option (List ℕ × List ℕ)) → PlaceSaid trees row o → o ≡ place_said book row
  placed row o gave =
      let serial = by_number trees book has kept_component component_rows components 0 (λ c. c.seq) (λ c. refl) row.component serial_in (Some gave.0) gave.1 ∙ serial_numbered book row.component in
      gave.2 ∙ ap (option_map {U = List ℕ × List ℕ} (λ name. (row.position, name))) serial

  all_placed : (tail : List ℕ) → Only (FittedTo tail) trees (fitted_on tail book)
  all_placed tail =
      looked (λ v. v ≡ fitted_on tail book) (seq_of_tail book tail) (tail_number trees book has tail) (λ none. sym (ap (map place_of) (none_fitted book tail b none)))
      (λ n is v gave.
      let rows : gave.0 ≡ filter (is_open_at n) (span_rows book) = given trees book has kept_span2 span_rows spans (is_open 2 (Int (pos n))) (is_open_at n) (is_open_at-cells n) (λ rows. rows) gave.0 (gave.0, gave.1, refl) in
      said_is (PlaceSaid trees) (place_said book) placed gave.0 v gave.2 ∙ ap (filter_map (place_said book)) rows ∙ places_found book tail n b is)

  doc_there : (n : ℕ) (o : Option (List ℕ)) → DocOfNumber n trees o → o ≡ doc_at book n
  doc_there n o had = by_number trees book has kept_entry entry_rows entries 0 (λ row. row.seq) (λ row. refl) n doc_in o had ∙ doc_found book n

  left_open : (tail : List ℕ) (row : DeferralRow) (doc : Option (List ℕ)) → DocIfOpen row.seq trees (option_map Some doc) → option_map (λ d. deferral_said d tail row) doc ≡ open_said book tail row
  left_open tail row None had = ap (λ r. cond r None (option_map (λ d. deferral_said d tail row) (doc_at book row.seq))) (rectified_there trees book has row.seq true had)
  left_open tail row (Some doc) had =
      ap (option_map (λ d. deferral_said d tail row)) (doc_there row.seq (Some doc) had.1) ∙ ap (λ r. cond r None (option_map (λ d. deferral_said d tail row) (doc_at book row.seq))) (rectified_there trees book has row.seq false had.0)

  all_open_of : (tail : List ℕ) → Only (OpenDefects tail) trees (open_defects book tail)
  all_open_of tail =
      looked (λ v. v ≡ open_defects book tail) (seq_of_tail book tail) (tail_number trees book has tail) (λ none. sym (none_open book tail b none))
      (λ n is v gave.
      let rows : gave.0 ≡ filter (λ (row : DeferralRow). nat_eq row.aircraft n) (deferral_rows book) = by_number trees book has kept_defect deferral_rows deferrals 1 (λ row. row.aircraft) (λ row. refl) n (λ rows. rows) gave.0 (gave.0, gave.1, refl) in
      said_is (OpenSaid tail trees) (open_said book tail) (λ row o said. said.2 ∙ left_open tail row said.0 said.1) gave.0 v gave.2 ∙ ap (filter_map (open_said book tail)) rows ∙ open_found book tail n b is)

  -- ── all of them ──

  tails_there : Only Tails trees (tails book)
  tails_there v gave =
      given trees book has kept_aircraft aircraft_rows aircraft_table is_any (λ _. true) (λ x. refl) (map (λ (row : AircraftRow). row.tail)) v gave
      ∙ ap (map (λ (row : AircraftRow). row.tail)) (each_passes (aircraft_rows book)) ∙ all_tails book

  serials_there : Only Serials trees (serials book)
  serials_there v gave =
      given trees book has kept_component component_rows components is_any (λ _. true) (λ x. refl) (map (λ (row : ComponentRow). row.serial)) v gave
      ∙ ap (map (λ (row : ComponentRow). row.serial)) (each_passes (component_rows book)) ∙ all_serials book

  span_there : (serial : List ℕ) (o : Option SpanRow) → SpanFitted serial trees o → IsSpanFitted serial book o
  span_there serial =
      looked (IsSpanFitted serial book) (seq_of_serial book serial) (serial_number trees book has serial)
      (λ none.
      let nothing = fitted_nowhere book b serial none in
      record { number = record { tail = sym nothing; there = ap is_some (sym nothing) }; position = nowhere (fitted book serial) nothing })
      (λ n is v gave.
      let e = given trees book has kept_span2 span_rows spans (is_open 1 (Int (pos n))) (is_open_of n) (is_open_of-cells n) (λ rows. slice_get rows 0) v gave in
      let at = ap (option_map (λ (row : SpanRow). row.aircraft)) e in
      record {
        number = record { tail = ap (option_and_then (tail_at book)) at ∙ fitted_tail book b serial n is; there = ap is_some at ∙ fitted_there book b serial n is };
        position = ap (option_map (λ (row : SpanRow). row.position)) e ∙ fitted_position book b serial n is;
      })

  tail_there : (n : ℕ) (o : Option (List ℕ)) → TailOfNumber n trees o → o ≡ tail_at book n
  tail_there n o gave = by_number trees book has kept_aircraft aircraft_rows aircraft_table 0 (λ row. row.seq) (λ row. refl) n tail_in o gave ∙ tail_numbered book n

  place_there : (serial : List ℕ) → Only (PlaceFitted serial) trees (place_fitted book serial)
  place_there serial v gave = at gave.found (span_there serial gave.found gave.first) gave.then
    where
      at : (o : Option SpanRow) → IsSpanFitted serial book o → MatchOption o (v ≡ None) (λ row. (tail : List ℕ) × TailOfNumber row.aircraft trees (Some tail) × (v ≡ Some (tail, row.position))) → v ≡ place_fitted book serial
      at None span none = none ∙ no_place (fitted book serial) span.number.tail
      at (Some row) span said = said.2 ∙ one_place (fitted book serial) said.0 row.position (tail_there row.aircraft (Some said.0) said.1 ∙ span.number.tail) span.position

  all_left : (row : DeferralRow) (o : Option Defect) → LeftSaid trees row o → o ≡ left_said book row
  all_left row None had = ap (λ r. cond r None (deferred_said book row)) (rectified_there trees book has row.seq true had)
  all_left row (Some d) had =
      ap (λ d. Some d) had.4
      ∙ ap₂ (λ (o t : Option (List ℕ)). option_and_then (λ doc. option_map (λ tail. deferral_said doc tail row) t) o) (doc_there row.seq (Some had.0) had.2.1) (tail_there row.aircraft (Some had.1) had.3)
      ∙ ap (λ r. cond r None (deferred_said book row)) (rectified_there trees book has row.seq false had.2.0)

  all_open_there : Only AllOpenDefects trees (all_open book)
  all_open_there v gave =
      let rows : gave.0 ≡ deferral_rows book = given trees book has kept_defect deferral_rows deferrals is_any (λ _. true) (λ x. refl) (λ rows. rows) gave.0 (gave.0, gave.1, refl) ∙ each_passes (deferral_rows book) in
      said_is (LeftSaid trees) (left_said book) all_left gave.0 v gave.2 ∙ ap (filter_map (left_said book)) rows ∙ all_open_found book b

  -- they answer as the book
  pub answer_lists_as : AnswerListsAs trees book
  answer_lists_as = record { judge = answer_as trees book has; life = lived trees book has; base = last_base; tasks = tasks_there; fitted = all_placed; open_defects = all_open_of; tails = tails_there; serials = serials_there; place = place_there; all_open_defects = all_open_there }
