-- Tables that stand for a book answer each question of the judge as the book does.
use Rattle.std.proofs.Common.{◌≡◌, ℕ, pos, Bool, false, List, filter, length, Option, None, Some, refl, sym, ap, ◌∙◌, [], ◌∷◌}
use Rattle.std.specs.Prelude.{MatchOption, IsSome, IsSomeAnd, is_some, nat_eq, nat_lt}
use Rattle.std.specs.List.{range_with_len}
use Rattle.std.specs.Option.{option_and_then, option_map, option_map_or}
use Rattle.std.proofs.lemmas.List.{length-map}
use Rattle.std.proofs.lemmas.List.Sorted.{length_permutation}
use Rattle.sqlite.specs.declared.types.Value.TheVariants.{Int}
use Rattle.sqlite.specs.Tree.{Trees}
use Rattle.mx_base.specs.declared.amounts.Use.{Use}
use Rattle.mx_book.specs.commands.Act.{Entry}
use Rattle.mx_book.specs.declared.commands.item.Item.{Item}
use Rattle.mx_book.specs.declared.commands.item.Item.TheVariants.{Airframe, Component}
use Rattle.mx_book.specs.Book.{IsBook}
use Rattle.mx_book.specs.Defect.{defect, extension, is_rectified}
use Rattle.mx_book.specs.Life.{clock, life_now}
use Rattle.mx_book.specs.Programme.{is_accomplished, is_ended_by, life_ended}
use Rattle.mx_book.specs.Register.{aircraft, component, found_of, has_room_for_aircraft, has_room_for_component, part_at}
use Rattle.mx_book.specs.Span.{is_taken, tail_fitted}
use Rattle.mx_book.specs.declared.defects.Defect.{Defect}
use Rattle.mx_book.specs.declared.limits.TheConstants.{MOST_AIRCRAFT, MOST_COMPONENTS}
use Rattle.mx_book.proofs.BaseLemmas.{accomplished-base}
use Rattle.mx_base.specs.declared.rows.rows.BaseRow.{BaseRow}
use Rattle.mx_base.specs.declared.rows.rows.DeferralRow.{DeferralRow}
use Rattle.mx_base.specs.declared.rows.rows.TaskRow.{TaskRow}
use Rattle.mx_registers.specs.Names.{seq_of_defect, seq_of_item, seq_of_serial, seq_of_tail, tail_at}
use Rattle.mx_registers.specs.Registers.{aircraft_rows, component_rows, deferral_rows, entry_rows, extension_rows, place_rows, programme_rows, release_line_rows, task_rows}
use Rattle.mx_registers.specs.kept.Bases.{base_rows, is_keyed}
use Rattle.mx_registers.specs.kept.Spans.{span_rows}
use Rattle.mx_registers.specs.kept.Totals.{total_rows}
use Rattle.mx_layout.specs.kept.Cells.{kept_aircraft, kept_base2, kept_component, kept_crs_line, kept_defect, kept_entry, kept_extension, kept_place, kept_programme, kept_span2, kept_task, kept_total2}
use Rattle.mx_layout.specs.kept.Kept.{Kept}
use Rattle.mx_table_rows.specs.chosen.Choices.{backward, has_value, is_any, is_open}
use Rattle.mx_table_rows.specs.chosen.Counts.{AreNumbered, last_number as last_chosen}
use Rattle.mx_table_rows.proofs.ChosenProofs.LastLemmas.{last_tells}
use Rattle.mx_book_tables.specs.stands.Stands.{HasRowsAt}
use Rattle.mx_row_rules.specs.found.Defects.{deferral_aircraft, defect_in, extension_in, is_rectified_in, rectifies, is_rectified_at}
use Rattle.mx_row_rules.specs.found.Lives.{base_found, clock_in, life_in}
use Rattle.mx_row_rules.specs.found.Names.{last_number, tail_in}
use Rattle.mx_row_rules.specs.found.Programmes.{programme_number, programmes_of, revision_after, tasks_with}
use Rattle.mx_row_rules.specs.found.Said.{aircraft_in, component_in, part_in}
use Rattle.mx_row_rules.specs.found.Spans.{is_open_at, is_open_of, is_taken_in, span_aircraft}
use Rattle.mx_row_rules.proofs.FoundProofs.DeferralLemmas.{extension_is, no_defect, no_extension, not_rectified, rectified_is}
use Rattle.mx_row_rules.proofs.FoundProofs.FoundLemmas.{aircraft_is, component_is, entries_counted, entries_numbered, tail_numbered}
use Rattle.mx_row_rules.proofs.FoundProofs.LifeLemmas.{base_is, clock_found, life_found, no_base, no_clock, no_life}
use Rattle.mx_row_rules.proofs.FoundProofs.OpenLemmas.{fitted_nowhere, fitted_tail, fitted_there, taken_by_none, taken_is}
use Rattle.mx_row_rules.proofs.FoundProofs.PlaceLemmas.{part_found, part_missed, room_for_aircraft, room_for_components}
use Rattle.mx_row_rules.proofs.FoundProofs.ProgrammeLemmas.{revision_is}
use Rattle.mx_row_rules.proofs.FoundProofs.ThereLemmas.{serial_there, tail_there}
use Rattle.mx_row_judge.specs.Answering.{AnswerAs, Only}
use Rattle.mx_lookups.specs.numbers.AnyRows.{Gives, GivesFirst}
use Rattle.mx_lookups.specs.Fitted.{IsNumberFitted}
use Rattle.mx_lookups.specs.numbers.Given.{BornOf, ClockOf, DefectOf, ExtensionOf, HasRoom, IsAccomplished, IsRectified, IsRetired, IsTaken, LifeOf, NumberFitted, PartAt, RowsInForce, TailFitted, TailOfNumber, is_of, IsRectifiedAt}
use Rattle.mx_lookups.specs.numbers.InForce.{born_as, rows_in_force}
use Rattle.mx_lookups.specs.numbers.Reads.{rows_point}
use Rattle.mx_lookups.proofs.LivesProofs.BaseLookups.{keyed_is}
use Rattle.mx_lookups.proofs.DefectLemmas.{defect_said}
use Rattle.mx_lookups.proofs.LivesProofs.InForceLemmas.{retired_is, task_found}
use Rattle.mx_lookups.proofs.NumbersProofs.LookupLemmas.{is_open_at-cells, is_open_of-cells}
use Rattle.mx_lookups.proofs.NumbersProofs.TableLemmas.{IsTable, aircraft as aircraft_table, components, deferrals, entries, extensions, places, programmes, release_lines, spans, tasks, totals}
use Rattle.mx_row_judge.proofs.GivenLemmas.{by_number, by_text, defect_number, given, item_number, looked, serial_number, some_number, tail_number}
use Rattle.mx_row_judge.proofs.KnownStanding.{known_as}
use Rattle.mx_book.specs.declared.found.Found.TheVariants as founds
use Rattle.mx_base.specs.declared.rows.rows.EntryRow.{EntryRow}

-- the last number is the same by either definition
last_is : (found : List EntryRow) → last_number found ≡ last_chosen found
last_is [] = refl
last_is (row ∷ rows) = refl

-- without a name no item has a life
no_aircraft : (book : List Entry) (tail : List ℕ) (o : Option ℕ) → seq_of_tail book tail ≡ o → aircraft book tail ≡ None → seq_of_tail book tail ≡ None
no_aircraft book tail None is none = is
no_aircraft book tail (Some n) is none = (let e = sym (tail_there book tail n is) ∙ ap is_some none in absurd cc)

no_component : (book : List Entry) (serial : List ℕ) (o : Option ℕ) → seq_of_serial book serial ≡ o → component book serial ≡ None → seq_of_serial book serial ≡ None
no_component book serial None is none = is
no_component book serial (Some n) is none = (let e = sym (serial_there book serial n is) ∙ ap is_some none in absurd cc)

none_of : {X Y : Type 0} (f : X → Y) (o : Option X) → option_map f o ≡ None → o ≡ None
none_of f None h = refl
none_of f (Some x) h = absurd cc

unborn : (book : List Entry) (item : Item) → born_as (found_of book item) ≡ None → life_now book item ≡ None
unborn book (Airframe tail) none = no_life book (Airframe tail) (no_aircraft book tail (seq_of_tail book tail) refl (none_of _ (aircraft book tail) none))
unborn book (Component serial) none = no_life book (Component serial) (no_component book serial (seq_of_serial book serial) refl (none_of _ (component book serial) none))

module _ (trees : Trees) (book : List Entry) (has : HasRowsAt rows_point trees book) where
  b : IsBook book
  b = has.is_book

  -- ── what is looked up by them ──

  counted : Only (GivesFirst kept_entry (Some 1) (backward kept_entry.order) is_any last_number) trees (length book)
  counted v gave =
      let numbered : AreNumbered (entry_rows book) = entries_numbered book ∙ ap (range_with_len 1) (sym (entries_counted book)) in
      gave.2 ∙ last_is gave.0 ∙ last_tells trees (entry_rows book) gave.0 numbered (entries.keeps trees book has).given gave.1.are ∙ entries_counted book

  roomy : {X : Type 0} (k : Kept X) (rows : List Entry → List X) (it : IsTable k rows) (most : ℕ) (room : Bool) → nat_lt (length (rows book)) most ≡ room → Only (HasRoom k.name most) trees room
  roomy k rows it most room is v gave = gave ∙ ap (λ n. nat_lt n most) (length_permutation _ _ (it.keeps trees book has).given ∙ length-map (rows book) k.as_cells) ∙ is

  part : (tail position : List ℕ) → Only (PartAt tail position) trees (part_at book tail position)
  part tail position =
      looked (λ v. v ≡ part_at book tail position) (seq_of_tail book tail) (tail_number trees book has tail) (λ none. sym (part_missed tail book position none))
      (λ n is v gave. by_number trees book has kept_place place_rows places 0 (λ row. row.seq) (λ row. refl) n (λ rows. part_in rows position) v gave ∙ part_found tail book position n b is)

  taken : (tail position : List ℕ) → Only (IsTaken tail position) trees (is_taken book tail position)
  taken tail position =
      looked (λ v. v ≡ is_taken book tail position) (seq_of_tail book tail) (tail_number trees book has tail) (λ none. sym (taken_by_none book tail position b none))
      (λ n is v gave. given trees book has kept_span2 span_rows spans (is_open 2 (Int (pos n))) (is_open_at n) (is_open_at-cells n) (is_taken_in position) v gave ∙ taken_is tail position n book b is)

  number_fitted : (serial : List ℕ) (o : Option ℕ) → NumberFitted serial trees o → IsNumberFitted serial book o
  number_fitted serial =
      looked (IsNumberFitted serial book) (seq_of_serial book serial) (serial_number trees book has serial)
      (λ none. let nowhere = fitted_nowhere book b serial none in record { tail = sym nowhere; there = ap is_some (sym nowhere) })
      (λ n is v gave.
      let e = given trees book has kept_span2 span_rows spans (is_open 1 (Int (pos n))) (is_open_of n) (is_open_of-cells n) span_aircraft v gave in
      record { tail = ap (option_and_then (tail_at book)) e ∙ fitted_tail book b serial n is; there = ap is_some e ∙ fitted_there book b serial n is })

  aircraft_of : (serial : List ℕ) → Only (TailFitted serial) trees (tail_fitted book serial)
  aircraft_of serial v gave = at gave.found (number_fitted serial gave.found gave.first) gave.then
    where
      at : (o : Option ℕ) → IsNumberFitted serial book o → MatchOption o (v ≡ None) (λ n. IsSome v × TailOfNumber n trees v) → v ≡ tail_fitted book serial
      at None fitted none = none ∙ fitted.tail
      at (Some n) fitted gives = by_number trees book has kept_aircraft aircraft_rows aircraft_table 0 (λ row. row.seq) (λ row. refl) n tail_in v gives.1 ∙ tail_numbered book n ∙ fitted.tail

  some_is : {X : Type 0} (x y : X) → Some x ≡ Some y → x ≡ y
  some_is x y h = cc

  clocked : (item : Item) → Only (ClockOf item) trees (clock book item)
  clocked item =
      looked (λ v. v ≡ clock book item) (seq_of_item book item) (item_number trees book has item) (λ none. sym (no_clock book item b none))
      (λ n is v gave. some_is v (clock book item) (by_number trees book has kept_total2 total_rows totals 0 (λ row. row.item) (λ row. refl) n clock_in (Some v) gave ∙ clock_found book item n b is))

  pub lived : (item : Item) (o : Option Use) → LifeOf item trees o → o ≡ life_now book item
  lived item =
      looked (λ v. v ≡ life_now book item) (seq_of_item book item) (item_number trees book has item) (λ none. sym (no_life book item none))
      (λ n is v gave. by_number trees book has kept_total2 total_rows totals 0 (λ row. row.item) (λ row. refl) n life_in v gave.1 ∙ life_found book item n b is)

  pub based : (id : List ℕ) {V : Type 0} (of : List BaseRow → V) (n : ℕ) (v : V) → Gives kept_base2 (is_of n id) of trees v → v ≡ of (filter (is_keyed n id) (base_rows book))
  based id of n v gave = gave.2 ∙ ap of (keyed_is n id trees book has gave.0 gave.1.are gave.1.fit)

  accomplished : (item : Item) (id : List ℕ) → Only (IsAccomplished item id) trees (is_accomplished book item id)
  accomplished item id =
      looked (λ v. v ≡ is_accomplished book item id) (seq_of_item book item) (item_number trees book has item) (λ none. sym (ap is_some (no_base book item id b none)) ∙ accomplished-base book item id)
      (λ n is v gave. based id (λ rows. is_some (base_found rows)) n v gave ∙ ap is_some (base_is book item id n b is) ∙ accomplished-base book item id)

  -- ── programmes ──

  pub in_force : (kind : List ℕ) (o : Option (List TaskRow)) → RowsInForce kind trees o → o ≡ rows_in_force kind book
  in_force kind =
      looked (λ v. v ≡ rows_in_force kind book) (programme_number (programmes_of kind book)) (λ o gave. by_text trees book has kept_programme programme_rows programmes 1 (λ row. row.kind) (λ row. refl) kind programme_number o gave)
      (λ none. sym (ap (option_map (λ n. tasks_with n book)) none))
      (λ n is v gave. by_number trees book has kept_task task_rows tasks 0 (λ row. row.seq) (λ row. refl) n Some v gave ∙ sym (ap (option_map (λ n. tasks_with n book)) is))

  born : (item : Item) (o : Option (Option (List ℕ) × ℕ)) → BornOf item trees o → o ≡ born_as (found_of book item)
  born (Airframe tail) o gave = by_text trees book has kept_aircraft aircraft_rows aircraft_table 1 (λ row. row.tail) (λ row. refl) tail (λ rows. born_as (founds.Airframe (aircraft_in rows))) o gave ∙ ap (λ found. born_as (founds.Airframe found)) (aircraft_is book tail)
  born (Component serial) o gave = by_text trees book has kept_component component_rows components 1 (λ row. row.serial) (λ row. refl) serial (λ rows. born_as (founds.Component (component_in rows))) o gave ∙ ap (λ found. born_as (founds.Component found)) (component_is book serial)

  retired : (kind : List ℕ) (item : Item) (day : ℕ) → Only (IsRetired kind item day) trees (life_ended book kind item day)
  retired kind item day =
      looked (λ v. v ≡ life_ended book kind item day) (born_as (found_of book item)) (born item) (λ none. lifeless (unborn book item none))
      (λ built is.
      looked (λ v. v ≡ life_ended book kind item day) (life_now book item) (lived item) lifeless
      (λ life lives.
      looked (λ v. v ≡ life_ended book kind item day) (rows_in_force kind book) (in_force kind) (λ none. retired_is book b kind day life item built.0 built.1 None is lives (sym none))
      (λ rows force v gave. gave ∙ retired_is book b kind day life item built.0 built.1 (Some rows) is lives (sym force))))
    where
      lifeless : life_now book item ≡ None → false ≡ life_ended book kind item day
      lifeless none = sym (ap (λ o. option_map_or (is_ended_by book kind item day) o false) none)

  -- ── defects ──

  deferred : (doc : List ℕ) → Only (DefectOf doc) trees (defect book doc)
  deferred doc =
      looked (λ v. v ≡ defect book doc) (seq_of_defect book doc) (defect_number trees book has doc) (λ none. sym (no_defect book doc none))
      (λ n is v gave.
      let rows : gave.0 ≡ filter (λ (row : DeferralRow). nat_eq row.seq n) (deferral_rows book) = by_number trees book has kept_defect deferral_rows deferrals 0 (λ row. row.seq) (λ row. refl) n (λ rows. rows) gave.0 (gave.0, gave.1, refl) in
      at n is v gave.0 rows (deferral_aircraft gave.0) refl gave.2)
    where
      at : (n : ℕ) → seq_of_defect book doc ≡ Some n → (v : Option Defect) (rows : List DeferralRow) → rows ≡ filter (λ (row : DeferralRow). nat_eq row.seq n) (deferral_rows book) → (o : Option ℕ) → deferral_aircraft rows ≡ o
          → IsSomeAnd o (λ m. Gives kept_aircraft (has_value 0 (Int (pos m))) (defect_in doc rows) trees v) → v ≡ defect book doc
      at n is v rows are None none gave = absurd gave
      at n is v rows are (Some m) some gave =
          by_number trees book has kept_aircraft aircraft_rows aircraft_table 0 (λ row. row.seq) (λ row. refl) m (defect_in doc rows) v gave ∙ defect_said book b doc n is rows are m _ some refl

  pub rectified_there : (n : ℕ) (v : Bool) → IsRectifiedAt n trees v → v ≡ is_rectified_at book n
  rectified_there n v had = given trees book has kept_crs_line release_line_rows release_lines (has_value 4 (Int (pos n))) (rectifies n) (λ row. some_number row.defect n) is_rectified_in v had

  rectified : (doc : List ℕ) → Only (IsRectified doc) trees (is_rectified book doc)
  rectified doc =
      looked (λ v. v ≡ is_rectified book doc) (seq_of_defect book doc) (defect_number trees book has doc) (λ none. sym (not_rectified book b doc none))
      (λ n is v gave. rectified_there n v gave ∙ rectified_is book b doc n is)

  extended : (doc : List ℕ) → Only (ExtensionOf doc) trees (extension book doc)
  extended doc =
      looked (λ v. v ≡ extension book doc) (seq_of_defect book doc) (defect_number trees book has doc) (λ none. sym (no_extension book b doc none))
      (λ n is v gave. by_number trees book has kept_extension extension_rows extensions 1 (λ row. row.defect) (λ row. refl) n (extension_in doc) v gave ∙ extension_is book b doc n is)

  -- they answer as the book
  pub answer_as : AnswerAs trees book
  answer_as = record {
    entry_count = counted;
    room_for_aircraft = roomy kept_aircraft aircraft_rows aircraft_table MOST_AIRCRAFT (has_room_for_aircraft book) (room_for_aircraft book);
    room_for_component = roomy kept_component component_rows components MOST_COMPONENTS (has_room_for_component book) (room_for_components book);
    known = known_as trees book has;
    aircraft = λ tail v gave. by_text trees book has kept_aircraft aircraft_rows aircraft_table 1 (λ row. row.tail) (λ row. refl) tail aircraft_in v gave ∙ aircraft_is book tail;
    component = λ serial v gave. by_text trees book has kept_component component_rows components 1 (λ row. row.serial) (λ row. refl) serial component_in v gave ∙ component_is book serial;
    part_at = part;
    is_taken = taken;
    tail_fitted = aircraft_of;
    is_retired = retired;
    clock = clocked;
    next_revision = λ kind v gave. by_text trees book has kept_programme programme_rows programmes 1 (λ row. row.kind) (λ row. refl) kind revision_after v gave ∙ revision_is kind book;
    task = λ kind id v gave. gave.2 ∙ task_found book kind id gave.0 b (in_force kind gave.0 gave.1);
    is_accomplished = accomplished;
    defect = deferred;
    is_rectified = rectified;
    extension = extended;
  }
