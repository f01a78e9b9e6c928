-- What chosen rows are of the book that the tables stand for, whatever the table and the column are.
use Rattle.std.proofs.Common.{◌≡◌, ◌⊎◌, inl, inr, ◌∙◌, ℕ, zero, suc, pos, List, [], ◌∷◌, take, Bool, ◌&&◌, map, filter, length, None, Some, Ok, Err, Result, true, refl, sym, ap, ap₂, subst}
use Rattle.std.specs.Prelude.{All, IfOk, IfErr, Option, is_none, nat_eq}
use Rattle.std.specs.List.{range_with_len}
use Rattle.std.proofs.lemmas.Map.Text.{is_eq-slice_cmp}
use Rattle.sqlite.specs.Order.{Row}
use Rattle.sqlite.specs.State.{State, IsUnchanged}
use Rattle.sqlite.specs.Tree.{Trees}
use Rattle.sqlite.specs.declared.types.Value.TheVariants.{Int, Text}
use Rattle.sqlite.specs.Collation.TheVariants.{Binary}
use Rattle.sqlite_rules.specs.Lists.{Has}
use Rattle.sqlite_rules.proofs.ListLemmas.{has_contained, contains_had}
use Rattle.sqlite_schema.specs.Rules.{equal}
use Rattle.mx_base.specs.declared.point.Point.{Point}
use Rattle.mx_book.specs.commands.Act.{Entry}
use Rattle.mx_book.specs.commands.Same.{same_text}
use Rattle.mx_base.specs.declared.rows.rows.EntryRow.{EntryRow}
use Rattle.mx_base.specs.declared.rows.rows.SpanRow.{SpanRow}
use Rattle.mx_registers.specs.Registers.{entry_rows}
use Rattle.mx_layout.specs.TableName.{TableName}
use Rattle.mx_layout.specs.declared.fault.TableFault.{TableFault}
use Rattle.mx_layout.specs.declared.fault.TableFault.TheVariants.{Memory, Store, Damaged}
use Rattle.mx_layout.specs.Contents.{rows_in}
use Rattle.mx_layout.specs.Names.{table_named}
use Rattle.mx_layout.specs.Reading.{HasOther}
use Rattle.mx_layout.specs.kept.Cells.{kept_entry, kept_span2}
use Rattle.mx_layout.specs.kept.Kept.{Kept}
use Rattle.mx_layout.specs.kept.Family.{IsReadable, IsReadableAs}
use Rattle.mx_layout.specs.kept.Meanings.{IsLawful}
use Rattle.mx_table_rows.specs.chosen.Choices.{AreFirst, backward, is_any, is_missing, is_open}
use Rattle.mx_table_rows.specs.chosen.Calls.{ReadsFirst}
use Rattle.mx_table_rows.specs.chosen.Counts.{AreNumbered, last_number as counted}
use Rattle.mx_table_rows.proofs.ChosenProofs.LastLemmas.{last_tells}
use Rattle.mx_table_rows.proofs.ChosenProofs.EqualLemmas.{equal_numbers, equal_texts}
use Rattle.mx_book_tables.specs.stands.Stands.{HasRowsAt}
use Rattle.mx_row_rules.specs.found.Names.{last_number}
use Rattle.mx_row_rules.specs.found.Spans.{is_open_at, is_open_of}
use Rattle.mx_row_rules.proofs.FoundProofs.FoundLemmas.{entries_counted, entries_numbered}
use Rattle.mx_lookups.specs.numbers.Damage.{IsDamaged}
use Rattle.mx_lookups.specs.numbers.Reads.{HasTablesOfRowsAt, IsStop, Reads, ReadsAt}
use Rattle.mx_lookups.proofs.NumbersProofs.ChosenLemmas.{chosen_is, none_other, other_chosen}
use Rattle.mx_lookups.proofs.NumbersProofs.ReadLemmas.{follows, map_ok, map_read}
use Rattle.mx_lookups.proofs.NumbersProofs.TableLemmas.{IsInEachAt, IsTableAt, entries}

-- ── what the tests of WHERE say of typed rows ──

pub text_is : (a b : List ℕ) → equal Binary (Text a) (Text b) ≡ same_text a b
text_is a b = equal_texts a b ∙ is_eq-slice_cmp a b

pub number_is : (a b : ℕ) → equal Binary (Int (pos a)) (Int (pos b)) ≡ nat_eq a b
number_is a b = equal_numbers a b

open_is : (row : SpanRow) (there : Option ℕ) → row.remove_seq ≡ there → is_missing 5 (kept_span2.as_cells row) ≡ is_none row.remove_seq
open_is row None is = rw is
open_is row (Some n) is = rw is

pub is_open_of-cells : (n : ℕ) (row : SpanRow) → is_open 1 (Int (pos n)) (kept_span2.as_cells row) ≡ is_open_of n row
is_open_of-cells n row = ap₂ ◌&&◌ (number_is row.component n) (open_is row row.remove_seq refl)

pub is_open_at-cells : (n : ℕ) (row : SpanRow) → is_open 2 (Int (pos n)) (kept_span2.as_cells row) ≡ is_open_at n row
is_open_at-cells n row = ap₂ ◌&&◌ (number_is row.aircraft n) (open_is row row.remove_seq refl)

-- ── chosen rows ──

both_ok : {V : Type 0} (P Q R : V → Type 0) (r : Result V TableFault) → ((v : V) → P v → Q v → R v) → IfOk r P → IfOk r Q → IfOk r R
both_ok P Q R (Ok v) f p q = f v p q
both_ok P Q R (Err e) f p q = tt

pub stop_of : {V : Type 0} (name : TableName) (r : Result V TableFault) → IfErr r (λ e. (e ≡ Memory) ⊎ ((e ≡ Store) ⊎ (e ≡ Damaged name))) → IfErr r IsStop
stop_of name (Ok v) h = tt
stop_of name (Err e) (inl memory) = inl memory
stop_of name (Err e) (inr (inl store)) = inr (inl store)
stop_of name (Err e) (inr (inr damaged)) = inr (inr (name, damaged))

-- damage is that of this table
pub damage_of : {V : Type 0} (name other : TableName) (r : Result V TableFault) → IfErr r (λ e. (e ≡ Memory) ⊎ ((e ≡ Store) ⊎ (e ≡ Damaged name))) → r ≡ Err (Damaged other) → r ≡ Err (Damaged name)
damage_of name other (Ok v) h is = absurd cc
damage_of name other (Err e) (inl memory) is = absurd cc
damage_of name other (Err e) (inr (inl store)) is = absurd cc
damage_of name other (Err e) (inr (inr damaged)) is = ap Err damaged

-- a row of this table that is none of its type is its damage, and the damage that is told
damaged_by : {X V : Type 0} (k : Kept X) → ((row : Row) → IsReadable k.name row → IsReadableAs k row) → (other : TableName) (trees : Trees) (r : Result V TableFault) → r ≡ Err (Damaged k.name) → r ≡ Err (Damaged other)
    → HasOther (IsReadableAs k) (rows_in (table_named k.name) trees) → IsDamaged other trees
unfolding IsDamaged
damaged_by k readable other trees r mine is bad =
    let one : Err (Damaged k.name) ≡ Err (Damaged other) = sym mine ∙ is in
    let same : k.name ≡ other = cc in
    subst (λ name. IsDamaged name trees) same (inl (bad.0, bad.1, λ good. bad.2 (readable bad.0 good)))

module _ {at : Point} {X V : Type 0} (k : Kept X) (law : IsLawful k) (is_in : IsInEachAt at k) (readable : (row : Row) → IsReadable k.name row → IsReadableAs k row) (chosen : Row → Bool) (items : V → List X) (Is : List Entry → V → Type 0) where
  -- the rows that were chosen are what is so of them, where the tables stand for a book
  pub chosen_read : ((trees : Trees) (book : List Entry) → HasRowsAt at trees book → (v : V) → AreFirst None k.order (table_named k.name) chosen trees (map k.as_cells (items v)) → All k.Fits (items v) → Is book v)
      → ((trees : Trees) (book : List Entry) → HasRowsAt at trees book → HasOther (IsReadableAs k) (rows_in (table_named k.name) trees) → ⊥)
      → (old new : State) (result : Result V TableFault) → ReadsFirst k None k.order chosen items old new result → ReadsAt at Is old new result
  chosen_read so none old new result r =
      let has_it : HasTablesOfRowsAt at old.now.schema → k.IsIn old.now.schema = λ has. is_in _ has in
      record {
        read = λ clean book stands.
            both_ok (λ v. AreFirst None k.order (table_named k.name) chosen old.now.trees (map k.as_cells (items v))) (λ v. All k.Fits (items v)) (Is book) result (so old.now.trees book stands.rows) (r.rows clean (has_it stands.schema)) r.fits;
        cause = stop_of k.name result r.cause;
        no_book = λ clean name is book stands.
            let bad = r.damaged clean (has_it stands.schema) (damage_of k.name name result r.cause is) in
            none old.now.trees book stands.rows (other_chosen (IsReadableAs k) (table_named k.name) chosen old.now.trees bad.0 bad.1 bad.2);
        damaged = λ clean has name is.
            let mine = damage_of k.name name result r.cause is in
            let bad = r.damaged clean (has_it has) mine in
            damaged_by k readable name old.now.trees result mine is (other_chosen (IsReadableAs k) (table_named k.name) chosen old.now.trees bad.0 bad.1 bad.2);
        unchanged = λ clean has. map_read (IsUnchanged old new) (new.now ≡ old.now) result (λ still. still.0.now_is) (r.unchanged clean (has_it has));
        inside = r.inside;
        within = r.within;
      }

module _ {at : Point} {X V : Type 0} (k : Kept X) (rows : List Entry → List X) (it : IsTableAt at k rows) (chosen : Row → Bool) (picks : X → Bool) (same : (x : X) → chosen (k.as_cells x) ≡ picks x) (items : V → List X) where
  -- the rows that were chosen are those of the book that pass the test
  pub rows_read : (old new : State) (result : Result V TableFault) → ReadsFirst k None k.order chosen items old new result → ReadsAt at (λ book v. items v ≡ filter picks (rows book)) old new result
  rows_read =
      chosen_read k it.law it.is_in it.readable chosen items (λ book v. items v ≡ filter picks (rows book))
      (λ trees book has v are fits. chosen_is k it.law trees (rows book) (it.keeps trees book has) chosen picks same (items v) are fits)
      (λ trees book has. none_other k it.law trees (rows book) (it.keeps trees book has))

-- each passes
pub each_passes : {X : Type 0} (xs : List X) → filter (λ _. true) xs ≡ xs
each_passes [] = refl
each_passes (x ∷ xs) = ap (λ l. x ∷ l) (each_passes xs)

-- all rows are those of the book
pub all_read : {at : Point} {X V : Type 0} (k : Kept X) (rows : List Entry → List X) (it : IsTableAt at k rows) (items : V → List X) (old new : State) (result : Result V TableFault) → ReadsFirst k None k.order is_any items old new result → ReadsAt at (λ book v. items v ≡ rows book) old new result
all_read k rows it items old new result r = follows _ _ old new result (λ book v b is. is ∙ each_passes (rows book)) (rows_read k rows it is_any (λ _. true) (λ x. refl) items old new result r)

-- ── the last entry ──

-- what is among the first so many is among all
taken_had : {X : Type 0} (n : ℕ) (xs : List X) (x : X) → Has (take n xs) x → Has xs x
taken_had zero xs x h = absurd h
taken_had (suc n) [] x h = h
taken_had (suc n) (y ∷ ys) x (inl here) = inl here
taken_had (suc n) (y ∷ ys) x (inr there) = inr (taken_had n ys x there)

-- the first number in one is that in the other
last_is : (found : List EntryRow) → last_number found ≡ counted found
last_is [] = refl
last_is (row ∷ rows) = refl

-- the number of the last entry is how many there are, at a point at which the table of entries is known
pub last_read_at : {at : Point} → IsTableAt at kept_entry entry_rows → {V : Type 0} (items : V → List EntryRow) (old new : State) (result : Result V TableFault) → ReadsFirst kept_entry (Some 1) (backward kept_entry.order) is_any items old new result
    → ReadsAt at (λ book v. last_number (items v) ≡ length book) old new result
last_read_at {at} entries items old new result r =
    let table = table_named kept_entry.name in
    let other_first : ((rows : List Row) × AreFirst (Some 1) (backward kept_entry.order) table is_any old.now.trees rows × HasOther (IsReadableAs kept_entry) rows) → HasOther (IsReadableAs kept_entry) (rows_in table old.now.trees) =
    λ bad.
    let are = bad.1 in
    let first = has_contained bad.0 bad.2.0 bad.2.1 in
    let all : Has are.those bad.2.0 = taken_had 1 are.those bad.2.0 (subst (λ rs. Has rs bad.2.0) are.first first) in
    let those : AreFirst None (backward kept_entry.order) table is_any old.now.trees are.those = record { those = are.those; are = are.are; first = refl } in
    other_chosen (IsReadableAs kept_entry) table is_any old.now.trees are.those those (bad.2.0, contains_had are.those bad.2.0 all, bad.2.2) in
    let has_it : HasTablesOfRowsAt at old.now.schema → kept_entry.IsIn old.now.schema = λ has. entries.is_in _ has in
    record {
      read = λ clean book stands.
          let keeps = entries.keeps old.now.trees book stands.rows in
          let numbered : AreNumbered (entry_rows book) = entries_numbered book ∙ ap (range_with_len 1) (sym (entries_counted book)) in
          map_ok (λ v. AreFirst (Some 1) (backward kept_entry.order) table is_any old.now.trees (map kept_entry.as_cells (items v))) (λ v. last_number (items v) ≡ length book) result
          (λ v are. last_is (items v) ∙ last_tells old.now.trees (entry_rows book) (items v) numbered keeps.given are ∙ entries_counted book) (r.rows clean (has_it stands.schema));
      cause = stop_of kept_entry.name result r.cause;
      no_book = λ clean name is book stands.
          none_other kept_entry entries.law old.now.trees (entry_rows book) (entries.keeps old.now.trees book stands.rows)
          (other_first (r.damaged clean (has_it stands.schema) (damage_of kept_entry.name name result r.cause is)));
      damaged = λ clean has name is.
          let mine = damage_of kept_entry.name name result r.cause is in
          damaged_by kept_entry entries.readable name old.now.trees result mine is (other_first (r.damaged clean (has_it has) mine));
      unchanged = λ clean has. map_read (IsUnchanged old new) (new.now ≡ old.now) result (λ still. still.0.now_is) (r.unchanged clean (has_it has));
      inside = r.inside;
      within = r.within;
    }

-- so at the point at which rows are looked up
pub last_read : {V : Type 0} (items : V → List EntryRow) (old new : State) (result : Result V TableFault) → ReadsFirst kept_entry (Some 1) (backward kept_entry.order) is_any items old new result
    → Reads (λ book v. last_number (items v) ≡ length book) old new result
last_read = last_read_at entries
