-- The kept rows that a command touches, put in place of what they were.
use Rattle.std.proofs.Common.{◌≡◌, ℕ, Bool, true, false, cond, List, [], ◌∷◌, ◌++◌, map, filter, nat_eq, Some, refl, sym, ap, ◌∙◌}
use Rattle.std.specs.Prelude.{max}
use Rattle.std.specs.List.{AllByRecursion}
use Rattle.std.specs.List.Sorted.{IsPermutation}
use Rattle.std.proofs.lemmas.List.Sorted.{IsPermutation-append_comm, IsPermutation-append_right, IsPermutation-trans}
use Rattle.mx_book.specs.commands.Act.{Act, Entry, Flown, Fitted, Removed, Released, Deferred}
use Rattle.mx_book.specs.commands.Shape.{act_shape}
use Rattle.mx_book.specs.declared.commands.fitting.Removal.{Removal}
use Rattle.mx_book.specs.declared.commands.sector.Sector.{Sector}
use Rattle.mx_book.specs.declared.verdict.Verdict.TheVariants.{New}
use Rattle.mx_book.specs.Book.{IsBook}
use Rattle.mx_book.specs.Judge.{judge}
use Rattle.mx_book.specs.Life.{use_after}
use Rattle.mx_registers.specs.Registers.{next}
use Rattle.mx_base.specs.declared.rows.rows.SpanRow.{SpanRow}
use Rattle.mx_base.specs.declared.rows.rows.TotalRow.{TotalRow}
use Rattle.mx_registers.specs.kept.Items.{number_of_serial, number_of_tail}
use Rattle.mx_registers.specs.kept.Spans.{is_open_of, is_span_touched, span_ended, span_rows, spans_opened}
use Rattle.mx_registers.specs.kept.Totals.{clocked_row, credited_row, is_among, numbers_flown, numbers_touched, raised_row, total_by_number, total_rows, totals_opened}
use Rattle.mx_registers.proofs.KeptProofs.DoneLemmas.{neither}
use Rattle.mx_registers.proofs.KeptProofs.ItemOrder.{total_rows-rising}
use Rattle.mx_registers.proofs.KeptProofs.NumberedClocks.{totals_by_number}
use Rattle.mx_registers.proofs.KeptProofs.SpanRows.{span_rows-more}
use Rattle.mx_registers.proofs.KeptProofs.TouchedLemmas.{spans_untouched}
use Rattle.mx_registers.proofs.PointsProofs.OneBook.{span_rows-rising}
use Rattle.mx_row_rules.specs.changes.Puts.{spans_put, totals_put}
use Rattle.mx_row_rules.specs.changes.Rows.{spans_open_of, spans_touched, totals_before, totals_touched}
use Rattle.mx_row_rules.specs.changes.Kept.{span_removed, total_clocked, total_flown}
use Rattle.mx_row_rules.proofs.ChangesProofs.PutLemmas.{put_is, same_rows}

-- ── a total, by its number ──

pub raised_item : (number moment : ℕ) (row : TotalRow) → (raised_row number moment row).item ≡ row.item
raised_item number moment row = at (nat_eq row.item number)
  where
    at : (b : Bool) → (cond b (record row { clock = max row.clock moment }) row).item ≡ row.item
    at true = refl
    at false = refl

credited_item : (numbers : List ℕ) (s : Sector) (row : TotalRow) → (credited_row numbers s row).item ≡ row.item
credited_item numbers s row = at (is_among numbers row)
  where
    at : (b : Bool) → (cond b (record row { life = use_after (s ∷ []) row.life }) row).item ≡ row.item
    at true = refl
    at false = refl

clocked_item : (numbers : List ℕ) (moment : ℕ) (row : TotalRow) → (clocked_row numbers moment row).item ≡ row.item
clocked_item numbers moment row = at (is_among numbers row)
  where
    at : (b : Bool) → (cond b (record row { clock = max row.clock moment }) row).item ≡ row.item
    at true = refl
    at false = refl

-- it keeps its number
changed_item : (book : List Entry) (act : Act) (row : TotalRow) → (total_by_number book act row).item ≡ row.item
changed_item book (Flown s) row = raised_item (number_of_tail book s.tail) s.on (credited_row (numbers_flown book s) s row) ∙ credited_item (numbers_flown book s) s row
changed_item book (Fitted f) row = clocked_item (numbers_touched book (Fitted f)) f.moment row
changed_item book (Removed r) row = clocked_item (numbers_touched book (Removed r)) r.moment row
changed_item book (Released r lines) row = clocked_item (numbers_touched book (Released r lines)) r.moment row
changed_item book (Deferred d) row = clocked_item (numbers_touched book (Deferred d)) d.moment row
changed_item book _ row = refl

left_alone : (numbers : List ℕ) (moment : ℕ) (row : TotalRow) → is_among numbers row ≡ false → clocked_row numbers moment row ≡ row
left_alone numbers moment row e = ap (λ b. cond b (record row { clock = max row.clock moment }) row) e

-- one that is not touched stays as it is
untouched : (book : List Entry) (act : Act) (row : TotalRow) → is_among (numbers_touched book act) row ≡ false → total_by_number book act row ≡ row
untouched book (Flown s) row e =
    let uncredited : credited_row (numbers_flown book s) s row ≡ row = ap (λ b. cond b (record row { life = use_after (s ∷ []) row.life }) row) e in
    let other = (neither (nat_eq row.item (number_of_tail book s.tail)) _ e).0 in
    ap (raised_row (number_of_tail book s.tail) s.on) uncredited ∙ ap (λ b. cond b (record row { clock = max row.clock s.on }) row) other
untouched book (Fitted f) row e = left_alone (numbers_touched book (Fitted f)) f.moment row e
untouched book (Removed r) row e = left_alone (numbers_touched book (Removed r)) r.moment row e
untouched book (Released r lines) row e = left_alone (numbers_touched book (Released r lines)) r.moment row e
untouched book (Deferred d) row e = left_alone (numbers_touched book (Deferred d)) d.moment row e
untouched book _ row e = refl

each_untouched : (book : List Entry) (act : Act) (rows : List TotalRow) → AllByRecursion (λ row. is_among (numbers_touched book act) row ≡ false → total_by_number book act row ≡ row) rows
each_untouched book act [] = tt
each_untouched book act (row ∷ rows) = (untouched book act row, each_untouched book act rows)

-- ── those that are touched, as code makes them ──

-- where a function makes of each row that passes a test what another makes, it makes the same of all of them
same_made : {X Y : Type 0} (test : X → Bool) (one other : X → Y) → ((x : X) → test x ≡ true → one x ≡ other x) → (xs : List X) → map one (filter test xs) ≡ map other (filter test xs)
same_made test one other same [] = refl
same_made {X} {Y} test one other same (x ∷ xs) = at (test x) refl (same_made test one other same xs)
  where
    at : (b : Bool) → test x ≡ b → map one (filter test xs) ≡ map other (filter test xs) → map one (cond b (x ∷ filter test xs) (filter test xs)) ≡ map other (cond b (x ∷ filter test xs) (filter test xs))
    at true e rest = ap (λ y. y ∷ map one (filter test xs)) (same x e) ∙ ap (λ l. other x ∷ l) rest
    at false e rest = rest

-- where a command gives moments alone, each is raised to its moment
pub clocked_are : (book : List Entry) (act : Act) (moment : ℕ) → ((row : TotalRow) → total_by_number book act row ≡ clocked_row (numbers_touched book act) moment row) → map (total_clocked moment) (totals_before book act) ≡ totals_touched book act
clocked_are book act moment is =
    let numbers = numbers_touched book act in
    same_made (is_among numbers) (total_clocked moment) (total_by_number book act) (λ row e. sym (is row ∙ ap (λ b. cond b (record row { clock = max row.clock moment }) row) e)) (total_rows book)

-- a sector credits each, and raises the clock of its aircraft
pub flown_are : (book : List Entry) (s : Sector) → map (total_flown (number_of_tail book s.tail) s) (totals_before book (Flown s)) ≡ totals_touched book (Flown s)
flown_are book s =
    let numbers = numbers_flown book s in
    let aircraft = number_of_tail book s.tail in
    same_made (is_among numbers) (total_flown aircraft s) (total_by_number book (Flown s))
    (λ row e. ap (raised_row aircraft s.on) (sym (ap (λ b. cond b (record row { life = use_after (s ∷ []) row.life }) row) e))) (total_rows book)

-- no row passes a test that none passes
pub none_pass : {X : Type 0} (xs : List X) → filter (λ _. false) xs ≡ []
none_pass [] = refl
none_pass (x ∷ xs) = none_pass xs

-- ── a span ──

ended_fit : (book : List Entry) (act : Act) (row : SpanRow) → (span_ended book act row).fit_seq ≡ row.fit_seq
ended_fit book (Removed r) row = at (is_open_of (number_of_serial book r.serial) row)
  where
    at : (b : Bool) → (cond b (record row { remove_seq = Some (next book); to = Some r.moment }) row).fit_seq ≡ row.fit_seq
    at true = refl
    at false = refl
ended_fit book _ row = refl

each_left : (book : List Entry) (act : Act) (rows : List SpanRow) → AllByRecursion (λ row. is_span_touched book act row ≡ false → span_ended book act row ≡ row) rows
each_left book act [] = tt
each_left book act (row ∷ rows) = (spans_untouched book act row, each_left book act rows)

-- a removal ends each that it touches
pub ended_are : (book : List Entry) (r : Removal) → map (span_removed (next book) r.moment) (spans_open_of book (Removed r)) ≡ spans_touched book (Removed r)
ended_are book r =
    let test = is_open_of (number_of_serial book r.serial) in
    same_made test (span_removed (next book) r.moment) (span_ended book (Removed r)) (λ row e. sym (ap (λ b. cond b (record row { remove_seq = Some (next book); to = Some r.moment }) row) e)) (span_rows book)

-- ── all of them ──

-- what is put in place of rows, with others on top, is what they become
on_top_of : {Row : Type 0} (put changed more all : List Row) → IsPermutation put changed → all ≡ changed ++ more → IsPermutation (more ++ put) all
on_top_of put changed more all is become =
    IsPermutation-trans _ _ _ (IsPermutation-append_right more put changed is) (IsPermutation-trans _ _ _ (IsPermutation-append_comm more changed) (same_rows _ _ (sym become)))

pub spans_are_put : (book : List Entry) (entry : Entry) → IsBook book → judge book entry ≡ New → IsPermutation (spans_opened book entry.act ++ spans_put (spans_touched book entry.act) (span_rows book)) (span_rows (book ++ entry ∷ []))
spans_are_put book entry b new =
    let act = entry.act in
    on_top_of _ (map (span_ended book act) (span_rows book)) (spans_opened book act) _
    (put_is (λ (row : SpanRow). row.fit_seq) (is_span_touched book act) (span_ended book act) (ended_fit book act) 1 _ (span_rows book) (span_rows-rising book b) (each_left book act (span_rows book)))
    (span_rows-more book entry b new)

pub totals_are_put : (book : List Entry) (entry : Entry) → IsBook book → judge book entry ≡ New → act_shape entry.act ≡ true → IsPermutation (totals_opened book entry.act ++ totals_put (totals_touched book entry.act) (total_rows book)) (total_rows (book ++ entry ∷ []))
totals_are_put book entry b new shape =
    let act = entry.act in
    on_top_of _ (map (total_by_number book act) (total_rows book)) (totals_opened book act) _
    (put_is (λ (row : TotalRow). row.item) (is_among (numbers_touched book act)) (total_by_number book act) (changed_item book act) 1 _ (total_rows book) (total_rows-rising book) (each_untouched book act (total_rows book)))
    (totals_by_number book entry.doc act b new shape)
