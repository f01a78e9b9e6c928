-- Tables that stay: at a commit of a step those that it does not move, and all where a step begins or ends.
use Rattle.std.proofs.Common.{arith, refl, sym, subst, ap, ◌∙◌, ◌≡◌, ℕ, ◌+◌, ◌≤◌, ◌<◌, suc, length, List, [], ◌∷◌, Bool, true, false, cond, ◌&&◌, ◌||◌, Option, Some, None, take}
use Rattle.std.specs.Prelude.{nat_le, filter, map, not, is_some}
use Rattle.std.specs.List.{AllByRecursion}
use Rattle.std.specs.Option.{option_map_or}
use Rattle.std.proofs.lemmas.Bool.Decides.{nat_tests}
use Rattle.std.proofs.lemmas.List.Elements.{filter_agree}
use Rattle.mx_book.specs.commands.Act.{Entry}
use Rattle.mx_book.specs.declared.commands.item.Item.{Item}
use Rattle.mx_book.specs.Book.{IsBook}
use Rattle.mx_book.specs.Programme.{last_of}
use Rattle.mx_book.specs.Register.{component}
use Rattle.mx_base.specs.rows.Rising.{IsRising}
use Rattle.mx_base.specs.declared.rows.rows.DeferralRow.{DeferralRow}
use Rattle.mx_base.specs.declared.rows.rows.DoneRow.{DoneRow}
use Rattle.mx_base.specs.declared.rows.rows.FittingRow.{FittingRow}
use Rattle.mx_base.specs.declared.rows.rows.Deferral3Row.{Deferral3Row}
use Rattle.mx_base.specs.declared.rows.rows.RemovalRow.{RemovalRow}
use Rattle.mx_base.specs.declared.rows.rows.SectorRow.{SectorRow}
use Rattle.mx_registers.specs.Names.{or_zero, seq_of_serial}
use Rattle.mx_registers.specs.Registers.{component_rows, deferral_rows, fitting_rows, removal_rows, sector_rows}
use Rattle.mx_registers.specs.late.Done.{done_rows}
use Rattle.mx_registers.specs.late.Found.{found_rows}
use Rattle.mx_registers.specs.kept.Bases.{base_rows}
use Rattle.mx_registers.specs.kept.Items.{items}
use Rattle.mx_registers.specs.kept.Spans.{span_rows}
use Rattle.mx_registers.specs.kept.Totals.{total_row, total_rows}
use Rattle.mx_base.specs.declared.rows.rows.BaseRow.{BaseRow}
use Rattle.mx_base.specs.declared.rows.rows.SpanRow.{SpanRow}
use Rattle.mx_base.specs.declared.rows.rows.TotalRow.{TotalRow}
use Rattle.mx_registers.proofs.KeptProofs.DoneLemmas.{neither}
use Rattle.mx_registers.proofs.KeptProofs.SpanRegisters.{fittings_in_spans}
use Rattle.mx_base.specs.declared.point.Point.{Point}
use Rattle.mx_registers.specs.points.Points.{Step, has_moved, is_past, is_within_step, next_mark, numbers_left, numbers_of, size_of}
use Rattle.mx_registers.specs.points.Tables.{Line, bases_2, deferrals_2, deferrals_3, done_3, fittings_1, is_moved_at, removals_1, sectors_1, sectors_2, spans_2, stands_there, totals_2}
use Rattle.mx_registers.specs.points.Moves.{OthersStay, Stays}
use Rattle.mx_registers.proofs.PointsProofs.NextLemmas.{done_of_all, rows_of_all, self}
use Rattle.mx_registers.proofs.PointsProofs.NextComponents.{component_has_row, fittings_of, of_number, removals_from, spans_from}
use Rattle.mx_registers.proofs.PointsProofs.PointLemmas.{above, found_numbers}
use Rattle.mx_registers.proofs.PointsProofs.CommitLemmas.{last_self, numbers_rising}

-- ── at a commit of a step ──

-- a step that the file is not in has moved the same at each mark
pub moved_alike : (at : Point) (step : Step) (mark number : ℕ) → is_within_step at step ≡ false → has_moved (record at { mark = mark }) step number ≡ has_moved at step number
moved_alike at step mark number h =
    ap (λ b. is_past at step || (b && nat_le number mark)) h ∙ sym (ap (λ b. is_past at step || (b && nat_le number at.mark)) h)

any_step : (at : Point) (mark number : ℕ) (o : Option Step) (d : Bool) → option_map_or (is_within_step at) o false ≡ false
    → option_map_or (λ step. has_moved (record at { mark = mark }) step number) o d ≡ option_map_or (λ step. has_moved at step number) o d
any_step at mark number None d h = refl
any_step at mark number (Some step) d h = moved_alike at step mark number h

-- a table that the step does not move has the same rows at each mark
pub line_stays : {Row : Type 0} (line : Line Row) (at : Point) (mark : ℕ) (book : List Entry) → is_moved_at line at ≡ false → Stays line at (record at { mark = mark }) book
line_stays line at mark book h =
    let parts = neither (option_map_or (is_within_step at) line.brought false) (option_map_or (is_within_step at) line.taken false) h in
    let to : Point = record at { mark = mark } in
    filter_agree (λ row. stands_there line to (line.number row)) (λ row. stands_there line at (line.number row))
    (λ row.
    let n = line.number row in
    ap (λ b. b && not (option_map_or (λ step. has_moved to step n) line.taken false)) (any_step at mark n line.brought true parts.0)
    ∙ ap (λ b. option_map_or (λ step. has_moved at step n) line.brought true && not b) (any_step at mark n line.taken false parts.1))
    (line.rows book)

pub others_stay : (book : List Entry) (at : Point) (mark : ℕ) → OthersStay at (record at { mark = mark }) book
others_stay book at mark = record {
  sectors_old = line_stays sectors_1 at mark book;
  sectors_new = line_stays sectors_2 at mark book;
  fittings = line_stays fittings_1 at mark book;
  removals = line_stays removals_1 at mark book;
  spans = line_stays spans_2 at mark book;
  totals = line_stays totals_2 at mark book;
  bases = line_stays bases_2 at mark book;
  deferrals_old = line_stays deferrals_2 at mark book;
  deferrals_new = line_stays deferrals_3 at mark book;
  done = line_stays done_3 at mark book;
}

-- ── what holds of the numbers of a step holds of those in the rows that it moves ──

all_unmapped : {Row : Type 0} (P : ℕ → Type 0) (number : Row → ℕ) (xs : List Row) → AllByRecursion P (map number xs) → AllByRecursion (λ row. P (number row)) xs
all_unmapped P number [] h = tt
all_unmapped P number (x ∷ xs) h = (h.0, all_unmapped P number xs h.1)

totals_of : (P : ℕ → Type 0) (book : List Entry) (xs : List (ℕ × Item)) → AllByRecursion P (map (λ (x : ℕ × Item). x.0) xs) → AllByRecursion (λ (row : TotalRow). P row.item) (map (total_row book) xs)
totals_of P book [] h = tt
totals_of P book (x ∷ xs) h = (h.0, totals_of P book xs h.1)

module _ (P : ℕ → Type 0) (book : List Entry) where
  abbrev pub Sectors : Type 0
  Sectors = AllByRecursion (λ (row : SectorRow). P row.seq) (sector_rows book)

  -- of the fittings, of the removals, and of the spans
  abbrev pub Components : Type 0
  Components = AllByRecursion (λ (row : FittingRow). P row.component) (fitting_rows book) × AllByRecursion (λ (row : RemovalRow). P row.component) (removal_rows book) × AllByRecursion (λ (row : SpanRow). P row.component) (span_rows book)

  abbrev pub Totals : Type 0
  Totals = AllByRecursion (λ (row : TotalRow). P row.item) (total_rows book)

  abbrev pub Bases : Type 0
  Bases = AllByRecursion (λ (row : BaseRow). P row.item) (base_rows book)

  -- of the deferrals, and of these with the cycles at which they were found
  abbrev pub Deferrals : Type 0
  Deferrals = AllByRecursion (λ (row : DeferralRow). P row.seq) (deferral_rows book) × AllByRecursion (λ (row : Deferral3Row). P row.deferral.seq) (found_rows book)

  -- of the last bases, and of the accomplishments
  abbrev pub Accomplishments : Type 0
  Accomplishments = Bases × AllByRecursion (λ (row : DoneRow). P row.item) (done_rows book)

module _ (P : ℕ → Type 0) (book : List Entry) (b : IsBook book) where
  pub of_sectors : AllByRecursion P (numbers_of 1 1 book) → Sectors P book
  of_sectors h = all_unmapped P (λ (row : SectorRow). row.seq) (sector_rows book) h

  pub of_components : AllByRecursion P (numbers_of 1 2 book) → Components P book
  of_components h =
      let each : (serial : List ℕ) → is_some (component book serial) ≡ true → P (or_zero (seq_of_serial book serial)) =
      λ serial known. of_number P (or_zero (seq_of_serial book serial)) (component_rows book) h (component_has_row book b serial known) in
      let spans = spans_from P [] book b.judged each in (
        subst (AllByRecursion (λ (row : FittingRow). P row.component)) (sym (fittings_in_spans book)) (fittings_of P (span_rows book) spans),
        removals_from P [] book b.judged each,
        spans,
      )

  pub of_totals : AllByRecursion P (numbers_of 1 3 book) → Totals P book
  of_totals h = totals_of P book (items book) h

  pub of_bases : AllByRecursion P (numbers_of 1 4 book) → Bases P book
  of_bases h = rows_of_all book P (items book) h

  pub of_deferrals : AllByRecursion P (numbers_of 2 1 book) → Deferrals P book
  of_deferrals h = (
    all_unmapped P (λ (row : DeferralRow). row.seq) (deferral_rows book) h,
    all_unmapped P (λ (row : Deferral3Row). row.deferral.seq) (found_rows book) (subst (AllByRecursion P) (sym (found_numbers book)) h),
  )

  pub of_accomplishments : AllByRecursion P (numbers_of 2 2 book) → Accomplishments P book
  of_accomplishments h = (rows_of_all book P (items book) h, done_of_all book P (items book) h)

-- ── numbers that are not 0, and numbers that are up to a mark ──

abbrev pub IsSome : ℕ → Type 0
IsSome n = 0 < n

abbrev pub UpTo : ℕ → ℕ → Type 0
UpTo mark n = n ≤ mark

all_some : (low high : ℕ) (ns : List ℕ) → 0 < low → IsRising self low ns high → AllByRecursion IsSome ns
all_some low high [] h up = tt
all_some low high (n ∷ ns) h up = (omega (arith, up.0), all_some (n + 1) high ns (omega arith) up.1)

pub numbers_some : (book : List Entry) → IsBook book → (layout step : ℕ) → AllByRecursion IsSome (numbers_of layout step book)
numbers_some book b layout step = all_some 1 (length book + 1) (numbers_of layout step book) (omega arith) (numbers_rising book b layout step)

all_up_to : (mark : ℕ) (ns : List ℕ) → filter (above self mark) ns ≡ [] → AllByRecursion (UpTo mark) ns
all_up_to mark [] h = tt
all_up_to mark (n ∷ ns) h = at (nat_le n mark) refl h (all_up_to mark ns)
  where
    at : (c : Bool) → nat_le n mark ≡ c → cond (not c) (n ∷ filter (above self mark) ns) (filter (above self mark) ns) ≡ [] → (filter (above self mark) ns ≡ [] → AllByRecursion (UpTo mark) ns) → AllByRecursion (UpTo mark) (n ∷ ns)
    at true e h rest = let by : n ≤ mark = grind (arith, nat_tests) in (by, rest h)
    at false e h rest = (cc)

-- where the step has nothing left, all its numbers are up to the mark
pub numbers_up_to : (book : List Entry) (at : Point) → next_mark at book ≡ None → AllByRecursion (UpTo at.mark) (numbers_of at.layout at.step book)
numbers_up_to book at h = up (numbers_left at.layout at.step at.mark book) refl
  where
    none : (j : ℕ) (y : ℕ) (rest : List ℕ) → last_of (take (suc j) (y ∷ rest)) ≡ None → ⊥
    none j y rest h = let last = last_self y (take j rest) in (cc)

    sized : (y : ℕ) (rest : List ℕ) (c : Bool) → last_of (take (cond c 64 1) (y ∷ rest)) ≡ None → ⊥
    sized y rest true h = none 63 y rest h
    sized y rest false h = none 0 y rest h

    up : (l : List ℕ) → numbers_left at.layout at.step at.mark book ≡ l → AllByRecursion (UpTo at.mark) (numbers_of at.layout at.step book)
    up [] e = all_up_to at.mark (numbers_of at.layout at.step book) e
    up (y ∷ rest) e = absurd (sized y rest _ (ap (λ l. last_of (take (size_of at.step) l)) (sym e) ∙ h))
