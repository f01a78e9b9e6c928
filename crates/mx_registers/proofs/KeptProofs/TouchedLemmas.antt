-- The kept rows that a new command does not touch.
use Rattle.std.proofs.Common.{refl, sym, ap, ◌∙◌, ◌≡◌, ℕ, ◌≤◌, List, [], ◌∷◌, Bool, true, false, cond, nat_eq, Some}
use Rattle.std.specs.Prelude.{filter, map}
use Rattle.std.specs.List.{list_any, AllByRecursion}
use Rattle.std.specs.Option.{option_map_or}
use Rattle.mx_book.specs.commands.Act.{Act, Entry, Added, Listed, Loaded, Opened, Flown, Fitted, Removed, Released, Deferred, Extended}
use Rattle.mx_book.specs.commands.Shape.{act_shape}
use Rattle.mx_book.specs.declared.commands.item.Item.{Item}
use Rattle.mx_book.specs.declared.commands.item.Item.TheVariants.{Airframe, Component}
use Rattle.mx_book.specs.declared.commands.sector.Sector.{Sector}
use Rattle.mx_book.specs.declared.verdict.Verdict.TheVariants.{New}
use Rattle.mx_book.specs.Book.{IsBook, is_new}
use Rattle.mx_book.specs.Judge.{judge}
use Rattle.mx_book.specs.Life.{clock, latest}
use Rattle.mx_registers.specs.Names.{has_item, item_at, or_zero, seq_of_tail}
use Rattle.mx_registers.specs.Registers.{next}
use Rattle.mx_registers.proofs.NewLemmas.{flown_is_known}
use Rattle.mx_base.specs.declared.rows.rows.SpanRow.{SpanRow}
use Rattle.mx_base.specs.declared.rows.rows.TotalRow.{TotalRow}
use Rattle.mx_registers.specs.kept.Changes.{moments_given, sectors_given}
use Rattle.mx_registers.specs.kept.Items.{items}
use Rattle.mx_registers.specs.kept.Spans.{is_span_touched, span_ended, span_rows}
use Rattle.mx_registers.specs.kept.Totals.{numbers_there, numbers_touched, total_changed, total_grown, total_row, total_rows}
use Rattle.mx_registers.proofs.KeptProofs.CreditLemmas.{credited_there, lands_later}
use Rattle.mx_registers.proofs.KeptProofs.ItemNumbers.{items_numbered}
use Rattle.mx_registers.proofs.KeptProofs.NumbersThere.{numbers_are_credited, numbers_are_there}
use Rattle.mx_registers.proofs.KeptProofs.TotalRows.{items_there}
use Rattle.mx_registers.proofs.KeptProofs.NumberedClocks.{addition_moves, deferral_moves, fitting_moves, none_given, own_number, release_moves, removal_moves, total_stays}
use Rattle.mx_registers.proofs.KeptProofs.DoneLemmas.{neither}

-- ── an item that is not touched ──

module _ (book : List Entry) (doc : List ℕ) (n : ℕ) (b : IsBook book) where
  -- no moment
  unmoved : (act : Act) (item : Item) → judge book (record { doc = doc; act = act }) ≡ New → has_item book item ≡ true → item_at book n ≡ Some item → list_any (nat_eq n) (numbers_touched book act) ≡ false → latest (moments_given book item act) ≡ 0
  unmoved (Flown s) (Airframe t) new known h e =
      let first = (neither (nat_eq n (or_zero (seq_of_tail book s.tail))) _ e).0 in
      none_given s.tail t s.on (sym (own_number book doc n b (Airframe s.tail) (Airframe t) (flown_is_known book doc s (ap is_new new)) h) ∙ first)
  unmoved (Flown s) (Component x) new known h e = refl
  unmoved (Fitted f) item new known h e = fitting_moves book doc n b f item new h ∙ ap (λ c. cond c f.moment 0) e
  unmoved (Removed r) item new known h e = removal_moves book doc n b r item new known h ∙ ap (λ c. cond c r.moment 0) e
  unmoved (Released r lines) item new known h e = release_moves book doc b r lines (n, item) new h ∙ ap (λ c. cond c r.moment 0) e
  unmoved (Deferred d) item new known h e = deferral_moves book doc n b d item new h ∙ ap (λ c. cond c d.moment 0) e
  unmoved (Added a positions) item new known h e = addition_moves book doc n b (Added a positions) item new known refl
  unmoved (Listed c) item new known h e = addition_moves book doc n b (Listed c) item new known refl
  unmoved (Loaded p tasks) item new known h e = addition_moves book doc n b (Loaded p tasks) item new known refl
  unmoved (Opened o) item new known h e = addition_moves book doc n b (Opened o) item new known refl
  unmoved (Extended x) item new known h e = addition_moves book doc n b (Extended x) item new known refl

  -- no sector
  uncredited : (act : Act) (item : Item) → judge book (record { doc = doc; act = act }) ≡ New → has_item book item ≡ true → item_at book n ≡ Some item → list_any (nat_eq n) (numbers_touched book act) ≡ false → sectors_given book item act ≡ []
  uncredited (Flown s) item new known h e =
      ap (λ d. cond d (s ∷ []) []) (sym (numbers_are_credited book s n item b (flown_is_known book doc s (ap is_new new)) known h) ∙ e)
  uncredited _ item new known h e = refl

rows_untouched : (book : List Entry) (doc : List ℕ) (act : Act) → IsBook book → judge book (record { doc = doc; act = act }) ≡ New → (xs : List (ℕ × Item)) → AllByRecursion (λ (x : ℕ × Item). has_item book x.1 ≡ true) xs → AllByRecursion (λ (x : ℕ × Item). item_at book x.0 ≡ Some x.1) xs
    → AllByRecursion (λ (row : TotalRow). list_any (nat_eq row.item) (numbers_touched book act) ≡ false → total_changed book act row ≡ row) (map (total_row book) xs)
rows_untouched book doc act b new [] known h = tt
rows_untouched book doc act b new (x ∷ xs) known h = (
  (λ e.
      let row = total_row book x in
      ap (λ o. option_map_or (λ item. total_grown book act item row) o row) h.0
      ∙ total_stays book act x.1 row (uncredited book doc x.0 b act x.1 new known.0 h.0 e) (unmoved book doc x.0 b act x.1 new known.0 h.0 e)),
  rows_untouched book doc act b new xs known.1 h.1,
)

pub totals_untouched : (book : List Entry) (doc : List ℕ) (act : Act) → IsBook book → judge book (record { doc = doc; act = act }) ≡ New
    → AllByRecursion (λ (row : TotalRow). list_any (nat_eq row.item) (numbers_touched book act) ≡ false → total_changed book act row ≡ row) (total_rows book)
totals_untouched book doc act b new = rows_untouched book doc act b new (items book) (items_there book b) (items_numbered book b)

-- ── a sector that takes off by the clock of its airframe touches what is at its aircraft ──

pick_same : (p q : TotalRow → Bool) (rows : List TotalRow) → AllByRecursion (λ row. p row ≡ q row) rows → filter p rows ≡ filter q rows
pick_same p q [] h = refl
pick_same p q (row ∷ rows) h = ap (λ c. cond c (row ∷ filter p rows) (filter p rows)) h.0 ∙ ap (λ l. cond (q row) (row ∷ l) l) (pick_same p q rows h.1)

module _ (book : List Entry) (doc : List ℕ) (s : Sector) (b : IsBook book) (new : judge book (record { doc = doc; act = Flown s }) ≡ New) (shape : act_shape (Flown s) ≡ true) (timely : clock book (Airframe s.tail) ≤ s.off) where
  same_touched : (xs : List (ℕ × Item)) → AllByRecursion (λ (x : ℕ × Item). has_item book x.1 ≡ true) xs → AllByRecursion (λ (x : ℕ × Item). item_at book x.0 ≡ Some x.1) xs
      → AllByRecursion (λ (row : TotalRow). list_any (nat_eq row.item) (numbers_touched book (Flown s)) ≡ list_any (nat_eq row.item) (numbers_there (or_zero (seq_of_tail book s.tail)) (span_rows book))) (map (total_row book) xs)
  same_touched [] known h = tt
  same_touched (x ∷ xs) known h =
      let there = flown_is_known book doc s (ap is_new new) in (
        numbers_are_credited book s x.0 x.1 b there known.0 h.0 ∙ credited_there book x.1 s b (lands_later s shape) timely ∙ sym (numbers_are_there book s.tail x.0 x.1 b there known.0 h.0),
        same_touched xs known.1 h.1,
      )

  pub in_order_touched : filter (λ (row : TotalRow). list_any (nat_eq row.item) (numbers_touched book (Flown s))) (total_rows book) ≡ filter (λ (row : TotalRow). list_any (nat_eq row.item) (numbers_there (or_zero (seq_of_tail book s.tail)) (span_rows book))) (total_rows book)
  in_order_touched =
      pick_same (λ (row : TotalRow). list_any (nat_eq row.item) (numbers_touched book (Flown s))) (λ (row : TotalRow). list_any (nat_eq row.item) (numbers_there (or_zero (seq_of_tail book s.tail)) (span_rows book)))
      (total_rows book) (same_touched (items book) (items_there book b) (items_numbered book b))

pub spans_untouched : (book : List Entry) (act : Act) (row : SpanRow) → is_span_touched book act row ≡ false → span_ended book act row ≡ row
spans_untouched book (Removed r) row h = ap (λ c. cond c (record row { remove_seq = Some (next book); to = Some r.moment }) row) h
spans_untouched book _ row h = refl
