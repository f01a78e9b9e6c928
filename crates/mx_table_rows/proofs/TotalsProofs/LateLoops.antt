-- The loops of a use that is entered late: one more is read, deleted or added, or the call stops there.
use Rattle.std.proofs.Common.{◌≡◌, ◌≢◌, pos, inl, inr, ℕ, Bool, true, false, ◌||◌, not, List, [], ◌∷◌, ◌++◌, map, filter, Option, Vec, Ok, Err, Result, refl, sym, ap, ◌∙◌}
use Rattle.std.specs.Option.{option_to_list}
use Rattle.std.proofs.lemmas.List.Folds.{list_any-append}
use Rattle.std.proofs.lemmas.List.Sorted.{IsPermutation-refl, IsPermutation-append_right}
use Rattle.sqlite_keyed.proofs.ListLemmas.{IsPermutation-same, IsPermutation-filter, filter_same}
use Rattle.sqlite_rules.proofs.ListLemmas.{some_from, has_kept, has_filtered, has_contained, contains_had}
use Rattle.sqlite_rules.specs.Lists.{Has}
use Rattle.sqlite.specs.declared.types.Value.TheVariants.{Int}
use Rattle.sqlite.specs.Order.{Row}
use Rattle.sqlite.specs.Tree.{Trees}
use Rattle.sqlite.specs.State.{State}
use Rattle.mx_base.specs.declared.amounts.Use.{Use}
use Rattle.mx_base.specs.declared.rows.rows.DoneRow.{DoneRow}
use Rattle.mx_base.specs.declared.rows.rows.ReleaseRow.{ReleaseRow}
use Rattle.mx_layout.specs.TableName.{TableName}
use Rattle.mx_layout.specs.declared.fault.TableFault.{TableFault}
use Rattle.mx_layout.specs.declared.fault.TableFault.TheVariants.{Damaged}
use Rattle.mx_layout.specs.declared.fault.Table.TheVariants.{Crs, Done3}
use Rattle.mx_layout.specs.Contents.{rows_in}
use Rattle.mx_layout.specs.Tables.{crs, done3}
use Rattle.mx_layout.specs.kept.Cells.{kept_crs, kept_done3}
use Rattle.mx_table_rows.proofs.ChosenProofs.DeleteLemmas.{both_out, none_out}
use Rattle.mx_table_rows.specs.chosen.Calls.{DeletesRows}
use Rattle.mx_table_rows.specs.chosen.Choices.{has_value}
use Rattle.mx_table_rows.specs.totals.Calls.{ReadsFrom}
use Rattle.mx_table_rows.specs.totals.Done.{is_own_line}
use Rattle.mx_table_rows.specs.totals.Puts.{WritesRows, rows_added, rows_instead}
use Rattle.mx_table_rows.specs.totals.Several.{AreExactly, HasUnreadable}
use Rattle.mx_table_rows.specs.totals.Single.{IsOnly, HasOne}
use Rattle.mx_table_rows.specs.totals.Totals.{is_of_item, is_of_any}
use Rattle.mx_table_rows.specs.totals.LateSteps.{ReadsLate, AreOfEach, AreUnread, IsTaken, CantTake, AreTaken, OneCantTake, is_any_line}
use Rattle.mx_table_rows.proofs.TotalsProofs.LateReads.{read_as, of_table_ok, of_table_err, late_worse, reads_then}
use Rattle.mx_table_rows.proofs.TotalsProofs.LateRows.{lined, done_more, taken_more}
use Rattle.mx_table_rows.proofs.TotalsProofs.LateWrites.{done_permanent}
use Rattle.mx_table_rows.proofs.TotalsProofs.WriteLemmas.{none_added, deletes_write, writes_then}

-- ── the accomplishments of items ──

-- an accomplishment of one of the items can't be read
unread_too : (items : List ℕ) (item : ℕ) → Has items item → (trees : Trees) → HasUnreadable kept_done3 (is_of_item item) (rows_in done3 trees) → AreUnread items trees Done3
unread_too items item here trees bad =
    let rows = rows_in done3 trees in
    let it = has_filtered (is_of_item item) rows bad.0 (has_contained _ bad.0 bad.1) in
    (bad.0, contains_had _ bad.0 (has_kept (is_of_any items) rows bad.0 it.0 (some_from (λ n. is_of_item n bad.0) items item here it.1)), bad.2)

module _ {A : Type 0} (items all : List ℕ) (item : ℕ) (here : Has all item) (xs : List DoneRow) (first old new : State) (so_far : ReadsLate (λ trees (ys : List DoneRow). AreOfEach items trees ys) (AreUnread all) first old (Ok xs)) where
  -- how the accomplishments of one item were read
  abbrev pub ReadOne : Result (Vec DoneRow A) TableFault → Type 0
  ReadOne read = ReadsFrom kept_done3 (λ rows (v : Vec DoneRow A). AreExactly kept_done3 (is_of_item item) rows v.items) (HasUnreadable kept_done3 (is_of_item item)) old new read

  abbrev One : Trees → Vec DoneRow A → Type 0
  One trees v = AreExactly kept_done3 (is_of_item item) (rows_in done3 trees) v.items

  abbrev pub More : Trees → Vec DoneRow A → Type 0
  More trees v = AreOfEach (items ++ item ∷ []) trees (xs ++ v.items)

  both : (read : Result (Vec DoneRow A) TableFault) → ReadsLate One (AreUnread all) old new read → ReadsLate More (AreUnread all) first new read
  both read one = reads_then (λ trees (ys : List DoneRow). AreOfEach items trees ys) One More (AreUnread all) (AreUnread all) (AreUnread all) first old new xs read
      (λ trees v before now. done_more trees items xs item v.items before now) (λ trees t _ bad. bad) so_far one

  pub item_more : (v : Vec DoneRow A) → ReadOne (Ok v) → ReadsLate More (AreUnread all) first new (Ok v)
  item_more v one = both (Ok v) (of_table_ok kept_done3 (λ rows (w : Vec DoneRow A). AreExactly kept_done3 (is_of_item item) rows w.items) (HasUnreadable kept_done3 (is_of_item item)) (AreUnread all) (λ _ has. has) (inr (inr (inr (inl refl)))) (unread_too all item here) old new v one)

  pub item_stops : (e : TableFault) → ReadOne (Err e) → ReadsLate More (AreUnread all) first new (Err e)
  item_stops e one = both (Err e) (of_table_err kept_done3 (λ rows (w : Vec DoneRow A). AreExactly kept_done3 (is_of_item item) rows w.items) (HasUnreadable kept_done3 (is_of_item item)) (AreUnread all) (λ _ has. has) (inr (inr (inr (inl refl)))) (unread_too all item here) old new e one)

-- ── what is made of one ──

module _ (added : Use) (landed : ℕ) (x : DoneRow) (some : x.line ≢ 0) (old new : State) where
  abbrev of_entry : Row → Bool
  of_entry = has_value 0 (Int (pos x.seq))

  -- how its release was read
  abbrev pub ReadRelease : Result ReleaseRow TableFault → Type 0
  ReadRelease read = ReadsFrom kept_crs (IsOnly kept_crs of_entry) (λ rows. ¬ HasOne kept_crs of_entry rows) old new read

  abbrev pub ItsRelease : Trees → ReleaseRow → Type 0
  ItsRelease trees release = IsOnly kept_crs of_entry (rows_in crs trees) release

  missing : (trees : Trees) → ¬ HasOne kept_crs of_entry (rows_in crs trees) → CantTake added landed x trees Crs
  missing trees none has = none (has (lined x some))

  -- its release is missing, or the call stopped
  pub release_missing : (e : TableFault) → ReadRelease (Err e) → ReadsLate ItsRelease (CantTake added landed x) old new (Err e)
  release_missing e r = of_table_err kept_crs (IsOnly kept_crs of_entry) (λ rows. ¬ HasOne kept_crs of_entry rows) (CantTake added landed x) done_permanent (inr (inr (inr (inr refl)))) missing old new e r

  -- its release says what becomes of it
  pub release_read : (release : ReleaseRow) (made : Option DoneRow) → ((trees : Trees) → ItsRelease trees release → IsTaken added landed x trees made) → ReadRelease (Ok release) → ReadsLate (IsTaken added landed x) (CantTake added landed x) old new (Ok made)
  release_read release made turned r =
      read_as ItsRelease (IsTaken added landed x) (CantTake added landed x) (CantTake added landed x) old new release made turned
      (of_table_ok kept_crs (IsOnly kept_crs of_entry) (λ rows. ¬ HasOne kept_crs of_entry rows) (CantTake added landed x) done_permanent (inr (inr (inr (inr refl)))) missing old new release r)

  -- its value would be past the most of a life
  pub release_past : (release : ReleaseRow) → ((trees : Trees) → ItsRelease trees release → CantTake added landed x trees Done3) → ReadRelease (Ok release) → ReadsLate (IsTaken added landed x) (CantTake added landed x) old new (Err (Damaged Done3))
  release_past release past r =
      late_worse kept_crs (IsOnly kept_crs of_entry) (λ rows. ¬ HasOne kept_crs of_entry rows) (IsTaken added landed x) (CantTake added landed x) done_permanent old new release Done3 (inr (inr (inr (inl refl)))) past r

-- ── what is made of some ──

module _ (added : Use) (landed : ℕ) (xs all : List DoneRow) (x : DoneRow) (here : Has all x) (ys : List DoneRow) (first old new : State)
    (so_far : ReadsLate (λ trees (zs : List DoneRow). AreTaken added landed xs trees zs) (OneCantTake added landed all) first old (Ok ys)) where
  abbrev pub MoreTaken : Trees → Option DoneRow → Type 0
  MoreTaken trees made = AreTaken added landed (xs ++ x ∷ []) trees (ys ++ option_to_list made)

  one_of : (trees : Trees) (t : TableName) → CantTake added landed x trees t → OneCantTake added landed all trees t
  one_of trees t cant = let at = contains_had all x here in (at.0, x, at.1, at.2, cant)

  pub row_more : (read : Result (Option DoneRow) TableFault) → ReadsLate (IsTaken added landed x) (CantTake added landed x) old new read → ReadsLate MoreTaken (OneCantTake added landed all) first new read
  row_more read one = reads_then (λ trees (zs : List DoneRow). AreTaken added landed xs trees zs) (IsTaken added landed x) MoreTaken (OneCantTake added landed all) (CantTake added landed x) (OneCantTake added landed all) first old new ys read
      (λ trees made before now. taken_more added landed trees xs ys x made before now) (λ trees t _ cant. one_of trees t cant) so_far one

-- ── rows that are deleted, and rows that are added ──

or_false : (a : Bool) → a || false ≡ a
or_false true = refl
or_false false = refl

-- the rows that stand for none of these lines
abbrev others : List DoneRow → List Row → List Row
others xs rows = filter (λ row. not (is_any_line xs row)) rows

others_more : (xs : List DoneRow) (x : DoneRow) (rows : List Row) → others (xs ++ x ∷ []) rows ≡ filter (λ row. not (is_own_line x row)) (others xs rows)
others_more xs x rows =
    filter_same _ (λ row. not (is_any_line xs row || is_own_line x row))
    (λ row. ap not (list_any-append (λ y. is_own_line y row) xs (x ∷ []) ∙ ap (λ b. is_any_line xs row || b) (or_false (is_own_line x row)))) rows
    ∙ sym (both_out (is_any_line xs) (is_own_line x) rows)

pub none_deleted : (s : State) → WritesRows {V = ℕ} kept_done3 (λ rows. filter (λ row. not (is_any_line [] row)) rows) s s (Ok 0)
none_deleted s = let w = none_added kept_done3 s in record {
  becomes = λ clean begun has free rises. (let b = w.becomes clean begun has free rises in
      record { schema = b.schema; rows = IsPermutation-same _ _ (none_out (rows_in done3 s.now.trees)); others = b.others; rises = b.rises; sound = b.sound });
  cause = w.cause;
  mode = w.mode;
  inside = w.inside;
  within = w.within;
}

-- one line more
pub line_deleted : {V : Type 0} (xs : List DoneRow) (x : DoneRow) (first old new : State) (r : Result V TableFault) → WritesRows {V = ℕ} kept_done3 (λ rows. filter (λ row. not (is_any_line xs row)) rows) first old (Ok 0) → DeletesRows kept_done3 (is_own_line x) old new r
    → WritesRows kept_done3 (λ rows. filter (λ row. not (is_any_line (xs ++ x ∷ []) row)) rows) first new r
line_deleted xs x first old new r so_far one =
    writes_then kept_done3 (others xs) (filter (λ row. not (is_own_line x row))) (others (xs ++ x ∷ [])) first old new 0 r (IsPermutation-filter (λ row. not (is_own_line x row)))
    (λ rows. IsPermutation-same _ _ (others_more xs x rows)) so_far (deletes_write kept_done3 (is_own_line x) old new r one)

-- what stands for the lines is deleted, and then they are added
pub lines_then : {V W : Type 0} (xs : List DoneRow) (old mid new : State) (v : V) (r : Result W TableFault) → WritesRows kept_done3 (λ rows. filter (λ row. not (is_any_line xs row)) rows) old mid (Ok v) → WritesRows kept_done3 (rows_added kept_done3 xs) mid new r
    → WritesRows kept_done3 (rows_instead kept_done3 (is_any_line xs) xs) old new r
lines_then xs old mid new v r one two =
    writes_then kept_done3 (others xs) (rows_added kept_done3 xs) (rows_instead kept_done3 (is_any_line xs) xs) old mid new v r (λ a b. IsPermutation-append_right (map kept_done3.as_cells xs) a b) (λ rows. IsPermutation-refl _) one two
