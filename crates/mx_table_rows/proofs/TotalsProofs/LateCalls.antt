-- A use that is entered late: what was read is good or bad, and then totals and accomplishments are written.
use Rattle.std.proofs.Common.{◌≡◌, ◌⊎◌, inl, inr, ℕ, List, [], ◌∷◌, map, filter, All, Ok, Err, Result, OnOk, IfErr, IsPermutation, refl, sym, subst, arith}
use Rattle.std.specs.Prelude.{IsErrAnd, nat_eq, Contains}
use Rattle.std.specs.List.{IsDistinct}
use Rattle.std.proofs.lemmas.List.Elements.{All-map, All-nil, All-cons}
use Rattle.std.proofs.lemmas.List.Sorted.{IsPermutation-sym, IsPermutation-trans, Contains-permutation, All-permutation}
use Rattle.sqlite_rules.proofs.ListLemmas.{has_contained, contains_had}
use Rattle.sqlite_rules.proofs.ProbeLemmas.{mapped_has}
use Rattle.sqlite.specs.Order.{Row}
use Rattle.sqlite.specs.Tree.{Trees}
use Rattle.sqlite.specs.Effect.{Database}
use Rattle.sqlite.specs.State.{State, HasCleanDisk, IsUnchanged}
use Rattle.mx_base.specs.declared.amounts.Use.{Use}
use Rattle.mx_base.specs.declared.rows.rows.DoneRow.{DoneRow}
use Rattle.mx_base.specs.declared.rows.rows.TotalRow.{TotalRow}
use Rattle.mx_book.specs.due.Due.{IsLife}
use Rattle.mx_layout.specs.TableName.{TableName}
use Rattle.mx_layout.specs.declared.fault.TableFault.{TableFault}
use Rattle.mx_layout.specs.declared.fault.TableFault.TheVariants.{Memory, Store, Damaged}
use Rattle.mx_layout.specs.declared.fault.Table.TheVariants as table
use Rattle.mx_layout.specs.Contents.{rows_in, HasNoReferences, Rises}
use Rattle.mx_layout.specs.Tables.{crs, total2, done3}
use Rattle.mx_layout.specs.kept.Cells.{kept_done3}
use Rattle.mx_layout.proofs.CrashLemmas.{within_then, stays_then}
use Rattle.mx_layout.proofs.KeptProofs.MovedLawful.{done3_lawful}
use Rattle.mx_layout.proofs.ReadLemmas.{on_ok}
use Rattle.mx_tables.proofs.InsertsProofs.SetLemmas.{on_weaker}
use Rattle.mx_table_rows.specs.totals.Calls.{change_where}
use Rattle.mx_table_rows.specs.totals.Puts.{rows_instead}
use Rattle.mx_table_rows.specs.totals.Totals.{life_with, is_of_any, credited, CanCredit, AreCredited, totals_put}
use Rattle.mx_table_rows.specs.totals.Steps.{ReadsTotals}
use Rattle.mx_table_rows.specs.totals.Late.{is_late, value_credited, life_at, CanCreditValue, HasRelease, CanCreditLate, CantCreditLate, IsLateFault, BecomeBoth, CreditsLate}
use Rattle.mx_table_rows.specs.totals.LateSteps.{ReadsLate, AreOfEach, AreUnread, IsGiven, CantTake, AreTaken, OneCantTake, AreLate, is_any_line}
use Rattle.mx_table_rows.proofs.TotalsProofs.KeepLemmas.{Stopped, on_read, not_damaged}
use Rattle.mx_table_rows.proofs.TotalsProofs.ReadLemmas.{stopped_is}
use Rattle.mx_table_rows.proofs.TotalsProofs.LateReads.{told, reads_then}
use Rattle.mx_table_rows.proofs.TotalsProofs.LateWrites.{WritesBoth, done_totals}
use Rattle.mx_table_rows.proofs.TotalsProofs.LateExchange.{all_read, late_exchanged}
use Rattle.mx_table_rows.proofs.TotalsProofs.CreditLemmas.{credited_put}

module _ (items : List ℕ) (distinct : IsDistinct nat_eq items) (added : Use) (landed : ℕ) where
  -- ── what was read is bad ──

  -- an accomplishment of the items can't be read
  pub unread_is : (trees : Trees) (name : TableName) → AreUnread items trees name → CantCreditLate items added landed trees name
  unread_is trees table.Done3 bad = (bad.0, bad.1, λ can. bad.2 (can.done, can.fits, can.is))
  unread_is trees _ bad = absurd bad

  module _ (trees : Trees) (done : List DoneRow) (are : AreOfEach items trees done) where
    abbrev stored : List Row
    stored = filter (is_of_any items) (rows_in done3 trees)

    -- an accomplishment that was read stands there
    stands : (x : DoneRow) → Contains (map kept_done3.as_cells done) (kept_done3.as_cells x) → Contains stored (kept_done3.as_cells x)
    stands x here = Contains-permutation (map kept_done3.as_cells done) stored (kept_done3.as_cells x) (IsPermutation-sym _ _ (all_read items distinct added landed trees done are)) here

    one_cant : (x : DoneRow) → Contains stored (kept_done3.as_cells x) → kept_done3.Fits x → (name : TableName) → CantTake added landed x trees name → CantCreditLate items added landed trees name
    one_cant x here fits table.Done3 cant = (
      kept_done3.as_cells x,
      here,
      λ can. cant (λ behind. (
        record { value = fits.value.day; base = fits.base.day },
        subst (λ (y : DoneRow). IsLife (life_with (life_at y) added)) (done3_lawful.once can.done x can.fits fits (sym can.is)) (can.life behind),
      )),
    )
    one_cant x here fits table.Crs cant = (kept_done3.as_cells x, here, cant)
    one_cant x here fits _ cant = absurd cant

    -- one of those that were read can't be credited
    pub some_cant : (name : TableName) → OneCantTake added landed done trees name → CantCreditLate items added landed trees name
    some_cant name any =
        let x = any.1 in
        let here = stands x (contains_had _ _ (mapped_has kept_done3.as_cells done x (has_contained done x (any.0, any.2, any.3)))) in
        one_cant x here (subst kept_done3.Fits any.3 (are.fit any.0 x any.2)) name any.4

    -- ── and what is good ──

    can_be : (x : DoneRow) → kept_done3.Fits x → IsGiven added landed (rows_in crs trees) x → CanCreditValue added landed (rows_in crs trees) (kept_done3.as_cells x)
    can_be x fits given = record { done = x; fits = fits; is = refl; life = λ behind. (given.can behind).1 }

    pub values_can : (made : List DoneRow) → AreTaken added landed done trees made → All (CanCreditValue added landed (rows_in crs trees)) stored
    values_can made taken =
        All-permutation (CanCreditValue added landed (rows_in crs trees)) (map kept_done3.as_cells done) stored (IsPermutation-sym _ _ (all_read items distinct added landed trees done are))
        (All-map (CanCreditValue added landed (rows_in crs trees)) kept_done3.as_cells done (λ i d low. can_be _ (are.fit i d low) (taken.given i d low)))

    pub releases_are : (made : List DoneRow) → AreTaken added landed done trees made → All (HasRelease (rows_in crs trees)) stored
    releases_are made taken =
        All-permutation (HasRelease (rows_in crs trees)) (map kept_done3.as_cells done) stored (IsPermutation-sym _ _ (all_read items distinct added landed trees done are))
        (All-map (HasRelease (rows_in crs trees)) kept_done3.as_cells done (λ i d low. (taken.given i d low).has))

  totals_can : (rows : List Row) (ns : List ℕ) (xs : List TotalRow) → AreCredited added rows ns xs → All (CanCredit added rows) ns
  totals_can rows [] [] all = All-nil (CanCredit added rows)
  totals_can rows [] (x ∷ xs) all = absurd all
  totals_can rows (n ∷ ns) [] all = absurd all
  totals_can rows (n ∷ ns) (x ∷ xs) all = All-cons (CanCredit added rows) n ns (all.0.was, all.0.can) (totals_can rows ns xs all.1)

  pub late_can : (trees : Trees) (xs : List TotalRow) (ys : List DoneRow) → AreCredited added (rows_in total2 trees) items xs → AreLate items added landed trees ys → CanCreditLate items added landed trees
  late_can trees xs ys totals late = record {
    totals = totals_can (rows_in total2 trees) items xs totals;
    values = values_can trees late.done late.read ys late.taken;
    releases = releases_are trees late.done late.read ys late.taken;
  }

-- ── the totals are read ──

module _ {V : Type 0} (added : Use) (items : List ℕ) (landed : ℕ) (rows_of : V → List TotalRow) (old new : State) where
  abbrev Credited : Trees → V → Type 0
  Credited trees v = AreCredited added (rows_in total2 trees) items (rows_of v)

  pub totals_read : (v : V) → ReadsTotals added items rows_of old new (Ok v) → ReadsLate Credited (CantCreditLate items added landed) old new (Ok v)
  totals_read v r = record {
    value = λ clean has. r.rows clean (done_totals old.now.schema has);
    cause = tt;
    damaged = λ _ _. tt;
    unchanged = λ _ _. tt;
    keeps = λ clean has. r.keeps clean (done_totals old.now.schema has);
    mode = r.mode;
    inside = r.inside;
    within = r.within;
  }

  caused : (e : TableFault) → (e ≡ Memory) ⊎ ((e ≡ Store) ⊎ (e ≡ Damaged table.Total2)) → ReadsTotals added items rows_of old new (Err e) → ReadsLate Credited (CantCreditLate items added landed) old new (Err e)
  caused e (inl memory) r = subst (λ f. ReadsLate Credited (CantCreditLate items added landed) old new (Err f)) (sym memory)
      (record { value = λ _ _. tt; cause = inl refl; damaged = λ _ _. tt; unchanged = λ _ _. tt; keeps = λ _ _. tt; mode = λ _ _. tt; inside = λ _ _. tt; within = r.within })
  caused e (inr (inl store)) r = subst (λ f. ReadsLate Credited (CantCreditLate items added landed) old new (Err f)) (sym store)
      (record { value = λ _ _. tt; cause = inr (inl refl); damaged = λ _ _. tt; unchanged = λ _ _. tt; keeps = λ _ _. tt; mode = λ _ _. tt; inside = λ _ _. tt; within = r.within })
  caused e (inr (inr damaged)) r =
      let q = subst (λ f. ReadsTotals added items rows_of old new (Err f)) damaged r in
      subst (λ f. ReadsLate Credited (CantCreditLate items added landed) old new (Err f)) (sym damaged)
      (record {
        value = λ _ _. tt;
        cause = inr (inr (inl refl));
        damaged = λ clean has. q.damaged clean (done_totals old.now.schema has) refl;
        unchanged = λ clean has. q.unchanged clean (done_totals old.now.schema has) refl;
        keeps = λ _ _. tt;
        mode = q.mode;
        inside = q.inside;
        within = q.within;
      })

  pub totals_unread_late : (e : TableFault) → ReadsTotals added items rows_of old new (Err e) → ReadsLate Credited (CantCreditLate items added landed) old new (Err e)
  totals_unread_late e r = caused e r.cause r

-- ── all is read, and then written ──

late_caused : {T : Type 0} (r : Result T TableFault) → Stopped r → IfErr r IsLateFault
late_caused (Ok v) why = tt
late_caused (Err e) (inl memory) = inl memory
late_caused (Err e) (inr store) = inr (inl store)

module _ (items : List ℕ) (added : Use) (landed : ℕ) where
  pub late_credited : {V W : Type 0} (Made : Trees → V → Type 0) (totals_made done_made : List Row → List Row) (v : V) (old mid new : State) (result : Result W TableFault)
      → ReadsLate Made (CantCreditLate items added landed) old mid (Ok v) → WritesBoth totals_made done_made mid new result
      → ((trees : Trees) → Made trees v → CanCreditLate items added landed trees)
      → ((trees : Trees) → Made trees v → IsPermutation (change_where (is_of_any items) (credited added) (rows_in total2 trees)) (totals_made (rows_in total2 trees)))
      → ((trees : Trees) → Made trees v → IsPermutation (change_where (is_late items landed (rows_in crs trees)) (value_credited added) (rows_in done3 trees)) (done_made (rows_in done3 trees)))
      → CreditsLate items added landed old new result
  late_credited {V} {W} Made totals_made done_made v old mid new result one two good totals done =
      let early : HasCleanDisk new → HasCleanDisk mid = λ clean. omega (arith, two.within.survives.clean) in
      record {
        becomes = λ clean begun has free up done_up. (let same = (one.keeps (early clean) has).now_is in
            let is = one.value (early clean) has in
            let wrote = two.becomes clean (one.mode (early clean) begun) (subst (λ (d : Database). kept_done3.IsIn d.schema) (sym same) has) (subst (λ (d : Database). HasNoReferences d.schema) (sym same) free)
            (subst (λ (d : Database). Rises total2 d.trees) (sym same) up) (subst (λ (d : Database). Rises done3 d.trees) (sym same) done_up) in
            let before : OnOk result (BecomeBoth totals_made done_made old.now new.now) = subst (λ (d : Database). OnOk result (BecomeBoth totals_made done_made d new.now)) same wrote in
            on_weaker result (λ b. record {
              schema = b.schema;
              totals = IsPermutation-trans _ _ _ (totals old.now.trees is) b.totals;
              done = IsPermutation-trans _ _ _ (done old.now.trees is) b.done;
              others = b.others;
              totals_rise = b.totals_rise;
              done_rise = b.done_rise;
              sound = b.sound;
            }) before);
        good = λ clean has. on_ok result (good old.now.trees (one.value (early clean) has));
        cause = late_caused result two.cause;
        damaged = λ _ _ name is. absurd (not_damaged result name two.cause is);
        unchanged = λ _ _ name is. absurd (not_damaged result name two.cause is);
        mode = λ clean begun. on_read _ result two.cause (two.mode clean (one.mode (early clean) begun));
        inside = λ clean begun. (let stays = one.inside (early clean) begun in on_read _ result two.cause (on_weaker result (stays_then old mid new stays) (two.inside clean (stays.mode, stays.is_open))));
        within = within_then old mid new one.within one.mode two.within;
      }

  -- something could not be read
  pub late_unread : {V W : Type 0} (Made : Trees → V → Type 0) (old new : State) (e : TableFault) (result : Result W TableFault) → IsErrAnd result (λ f. f ≡ e) → ReadsLate Made (CantCreditLate items added landed) old new (Err e) → CreditsLate items added landed old new result
  late_unread {V} {W} Made old new e result is r =
      subst (λ (s : Result W TableFault). CreditsLate items added landed old new s) (sym (stopped_is e result is))
      (record {
        becomes = λ _ _ _ _ _ _. tt;
        good = λ _ _. tt;
        cause = r.cause;
        damaged = λ clean has name same. told {T = W} (Err e) name (CantCreditLate items added landed old.now.trees) same (r.damaged clean has);
        unchanged = λ clean has name same. told {T = W} (Err e) name (λ _. IsUnchanged old new) same (r.unchanged clean has);
        mode = r.mode;
        inside = r.inside;
        within = r.within;
      })

-- ── the whole ──

module _ {V W : Type 0} (items : List ℕ) (distinct : IsDistinct nat_eq items) (added : Use) (landed : ℕ) (rows_of : V → List TotalRow) (lines_of : W → List DoneRow) (v : V) where
  -- the totals as credited, and the accomplishments that are written
  abbrev pub AreBoth : Trees → W → Type 0
  AreBoth trees w = AreCredited added (rows_in total2 trees) items (rows_of v) × AreLate items added landed trees (lines_of w)

  pub both_read : (a b c : State) (r : Result W TableFault) → ReadsTotals added items rows_of a b (Ok v) → ReadsLate (λ trees w. AreLate items added landed trees (lines_of w)) (CantCreditLate items added landed) b c r
      → ReadsLate AreBoth (CantCreditLate items added landed) a c r
  both_read a b c r one two =
      reads_then (λ trees u. AreCredited added (rows_in total2 trees) items (rows_of u)) (λ trees w. AreLate items added landed trees (lines_of w)) AreBoth
      (CantCreditLate items added landed) (CantCreditLate items added landed) (CantCreditLate items added landed) a b c v r
      (λ trees w totals late. (totals, late)) (λ trees name totals bad. bad) (totals_read added items landed rows_of a b v one) two

  pub all_written : {T : Type 0} (w : W) (old mid new : State) (result : Result T TableFault) → ReadsLate AreBoth (CantCreditLate items added landed) old mid (Ok w) → WritesBoth (totals_put (rows_of v)) (rows_instead kept_done3 (is_any_line (lines_of w)) (lines_of w)) mid new result
      → CreditsLate items added landed old new result
  all_written w old mid new result one two =
      late_credited items added landed AreBoth (totals_put (rows_of v)) (rows_instead kept_done3 (is_any_line (lines_of w)) (lines_of w)) w old mid new result one two
      (λ trees are. late_can items distinct added landed trees (rows_of v) (lines_of w) are.0 are.1)
      (λ trees are. credited_put added items (rows_of v) (rows_in total2 trees) distinct are.0)
      (λ trees are. late_exchanged items distinct added landed trees (lines_of w) are.1)
