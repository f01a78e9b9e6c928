-- The deferrals of a file at a point: which of their tables it has, what is read of these, and that a book's are those that are read.
use Rattle.std.proofs.Common.{◌≡◌, ◌∙◌, Bool, true, false, not, ◌&&◌, ◌||◌, nat_eq, ℕ, List, [], ◌++◌, Result, refl, sym, ap, ap₂, subst, arith}
use Rattle.std.specs.Prelude.{IsPermutation, Vec, filter, nat_le, nat_lt}
use Rattle.std.specs.declared.alloc.Global.{Global}
use Rattle.std.proofs.lemmas.Bool.Decides.{Decides-eqb, nat_tests}
use Rattle.std.proofs.lemmas.List.{append-nil}
use Rattle.std.proofs.lemmas.List.Elements.{filter_agree}
use Rattle.std.proofs.lemmas.List.Sorted.{IsPermutation-append, IsPermutation-map, IsPermutation-refl, IsPermutation-sym, IsPermutation-trans}
use Rattle.sqlite.specs.Schema.{Schema}
use Rattle.sqlite.specs.Tree.{Trees}
use Rattle.sqlite.specs.State.{State}
use Rattle.mx_book.specs.commands.Act.{Entry}
use Rattle.mx_book.proofs.JudgeLemmas.{both_true}
use Rattle.mx_base.specs.declared.rows.rows.DeferralRow.{DeferralRow}
use Rattle.mx_base.specs.declared.rows.rows.Deferral3Row.{Deferral3Row}
use Rattle.mx_base.specs.declared.point.Point.{Point}
use Rattle.mx_base.specs.declared.rows.rows.SectorRow.{SectorRow}
use Rattle.mx_base.specs.declared.rows.rows.SpanRow.{SpanRow}
use Rattle.mx_registers.specs.Registers.{deferral_rows, sector_rows}
use Rattle.mx_registers.specs.kept.Spans.{span_rows}
use Rattle.mx_registers.specs.file.Tables.{AreRegistersIn}
use Rattle.mx_registers.specs.declared.file.file_rows.FileRows.{FileRows}
use Rattle.mx_registers.specs.points.Points.{Step, has_moved, is_past, is_within_step, step_of}
use Rattle.mx_registers.specs.points.Tables.{Line, deferrals_2, deferrals_3, rows_at}
use Rattle.mx_registers.proofs.PointsProofs.OneBook.{all_there}
use Rattle.mx_registers.proofs.PointsProofs.StandingLemmas.{empty_where_absent, stand_once}
use Rattle.mx_layout.specs.TableName.{TableName}
use Rattle.mx_layout.specs.declared.fault.TableFault.{TableFault}
use Rattle.mx_layout.specs.declared.fault.Table.TheVariants as table
use Rattle.mx_layout.specs.kept.Kept.{Kept}
use Rattle.mx_layout.specs.kept.Cells.{kept_defect, kept_defect3}
use Rattle.mx_tables.specs.inserts.Sets.{AreRowsOf, ReadsTables}
use Rattle.mx_book_tables.specs.stands.Family.{is_at}
use Rattle.mx_book_tables.specs.stands.Schemas.{HasTablesAt, IsUpTo}
use Rattle.mx_book_tables.specs.stands.Stands.{HasRowsAt}
use Rattle.mx_book_tables.specs.reading.Deferrals.{AreDeferralsAt, AreRowsAt, HasDeferralsAt, deferrals_in, has_moved_deferrals, is_moving_deferrals}
use Rattle.mx_book_tables.proofs.StandsProofs.FamilyLemmas.{AreFacts, facts}
use Rattle.mx_book_tables.specs.reading.Stored.{AreRegistersAt, AreRegistersBy, HasRegistersAt, HasRegistersBy}
use Rattle.mx_book_tables.proofs.ReadingProofs.RegisterLemmas.{AreFlown, read_there, registers_with}
use Rattle.mx_book_tables.proofs.ReadingProofs.StoredLemmas.{AreDeferrals, registers_too}

-- ── which tables there are ──

and_true : (b : Bool) → b && true ≡ b
and_true true = refl
and_true false = refl

or_true : (b : Bool) → b || true ≡ true
or_true true = refl
or_true false = refl

no_both : (layout step : ℕ) → nat_eq 2 layout && nat_eq 1 step ≡ true → nat_lt 2 layout || (nat_eq 2 layout && nat_lt 1 step) ≡ false
no_both layout step h =
    let both = both_true (nat_eq 2 layout) (nat_eq 1 step) h in
    subst (λ l. nat_lt 2 l || (nat_eq 2 l && nat_lt 1 step) ≡ false) ((Decides-eqb 2 layout).0 both.0) (subst (λ n. nat_lt 1 n ≡ false) ((Decides-eqb 1 step).0 both.1) refl)

module _ (at : Point) where
  moved_there : is_past at (step_of 2 1) || is_within_step at (step_of 2 1) ≡ true → is_at at table.Defect3 ≡ true
  moved_there begun = and_true (is_past at (step_of 2 1) || is_within_step at (step_of 2 1)) ∙ begun

  there_moved : is_at at table.Defect3 ≡ is_past at (step_of 2 1) || is_within_step at (step_of 2 1)
  there_moved = and_true (is_past at (step_of 2 1) || is_within_step at (step_of 2 1))

  here : {X : Type 0} (name : TableName) (k : Kept X) (trees : Trees) (rows : List X) → is_at at name ≡ true → AreRowsOf k trees rows → AreRowsAt at name k trees rows
  here name k trees rows there are = (λ _. are, λ absent. absurd cc)

  not_here : {X : Type 0} (name : TableName) (k : Kept X) (trees : Trees) → is_at at name ≡ false → AreRowsAt at name k trees []
  not_here name k trees absent = (λ there. absurd cc, λ _. refl)

  -- ── what is read ──

  -- behind the step that moves them
  module _ (moved : has_moved_deferrals at ≡ true) where
    there : is_at at table.Defect3 ≡ true
    there = moved_there (ap (λ b. b || is_within_step at (step_of 2 1)) moved)

    pub moved_in : (schema : Schema) → HasDeferralsAt at schema → kept_defect3.IsIn schema
    moved_in schema has = has.moved there

    pub moved_are : (trees : Trees) (read : Vec Deferral3Row Global) → AreRowsOf kept_defect3 trees read.items → AreDeferralsAt at trees (deferrals_in read.items)
    moved_are trees read are = record {
      moved = read.items;
      left = [];
      are_moved = here table.Defect3 kept_defect3 trees read.items there are;
      are_left = not_here table.Defect kept_defect trees (ap not moved);
      together = sym (append-nil (deferrals_in read.items));
    }

  -- within it
  module _ (moving : is_moving_deferrals at ≡ true) where
    pub moving_in : (schema : Schema) → HasDeferralsAt at schema → kept_defect3.IsIn schema × kept_defect.IsIn schema
    moving_in schema has = (has.moved both.0, has.left both.1)
      where
        both : (is_at at table.Defect3 ≡ true) × (is_at at table.Defect ≡ true)
        both = (moved_there (ap (λ b. is_past at (step_of 2 1) || b) moving ∙ or_true (is_past at (step_of 2 1))), ap not (no_both at.layout at.step moving))

    pub moving_are : (trees : Trees) (read : Vec Deferral3Row Global × Vec DeferralRow Global) → AreRowsOf kept_defect3 trees read.0.items × AreRowsOf kept_defect trees read.1.items → AreDeferralsAt at trees (deferrals_in read.0.items ++ read.1.items)
    moving_are trees read are = record {
      moved = read.0.items;
      left = read.1.items;
      are_moved = here table.Defect3 kept_defect3 trees read.0.items (moved_there (ap (λ b. is_past at (step_of 2 1) || b) moving ∙ or_true (is_past at (step_of 2 1)))) are.0;
      are_left = here table.Defect kept_defect trees read.1.items (ap not (no_both at.layout at.step moving)) are.1;
      together = refl;
    }

  -- before it
  module _ (unmoved : has_moved_deferrals at ≡ false) (unmoving : is_moving_deferrals at ≡ false) where
    pub unmoved_in : (schema : Schema) → HasDeferralsAt at schema → kept_defect.IsIn schema
    unmoved_in schema has = has.left (ap not unmoved)

    pub unmoved_are : (trees : Trees) (read : Vec DeferralRow Global) → AreRowsOf kept_defect trees read.items → AreDeferralsAt at trees read.items
    unmoved_are trees read are = record {
      moved = [];
      left = read.items;
      are_moved = not_here table.Defect3 kept_defect3 trees (there_moved ∙ ap₂ (λ (p w : Bool). p || w) unmoved unmoving);
      are_left = here table.Defect kept_defect trees read.items (ap not unmoved) are;
      together = refl;
    }

  -- ── the registers ──

  module _ (old new : State) (result : Result FileRows TableFault) where
    -- what was read of the deferrals by tables that a file at the point has is what is read of them there
    at_point : {Deferred : Type 0} (HasRead : Schema → Type 0) (AreRead : Trees → Deferred → Type 0) (deferrals_of : Deferred → List DeferralRow) → ((schema : Schema) → HasDeferralsAt at schema → HasRead schema) → ((trees : Trees) (read : Deferred) → AreRead trees read → AreDeferralsAt at trees (deferrals_of read))
        → ReadsTables (HasRegistersBy HasRead) (AreRegistersBy (AreDeferrals HasRead AreRead deferrals_of)) old new result → ReadsTables (HasRegistersAt at) (AreRegistersAt at) old new result
    at_point HasRead AreRead deferrals_of has are =
        registers_too HasRead (HasDeferralsAt at) (AreDeferrals HasRead AreRead deferrals_of) (AreDeferralsAt at) has
        (λ trees deferrals those. subst (AreDeferralsAt at trees) (sym those.2) (are trees those.0 those.1)) old new result

    pub moved_read : has_moved_deferrals at ≡ true → ReadsTables (HasRegistersBy kept_defect3.IsIn) (AreRegistersBy (AreDeferrals kept_defect3.IsIn (λ trees (read : Vec Deferral3Row Global). AreRowsOf kept_defect3 trees read.items) (λ read. deferrals_in read.items))) old new result
        → ReadsTables (HasRegistersAt at) (AreRegistersAt at) old new result
    moved_read moved = at_point kept_defect3.IsIn (λ trees (read : Vec Deferral3Row Global). AreRowsOf kept_defect3 trees read.items) (λ read. deferrals_in read.items) (moved_in moved) (moved_are moved)

    abbrev IsInBoth : Schema → Type 0
    IsInBoth schema = kept_defect3.IsIn schema × kept_defect.IsIn schema

    abbrev AreInBoth : Trees → Vec Deferral3Row Global × Vec DeferralRow Global → Type 0
    AreInBoth trees read = AreRowsOf kept_defect3 trees read.0.items × AreRowsOf kept_defect trees read.1.items

    pub moving_read : is_moving_deferrals at ≡ true → ReadsTables (HasRegistersBy IsInBoth) (AreRegistersBy (AreDeferrals IsInBoth AreInBoth (λ read. deferrals_in read.0.items ++ read.1.items))) old new result
        → ReadsTables (HasRegistersAt at) (AreRegistersAt at) old new result
    moving_read moving = at_point IsInBoth AreInBoth (λ read. deferrals_in read.0.items ++ read.1.items) (moving_in moving) (moving_are moving)

    pub unmoved_read : has_moved_deferrals at ≡ false → is_moving_deferrals at ≡ false → ReadsTables (HasRegistersBy kept_defect.IsIn) (AreRegistersBy (AreDeferrals kept_defect.IsIn (λ trees (read : Vec DeferralRow Global). AreRowsOf kept_defect trees read.items) (λ read. read.items))) old new result
        → ReadsTables (HasRegistersAt at) (AreRegistersAt at) old new result
    unmoved_read unmoved unmoving = at_point kept_defect.IsIn (λ trees (read : Vec DeferralRow Global). AreRowsOf kept_defect trees read.items) (λ read. read.items) (unmoved_in unmoved unmoving) (unmoved_are unmoved unmoving)

-- ── of a book ──

module _ (at : Point) (trees : Trees) (book : List Entry) (has : HasRowsAt at trees book) where
  -- what is read of a table is what the book gives it, also where there is none
  module _ {X : Type 0} (name : TableName) (k : Kept X) (line : Line X) (facts : AreFacts name k line) where
    there_or_none : (rows : List X) → AreRowsAt at name k trees rows → (is_at at name ≡ true → IsPermutation rows (rows_at line at book)) → (is_at at name ≡ false → rows_at line at book ≡ []) → IsPermutation rows (rows_at line at book)
    there_or_none rows are read none = by_table (is_at at name) refl
      where
        by_table : (b : Bool) → is_at at name ≡ b → IsPermutation rows (rows_at line at book)
        by_table true there = read there
        by_table false absent = subst (λ (l : List X). IsPermutation l (rows_at line at book)) (sym (are.1 absent)) (subst (λ (l : List X). IsPermutation [] l) (sym (none absent)) (IsPermutation-refl []))

  pub deferrals_read : (deferrals : List DeferralRow) → AreDeferralsAt at trees deferrals → IsPermutation deferrals (deferral_rows book)
  deferrals_read deferrals are =
      let moved = there_or_none table.Defect3 kept_defect3 deferrals_3 (facts table.Defect3) are.moved are.are_moved
      (λ there. read_there at table.Defect3 kept_defect3 deferrals_3 (facts table.Defect3) trees book are.moved (are.are_moved.0 there) (has.fit table.Defect3 there) (has.tables table.Defect3 there)) (empty_where_absent at book).deferrals_new in
      let left = there_or_none table.Defect kept_defect deferrals_2 (facts table.Defect) are.left are.are_left
      (λ there. read_there at table.Defect kept_defect deferrals_2 (facts table.Defect) trees book are.left (are.are_left.0 there) (has.fit table.Defect there) (has.tables table.Defect there)) (empty_where_absent at book).deferrals_old in
      subst (λ (l : List DeferralRow). IsPermutation l (deferral_rows book)) (sym are.together)
      (IsPermutation-trans _ _ _ (IsPermutation-append (deferrals_in are.moved) (deferrals_in (rows_at deferrals_3 at book)) are.left (rows_at deferrals_2 at book) (IsPermutation-map (λ (row : Deferral3Row). row.deferral) _ _ moved) left)
      (IsPermutation-sym _ _ (stand_once at book has.is_book).deferrals))

-- ── behind the step that makes the spans ──

lower : (step : ℕ) → nat_lt 2 step ≡ true → nat_lt 1 step ≡ true
lower step h = grind (arith, nat_tests)

sectors_past : (layout step : ℕ) → nat_lt 1 layout || (nat_eq 1 layout && nat_lt 2 step) ≡ true → nat_lt 1 layout || (nat_eq 1 layout && nat_lt 1 step) ≡ true
sectors_past layout step h = by_layout (nat_lt 1 layout) (nat_eq 1 layout) (nat_lt 2 step) (nat_lt 1 step) (lower step) h
  where
    by_layout : (above same far near : Bool) → (far ≡ true → near ≡ true) → above || (same && far) ≡ true → above || (same && near) ≡ true
    by_layout true same far near so k = refl
    by_layout false true far near so k = so k
    by_layout false false far near so k = absurd cc

module _ (at : Point) (past : is_past at (step_of 1 2) ≡ true) where
  sectors_moved : is_past at (step_of 1 1) ≡ true
  sectors_moved = sectors_past at.layout at.step past

  -- a table to which a step that is past has brought its rows
  brought_there : (step : Step) → is_past at step ≡ true → (is_past at step || is_within_step at step) && true ≡ true
  brought_there step is = ap (λ b. (b || is_within_step at step) && true) is

  brought_whole : {Row : Type 0} (number : Row → ℕ) (rows : List Row) (step : Step) → is_past at step ≡ true → filter (λ row. has_moved at step (number row) && true) rows ≡ rows
  brought_whole number rows step is = filter_agree (λ row. has_moved at step (number row) && true) (λ row. true) (λ row. ap (λ b. (b || (is_within_step at step && nat_le (number row) at.mark)) && true) is) rows ∙ all_there rows

  flown_at : (book : List Entry) → AreFlown at book
  flown_at book = record {
    flown = brought_there (step_of 1 1) sectors_moved;
    fitted = brought_there (step_of 1 2) past;
    sectors = brought_whole (λ (row : SectorRow). row.seq) (sector_rows book) (step_of 1 1) sectors_moved;
    spans = brought_whole (λ (row : SpanRow). row.component) (span_rows book) (step_of 1 2) past;
  }

  -- a file there has the tables of its registers
  pub registers_there : (schema : Schema) → IsUpTo 3 at → HasTablesAt at schema → HasRegistersAt at schema
  registers_there schema up has = record {
    entries = (facts table.Entry).is_in at up refl schema has;
    aircraft = (facts table.Aircraft).is_in at up refl schema has;
    places = (facts table.Place).is_in at up refl schema has;
    components = (facts table.Component).is_in at up refl schema has;
    programmes = (facts table.Programme).is_in at up refl schema has;
    tasks = (facts table.Task).is_in at up refl schema has;
    openings = (facts table.Opening).is_in at up refl schema has;
    releases = (facts table.Crs).is_in at up refl schema has;
    release_lines = (facts table.CrsLine).is_in at up refl schema has;
    deferrals = record { left = λ there. (facts table.Defect).is_in at up there schema has; moved = λ there. (facts table.Defect3).is_in at up there schema has };
    extensions = (facts table.Extension).is_in at up refl schema has;
    sectors = (facts table.Sector2).is_in at up (brought_there (step_of 1 1) sectors_moved) schema has;
    spans = (facts table.Span2).is_in at up (brought_there (step_of 1 2) past) schema has;
  }

  -- what is read of them is the book's
  pub registers_are : (trees : Trees) (rows : FileRows) (book : List Entry) → HasRowsAt at trees book → AreRegistersAt at trees rows → AreRegistersIn rows book
  registers_are trees rows book has are =
      registers_with (AreDeferralsAt at) at trees rows book (flown_at book) are.registers are.spans has (deferrals_read at trees book has rows.registers.rows.deferrals.items are.registers.deferrals)
