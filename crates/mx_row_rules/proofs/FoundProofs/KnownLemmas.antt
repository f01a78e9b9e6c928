-- An entry says the same as a command exactly where its rows are those that the command would have.
use Rattle.std.proofs.Common.{◌≡◌, ◌↔◌, ℕ, List, [], ◌∷◌, true, Some, refl, sym, subst, ap, ap₂, ◌∙◌}
use Rattle.std.specs.Prelude.{is_some, ⊤}
use Rattle.std.specs.List.{AllByRecursion}
use Rattle.mx_book.specs.commands.Act.{Act, Entry, Added, Listed, Loaded, Opened, Flown, Fitted, Removed, Released, Deferred, Extended, aircraft_of, positions_of, component_of, programme_of, tasks_of, opening_of, sector_of, fitting_of, removal_of, release_of, lines_of, deferral_of, extension_of}
use Rattle.mx_book.specs.commands.Same.{same_entry}
use Rattle.mx_book.specs.commands.Shape.{has_shape}
use Rattle.mx_book.specs.declared.commands.aircraft.Aircraft.{Aircraft}
use Rattle.mx_book.specs.declared.commands.component.Component.{Component}
use Rattle.mx_book.specs.declared.commands.programme.Programme.{Programme}
use Rattle.mx_book.specs.declared.commands.programme.Task.{Task}
use Rattle.mx_book.specs.declared.commands.opening.Opening.{Opening}
use Rattle.mx_book.specs.declared.commands.sector.Sector.{Sector}
use Rattle.mx_book.specs.declared.commands.fitting.Fitting.{Fitting}
use Rattle.mx_book.specs.declared.commands.fitting.Removal.{Removal}
use Rattle.mx_book.specs.declared.commands.release.Release.{Release}
use Rattle.mx_book.specs.declared.commands.release.Line.{Line}
use Rattle.mx_book.specs.declared.commands.release.Line.TheVariants.{Done, Rectified}
use Rattle.mx_book.specs.declared.commands.release.Place.{Place}
use Rattle.mx_book.specs.declared.commands.release.Place.TheVariants.{Aircraft as AtAircraft, Shop}
use Rattle.mx_book.specs.declared.commands.deferral.Deferral.{Deferral}
use Rattle.mx_book.specs.declared.commands.deferral.Extension.{Extension}
use Rattle.mx_book.proofs.CommandsProofs.SameLemmas.{entry_same, text_same}
use Rattle.mx_book.specs.Book.{IsBook}
use Rattle.mx_book.specs.Judge.{item_at, known_from}
use Rattle.mx_registers.specs.Merge.{aircraft_said, component_said, programme_said, opening_said, sector_said, fitting_said, removal_said, deferral_said, extension_said, task_lines}
use Rattle.mx_registers.specs.Names.{or_zero, seq_of_tail, seq_of_serial, seq_of_defect, seq_of_item, tail_added, serial_added, defect_deferred}
use Rattle.mx_registers.specs.Registers.{kind_in_shop, aircraft_row, place_row, component_row, programme_row, task_row, opening_row, sector_row, fitting_row, removal_row, release_row, release_line_row, deferral_row, extension_row}
use Rattle.mx_base.specs.declared.rows.rows.PlaceRow.{PlaceRow}
use Rattle.mx_base.specs.declared.rows.rows.OpeningRow.{OpeningRow}
use Rattle.mx_base.specs.declared.rows.rows.SectorRow.{SectorRow}
use Rattle.mx_base.specs.declared.rows.rows.FittingRow.{FittingRow}
use Rattle.mx_base.specs.declared.rows.rows.RemovalRow.{RemovalRow}
use Rattle.mx_base.specs.declared.rows.rows.ReleaseRow.{ReleaseRow}
use Rattle.mx_base.specs.declared.rows.rows.ReleaseLineRow.{ReleaseLineRow}
use Rattle.mx_base.specs.declared.rows.rows.DeferralRow.{DeferralRow}
use Rattle.mx_base.specs.declared.rows.rows.ExtensionRow.{ExtensionRow}
use Rattle.mx_registers.proofs.TakeLemmas.{IsSaid, same_some}
use Rattle.mx_registers.proofs.TaskLemmas.{tasks_said}
use Rattle.mx_row_rules.specs.found.Given.{seq_of_line, Register, found, AreSame, aircraft, places, components, programmes, tasks, openings, sectors, fittings, removals, releases, release_lines, deferrals, extensions}
use Rattle.mx_row_rules.proofs.FoundProofs.ListLemmas.{one_of, lines_once}
use Rattle.mx_row_rules.proofs.FoundProofs.NumberLemmas.{once, item_once}
use Rattle.mx_row_rules.proofs.FoundProofs.RowLemmas.{Named, IsRegister, aircraft_law, places_law, components_law, programmes_law, tasks_law, openings_law, sectors_law, fittings_law, removals_law, releases_law, release_lines_law, deferrals_law, extensions_law}
use Rattle.mx_row_rules.proofs.FoundProofs.EntryLemmas.{known_is_at, known_named, named_in, rows_found, shape_at}

-- ── what a command says, by a part of it ──

is_added : (act : Act) (x : Aircraft) → aircraft_of act ≡ Some x → act ≡ Added x (positions_of act)
is_added (Added a ps) x h = ap (λ (y : Aircraft). Added y ps) (same_some h)
is_added _ x h = absurd cc

is_listed : (act : Act) (x : Component) → component_of act ≡ Some x → act ≡ Listed x
is_listed (Listed c) x h = ap Listed (same_some h)
is_listed _ x h = absurd cc

is_loaded : (act : Act) (x : Programme) → programme_of act ≡ Some x → act ≡ Loaded x (tasks_of act)
is_loaded (Loaded p ts) x h = ap (λ (y : Programme). Loaded y ts) (same_some h)
is_loaded _ x h = absurd cc

is_opened : (act : Act) (x : Opening) → opening_of act ≡ Some x → act ≡ Opened x
is_opened (Opened o) x h = ap Opened (same_some h)
is_opened _ x h = absurd cc

is_flown : (act : Act) (x : Sector) → sector_of act ≡ Some x → act ≡ Flown x
is_flown (Flown s) x h = ap Flown (same_some h)
is_flown _ x h = absurd cc

is_fitted : (act : Act) (x : Fitting) → fitting_of act ≡ Some x → act ≡ Fitted x
is_fitted (Fitted f) x h = ap Fitted (same_some h)
is_fitted _ x h = absurd cc

is_removed : (act : Act) (x : Removal) → removal_of act ≡ Some x → act ≡ Removed x
is_removed (Removed r) x h = ap Removed (same_some h)
is_removed _ x h = absurd cc

is_released : (act : Act) (x : Release) → release_of act ≡ Some x → act ≡ Released x (lines_of act)
is_released (Released r ls) x h = ap (λ (y : Release). Released y ls) (same_some h)
is_released _ x h = absurd cc

is_deferred : (act : Act) (x : Deferral) → deferral_of act ≡ Some x → act ≡ Deferred x
is_deferred (Deferred d) x h = ap Deferred (same_some h)
is_deferred _ x h = absurd cc

is_extended : (act : Act) (x : Extension) → extension_of act ≡ Some x → act ≡ Extended x
is_extended (Extended y) x h = ap Extended (same_some h)
is_extended _ x h = absurd cc

-- ── one thing for each row ──

place_once : (n line : ℕ) (x y : List ℕ × List ℕ) → ⊤ → ⊤ → place_row n line x ≡ place_row n line y → x ≡ y
place_once n line x y p q h = ap (λ (r : PlaceRow). (r.position, r.part)) h

any_place : (xs : List (List ℕ × List ℕ)) → AllByRecursion (λ x. ⊤) xs
any_place [] = tt
any_place (x ∷ xs) = (tt, any_place xs)

any_line : (xs : List Line) → AllByRecursion (λ x. ⊤) xs
any_line [] = tt
any_line (x ∷ xs) = (tt, any_line xs)

task_once : (n line : ℕ) (x y : Task) → IsSaid task_lines task_row x → IsSaid task_lines task_row y → task_row n line x ≡ task_row n line y → x ≡ y
task_once n line x y p q h = same_some (sym (p n line) ∙ ap task_lines.said h ∙ q n line)

line_once : (book : List Entry) (n line : ℕ) (x y : Line) → is_some (seq_of_line book x) ≡ true → ⊤ → release_line_row book n line x ≡ release_line_row book n line y → x ≡ y
line_once book n line (Done a s) (Done b t) p q h =
    ap₂ Done (item_once book a b p (same_some (ap (λ (r : ReleaseLineRow). r.item) h))) (same_some (ap (λ (r : ReleaseLineRow). r.task) h))
line_once book n line (Rectified a) (Rectified b) p q h = ap Rectified (once defect_deferred book a b p (same_some (ap (λ (r : ReleaseLineRow). r.defect) h)))
line_once book n line (Done a s) (Rectified b) p q h = absurd (let no = ap (λ (r : ReleaseLineRow). r.item) h in cc)
line_once book n line (Rectified a) (Done b t) p q h = absurd (let no = ap (λ (r : ReleaseLineRow). r.item) h in cc)

shop_once : (a b : Place) → kind_in_shop a ≡ kind_in_shop b → item_at a ≡ item_at b → a ≡ b
shop_once (AtAircraft a) (AtAircraft b) h e = let same : a ≡ b = cc in ap AtAircraft same
shop_once (Shop a k) (Shop b l) h e = let same : a ≡ b = cc in ap₂ Shop same (same_some h)
shop_once (AtAircraft a) (Shop b l) h e = absurd cc
shop_once (Shop a k) (AtAircraft b) h e = absurd cc

released : Place → ℕ → List Line → Act
released place moment lines = Released (record { place = place; moment = moment }) lines

-- ── one command for the rows, of those whose things have numbers ──

-- the rows of one command are those of another, in each table of the other's kind
abbrev Alike : List Entry → ℕ → Act → Act → Type 0
Alike book n a (Added b positions) = (aircraft.given n book a ≡ aircraft.given n book (Added b positions)) × (places.given n book a ≡ places.given n book (Added b positions))
Alike book n a (Listed c) = components.given n book a ≡ components.given n book (Listed c)
Alike book n a (Loaded p ts) = (programmes.given n book a ≡ programmes.given n book (Loaded p ts)) × (tasks.given n book a ≡ tasks.given n book (Loaded p ts))
Alike book n a (Opened o) = openings.given n book a ≡ openings.given n book (Opened o)
Alike book n a (Flown s) = sectors.given n book a ≡ sectors.given n book (Flown s)
Alike book n a (Fitted f) = fittings.given n book a ≡ fittings.given n book (Fitted f)
Alike book n a (Removed r) = removals.given n book a ≡ removals.given n book (Removed r)
Alike book n a (Released r lines) = (releases.given n book a ≡ releases.given n book (Released r lines)) × (release_lines.given n book a ≡ release_lines.given n book (Released r lines))
Alike book n a (Deferred d) = deferrals.given n book a ≡ deferrals.given n book (Deferred d)
Alike book n a (Extended x) = extensions.given n book a ≡ extensions.given n book (Extended x)

named_lines : (book : List Entry) (act : Act) (r : Release) → Named book act → act ≡ Released r (lines_of act) → Named book (Released r (lines_of act))
named_lines book act r h e = subst (Named book) e h

one_act : (book : List Entry) (n : ℕ) (doc other : List ℕ) (a : Act) → has_shape (record { doc = doc; act = a }) ≡ true → Named book a → (b : Act) → has_shape (record { doc = other; act = b }) ≡ true → Alike book n a b → a ≡ b
one_act book n doc other a shape named (Added b positions) shaped h =
    let k = one_of (aircraft_row n) (aircraft_of a) (aircraft_row n b) h.0 in
    is_added a k.0 k.1.0
    ∙ ap₂ aircraft_said k.1.1 (lines_once place_row (λ _. ⊤) (λ _. ⊤) place_once n 1 (positions_of a) positions (any_place (positions_of a)) (any_place positions) h.1)
one_act book n doc other a shape named (Listed c) shaped h =
    let k = one_of (component_row n) (component_of a) (component_row n c) h in
    is_listed a k.0 k.1.0 ∙ ap component_said k.1.1
one_act book n doc other a shape named (Loaded p ts) shaped h =
    let k = one_of (programme_row n) (programme_of a) (programme_row n p) h.0 in
    let is = is_loaded a k.0 k.1.0 in
    let said = tasks_said doc k.0 (tasks_of a) (subst (λ (x : Act). has_shape (record { doc = doc; act = x }) ≡ true) is shape) in
    is ∙ ap₂ programme_said k.1.1 (lines_once task_row (IsSaid task_lines task_row) (IsSaid task_lines task_row) task_once n 1 (tasks_of a) ts said (tasks_said other p ts shaped) h.1)
one_act book n doc other a shape named (Opened o) shaped h =
    let k = one_of (λ (x : Opening). opening_row n (or_zero (seq_of_item book x.item)) x) (opening_of a) (opening_row n (or_zero (seq_of_item book o.item)) o) h in
    let is = is_opened a k.0 k.1.0 in
    is ∙ ap₂ opening_said k.1.1 (item_once book k.0.item o.item (subst (Named book) is named) (ap (λ (r : OpeningRow). r.item) k.1.1))
one_act book n doc other a shape named (Flown s) shaped h =
    let k = one_of (λ (x : Sector). sector_row n (or_zero (seq_of_tail book x.tail)) x) (sector_of a) (sector_row n (or_zero (seq_of_tail book s.tail)) s) h in
    let is = is_flown a k.0 k.1.0 in
    is ∙ ap₂ sector_said k.1.1 (once tail_added book k.0.tail s.tail (subst (Named book) is named) (ap (λ (r : SectorRow). r.aircraft) k.1.1))
one_act book n doc other a shape named (Fitted f) shaped h =
    let k = one_of (λ (x : Fitting). fitting_row n (or_zero (seq_of_serial book x.serial)) (or_zero (seq_of_tail book x.tail)) x) (fitting_of a) (fitting_row n (or_zero (seq_of_serial book f.serial)) (or_zero (seq_of_tail book f.tail)) f) h in
    let is = is_fitted a k.0 k.1.0 in
    let there = subst (Named book) is named in
    let serial = once serial_added book k.0.serial f.serial there.0 (ap (λ (r : FittingRow). r.component) k.1.1) in
    let tail = once tail_added book k.0.tail f.tail there.1 (ap (λ (r : FittingRow). r.aircraft) k.1.1) in
    is ∙ ap (λ (r : FittingRow). fitting_said r k.0.serial k.0.tail) k.1.1 ∙ ap₂ (λ (s t : List ℕ). Fitted (record { serial = s; tail = t; position = f.position; moment = f.moment })) serial tail
one_act book n doc other a shape named (Removed r) shaped h =
    let k = one_of (λ (x : Removal). removal_row n (or_zero (seq_of_serial book x.serial)) x) (removal_of a) (removal_row n (or_zero (seq_of_serial book r.serial)) r) h in
    let is = is_removed a k.0 k.1.0 in
    is ∙ ap₂ removal_said k.1.1 (once serial_added book k.0.serial r.serial (subst (Named book) is named) (ap (λ (x : RemovalRow). x.component) k.1.1))
one_act book n doc other a shape named (Released r lines) shaped h =
    let k = one_of (λ (x : Release). release_row n (or_zero (seq_of_item book (item_at x.place))) x) (release_of a) (release_row n (or_zero (seq_of_item book (item_at r.place))) r) h.0 in
    let is = is_released a k.0 k.1.0 in
    let there = subst (Named book) is named in
    let place = shop_once k.0.place r.place (ap (λ (x : ReleaseRow). x.kind) k.1.1) (item_once book (item_at k.0.place) (item_at r.place) there.0 (ap (λ (x : ReleaseRow). x.item) k.1.1)) in
    let same = lines_once (release_line_row book) (λ x. is_some (seq_of_line book x) ≡ true) (λ _. ⊤) (line_once book) n 1 (lines_of a) lines there.1 (any_line lines) h.1 in
    is ∙ ap₂ (λ (p : Place) (m : ℕ). Released (record { place = p; moment = m }) (lines_of a)) place (ap (λ (x : ReleaseRow). x.moment) k.1.1) ∙ ap (Released r) same
one_act book n doc other a shape named (Deferred d) shaped h =
    let k = one_of (λ (x : Deferral). deferral_row n (or_zero (seq_of_tail book x.tail)) x) (deferral_of a) (deferral_row n (or_zero (seq_of_tail book d.tail)) d) h in
    let is = is_deferred a k.0 k.1.0 in
    is ∙ ap₂ deferral_said k.1.1 (once tail_added book k.0.tail d.tail (subst (Named book) is named) (ap (λ (r : DeferralRow). r.aircraft) k.1.1))
one_act book n doc other a shape named (Extended x) shaped h =
    let k = one_of (λ (y : Extension). extension_row n (or_zero (seq_of_defect book y.defect)) y) (extension_of a) (extension_row n (or_zero (seq_of_defect book x.defect)) x) h in
    let is = is_extended a k.0 k.1.0 in
    is ∙ ap₂ extension_said k.1.1 (once defect_deferred book k.0.defect x.defect (subst (Named book) is named) (ap (λ (r : ExtensionRow). r.defect) k.1.1))

alike : (book : List Entry) (n : ℕ) (act : Act) → Alike book n act act
alike book n (Added a positions) = (refl, refl)
alike book n (Listed c) = refl
alike book n (Loaded p ts) = (refl, refl)
alike book n (Opened o) = refl
alike book n (Flown s) = refl
alike book n (Fitted f) = refl
alike book n (Removed r) = refl
alike book n (Released r lines) = (refl, refl)
alike book n (Deferred d) = refl
alike book n (Extended x) = refl

-- ── by the rows that are found ──

module _ (book : List Entry) (b : IsBook book) (doc : List ℕ) (n : ℕ) (e : Entry) (known : known_from doc 1 book ≡ Some (n, e)) where
  at : {Row : Type 0} (register : Register Row) → IsRegister register → found register book n ≡ register.given n book e.act
  at register law = rows_found register law book n e (known_is_at book b doc n e known)

  alike_found : (act : Act) → AreSame book n act → Alike book n e.act act
  alike_found (Added a positions) h = (sym (at aircraft aircraft_law) ∙ h.0, sym (at places places_law) ∙ h.1)
  alike_found (Listed c) h = sym (at components components_law) ∙ h
  alike_found (Loaded p ts) h = (sym (at programmes programmes_law) ∙ h.0, sym (at tasks tasks_law) ∙ h.1)
  alike_found (Opened o) h = sym (at openings openings_law) ∙ h
  alike_found (Flown s) h = sym (at sectors sectors_law) ∙ h
  alike_found (Fitted f) h = sym (at fittings fittings_law) ∙ h
  alike_found (Removed r) h = sym (at removals removals_law) ∙ h
  alike_found (Released r lines) h = (sym (at releases releases_law) ∙ h.0, sym (at release_lines release_lines_law) ∙ h.1)
  alike_found (Deferred d) h = sym (at deferrals deferrals_law) ∙ h
  alike_found (Extended x) h = sym (at extensions extensions_law) ∙ h

  found_alike : (act : Act) → Alike book n e.act act → AreSame book n act
  found_alike (Added a positions) h = (at aircraft aircraft_law ∙ h.0, at places places_law ∙ h.1)
  found_alike (Listed c) h = at components components_law ∙ h
  found_alike (Loaded p ts) h = (at programmes programmes_law ∙ h.0, at tasks tasks_law ∙ h.1)
  found_alike (Opened o) h = at openings openings_law ∙ h
  found_alike (Flown s) h = at sectors sectors_law ∙ h
  found_alike (Fitted f) h = at fittings fittings_law ∙ h
  found_alike (Removed r) h = at removals removals_law ∙ h
  found_alike (Released r lines) h = (at releases releases_law ∙ h.0, at release_lines release_lines_law ∙ h.1)
  found_alike (Deferred d) h = at deferrals deferrals_law ∙ h
  found_alike (Extended x) h = at extensions extensions_law ∙ h

entry_of : (doc other : List ℕ) (a b : Act) → doc ≡ other → a ≡ b → ◌≡◌ {A = Entry} (record { doc = doc; act = a }) (record { doc = other; act = b })
entry_of doc other a b h e = ap₂ (λ (d : List ℕ) (x : Act). record { doc = d; act = x }) h e

-- the entry that has a command's document says the same exactly where its rows are those that the command would have
pub known_rows : (book : List Entry) (command : Entry) (n : ℕ) (e : Entry) → IsBook book → has_shape command ≡ true → known_from command.doc 1 book ≡ Some (n, e) → (same_entry e command ≡ true) ↔ AreSame book n command.act
known_rows book command n e b shape known =
    let it = known_is_at book b command.doc n e known in
    let doc = (text_same e.doc command.doc).0 (known_named book command.doc n e known) in
    let shaped = shape_at book n e b it in (
      λ same. found_alike book b command.doc n e known command.act (subst (λ (x : Entry). Alike book n e.act x.act) ((entry_same e command).0 same) (alike book n e.act)),
      λ rows. (entry_same e command).1 (entry_of e.doc command.doc e.act command.act doc
          (one_act book n e.doc command.doc e.act shaped (named_in book n e it) command.act shape (alike_found book b command.doc n e known command.act rows))),
    )
