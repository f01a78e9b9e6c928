-- The rows that are made of what is known of the lines of a release are those of its lines.
use Rattle.std.proofs.Common.{◌≡◌, ℕ, ◌+◌, ◌/◌, List, [], ◌∷◌, ◌++◌, Option, refl, ap, ◌∙◌}
use Rattle.std.specs.List.{filter_map, cons_option}
use Rattle.std.proofs.lemmas.List.Elements.{filter_map-append}
use Rattle.mx_base.specs.declared.amounts.Limit.{Limit}
use Rattle.mx_base.specs.declared.amounts.Use.{Use}
use Rattle.mx_book.specs.commands.Act.{Entry}
use Rattle.mx_book.specs.declared.commands.release.Line.{Line}
use Rattle.mx_book.specs.declared.commands.release.Line.TheVariants as lines
use Rattle.mx_book.specs.declared.commands.release.Release.{Release}
use Rattle.mx_book.specs.due.Due.{base_done}
use Rattle.mx_book.specs.Life.{life_now, use_or_none}
use Rattle.mx_registers.specs.Lines.{lines_from}
use Rattle.mx_registers.specs.Registers.{release_line_row}
use Rattle.mx_base.specs.rows.Rows.{base_row_with}
use Rattle.mx_base.specs.declared.rows.rows.BaseRow.{BaseRow}
use Rattle.mx_registers.specs.kept.Bases.{base_set}
use Rattle.mx_registers.specs.kept.Changes.{due_at}
use Rattle.mx_registers.specs.kept.Items.{number_of_item}
use Rattle.mx_row_rules.specs.declared.changes.releases.Certified.{Certified}
use Rattle.mx_row_rules.specs.declared.changes.releases.Certified.TheVariants.{Done, Rectified}
use Rattle.mx_row_rules.specs.changes.Certified.{AreKnownOf, IsKnownOf, base_made, line_made}

line_same : (book : List Entry) (r : Release) (seq k : ℕ) (line : Line) (c : Certified) → IsKnownOf book r line c → line_made seq k c ≡ release_line_row book seq k line
line_same book r seq k (lines.Done item task) (Done number id reached due) h =
    ap (λ (n : ℕ). line_made seq k (Done n id reached due)) h.0 ∙ ap (λ (t : List ℕ). line_made seq k (Done (number_of_item book item) t reached due)) h.1
line_same book r seq k (lines.Rectified doc) (Rectified number) h = ap (λ (n : ℕ). line_made seq k (Rectified n)) h
line_same book r seq k (lines.Done item task) (Rectified number) h = absurd h
line_same book r seq k (lines.Rectified doc) (Done number id reached due) h = absurd h

pub lines_same : (book : List Entry) (r : Release) (seq k : ℕ) (certified : List Line) (cs : List Certified) → AreKnownOf book r certified cs → lines_from line_made seq k cs ≡ lines_from (release_line_row book) seq k certified
lines_same book r seq k [] [] h = refl
lines_same book r seq k (line ∷ certified) (c ∷ cs) h =
    ap (λ row. row ∷ lines_from line_made seq (k + 1) cs) (line_same book r seq k line c h.0) ∙ ap (λ l. release_line_row book seq k line ∷ l) (lines_same book r seq (k + 1) certified cs h.1)
lines_same book r seq k [] (c ∷ cs) h = absurd h
lines_same book r seq k (line ∷ certified) [] h = absurd h

base_same : (book : List Entry) (r : Release) (line : Line) (c : Certified) (rest more : List BaseRow) → IsKnownOf book r line c → rest ≡ more → cons_option (base_made (r.moment / 1440) c) rest ≡ cons_option (base_set book r line) more
base_same book r (lines.Done item task) (Done number id reached due) rest more h same =
    let day = r.moment / 1440 in
    let n = number_of_item book item in
    let life = use_or_none (life_now book item) in
    let then = due_at book r.place item task in
    ap (λ (m : ℕ). base_row_with m id (base_done reached day due) ∷ rest) h.0
    ∙ ap (λ (t : List ℕ). base_row_with n t (base_done reached day due) ∷ rest) h.1
    ∙ ap (λ (u : Use). base_row_with n task (base_done u day due) ∷ rest) h.2
    ∙ ap (λ (d : Option Limit). base_row_with n task (base_done life day d) ∷ rest) h.3
    ∙ ap (λ (l : List BaseRow). base_row_with n task (base_done life day then) ∷ l) same
base_same book r (lines.Rectified doc) (Rectified number) rest more h same = same
base_same book r (lines.Done item task) (Rectified number) rest more h same = absurd h
base_same book r (lines.Rectified doc) (Done number id reached due) rest more h same = absurd h

pub bases_same : (book : List Entry) (r : Release) (certified : List Line) (cs : List Certified) → AreKnownOf book r certified cs → filter_map (base_made (r.moment / 1440)) cs ≡ filter_map (base_set book r) certified
bases_same book r [] [] h = refl
bases_same book r (line ∷ certified) (c ∷ cs) h =
    base_same book r line c (filter_map (base_made (r.moment / 1440)) cs) (filter_map (base_set book r) certified) h.0 (bases_same book r certified cs h.1)
bases_same book r [] (c ∷ cs) h = absurd h
bases_same book r (line ∷ certified) [] h = absurd h

-- the last bases of one line more
pub base_more : (day : ℕ) (xs : List Certified) (x : Certified) → filter_map (base_made day) (xs ++ x ∷ []) ≡ filter_map (base_made day) xs ++ cons_option (base_made day x) []
base_more day xs x = filter_map-append (base_made day) xs (x ∷ [])
