-- A walk through fittings from the last, which takes the removals behind each into a map.
use Rattle.std.proofs.Common.{◌≡◌, inl, inr, ℕ, ◌+◌, ◌≤◌, ◌<◌, Bool, true, false, cond, ◌&&◌, List, [], ◌∷◌, ◌++◌, length, map, reverse, Some, refl, sym, ap, subst, ◌∙◌, arith, append_assoc, append-nil}
use Rattle.std.specs.Prelude.{find, nat_lt}
use Rattle.std.specs.BTreeMap.{BTreeMap, get, is_at, IsEmpty}
use Rattle.std.specs.Map.{lookup}
use Rattle.std.specs.List.{AllByRecursion}
use Rattle.std.specs.Option.{option_or}
use Rattle.std.specs.Ordering.{nat_cmp}
use Rattle.std.proofs.lemmas.List.{reverse-append}
use Rattle.std.proofs.lemmas.List.Folds.{find-append}
use Rattle.std.proofs.lemmas.Bool.Decides.{nat_tests}
use Rattle.mx_base.specs.rows.Rising.{IsRising}
use Rattle.mx_base.specs.declared.rows.rows.FittingRow.{FittingRow}
use Rattle.mx_base.specs.declared.rows.rows.RemovalRow.{RemovalRow}
use Rattle.mx_base.specs.declared.rows.rows.SpanRow.{SpanRow}
use Rattle.mx_registers.specs.file.Spans.{EndsBefore, HasPut, is_behind, is_of, span_by, span_made, spans_made}
use Rattle.mx_registers.proofs.FileProofs.SpansMade.{all_below, none_before}

-- ── the front of a rising list ──

module _ {Row : Type 0} (key : Row → ℕ) where
  -- before its last row a list rises below that
  pub front_rises : (low high : ℕ) (rows : List Row) (last : Row) → IsRising key low (rows ++ last ∷ []) high → IsRising key low rows (key last)
  front_rises low high [] last up = up.0
  front_rises low high (row ∷ rows) last up = (up.0, front_rises (key row + 1) high rows last up.1)

  -- and with it it rises up to that
  pub rises_to_last : (low high : ℕ) (rows : List Row) (last : Row) → IsRising key low (rows ++ last ∷ []) high → IsRising key low (rows ++ last ∷ []) (key last + 1)
  rises_to_last low high [] last up = (up.0, omega arith)
  rises_to_last low high (row ∷ rows) last up = (up.0, rises_to_last (key row + 1) high rows last up.1)

  pub last_below : (low high : ℕ) (rows : List Row) (last : Row) → IsRising key low (rows ++ last ∷ []) high → key last < high
  last_below low high [] last up = let k = up.1 in omega arith
  last_below low high (row ∷ rows) last up = last_below (key row + 1) high rows last up.1

-- ── the walk ──

-- the fittings and removals so far: those that are left rise, the spans that are made are those of the other fittings, and the map has the first of the other removals of each component, all of which come behind the fittings that are left
pub record Walks (fittings : List FittingRow) (removals : List RemovalRow) (rest : List FittingRow) (left : List RemovalRow) (ends : BTreeMap ℕ RemovalRow) (made : List SpanRow) : Type 0 where
  pub later : List FittingRow
  pub taken : List RemovalRow
  pub high : ℕ
  pub top : ℕ
  pub fittings_are : fittings ≡ rest ++ later
  pub removals_are : removals ≡ left ++ taken
  pub made_are : reverse made ≡ map (span_made removals) later
  pub ends_are : (component : ℕ) → get nat_cmp ends component ≡ find (is_of component) taken
  pub rest_rises : IsRising (λ (row : FittingRow). row.seq) 0 rest high
  pub left_rises : IsRising (λ (row : RemovalRow). row.seq) 0 left top
  pub behind : AllByRecursion (λ (row : RemovalRow). high ≤ row.seq) taken

weaker : (low high : ℕ) (rows : List RemovalRow) → low ≤ high → AllByRecursion (λ (row : RemovalRow). high ≤ row.seq) rows → AllByRecursion (λ (row : RemovalRow). low ≤ row.seq) rows
weaker low high [] h all = tt
weaker low high (row ∷ rows) h all = (omega (arith, h, all.0), weaker low high rows h all.1)

pub starts : (fittings : List FittingRow) (removals : List RemovalRow) (ends : BTreeMap ℕ RemovalRow) (made : List SpanRow) (high : ℕ) → made ≡ [] → IsEmpty ends
    → IsRising (λ (row : FittingRow). row.seq) 0 fittings high → IsRising (λ (row : RemovalRow). row.seq) 0 removals high → Walks fittings removals fittings removals ends made
starts fittings removals ends made high none empty up late = record {
  later = [];
  taken = [];
  high = high;
  top = high;
  fittings_are = sym (append-nil fittings);
  removals_are = sym (append-nil removals);
  made_are = ap reverse none;
  ends_are = λ component. ap (lookup (is_at (nat_cmp component))) empty;
  rest_rises = up;
  left_rises = late;
  behind = tt;
}

-- a removal behind the last fitting that is left goes into the map
pub takes : (fittings : List FittingRow) (removals : List RemovalRow) (rest earlier : List FittingRow) (fitting : FittingRow) (left before : List RemovalRow) (removal : RemovalRow) (ends ends' : BTreeMap ℕ RemovalRow) (made : List SpanRow)
    → rest ≡ earlier ++ fitting ∷ [] → left ≡ before ++ removal ∷ [] → fitting.seq < removal.seq → HasPut removal ends ends' → Walks fittings removals rest left ends made → Walks fittings removals rest before ends' made
takes fittings removals rest earlier fitting left before removal ends ends' made rest_is left_is later put w =
    let up : IsRising (λ (row : FittingRow). row.seq) 0 (earlier ++ fitting ∷ []) w.high = subst (λ (rows : List FittingRow). IsRising (λ (row : FittingRow). row.seq) 0 rows w.high) rest_is w.rest_rises in
    let late : IsRising (λ (row : RemovalRow). row.seq) 0 (before ++ removal ∷ []) w.top = subst (λ (rows : List RemovalRow). IsRising (λ (row : RemovalRow). row.seq) 0 rows w.top) left_is w.left_rises in
    let below = last_below (λ (row : FittingRow). row.seq) 0 w.high earlier fitting up in
    record {
      later = w.later;
      taken = removal ∷ w.taken;
      high = fitting.seq + 1;
      top = removal.seq;
      fittings_are = w.fittings_are;
      removals_are = w.removals_are ∙ ap (λ rows. rows ++ w.taken) left_is ∙ append_assoc before (removal ∷ []) w.taken;
      made_are = w.made_are;
      ends_are = λ component. put component ∙ ap (λ o. cond (is_of component removal) (Some removal) o) (w.ends_are component);
      rest_rises = subst (λ (rows : List FittingRow). IsRising (λ (row : FittingRow). row.seq) 0 rows (fitting.seq + 1)) (sym rest_is) (rises_to_last (λ (row : FittingRow). row.seq) 0 w.high earlier fitting up);
      left_rises = front_rises (λ (row : RemovalRow). row.seq) 0 w.top before removal late;
      behind = (omega arith, weaker (fitting.seq + 1) w.high w.taken (omega arith) w.behind);
    }

both_behind : (n m : ℕ) (b : Bool) → n < m → b && nat_lt n m ≡ b
both_behind n m true h = grind (arith, nat_tests)
both_behind n m false h = refl

-- of removals behind a fitting the first of its component ends its span
first_behind : (fitting : FittingRow) (removals : List RemovalRow) → AllByRecursion (λ (row : RemovalRow). fitting.seq + 1 ≤ row.seq) removals → find (is_behind fitting) removals ≡ find (is_of fitting.component) removals
first_behind fitting [] all = refl
first_behind fitting (r ∷ removals) all =
    ap (λ b. cond b (Some r) (find (is_behind fitting) removals)) (both_behind fitting.seq r.seq (is_of fitting.component r) (omega (arith, all.0)))
    ∙ ap (λ o. cond (is_of fitting.component r) (Some r) o) (first_behind fitting removals all.1)

lower : (seq bound : ℕ) (rows : List RemovalRow) → bound ≤ seq + 1 → AllByRecursion (λ (row : RemovalRow). row.seq < bound) rows → AllByRecursion (λ (row : RemovalRow). row.seq < seq + 1) rows
lower seq bound [] h all = tt
lower seq bound (row ∷ rows) h all = (omega (arith, h, all.0), lower seq bound rows h all.1)

-- no removal that is left comes behind the fitting
left_before : (seq top : ℕ) (left : List RemovalRow) → IsRising (λ (row : RemovalRow). row.seq) 0 left top → EndsBefore seq left → AllByRecursion (λ (row : RemovalRow). row.seq < seq + 1) left
left_before seq top left up (inl none) = subst (λ (rows : List RemovalRow). AllByRecursion (λ (row : RemovalRow). row.seq < seq + 1) rows) (sym none) tt
left_before seq top left up (inr found) =
    let is = found.2 in
    let last = found.0 in
    let earlier = found.1 in
    let h : last.seq ≤ seq = found.3 in
    let rises : IsRising (λ (row : RemovalRow). row.seq) 0 (earlier ++ last ∷ []) top = subst (λ (rows : List RemovalRow). IsRising (λ (row : RemovalRow). row.seq) 0 rows top) is up in
    lower seq (last.seq + 1) left (omega arith) (subst (λ (rows : List RemovalRow). AllByRecursion (λ (row : RemovalRow). row.seq < last.seq + 1) rows) (sym is) (all_below (λ (row : RemovalRow). row.seq) 0 (last.seq + 1) (earlier ++ last ∷ []) (rises_to_last (λ (row : RemovalRow). row.seq) 0 top earlier last rises)))

reversed : (rows : List SpanRow) (row : SpanRow) → reverse (rows ++ row ∷ []) ≡ row ∷ reverse rows
reversed rows row = reverse-append rows (row ∷ [])

-- where none is, the span of the fitting ends with what the map has for its component
pub makes : (fittings : List FittingRow) (removals : List RemovalRow) (rest earlier : List FittingRow) (fitting : FittingRow) (left : List RemovalRow) (ends : BTreeMap ℕ RemovalRow) (made made' : List SpanRow)
    → rest ≡ earlier ++ fitting ∷ [] → EndsBefore fitting.seq left → made' ≡ made ++ span_by fitting (get nat_cmp ends fitting.component) ∷ [] → Walks fittings removals rest left ends made → Walks fittings removals earlier left ends made'
makes fittings removals rest earlier fitting left ends made made' rest_is before pushed w =
    let up : IsRising (λ (row : FittingRow). row.seq) 0 (earlier ++ fitting ∷ []) w.high = subst (λ (rows : List FittingRow). IsRising (λ (row : FittingRow). row.seq) 0 rows w.high) rest_is w.rest_rises in
    let below = last_below (λ (row : FittingRow). row.seq) 0 w.high earlier fitting up in
    let none = none_before fitting (fitting.seq + 1) left (omega arith) (left_before fitting.seq w.top left w.left_rises before) in
    let found : find (is_behind fitting) removals ≡ get nat_cmp ends fitting.component =
    ap (find (is_behind fitting)) w.removals_are
    ∙ find-append (is_behind fitting) left w.taken
    ∙ ap (λ o. option_or o (find (is_behind fitting) w.taken)) none
    ∙ first_behind fitting w.taken (weaker (fitting.seq + 1) w.high w.taken (omega arith) w.behind)
    ∙ sym (w.ends_are fitting.component) in
    record {
      later = fitting ∷ w.later;
      taken = w.taken;
      high = fitting.seq;
      top = w.top;
      fittings_are = w.fittings_are ∙ ap (λ rows. rows ++ w.later) rest_is ∙ append_assoc earlier (fitting ∷ []) w.later;
      removals_are = w.removals_are;
      made_are = ap reverse pushed ∙ reversed made (span_by fitting (get nat_cmp ends fitting.component)) ∙ ap (λ o. span_by fitting o ∷ reverse made) (sym found) ∙ ap (λ rows. span_made removals fitting ∷ rows) w.made_are;
      ends_are = w.ends_are;
      rest_rises = front_rises (λ (row : FittingRow). row.seq) 0 w.high earlier fitting up;
      left_rises = w.left_rises;
      behind = weaker fitting.seq w.high w.taken (omega arith) w.behind;
    }

no_rows : (rows : List FittingRow) → length rows ≡ 0 → rows ≡ []
no_rows [] h = refl
no_rows (row ∷ rows) h = absurd (omega arith)

-- behind the first fitting all spans are made
pub walked : (fittings : List FittingRow) (removals : List RemovalRow) (rest : List FittingRow) (left : List RemovalRow) (ends : BTreeMap ℕ RemovalRow) (made : List SpanRow) → length rest ≡ 0 → Walks fittings removals rest left ends made → reverse made ≡ spans_made fittings removals
walked fittings removals rest left ends made none w = w.made_are ∙ ap (map (span_made removals)) (sym (w.fittings_are ∙ ap (λ rows. rows ++ w.later) (no_rows rest none)))
