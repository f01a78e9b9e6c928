-- The schema of a file at a point: it is that of its layout and of a file's statements, and has the tables of the family there.
use Rattle.std.proofs.Common.{◌≡◌, ◌∙◌, ◌<◌, inl, inr, ℕ, suc, zero, Bool, true, false, cond, List, [], ◌∷◌, ◌++◌, map, refl, sym, ap, subst, arith, slice_index_or}
use Rattle.std.specs.Prelude.{◌↔◌, filter, All, Contains}
use Rattle.std.proofs.lemmas.List.{length-map}
use Rattle.std.proofs.lemmas.List.Elements.{All-append, All-contains, All-from_recursion, Contains-append_left, Contains-append_right}
use Rattle.sqlite.specs.Table.{Table}
use Rattle.sqlite_tied.specs.Compute.{everything}
use Rattle.mx_base.specs.declared.point.Point.{Point}
use Rattle.mx_base.specs.Settled.{settled}
use Rattle.mx_layout.specs.Names.{table_named}
use Rattle.mx_layout.specs.Steps.{IsLayout, schema_after, schema_of}
use Rattle.mx_layout.specs.TableName.{TableName}
use Rattle.mx_layout.specs.declared.fault.Table.TheVariants as table
use Rattle.mx_layout.proofs.TreeLemmas.{same_tree}
use Rattle.mx_book_tables.specs.stands.Family.{is_at, own_names}
use Rattle.mx_book_tables.specs.stands.Schemas.{IsOfFile, IsUpTo, schema_at, statements_at}
use Rattle.mx_book_tables.proofs.StandsProofs.PointLemmas.{by_point, file_is_up_to_3}
use lib.ListN.{get_or-map}

-- ── which schema it is ──

pub settled_schema : (layout : ℕ) → IsLayout layout → schema_at (settled layout) ≡ schema_of layout
settled_schema layout (inl one) = subst (λ l. schema_at (settled l) ≡ schema_of l) (sym one) refl
settled_schema layout (inr (inl two)) = subst (λ l. schema_at (settled l) ≡ schema_of l) (sym two) refl
settled_schema layout (inr (inr three)) = subst (λ l. schema_at (settled l) ≡ schema_of l) (sym three) refl

pub point_schema : (at : Point) → IsUpTo 3 at → schema_at at ≡ schema_after (statements_at at)
unfolding everything
point_schema = by_point (λ at. schema_at at ≡ schema_after (statements_at at)) refl (λ mark. refl) (λ mark. refl) (λ mark. refl) (λ mark. refl) refl (λ mark. refl) (λ mark. refl) refl

pub file_schema : (at : Point) → IsOfFile at → schema_at at ≡ schema_after (statements_at at)
file_schema at file = point_schema at (file_is_up_to_3 at file)

-- ── lists ──

mapped_in : {X Y : Type 0} (f : X → Y) (xs : List X) (x : X) → Contains xs x → Contains (map f xs) (f x)
mapped_in f xs x (k, low, e) = (k, subst (λ n. k < n) (sym (length-map xs f)) low, get_or-map f xs k x ∙ ap f e)

filtered_in : {X : Type 0} (p : X → Bool) (xs : List X) (x : X) → Contains xs x → p x ≡ true → Contains (filter p xs) x
filtered_in p [] x (k, low, e) h = absurd (omega arith)
filtered_in p (y ∷ ys) x (zero, low, e) h =
    subst (λ b. Contains (cond b (y ∷ filter p ys) (filter p ys)) x) (sym (ap p e ∙ h)) (0, omega arith, e)
filtered_in p (y ∷ ys) x (suc k, low, e) h = at (p y) (filtered_in p ys x (k, omega arith, e) h)
  where
    at : (b : Bool) → Contains (filter p ys) x → Contains (cond b (y ∷ filter p ys) (filter p ys)) x
    at true rest = Contains-append_right (y ∷ []) (filter p ys) x rest
    at false rest = rest

all_filtered : {X : Type 0} (p : X → Bool) (xs : List X) → All (λ x. p x ≡ true) (filter p xs)
all_filtered p [] = λ i d low. absurd (omega arith)
all_filtered p (x ∷ xs) = at (p x) refl (all_filtered p xs)
  where
    at : (b : Bool) → p x ≡ b → All (λ y. p y ≡ true) (filter p xs) → All (λ y. p y ≡ true) (cond b (x ∷ filter p xs) (filter p xs))
    at true is rest = All-append (λ y. p y ≡ true) (x ∷ []) (filter p xs) (All-from_recursion (λ y. p y ≡ true) (x ∷ []) (is, tt)) rest
    at false is rest = rest

-- ── which tables it has ──

-- the names of the tables that each file has, in the order of the schema
abbrev first_names : List TableName
first_names = table.Office ∷ table.Entry ∷ table.Aircraft ∷ table.Place ∷ table.Component ∷ table.Programme ∷ table.Task ∷ table.Opening ∷ table.Crs ∷ table.CrsLine ∷ table.Extension ∷ []

-- the names of all tables of a file at a point
abbrev names_at : Point → List TableName
names_at at = first_names ++ filter (is_at at) own_names

first_at : (at : Point) (name : TableName) → Contains first_names name → Contains (names_at at) name
first_at at name = Contains-append_left first_names (filter (is_at at) own_names) name

own_there : (at : Point) (name : TableName) → Contains own_names name → is_at at name ≡ true → Contains (names_at at) name
own_there at name own h = Contains-append_right first_names (filter (is_at at) own_names) name (filtered_in (is_at at) own_names name own h)

named_there : (at : Point) (name : TableName) → is_at at name ≡ true → Contains (names_at at) name
named_there at table.Office h = first_at at table.Office (0, omega arith, refl)
named_there at table.Entry h = first_at at table.Entry (1, omega arith, refl)
named_there at table.Aircraft h = first_at at table.Aircraft (2, omega arith, refl)
named_there at table.Place h = first_at at table.Place (3, omega arith, refl)
named_there at table.Component h = first_at at table.Component (4, omega arith, refl)
named_there at table.Programme h = first_at at table.Programme (5, omega arith, refl)
named_there at table.Task h = first_at at table.Task (6, omega arith, refl)
named_there at table.Opening h = first_at at table.Opening (7, omega arith, refl)
named_there at table.Crs h = first_at at table.Crs (8, omega arith, refl)
named_there at table.CrsLine h = first_at at table.CrsLine (9, omega arith, refl)
named_there at table.Extension h = first_at at table.Extension (10, omega arith, refl)
named_there at table.Defect h = own_there at table.Defect (0, omega arith, refl) h
named_there at table.Sector1 h = own_there at table.Sector1 (1, omega arith, refl) h
named_there at table.Fit1 h = own_there at table.Fit1 (2, omega arith, refl) h
named_there at table.Removal1 h = own_there at table.Removal1 (3, omega arith, refl) h
named_there at table.Sector2 h = own_there at table.Sector2 (4, omega arith, refl) h
named_there at table.Span2 h = own_there at table.Span2 (5, omega arith, refl) h
named_there at table.Total2 h = own_there at table.Total2 (6, omega arith, refl) h
named_there at table.Base2 h = own_there at table.Base2 (7, omega arith, refl) h
named_there at table.Defect3 h = own_there at table.Defect3 (8, omega arith, refl) h
named_there at table.Done3 h = own_there at table.Done3 (9, omega arith, refl) h

all_at : (at : Point) → All (λ name. is_at at name ≡ true) (names_at at)
all_at at =
    All-append (λ name. is_at at name ≡ true) first_names (filter (is_at at) own_names)
    (All-from_recursion (λ name. is_at at name ≡ true) first_names (refl, (refl, (refl, (refl, (refl, (refl, (refl, (refl, (refl, (refl, (refl, tt))))))))))))
    (all_filtered (is_at at) own_names)

-- names of one table are one
named_in : (names : List TableName) (name : TableName) → Contains (map table_named names) (table_named name) → Contains names name
named_in names name (k, low, e) =
    let same : table_named (slice_index_or names k name) ≡ table_named name = sym (get_or-map table_named names k name) ∙ e in
    (k, subst (λ n. k < n) (length-map names table_named) low, same_tree (slice_index_or names k name) name (ap (λ (t : Table). t.tree) same))

pub has_tables : (at : Point) (name : TableName) → (is_at at name ≡ true) ↔ Contains (schema_at at).tables (table_named name)
has_tables at name =
    (λ h. mapped_in table_named (names_at at) name (named_there at name h), λ there. All-contains (λ n. is_at at n ≡ true) (names_at at) name (all_at at) (named_in (names_at at) name there))
