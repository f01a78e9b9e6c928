-- Tables of a file at a point: what they are after a change, and what they stand for.
use Rattle.std.proofs.Common.{◌≡◌, ◌⊎◌, ◌+◌, ◌∙◌, inl, inr, true, List, ap, sym, subst}
use Rattle.std.specs.List.Sorted.{IsPermutation}
use Rattle.std.proofs.lemmas.List.Sorted.{IsPermutation-sym, IsPermutation-trans}
use Rattle.sqlite.specs.Order.{Row}
use Rattle.sqlite.specs.Tree.{Trees}
use Rattle.sqlite.specs.Effect.{Database}
use Rattle.sqlite_catalog.specs.Listing.{IsSound}
use Rattle.mx_book.specs.commands.Act.{Entry}
use Rattle.mx_base.specs.declared.point.Point.{Point}
use Rattle.mx_registers.specs.points.Points.{next_point_to}
use Rattle.mx_layout.specs.TableName.{TableName}
use Rattle.mx_layout.specs.Contents.{rows_in}
use Rattle.mx_layout.specs.Names.{table_named}
use Rattle.mx_layout.specs.Point.{FitsPoint}
use Rattle.mx_book_tables.specs.stands.Family.{rows_of, rows_given, is_at, Fit}
use Rattle.mx_book_tables.specs.stands.Schemas.{schema_at}
use Rattle.mx_book_tables.specs.stands.Stands.{LiesAt, StandsAt}
use Rattle.mx_book_tables.proofs.StandsProofs.SchemaLemmas.{has_tables}
use Rattle.mx_moves.specs.Changes.{AllRise, Reaches}
use Rattle.mx_moves.proofs.RowLemmas.{Keeps, Forgets}
use Rattle.mx_moves.specs.steps.Next.{next_in_move}
use Rattle.mx_moves.specs.steps.Rows.{MakesRows}

-- ── as they lie ──

-- what statements reach from the schema of one point is a file at the other
pub reaches_rows : (at to : Point) (onto : TableName → List Row → List Row) (old new : Database) → old.schema ≡ schema_at at → LiesAt at old.trees → Reaches (schema_at to) onto old new
    → (new.schema ≡ schema_at to) × MakesRows onto to old.trees new.trees
reaches_rows at to onto old new has lies reached = (
  reached.schema,
  record {
    lies = record {
      sound = subst (λ s. IsSound s new.trees) reached.schema (reached.sound (subst (λ s. IsSound s old.trees) (sym has) lies.sound));
      rises = reached.rises (subst (λ s. AllRise s old.trees) (sym has) lies.rises);
    };
    tables = λ name there. reached.tables name ((has_tables to name).0 there);
  },
)

-- ── the point ──

-- the next point on the way to a layout is that of the move to it
pub in_move : (from at to : Point) (book : List Entry) (new : Trees) → at ≡ from → (to ≡ next_point_to (from.layout + 1) at book) × StandsAt to new book → (to ≡ next_in_move at book) × StandsAt to new book
in_move from at to book new here it = (it.0 ∙ ap (λ (p : Point). next_point_to (p.layout + 1) at book) (sym here), it.1)

-- ── what they stand for ──

-- each table of the next point was there and what is made of its rows does not depend on their order, or on them at all; and what is made of those that the book gives at the one point it gives at the other
pub stands_next : (at to : Point) (book : List Entry) (onto : TableName → List Row → List Row) (old new : Trees) → FitsPoint to
    → ((name : TableName) → is_at to name ≡ true → Fit (rows_of name) to book)
    → ((name : TableName) → is_at to name ≡ true → ((is_at at name ≡ true) × Keeps onto name) ⊎ Forgets onto name)
    → ((name : TableName) → is_at to name ≡ true → IsPermutation (onto name (rows_given at book name)) (rows_given to book name))
    → StandsAt at old book → MakesRows onto to old new → StandsAt to new book
stands_next at to book onto old new fits fit turns become stands makes = record {
  lies = makes.lies;
  rows = record {
    is_book = stands.rows.is_book;
    point = fits;
    fit = fit;
    tables = λ name there.
        let turned : IsPermutation (onto name (rows_given at book name)) (onto name (rows_in (table_named name) old)) =
        elim (turns name there) [ inl keeps ↦ keeps.1 _ _ (stands.rows.tables name keeps.0) | inr forgets ↦ forgets _ _ ] in
        IsPermutation-trans _ _ _ (IsPermutation-sym _ _ (become name there)) (IsPermutation-trans _ _ _ turned (makes.tables name there));
  };
}
