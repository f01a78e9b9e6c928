-- New tables stand for the empty book.
use Rattle.std.proofs.Common.{◌≡◌, ◌≢◌, inl, inr, ℕ, true, [], ◌∷◌, refl, sym, subst, arith}
use Rattle.std.specs.Prelude.{Contains}
use Rattle.std.specs.List.Sorted.{IsPermutation}
use Rattle.std.proofs.lemmas.List.Elements.{All-nil}
use Rattle.std.proofs.lemmas.List.Sorted.{IsPermutation-refl}
use Rattle.sqlite.specs.Schema.{Schema}
use Rattle.sqlite.specs.Tree.{Trees}
use Rattle.sqlite_catalog.specs.Listing.{IsSound}
use Rattle.mx_book.specs.Book.{IsBook}
use Rattle.mx_base.specs.declared.point.Point.{Point}
use Rattle.mx_base.specs.Settled.{settled}
use Rattle.mx_layout.specs.Contents.{rows_in}
use Rattle.mx_layout.specs.Making.{IsEmptyIn}
use Rattle.mx_layout.specs.Names.{table_named}
use Rattle.mx_layout.specs.Point.{point_cells, FitsPoint}
use Rattle.mx_layout.specs.Steps.{IsLayout, schema_of}
use Rattle.mx_layout.specs.TableName.{TableName}
use Rattle.mx_layout.specs.Tables.{office}
use Rattle.mx_layout.specs.declared.fault.Table.TheVariants as table
use Rattle.mx_book_tables.specs.stands.Family.{rows_of, Fit, rows_given, is_at}
use Rattle.mx_book_tables.specs.stands.Stands.{StandsAt}
use Rattle.mx_book_tables.proofs.StandsProofs.SchemaLemmas.{has_tables, settled_schema}

empty_book : IsBook []
empty_book = record { few = omega arith; shaped = refl; judged = refl }

fits_settled : (layout : ℕ) → IsLayout layout → FitsPoint (settled layout)
fits_settled layout (inl one) = (omega (arith, one), omega arith, omega arith)
fits_settled layout (inr (inl two)) = (omega (arith, two), omega arith, omega arith)
fits_settled layout (inr (inr three)) = (omega (arith, three), omega arith, omega arith)

-- no entry gives no row, and none has to fit
no_row_fits : (at : Point) (name : TableName) → Fit (rows_of name) at []
no_row_fits at table.Office = tt
no_row_fits at _ = All-nil _

none_given : (at : Point) (trees : Trees) (name : TableName) → rows_in office trees ≡ point_cells at ∷ [] → (name ≢ table.Office → rows_in (table_named name) trees ≡ [])
    → IsPermutation (rows_given at [] name) (rows_in (table_named name) trees)
none_given at trees table.Office points others = subst (IsPermutation (point_cells at ∷ [])) (sym points) (IsPermutation-refl (point_cells at ∷ []))
none_given at trees name points others = subst (IsPermutation []) (sym (others (λ is. cc))) (IsPermutation-refl [])

pub empty_stands : (layout : ℕ) → IsLayout layout → (trees : Trees) → IsEmptyIn layout trees → StandsAt (settled layout) trees []
empty_stands layout is trees empty =
    let same = settled_schema layout is in
    let contained : (name : TableName) → is_at (settled layout) name ≡ true → Contains (schema_of layout).tables (table_named name) =
    λ name there. subst (λ (s : Schema). Contains s.tables (table_named name)) same ((has_tables (settled layout) name).0 there) in
    record {
      lies = record {
        sound = subst (λ (s : Schema). IsSound s trees) (sym same) empty.sound;
        rises = λ name there. empty.rises name (subst (λ (s : Schema). Contains s.tables (table_named name)) same there);
      };
      rows = record {
        is_book = empty_book;
        point = fits_settled layout is;
        fit = λ name there. no_row_fits (settled layout) name;
        tables = λ name there. none_given (settled layout) trees name empty.points (empty.others name (contained name there));
      };
    }
