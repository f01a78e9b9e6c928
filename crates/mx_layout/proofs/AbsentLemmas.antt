-- The text that reads office, over a schema in which neither a table nor a view has that name.
use Rattle.std.proofs.Common.{◌≡◌, ℕ, List, [], ◌∷◌, true, None, Ok, Err, codes, refl}
use Rattle.std.specs.Prelude.{nat_lt}
use Rattle.sqlite_ast.specs.declared.Select.{Select, out-Select}
use Rattle.sqlite_ast.specs.declared.Core.{Core, out-Core}
use Rattle.sqlite_ast.specs.declared.Source.{Source, out-Source}
use Rattle.sqlite_ast.specs.declared.Sort.{Sort}
use Rattle.sqlite_ast.specs.declared.Origin.TheVariants as origin
use Rattle.sqlite_ast.specs.declared.Statement.TheVariants as written
use Rattle.sqlite_syntax.specs.declared.statement.Parsed.{Parsed}
use Rattle.sqlite_schema.specs.declared.program.Table.{Table as Let}
use Rattle.sqlite_schema.specs.Names.{table_named, view_named}
use Rattle.sqlite.specs.Schema.{Schema}
use Rattle.sqlite.specs.Term.{Term}
use Rattle.sqlite_resolve.specs.declared.state.State.{State}
use Rattle.sqlite_resolve.specs.declared.error.CompileError.TheVariants.{NoSuchTable}
use Rattle.sqlite_resolve.specs.Lowering.{max_slots, max_budget, fresh, take_slot}
use Rattle.sqlite_resolve.specs.Body.{table_in, bound, bounds, body}
use Rattle.sqlite_resolve.specs.Select.{parts, named, paging, constant_or}
use Rattle.sqlite_resolve.specs.Program.{Building, Shown as Read, viewing, single, sources, source as source_of, alone, whole, with, level, query, query_to}
use Rattle.sqlite_resolve.specs.Compile.{first, read, command, returning, meaning, planned, timed, compiled}
use Rattle.sqlite_tied.specs.Compute.{everything}
use Rattle.sqlite.specs.Listing.{understood, listing_schema}
use Rattle.mx_layout.specs.Point.{point_text}

-- the text is one SELECT from office, with no WITH, no other part and no LIMIT
record IsQuery (p : Parsed) : Type 0 where
  select : Select
  source : Source
  is : p.statement ≡ written.Select select
  with_none : (out-Select select).with ≡ []
  others : (out-Select select).others ≡ []
  limit : (out-Select select).limit ≡ None
  offset : (out-Select select).offset ≡ None
  from : (out-Core (out-Select select).first).from ≡ source ∷ []
  office : (out-Source source).origin ≡ origin.Table (codes "office")

point_parsed : (p : Parsed) × (first point_text ≡ Ok p) × IsQuery p
unfolding everything
point_parsed = (_, refl, record { select = _; source = _; is = refl; with_none = refl; others = refl; limit = refl; offset = refl; from = refl; office = refl })

module _ (schema : Schema) (none : table_named schema (codes "office") ≡ None) (unseen : view_named schema (codes "office") ≡ None) where
  no_table : (slot : ℕ) → table_in schema slot (origin.Table (codes "office")) ≡ Err NoSuchTable
  unfolding table_in
  no_table slot = rw (none, unseen) refl

  module _ (source : Source) (office : (out-Source source).origin ≡ origin.Table (codes "office")) where
    no_bound : (s : State) → nat_lt s.next max_slots ≡ true → bound schema source s ≡ Err NoSuchTable
    unfolding bound take_slot
    no_bound s room = rw (room, office, no_table s.next) refl

    no_bounds : (s : State) → nat_lt s.next max_slots ≡ true → bounds schema (source ∷ []) s ≡ Err NoSuchTable
    unfolding bounds
    no_bounds s room = rw (no_bound s room) refl

    module _ (core : Core) (from : (out-Core core).from ≡ source ∷ []) (order : List Sort) where
      no_parts : parts schema core order (fresh 1 max_budget) ≡ Err NoSuchTable
      unfolding parts body
      no_parts = rw (from, no_bounds (fresh 1 max_budget) refl) refl

      no_named : (page : Term × Term) → named schema core order page ≡ Err NoSuchTable
      unfolding named
      no_named page = rw no_parts refl

      no_viewing : (q : Schema → Select → Building Read) (outer : Schema) (page : Term × Term) (lets : List Let) → viewing q outer core order page 64 schema lets ≡ Err NoSuchTable
      unfolding viewing
      no_viewing q outer page lets = rw (no_named page) refl

      no_single : (q : Schema → Select → Building Read) (page : Term × Term) (lets : List Let) → single q schema core order page lets ≡ Err NoSuchTable
      unfolding single sources source_of
      no_single q page lets = rw (from, office, no_viewing q schema page lets) refl

      no_alone : (q : Schema → Select → Building Read) (page : Term × Term) (lets : List Let) → alone q schema core order page lets ≡ Err NoSuchTable
      unfolding alone
      no_alone q page lets = rw (no_single q page lets) refl

  module _ (p : Parsed) (it : IsQuery p) where
    no_whole : (q : Schema → Select → Building Read) (lets : List Let) → whole q schema it.select lets ≡ Err NoSuchTable
    unfolding whole paging constant_or
    no_whole q lets = rw (it.limit, it.offset, it.others, no_alone it.source it.office (out-Select it.select).first it.from (out-Select it.select).order q _ lets) refl

    no_level : (q : Schema → Select → Building Read) (lets : List Let) → level q schema it.select lets ≡ Err NoSuchTable
    unfolding level with
    no_level q lets = rw (it.with_none, no_whole q lets) refl

    no_query : query schema it.select ≡ Err NoSuchTable
    unfolding query query_to
    no_query = no_level _ []

    no_command : (base : ℕ) → command schema p.formats base (written.Select it.select) ≡ Err NoSuchTable
    unfolding command read
    no_command base = rw no_query refl

    no_plan : planned schema p ≡ Err NoSuchTable
    unfolding planned meaning returning timed
    no_plan = rw (it.is, no_command _) refl

  no_text : compiled schema point_text ≡ Err NoSuchTable
  unfolding compiled
  no_text = rw (point_parsed.1, no_plan point_parsed.0 point_parsed.2) refl

  unlisted : compiled listing_schema point_text ≡ Err NoSuchTable
  unfolding listing_schema everything
  unlisted = refl

  -- so the text is not understood
  pub point_missing : understood schema point_text ≡ Err NoSuchTable
  unfolding understood
  point_missing = rw (no_text, unlisted) refl
