-- What follows from what a database lists, and the texts over one without office.
use Rattle.std.proofs.Common.{◌≡◌, List, [], Option, Some, None, false, Ok, Err, Result, refl, sym, ◌∙◌}
use Rattle.std.specs.Prelude.{is_some, MatchOption}
use Rattle.sqlite.specs.Order.{Row}
use Rattle.sqlite.specs.Schema.{Schema}
use Rattle.sqlite.specs.Table.{Table}
use Rattle.sqlite_schema.specs.Names.{same_name}
use Rattle.sqlite_schema.specs.declared.schema.Index.{Index}
use Rattle.sqlite_schema.specs.declared.schema.View.{View}
use Rattle.sqlite.specs.Listing.{understood}
use Rattle.sqlite_resolve.specs.declared.compiled.Compiled.{Compiled}
use Rattle.sqlite_resolve.specs.declared.error.CompileError.{CompileError}
use Rattle.sqlite_resolve.specs.declared.error.CompileError.TheVariants.{NoSuchTable}
use Rattle.sqlite.specs.State.{State, Shown, IsUnchanged}
use Rattle.sqlite.proofs.Callers.{IsPlain}
use Rattle.sqlite_tied.specs.Compute.{everything}
use Rattle.mx_layout.specs.Listed.{LacksOffice, FindsNoOffice}
use Rattle.mx_layout.specs.Making.{ask_text}
use Rattle.mx_layout.specs.Point.{point_text}
use Rattle.mx_layout.specs.Tables.{HasOffice}
use Rattle.mx_layout.proofs.AbsentLemmas.{point_missing}
use Rattle.mx_layout.proofs.ReadLemmas.{shown_unchanged}

-- where office is the first table, a table is named so
pub not_lacking : (schema : Schema) → HasOffice schema → LacksOffice schema → ⊥
unfolding same_name
not_lacking schema has lacks = let e = rw has.1 at lacks in cc

none_of : {X : Type 0} (found : Option X) → is_some found ≡ false → found ≡ None
none_of None is = refl
none_of (Some x) is = absurd (cc)

never : (c : Compiled) → ◌≡◌ {A = Result Compiled CompileError} (Err NoSuchTable) (Ok c) → ⊥
never c e = cc

-- where neither a table nor a view has the name, the text that reads the point has no answer
pub absent_point : (old new : State) (rows : List Row) → FindsNoOffice old.now.schema → Shown point_text [] old new rows → ⊥
unfolding Shown
absent_point old new rows none h = never h.0 (sym (point_missing old.now.schema (none_of _ none.0) (none_of _ none.1)) ∙ h.1.is)

ask_is : (tables : List Table) (indexes : List Index) (views : List View) → let schema : Schema = record { tables = tables; indexes = indexes; views = views } in IsPlain (understood schema ask_text)
unfolding understood everything
ask_is tables indexes views = (refl, refl)

-- a row of no table is shown, and nothing changes
pub ask_unchanged : (old new : State) (rows : List Row) → Shown ask_text [] old new rows → IsUnchanged old new
ask_unchanged old new rows h = let s = old.now.schema in shown_unchanged ask_text [] old new rows (ask_is s.tables s.indexes s.views) h

-- ── why no table is made ──

pub unrefused : {X : Type 0} (P : Type 0) (Q : X → Type 0) (refusal : Option X) → MatchOption refusal P Q → refusal ≡ None → P
unrefused P Q None is none = is
unrefused P Q (Some x) is none = absurd (cc)

pub refused : {X : Type 0} (P : Type 0) (Q : X → Type 0) (refusal : Option X) (x : X) → MatchOption refusal P Q → refusal ≡ Some x → Q x
refused P Q None x is some = absurd (cc)
refused P Q (Some y) x is some = let same : y ≡ x = cc in rw same at is
