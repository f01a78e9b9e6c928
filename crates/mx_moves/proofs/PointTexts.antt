-- The texts that delete the row of the point and add another: what each is understood as, computed.
use Rattle.std.proofs.Common.{◌≡◌, pos, List, [], ◌∷◌, refl, sym, subst, arith}
use Rattle.std.specs.Prelude.{Contains}
use Rattle.sqlite.specs.declared.types.Value.TheVariants.{Int, Null}
use Rattle.sqlite.specs.Order.{Row}
use Rattle.sqlite.specs.Schema.{Schema}
use Rattle.sqlite.specs.Table.{Table}
use Rattle.sqlite.specs.Term.{Term, lit, col}
use Rattle.sqlite.specs.Tree.{Trees}
use Rattle.sqlite.specs.Command.TheVariants.{Insert}
use Rattle.sqlite.specs.Source.TheVariants.{Values}
use Rattle.sqlite.specs.Listing.{understood}
use Rattle.sqlite.proofs.Callers.{IsPlain, command_of}
use Rattle.sqlite_schema.specs.declared.schema.Index.{Index}
use Rattle.sqlite_sql.specs.declared.ops.CompareOp.TheVariants.{Eq}
use Rattle.sqlite_tied.specs.Compute.{everything}
use Rattle.mx_base.specs.declared.point.Point.{Point}
use Rattle.mx_layout.specs.Point.{point_cells}
use Rattle.mx_layout.specs.Tables.{office}
use Rattle.mx_layout.proofs.RowLemmas.{cast_int, cast_null}
use Rattle.mx_layout.specs.Plans.{added}
use Rattle.mx_layout.specs.kept.Meanings.{MeansAdded}
use Rattle.mx_layout.specs.kept.Schemas.{HasPermanent, permanent}
use Rattle.mx_table_rows.specs.chosen.Lookups.{Deletes}
use Rattle.mx_table_rows.specs.chosen.Texts.{by_value}
use Rattle.mx_table_rows.proofs.ChosenProofs.EqualLemmas.{one_equal}
use Rattle.mx_table_rows.proofs.ChosenProofs.LookupLemmas.{Drops, deleted, given_at}
use Rattle.mx_moves.specs.Keeping.{kept_point}
use Rattle.mx_moves.specs.Texts.{point_gone}

pub office_there : (schema : Schema) → HasPermanent schema → Contains schema.tables office
office_there schema has = subst (λ (s : Schema). Contains s.tables office) (sym has.is) (0, omega arith, refl)

-- ── deleted ──

point_gone_texts : (rest : List Table) (more : List Index) → Drops (permanent (rest) more) point_gone 0 office (given_at Eq office 0 0 ∷ [])
unfolding understood everything
point_gone_texts rest more = (refl, (refl, refl))

pub point_gone_deletes : Deletes kept_point point_gone (by_value 0)
point_gone_deletes = deleted kept_point [] (λ _ has. has) point_gone (given_at Eq office 0 0 ∷ []) (by_value 0) (λ _. refl) (λ _ _. one_equal _ _ refl) 0 (λ _ _. refl) point_gone_texts

-- ── added ──

abbrev terms : List Term
terms = col 0 0 ∷ lit Null ∷ col 0 1 ∷ col 0 2 ∷ col 0 3 ∷ []

abbrev stored : Point → Row
stored p = Int (pos 1) ∷ Null ∷ Int (pos p.layout) ∷ Int (pos p.step) ∷ Int (pos p.mark) ∷ []

news_are : (p : Point) (db : Trees) → (added db office terms 5 (point_cells p)).news ≡ stored p ∷ []
news_are p db = simp (cast_int, cast_null) refl

point_added : (rest : List Table) (more : List Index) → (command_of (understood (permanent rest more) kept_point.insert) ≡ Insert 0 (Values terms 5)) × IsPlain (understood (permanent rest more) kept_point.insert)
unfolding understood everything
point_added rest more = (refl, (refl, refl))

pub point_adds : (schema : Schema) → HasPermanent schema → (p : Point) → MeansAdded schema kept_point.insert office (point_cells p)
point_adds schema has p =
    let is = point_added has.rest has.more in
    subst (λ s. MeansAdded s kept_point.insert office (point_cells p)) (sym has.is) (record {
      at = 0;
      terms = terms;
      width = 5;
      stored = λ _. stored p;
      same = refl;
      there = refl;
      is = is.0;
      plain = is.1;
      news = news_are p;
      shown = λ _. refl;
    })
