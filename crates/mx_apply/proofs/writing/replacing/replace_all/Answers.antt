use Rattle.std.proofs.Common.{refl, ◌∙◌, ◌≡◌, ℕ, ◌++◌, [], ◌∷◌, take, Ok, sym, subst, ap}
use Rattle.std.proofs.lemmas.List.{take_all, take_more}
use Rattle.sqlite.specs.Held.{state}
use Rattle.sqlite.specs.Schema.{Schema}
use Rattle.mx_layout.specs.Contents.{HasNoReferences}
use Rattle.mx_layout.proofs.CrashLemmas.{within_then}
use Rattle.mx_apply.specs.writing.Changes.{WritesRows, all_in_place}
use Rattle.mx_apply.proofs.WritingProofs.RowLemmas.{none_in_place, one_more_in_place, replaces_write, rows_stop}
use Rattle.mx_apply.proofs.writing.replacing.replace_all.Goals as goal

pub rows-init : goal.rows-init
rows-init g c = record { same_reference = refl; writes = none_in_place g.R.Stored.kept g.R.Replace.replaced (λ (schema : Schema). g.R.Stored.kept.IsIn schema × HasNoReferences schema) _ }

pub rows-preserved : goal.rows-preserved
rows-preserved g c =
    let first = state g.S.Store c.args.tx.now.conn.now in
    let old = state g.S.Store c.rows.tx.conn.now in
    let new = state g.S.Store c.replace.new.tx.conn.now in
    let so_far = c.rows.invariant in
    let k = g.R.Stored.kept in
    let replaced = g.R.Replace.replaced in
    let IsIn = λ (schema : Schema). k.IsIn schema × HasNoReferences schema in
    let items = c.args.rows.now in
    let x = c.row-item.result in
    let i = c.rows.row-index in
    let more = sym (take_more items i x c.rows-test.true ∙ ap (λ y. take i items ++ y ∷ []) (sym c.row-item.is)) in
    record {
      same_reference = c.replace.ensures.same_reference ∙ so_far.same_reference;
      writes = subst (λ xs. WritesRows {V = ℕ} IsIn (all_in_place k replaced xs) first new (Ok 0)) more
          (one_more_in_place k replaced IsIn (take i items) x first old new _ so_far.writes (replaces_write k g.met.R.Stored.lawful (replaced x) x old new _ c.in_ok-replace.ensures.replaces));
    }

pub returns-in_err-replace-clause-same_reference : goal.returns-in_err-replace-clause-same_reference
returns-in_err-replace-clause-same_reference g c = c.replace.ensures.same_reference ∙ c.rows.invariant.same_reference

pub returns-in_err-replace-clause-writes : goal.returns-in_err-replace-clause-writes
returns-in_err-replace-clause-writes g c =
    rows_stop _ _ _ _ c.from_residual.result c.from_residual.ensures.0
    (within_then _ _ _ c.rows.invariant.writes.within c.rows.invariant.writes.mode c.replace.ensures.replaces.within)

pub returns-clause-writes : goal.returns-clause-writes
returns-clause-writes g c =
    let items = c.args.rows.now in
    let k = g.R.Stored.kept in
    let all : take c.rows.row-index items ≡ items = take_all c.rows.row-index items c.rows-test.false in
    let w = subst (λ xs. WritesRows {V = ℕ} (λ (schema : Schema). k.IsIn schema × HasNoReferences schema) (all_in_place k g.R.Replace.replaced xs) (state g.S.Store c.args.tx.now.conn.now) (state g.S.Store c.rows.tx.conn.now) (Ok 0)) all c.rows.invariant.writes in
    record { gains = w.gains; mode = w.mode; inside = w.inside; within = w.within }
