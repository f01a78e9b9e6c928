-- What the statements that make tables and indexes find, each in the schema that it is given: computed.
use Rattle.std.proofs.Common.{ℕ, ◌+◌, Ok, Result, refl}
use Rattle.sqlite.specs.State.{State}
use Rattle.sqlite_tied.specs.Compute.{everything}
use Rattle.mx_layout.specs.Steps.{schema_after}
use Rattle.mx_layout.specs.declared.fault.Table.TheVariants as table
use Rattle.mx_layout.specs.declared.fault.TableFault.{TableFault}
use Rattle.mx_moves.proofs.AlterLemmas.{HasNew}
use Rattle.mx_moves.specs.Changes.{Alters, unchanged}
use Rattle.mx_moves.proofs.RowLemmas.{Turns, alters_then, turns_same}

-- ── tables that are made ──

pub sector2_new : HasNew (schema_after 15) (schema_after 16) table.Sector2
unfolding everything
sector2_new = record { is = refl; ends = refl; tree = refl; uncounted = (refl, (refl, (refl, (refl, (refl, (refl, (refl, (refl, (refl, (refl, (refl, (refl, (refl, (refl, (refl, (refl, tt)))))))))))))))) }

pub span2_new : HasNew (schema_after 17) (schema_after 18) table.Span2
unfolding everything
span2_new = record { is = refl; ends = refl; tree = refl; uncounted = (refl, (refl, (refl, (refl, (refl, (refl, (refl, (refl, (refl, (refl, (refl, (refl, (refl, (refl, (refl, (refl, tt)))))))))))))))) }

pub total2_new : HasNew (schema_after 23) (schema_after 24) table.Total2
unfolding everything
total2_new = record { is = refl; ends = refl; tree = refl; uncounted = (refl, (refl, (refl, (refl, (refl, (refl, (refl, (refl, (refl, (refl, (refl, (refl, (refl, (refl, (refl, tt))))))))))))))) }

pub base2_new : HasNew (schema_after 24) (schema_after 25) table.Base2
unfolding everything
base2_new = record { is = refl; ends = refl; tree = refl; uncounted = (refl, (refl, (refl, (refl, (refl, (refl, (refl, (refl, (refl, (refl, (refl, (refl, (refl, (refl, (refl, (refl, tt)))))))))))))))) }

pub defect3_new : HasNew (schema_after 28) (schema_after 29) table.Defect3
unfolding everything
defect3_new = record { is = refl; ends = refl; tree = refl; uncounted = (refl, (refl, (refl, (refl, (refl, (refl, (refl, (refl, (refl, (refl, (refl, (refl, (refl, (refl, (refl, (refl, (refl, tt))))))))))))))))) }

pub done3_new : HasNew (schema_after 30) (schema_after 31) table.Done3
unfolding everything
done3_new = record { is = refl; ends = refl; tree = refl; uncounted = (refl, (refl, (refl, (refl, (refl, (refl, (refl, (refl, (refl, (refl, (refl, (refl, (refl, (refl, (refl, (refl, (refl, tt))))))))))))))))) }

-- ── indexes, which leave the tables as they are ──

pub index_turns : Turns (schema_after 19) (schema_after 21) unchanged
index_turns = turns_same (schema_after 19) (schema_after 21) unchanged refl (λ name xs ys same. same)

pub by_remove_seq_turns : Turns (schema_after 20) (schema_after 21) unchanged
by_remove_seq_turns = turns_same (schema_after 20) (schema_after 21) unchanged refl (λ name xs ys same. same)

pub indexes_turn : Turns (schema_after 18) (schema_after 21) unchanged
indexes_turn = turns_same (schema_after 18) (schema_after 21) unchanged refl (λ name xs ys same. same)

pub lines_turn : Turns (schema_after 26) (schema_after 28) unchanged
lines_turn = turns_same (schema_after 26) (schema_after 28) unchanged refl (λ name xs ys same. same)

pub extensions_turn : Turns (schema_after 27) (schema_after 28) unchanged
extensions_turn = turns_same (schema_after 27) (schema_after 28) unchanged refl (λ name xs ys same. same)

pub sectors_turn : Turns (schema_after 33) (schema_after 35) unchanged
sectors_turn = turns_same (schema_after 33) (schema_after 35) unchanged refl (λ name xs ys same. same)

pub releases_turn : Turns (schema_after 34) (schema_after 35) unchanged
releases_turn = turns_same (schema_after 34) (schema_after 35) unchanged refl (λ name xs ys same. same)

pub layout3_turns : Turns (schema_after 32) (schema_after 35) unchanged
layout3_turns = turns_same (schema_after 32) (schema_after 35) unchanged refl (λ name xs ys same. same)

-- three indexes, one after another
pub indexes_then : {T U V : Type 0} (n : ℕ) → Turns (schema_after (n + 1)) (schema_after (n + 3)) unchanged → Turns (schema_after (n + 2)) (schema_after (n + 3)) unchanged → (s0 s1 s2 s3 : State) (t : T) (u : U) (r : Result V TableFault)
    → Alters {V = T} (schema_after n) (schema_after (n + 1)) unchanged s0 s1 (Ok t) → Alters {V = U} (schema_after (n + 1)) (schema_after (n + 2)) unchanged s1 s2 (Ok u) → Alters (schema_after (n + 2)) (schema_after (n + 3)) unchanged s2 s3 r
    → Alters (schema_after n) (schema_after (n + 3)) unchanged s0 s3 r
indexes_then n both last s0 s1 s2 s3 t u r a b c =
    alters_then (schema_after n) (schema_after (n + 1)) (schema_after (n + 3)) unchanged unchanged both s0 s1 s3 t r a (alters_then (schema_after (n + 1)) (schema_after (n + 2)) (schema_after (n + 3)) unchanged unchanged last s1 s2 s3 u r b c)
