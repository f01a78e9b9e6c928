-- Rows of last bases that are put in place of others: they stay a finite map, and what it then says.
use Rattle.std.proofs.Common.{refl, ◌≡◌, ℕ, List, [], ◌∷◌, Bool, true, false, cond, Some}
use Rattle.std.specs.Prelude.{not, find}
use Rattle.std.specs.Option.{option_map}
use Rattle.mx_base.specs.declared.rows.rows.BaseRow.{BaseRow}
use Rattle.mx_base.specs.rows.Rows.{base_in_row}
use Rattle.mx_registers.specs.kept.Bases.{AreKeyedOnce, base_in, base_put, bases_put, is_keyed}
use Rattle.mx_registers.proofs.KeptProofs.KeyedLemmas.{gone, keyed_fewer, others_stay, without}

-- a row that is put has its key, and the others say what they said
pub put_in : (row : BaseRow) (rows : List BaseRow) (n : ℕ) (id : List ℕ) → base_in (base_put row rows) n id ≡ cond (is_keyed n id row) (Some (base_in_row row)) (base_in rows n id)
put_in row rows n id = at (is_keyed n id row) refl
  where
    at : (b : Bool) → is_keyed n id row ≡ b → option_map base_in_row (cond b (Some row) (find (is_keyed n id) (without row.item row.task rows))) ≡ cond b (Some (base_in_row row)) (base_in rows n id)
    at true e = refl
    at false e = others_stay row.item n row.task id rows e

-- rows that are put stay of distinct keys
pub puts_once : (news rows : List BaseRow) → AreKeyedOnce rows → AreKeyedOnce (bases_put news rows)
puts_once [] rows h = h
puts_once (row ∷ more) rows h = puts_once more (base_put row rows) (gone row.item row.task rows, keyed_fewer (λ other. not (is_keyed row.item row.task other)) rows h)
