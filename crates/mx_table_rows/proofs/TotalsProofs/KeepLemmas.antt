-- Calls one after another that change nothing.
use Rattle.std.proofs.Common.{◌≡◌, ◌⊎◌, inl, inr, Ok, Err, Result, OnOk, IfErr, refl, sym, subst, ◌∙◌}
use Rattle.sqlite.specs.State.{State, IsUnchanged}
use Rattle.mx_layout.specs.TableName.{TableName}
use Rattle.mx_layout.specs.declared.fault.TableFault.{TableFault}
use Rattle.mx_layout.specs.declared.fault.TableFault.TheVariants.{Memory, Store, Damaged}
use Rattle.mx_tables.specs.Calls.{OnRead, OnDamaged}
use Rattle.mx_table_rows.specs.totals.Steps.{Keeps}

pub keeps_itself : (s : State) → Keeps s s
keeps_itself s = record { was_open = λ is_open. is_open; now_is = refl; committed_is = refl; mode = refl; counts = record { changes = refl; last_rowid = refl }; marks = refl }

pub keeps_then : (a b c : State) → Keeps a b → IsUnchanged b c → Keeps a c
keeps_then a b c one two = record {
  was_open = λ _. one.was_open two.0.was_open;
  now_is = two.0.now_is ∙ one.now_is;
  committed_is = two.0.committed_is ∙ one.committed_is;
  mode = two.0.mode ∙ one.mode;
  counts = record { changes = two.1.changes ∙ one.counts.changes; last_rowid = two.1.last_rowid ∙ one.counts.last_rowid };
  marks = two.2 ∙ one.marks;
}

pub unchanged_after : (a b c : State) → Keeps a b → IsUnchanged b c → IsUnchanged a c
unchanged_after a b c one two = (
  record { was_open = one.was_open two.0.was_open; is_open = two.0.is_open; now_is = two.0.now_is ∙ one.now_is; committed_is = two.0.committed_is ∙ one.committed_is; mode = two.0.mode ∙ one.mode },
  record { changes = two.1.changes ∙ one.counts.changes; last_rowid = two.1.last_rowid ∙ one.counts.last_rowid },
  two.2 ∙ one.marks,
)

-- ── what a call answered ──

abbrev pub Stopped : {T : Type 0} → Result T TableFault → Type 0
Stopped r = IfErr r (λ e. (e ≡ Memory) ⊎ (e ≡ Store))

-- a call that finds no damage
pub on_read : {T : Type 0} (P : Type 0) (r : Result T TableFault) → Stopped r → OnOk r P → OnRead r P
on_read P (Ok v) why h = h
on_read P (Err e) (inl memory) h = subst (λ f. OnDamaged f P) (sym memory) tt
on_read P (Err e) (inr store) h = subst (λ f. OnDamaged f P) (sym store) tt

pub not_damaged : {T : Type 0} (r : Result T TableFault) (name : TableName) → Stopped r → r ≡ Err (Damaged name) → ⊥
not_damaged (Ok v) name why is = absurd cc
not_damaged (Err e) name (inl memory) is = absurd cc
not_damaged (Err e) name (inr store) is = absurd cc

pub caused : {T : Type 0} (r : Result T TableFault) (name : TableName) → Stopped r → IfErr r (λ e. (e ≡ Memory) ⊎ ((e ≡ Store) ⊎ (e ≡ Damaged name)))
caused (Ok v) name why = tt
caused (Err e) name (inl memory) = inl memory
caused (Err e) name (inr store) = inr (inl store)

-- what holds where a call found damage
pub at_damage : {T P : Type 0} (r : Result T TableFault) (name : TableName) → r ≡ Err (Damaged name) → OnRead r P → P
at_damage {T} {P} r name is h = let On = λ (s : Result T TableFault). OnRead s P in subst On is h
