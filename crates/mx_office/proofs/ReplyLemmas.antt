-- Replies, and faults in their place: which tables they lead to, and which change nothing.
use Rattle.std.proofs.Common.{◌≡◌, ◌≢◌, inl, inr, ◌+◌, ℕ, refl, sym, ap, subst, ◌∙◌, arith, List, [], ◌∷◌, ◌++◌, Some, Ok, Err}
use Rattle.std.specs.Prelude.{Contains}
use Rattle.std.proofs.lemmas.List.Elements.{Contains-append_left, Contains-append_right}
use Rattle.sqlite.specs.Effect.{Database}
use Rattle.mx_book.specs.commands.Act.{Entry}
use Rattle.mx_book.specs.Run.{reply, replies}
use Rattle.mx_book.specs.declared.verdict.Reply.{Reply}
use Rattle.mx_book.specs.declared.verdict.Reply.TheVariants.{Accepted, Already, Refused}
use Rattle.mx_layout.specs.TableName.{TableName}
use Rattle.mx_layout.specs.declared.fault.TableFault.{TableFault}
use Rattle.mx_layout.specs.declared.fault.TableFault.TheVariants as table
use Rattle.mx_apply.specs.writing.Changes.{AllRise}
use Rattle.mx_apply.specs.writing.Written.{IsSettled}
use Rattle.mx_apply.proofs.WritingProofs.RowLemmas.{rise_then}
use Rattle.mx_apply.specs.Applies.{IsIdle, IsNoDamage, ReplyOf}
use Rattle.mx_office.specs.Faults.{fault_from}
use Rattle.mx_office.specs.OnTop.{AreAnswered, LeadsTo}
use Rattle.mx_office.specs.Stands.{NoneAccepted}
use Rattle.mx_faults.specs.declared.fault.Fault.TheVariants.{Store, NeedsReopen, Damaged}

-- ── tables that replies lead to ──

-- a file keeps its tables, and their rowids rise
abbrev Goes : Database → Database → Type 0
Goes before after = IsSettled before.schema → AllRise before → IsSettled after.schema × AllRise after

goes_same : (before after : Database) → after ≡ before → Goes before after
goes_same before after same has rise = (subst (λ (d : Database). IsSettled d.schema) (sym same) has, subst AllRise (sym same) rise)

leads_on : (command : Entry) (reply : Reply) (before after : Database) → LeadsTo command reply before after → Goes before after
leads_on command (Accepted seq) before after it has rise = (subst IsSettled (sym it.3.schema) has, rise_then _ before after it.3 rise)
leads_on command (Already seq) before after same has rise = goes_same before after same has rise
leads_on command (Refused why) before after same has rise = goes_same before after same has rise

pub answered_on : (commands : List Entry) (said : List Reply) (before after : Database) → AreAnswered commands said before after → Goes before after
answered_on [] [] before after same has rise = goes_same before after same has rise
answered_on [] (r ∷ said) before after none has rise = absurd none
answered_on (c ∷ commands) [] before after none has rise = absurd none
answered_on (c ∷ commands) (r ∷ said) before after it has rise =
    let next = it.1.0 in
    let on = leads_on c r before next it.1.1 has rise in
    answered_on commands said next after it.1.2 on.0 on.1

-- one more reply
pub answered_more : (commands : List Entry) (said : List Reply) (command : Entry) (r : Reply) (before mid after : Database) → AreAnswered commands said before mid → ReplyOf command mid.trees r → LeadsTo command r mid after
    → AreAnswered (commands ++ command ∷ []) (said ++ r ∷ []) before after
answered_more [] [] command r before mid after same by leads =
    (subst (λ (d : Database). ReplyOf command d.trees r) same by, (after, subst (λ (d : Database). LeadsTo command r d after) same leads, refl))
answered_more [] (s ∷ said) command r before mid after none by leads = absurd none
answered_more (c ∷ commands) [] command r before mid after none by leads = absurd none
answered_more (c ∷ commands) (s ∷ said) command r before mid after it by leads = (it.0, (it.1.0, it.1.1, answered_more commands said command r it.1.0 mid after it.1.2 by leads))

-- ── which replies are idle ──

pub none_before : (said : List Reply) (r : Reply) → NoneAccepted (said ++ r ∷ []) → NoneAccepted said
none_before said r none seq it = none seq (Contains-append_left said (r ∷ []) (Accepted seq) it)

pub none_last : (said : List Reply) (r : Reply) → NoneAccepted (said ++ r ∷ []) → (seq : ℕ) → r ≢ Accepted seq
none_last said r none seq is = none seq (Contains-append_right said (r ∷ []) (Accepted seq) (subst (λ x. Contains (r ∷ []) x) is (0, omega arith, refl)))

pub idle_reply : (r : Reply) → ((seq : ℕ) → r ≢ Accepted seq) → IsIdle (Ok r)
idle_reply r never = record { accepted = λ seq is. never seq (cc); store = λ is. cc }

pub idle_fault : (e : TableFault) → e ≢ table.Store → IsIdle (Err e)
idle_fault e other = record { accepted = λ seq is. cc; store = λ is. other (cc) }

-- the faults of the tables, as those of the office
pub no_reopening : (e : TableFault) → Some (fault_from e) ≢ Some NeedsReopen
no_reopening table.Memory same = cc
no_reopening table.Store same = cc
no_reopening table.NotOurs same = cc
no_reopening table.Exists same = cc
no_reopening (table.Damaged name) same = cc

no_damage : (e : TableFault) (name : TableName) → IsNoDamage e → fault_from e ≢ Damaged name
no_damage e name (inl memory) same = let is : fault_from table.Memory ≡ Damaged name = ap fault_from (sym memory) ∙ same in cc
no_damage e name (inr store) same = let is : fault_from table.Store ≡ Damaged name = ap fault_from (sym store) ∙ same in cc

pub no_damage_stop : (e : TableFault) (name : TableName) → IsNoDamage e → Some (fault_from e) ≢ Some (Damaged name)
no_damage_stop e name is same = no_damage e name is (cc)

-- damage is told as the tables tell it
pub damage_from : (e : TableFault) (name : TableName) → fault_from e ≡ Damaged name → e ≡ table.Damaged name
damage_from table.Memory name same = cc
damage_from table.Store name same = cc
damage_from table.NotOurs name same = cc
damage_from table.Exists name same = cc
damage_from (table.Damaged at) name same = cc

pub store_stop : (e : TableFault) → Some (fault_from e) ≢ Some Store → e ≢ table.Store
store_stop e other is = other (ap (λ f. Some (fault_from f)) is)

pub some_said : (said : List Reply) (r : Reply) → said ++ r ∷ [] ≡ [] → ⊥
some_said [] r is = cc
some_said (s ∷ said) r is = cc
