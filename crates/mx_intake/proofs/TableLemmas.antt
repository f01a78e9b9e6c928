-- The other keys of a table, over the entries of its map, and the values of a list.
use Rattle.std.proofs.Common.{◌≡◌, ℕ, suc, List, [], ◌∷◌, length, Some, not, ◌||◌, sym, ap, refl, ◌∙◌, map}
use Rattle.std.specs.List.{list_any}
use Rattle.std.specs.Prelude.{String, string_bytes}
use Rattle.std.specs.declared.alloc.Global.{Global}
use Rattle.std.proofs.lemmas.Option.{same_Some}
use Rattle.toml.specs.Data.{Data, string, integer, float, boolean, datetime, array, table, as_table}
use Rattle.toml.specs.View.{members_view, items_view}
use Rattle.toml.specs.declared.value.Value.{Value}
use Rattle.mx_intake.specs.Keys.{is_key}
use Rattle.mx_intake.proofs.MemberLemmas.{any_entry}
use Rattle.mx_intake.specs.Table.{has_other_member, has_other_key, items_len}

pub has_other-as_table : (keys : List (List ℕ)) (v : Data) (es : List (String Global × Value)) (ks : List (String Global)) → Some (members_view es) ≡ as_table v → ks ≡ map (λ e. e.0) es
    → has_other_key keys v ≡ list_any (λ k. not (is_key keys (string_bytes k))) ks
has_other-as_table keys (table ms) es ks h is =
    ap (λ m. has_other_member keys m) (sym (same_Some _ _ h)) ∙ any_entry (λ k. not (is_key keys k)) (λ es. has_other_member keys (members_view es)) refl (λ e es. refl) es
    ∙ ap (λ l. list_any (λ k. not (is_key keys (string_bytes k))) l) (sym is)
has_other-as_table keys (string s) es ks h is = absurd (cc)
has_other-as_table keys (integer z) es ks h is = absurd (cc)
has_other-as_table keys (float x) es ks h is = absurd (cc)
has_other-as_table keys (boolean b) es ks h is = absurd (cc)
has_other-as_table keys (datetime dt) es ks h is = absurd (cc)
has_other-as_table keys (array ds) es ks h is = absurd (cc)

-- how many values a list has
pub items_len-items_view : (vs : List Value) → items_len (items_view vs) ≡ length vs
items_len-items_view [] = refl
items_len-items_view (v ∷ vs) = ap suc (items_len-items_view vs)
