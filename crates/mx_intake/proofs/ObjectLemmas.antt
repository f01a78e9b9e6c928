-- The other keys of an object, over the entries of its map.
use Rattle.std.proofs.Common.{◌≡◌, ℕ, List, [], ◌∷◌, Some, not, ◌||◌, sym, ap, refl, ◌∙◌, map}
use Rattle.std.specs.List.{list_any}
use Rattle.std.specs.Prelude.{String, string_bytes}
use Rattle.std.specs.declared.alloc.Global.{Global}
use Rattle.std.proofs.lemmas.Option.{same_Some}
use Rattle.serde_json.specs.Data.{Data, null, boolean, number, string, array, object}
use Rattle.serde_json.specs.Find.{as_object}
use Rattle.serde_json.specs.View.{members_view}
use Rattle.serde_json.specs.declared.value.Value.{Value}
use Rattle.mx_intake.specs.Keys.{is_key}
use Rattle.mx_intake.proofs.MemberLemmas.{any_entry}
use Rattle.mx_intake.specs.Object.{has_other_member, has_other_key}

pub has_other-as_object : (keys : List (List ℕ)) (v : Data) (es : List (String Global × Value)) (ks : List (String Global)) → Some (members_view es) ≡ as_object v → ks ≡ map (λ e. e.0) es
    → has_other_key keys v ≡ list_any (λ k. not (is_key keys (string_bytes k))) ks
has_other-as_object keys (object ms) es ks h is =
    ap (λ m. has_other_member keys m) (sym (same_Some _ _ h)) ∙ any_entry (λ k. not (is_key keys k)) (λ es. has_other_member keys (members_view es)) refl (λ e es. refl) es
    ∙ ap (λ l. list_any (λ k. not (is_key keys (string_bytes k))) l) (sym is)
has_other-as_object keys null es ks h is = absurd (cc)
has_other-as_object keys (boolean b) es ks h is = absurd (cc)
has_other-as_object keys (number n) es ks h is = absurd (cc)
has_other-as_object keys (string s) es ks h is = absurd (cc)
has_other-as_object keys (array ds) es ks h is = absurd (cc)
