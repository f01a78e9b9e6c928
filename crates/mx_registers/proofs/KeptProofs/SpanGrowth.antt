-- The spans of a book with one entry more.
use Rattle.std.proofs.Common.{refl, sym, ap, ◌∙◌, ◌≡◌, ℕ, List, [], ◌∷◌, ◌++◌, Bool, true, false, cond, ◌&&◌, Option, Some, None, append_assoc, append-nil}
use Rattle.std.specs.Prelude.{find, is_none, map}
use Rattle.std.specs.Option.{option_map, option_or}
use Rattle.std.proofs.lemmas.Bool.Decides.{same_from_decides}
use Rattle.std.proofs.lemmas.List.{map-append}
use Rattle.std.proofs.lemmas.List.Elements.{filter_map-append}
use Rattle.std.proofs.lemmas.List.Folds.{find-append}
use Rattle.mx_book.specs.commands.Act.{Act, Entry, Fitted, Removed, removal_of}
use Rattle.mx_book.specs.commands.Same.{same_text}
use Rattle.mx_book.specs.declared.commands.fitting.Fitting.{Fitting}
use Rattle.mx_book.specs.declared.commands.fitting.Removal.{Removal}
use Rattle.mx_book.proofs.CommandsProofs.SameLemmas.{text_same}
use Rattle.mx_book.specs.Register.{register}
use Rattle.mx_book.specs.Span.{Span, first_removal, span_begun, spans}
use Rattle.mx_registers.specs.kept.Changes.{ended_by}

-- the span of a fitting that these entries follow
abbrev pub span_of : Fitting → List Entry → Span
span_of f later = record { serial = f.serial; tail = f.tail; position = f.position; from = f.moment; to = first_removal f.serial later }

-- one text is the same as another where the other is the same as it
pub same_sym : (a b : List ℕ) → same_text a b ≡ same_text b a
same_sym a b = same_from_decides {P = a ≡ b} (same_text a b) (same_text b a) (text_same a b) (λ h. sym ((text_same b a).0 h), λ e. (text_same b a).1 (sym e))

map_either : {X Y : Type 0} (f : X → Y) (o p : Option X) → option_map f (option_or o p) ≡ option_or (option_map f o) (option_map f p)
map_either f None p = refl
map_either f (Some x) p = refl

-- the first removal among some entries, or else among the others
pub first_removal-append : (serial : List ℕ) (book more : List Entry) → first_removal serial (book ++ more) ≡ option_or (first_removal serial book) (first_removal serial more)
first_removal-append serial book more =
    ap (λ rs. option_map (λ (r : Removal). r.moment) (find (λ (r : Removal). same_text r.serial serial) rs)) (filter_map-append (λ (e : Entry). removal_of e.act) book more)
    ∙ ap (option_map (λ (r : Removal). r.moment)) (find-append (λ (r : Removal). same_text r.serial serial) (register removal_of book) (register removal_of more))
    ∙ map_either (λ (r : Removal). r.moment) (find (λ (r : Removal). same_text r.serial serial) (register removal_of book)) (find (λ (r : Removal). same_text r.serial serial) (register removal_of more))

or_none : (o : Option ℕ) → option_or o None ≡ o
or_none None = refl
or_none (Some n) = refl

ended_if : (serial tail position : List ℕ) (from moment : ℕ) (r : Removal) (o : Option ℕ) (b : Bool)
    → record { serial = serial; tail = tail; position = position; from = from; to = option_or o (option_map (λ (x : Removal). x.moment) (cond b (Some r) None)) }
    ≡ (cond {A = Span} (is_none o && b) (record { serial = serial; tail = tail; position = position; from = from; to = Some r.moment }) (record { serial = serial; tail = tail; position = position; from = from; to = o }))
ended_if serial tail position from moment r None true = refl
ended_if serial tail position from moment r None false = refl
ended_if serial tail position from moment r (Some n) b = refl

-- a span of a fitting, where one entry more follows
ended_span : (f : Fitting) (book : List Entry) (doc : List ℕ) (act : Act) → span_of f (book ++ record { doc = doc; act = act } ∷ []) ≡ ended_by act (span_of f book)
ended_span f book doc (Removed r) =
    ap (λ o. record { serial = f.serial; tail = f.tail; position = f.position; from = f.moment; to = o }) (first_removal-append f.serial book (record { doc = doc; act = Removed r } ∷ []))
    ∙ ended_if f.serial f.tail f.position f.moment r.moment r (first_removal f.serial book) (same_text r.serial f.serial)
    ∙ ap (λ b. cond {A = Span} (is_none (first_removal f.serial book) && b) (record { serial = f.serial; tail = f.tail; position = f.position; from = f.moment; to = Some r.moment }) (span_of f book)) (same_sym r.serial f.serial)
ended_span f book doc act =
    ap (λ o. record { serial = f.serial; tail = f.tail; position = f.position; from = f.moment; to = o }) (first_removal-append f.serial book (record { doc = doc; act = act } ∷ []) ∙ or_none (first_removal f.serial book))

begun-more : (x act : Act) (book : List Entry) (doc : List ℕ) → span_begun x (book ++ record { doc = doc; act = act } ∷ []) ≡ map (ended_by act) (span_begun x book)
begun-more (Fitted f) act book doc = ap (λ (s : Span). s ∷ []) (ended_span f book doc act)
begun-more x act book doc = refl

-- one entry more ends the open span of the component that it removes, and begins one where it fits a component
pub spans-more : (book : List Entry) (e : Entry) → spans (book ++ e ∷ []) ≡ map (ended_by e.act) (spans book) ++ span_begun e.act []
spans-more [] e = append-nil (span_begun e.act [])
spans-more (x ∷ book) e =
    ap (λ l. l ++ spans (book ++ e ∷ [])) (begun-more x.act e.act book e.doc)
    ∙ ap (λ l. map (ended_by e.act) (span_begun x.act book) ++ l) (spans-more book e)
    ∙ sym (append_assoc (map (ended_by e.act) (span_begun x.act book)) (map (ended_by e.act) (spans book)) (span_begun e.act []))
    ∙ ap (λ l. l ++ span_begun e.act []) (sym (map-append (ended_by e.act) (span_begun x.act book) (spans book)))
