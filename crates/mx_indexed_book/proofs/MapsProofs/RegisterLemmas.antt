-- What an entry changes of the registers by their names.
use Rattle.std.proofs.Common.{arith, refl, sym, ap, subst, ◌∙◌, ◌≡◌, ℕ, ◌+◌, length, suc, List, [], ◌∷◌, ◌++◌, Bool, true, false, cond, Option, Some, None, slice_get}
use Rattle.std.specs.Prelude.{find, is_some}
use Rattle.std.specs.List.{cons_option, filter_map}
use Rattle.std.specs.Option.{option_and_then, option_map, option_or}
use Rattle.std.specs.Ordering.{nat_cmp}
use Rattle.std.specs.Cmp.Lexicographic.{slice_cmp}
use Rattle.std.specs.BTreeMap.{BTreeMap}
use Rattle.std.proofs.lemmas.List.Elements.{filter_map-append}
use Rattle.std.proofs.lemmas.List.Folds.{find-append}
use Rattle.mx_book.specs.commands.Act.{Act, Entry, Added, Listed, Extended, aircraft_of, component_of, deferral_of, extension_of}
use Rattle.mx_book.specs.commands.Same.{same_entry, same_text}
use Rattle.mx_book.specs.declared.commands.aircraft.Aircraft.{Aircraft}
use Rattle.mx_book.specs.declared.commands.component.Component.{Component}
use Rattle.mx_book.specs.declared.commands.deferral.Extension.{Extension}
use Rattle.mx_book.proofs.CommandsProofs.SameLemmas.{text_same}
use Rattle.mx_book.specs.declared.defects.Defect.{Defect}
use Rattle.mx_book.specs.declared.verdict.Verdict.TheVariants.{New}
use Rattle.mx_book.specs.Asking.{known_same}
use Rattle.mx_book.specs.Book.{entry_at, is_new}
use Rattle.mx_book.specs.Defect.{deferred_by, defect, extension}
use Rattle.mx_book.specs.Judge.{judge, known_from}
use Rattle.mx_book.specs.Register.{aircraft, component}
use Rattle.mx_book.proofs.KnownLemmas.{unknown_document}
use Rattle.mx_book.proofs.PassLemmas.{new-passes}
use Rattle.mx_registers.proofs.NewLemmas.{added_is_unknown, listed_is_unknown}
use Rattle.mx_indexed_book.specs.maps.Maps.{IsIndex, changed, held}
use Rattle.mx_indexed_book.specs.maps.Registers.{named, number_of}
use Rattle.mx_indexed_book.proofs.MapsProofs.MapLemmas.{tie}

pub none_of : {X : Type 0} (o : Option X) → is_some o ≡ false → o ≡ None
none_of None h = refl
none_of (Some x) h = absurd (cc)

pub or_none : {X : Type 0} (o : Option X) → option_or o None ≡ o
or_none None = refl
or_none (Some x) = refl

pub put_behind : {X : Type 0} (b : Bool) (x : X) (o : Option X) → (b ≡ true → o ≡ None) → option_or o (cond b (Some x) None) ≡ cond b (Some x) o
put_behind true x o h = ap (λ p. option_or p (Some x)) (h refl)
put_behind false x o h = or_none o

-- ── rows by their names ──

module _ {X : Type 0} (pick : Entry → Option X) (text : X → List ℕ) where
  abbrev found : List Entry → List ℕ → Option X
  found book name = find (λ x. same_text (text x) name) (filter_map pick book)

  one_more : (o : Option X) (old : Option X) (name : List ℕ) → ((x : X) → o ≡ Some x → same_text (text x) name ≡ true → old ≡ None)
      → option_or old (find (λ x. same_text (text x) name) (cons_option o [])) ≡ changed (slice_cmp nat_cmp) (named text o) name old
  one_more None old name free = or_none old
  one_more (Some x) old name free =
      put_behind (same_text (text x) name) x old (free x refl)
      ∙ ap (λ b. cond b (Some x) old) (sym (tie (text x) name))

  -- a row with a new name is found by it from then on, and the others as before
  pub row_moves : (book : List Entry) (entry : Entry) → ((x : X) → pick entry ≡ Some x → found book (text x) ≡ None)
      → (name : List ℕ) → found (book ++ entry ∷ []) name ≡ changed (slice_cmp nat_cmp) (named text (pick entry)) name (found book name)
  row_moves book entry free name =
      ap (find (λ x. same_text (text x) name)) (filter_map-append pick book (entry ∷ []))
      ∙ find-append (λ x. same_text (text x) name) (filter_map pick book) (cons_option (pick entry) [])
      ∙ one_more (pick entry) (found book name) name (λ x is same. ap (found book) (sym ((text_same (text x) name).0 same)) ∙ free x is)

-- ── those of the registers ──

pub free_aircraft : (book : List Entry) (doc : List ℕ) (act : Act) → judge book (record { doc = doc; act = act }) ≡ New → (a : Aircraft) → aircraft_of act ≡ Some a → aircraft book a.tail ≡ None
free_aircraft book doc (Added x positions) new a is =
    let same : x ≡ a = cc in
    subst (λ (y : Aircraft). aircraft book y.tail ≡ None) same (none_of (aircraft book x.tail) (added_is_unknown book doc x positions (ap is_new new)))
free_aircraft book doc _ new a is = absurd cc

pub free_component : (book : List Entry) (doc : List ℕ) (act : Act) → judge book (record { doc = doc; act = act }) ≡ New → (c : Component) → component_of act ≡ Some c → component book c.serial ≡ None
free_component book doc (Listed x) new c is =
    let same : x ≡ c = cc in
    subst (λ (y : Component). component book y.serial ≡ None) same (none_of (component book x.serial) (listed_is_unknown book doc x (ap is_new new)))
free_component book doc _ new c is = absurd cc

free_extension : (book : List Entry) (doc : List ℕ) (act : Act) → judge book (record { doc = doc; act = act }) ≡ New → (x : Extension) → extension_of act ≡ Some x → extension book x.defect ≡ None
free_extension book doc (Extended y) new x is =
    let same : y ≡ x = cc in
    subst (λ (z : Extension). extension book z.defect ≡ None) same (none_of (extension book y.defect) (new-passes book (record { doc = doc; act = Extended y }) new).already_extended)
free_extension book doc _ new x is = absurd cc

pub extension_moves : (book : List Entry) (entry : Entry) → judge book entry ≡ New → (doc : List ℕ) → extension (book ++ entry ∷ []) doc ≡ changed (slice_cmp nat_cmp) (named (λ x. x.defect) (extension_of entry.act)) doc (extension book doc)
extension_moves book entry new = row_moves (λ e. extension_of e.act) (λ (x : Extension). x.defect) book entry (free_extension book entry.doc entry.act new)

-- ── defects, by the documents of their entries ──

unfoundable : (doc : List ℕ) (b : Bool) (k : ℕ) (e : Entry) (o : Option (ℕ × Entry)) → cond b (Some (k, e)) o ≡ None → (b ≡ false) × (o ≡ None)
unfoundable doc true k e o h = absurd (cc)
unfoundable doc false k e o h = (refl, h)

undeferred : (doc : List ℕ) (k : ℕ) (book : List Entry) → known_from doc k book ≡ None → defect book doc ≡ None
undeferred doc k [] h = refl
undeferred doc k (e ∷ book) h =
    let other = unfoundable doc (same_text e.doc doc) k e (known_from doc (k + 1) book) h in
    at (deferral_of e.act) other.0 (undeferred doc (k + 1) book other.1)
  where
    at : (o : Option _) → same_text e.doc doc ≡ false → defect book doc ≡ None
        → find (λ (d : Defect). same_text d.doc doc) (cons_option (option_map (λ d. record { doc = e.doc; deferral = d }) o) (filter_map deferred_by book)) ≡ None
    at None other rest = rest
    at (Some d) other rest = ap (λ b. cond b (Some (record { doc = e.doc; deferral = d })) (defect book doc)) other ∙ rest

own_document : (entry : Entry) (d : Defect) → deferred_by entry ≡ Some d → entry.doc ≡ d.doc
own_document entry d h = at (deferral_of entry.act) h
  where
    at : (o : Option _) → option_map (λ d. record { doc = entry.doc; deferral = d }) o ≡ Some d → entry.doc ≡ d.doc
    at None g = absurd (cc)
    at (Some x) g = cc

pub defect_moves : (book : List Entry) (entry : Entry) → judge book entry ≡ New → (doc : List ℕ) → defect (book ++ entry ∷ []) doc ≡ changed (slice_cmp nat_cmp) (named (λ d. d.doc) (deferred_by entry)) doc (defect book doc)
defect_moves book entry new = row_moves deferred_by (λ (d : Defect). d.doc) book entry (λ d is. ap (defect book) (sym (own_document entry d is)) ∙ undeferred entry.doc 1 book (unknown_document book entry new))

-- ── documents ──

number_step : (doc : List ℕ) (k : ℕ) (book : List Entry) (entry : Entry) → option_map (λ (f : ℕ × Entry). f.0) (known_from doc k (book ++ entry ∷ [])) ≡ option_or (option_map (λ (f : ℕ × Entry). f.0) (known_from doc k book)) (cond (same_text entry.doc doc) (Some (k + length book)) None)
number_step doc k [] entry = at (same_text entry.doc doc)
  where
    same : k ≡ k + 0
    same = omega arith

    at : (b : Bool) → option_map (λ (f : ℕ × Entry). f.0) (cond b (Some (k, entry)) None) ≡ cond b (Some (k + 0)) None
    at true = ap Some same
    at false = refl
number_step doc k (e ∷ book) entry = at (same_text e.doc doc) (number_step doc (k + 1) book entry)
  where
    same : (k + 1) + length book ≡ k + length (e ∷ book)
    same = omega arith

    at : (b : Bool) → option_map (λ (f : ℕ × Entry). f.0) (known_from doc (k + 1) (book ++ entry ∷ [])) ≡ option_or (option_map (λ (f : ℕ × Entry). f.0) (known_from doc (k + 1) book)) (cond (same_text entry.doc doc) (Some ((k + 1) + length book)) None)
        → option_map (λ (f : ℕ × Entry). f.0) (cond b (Some (k, e)) (known_from doc (k + 1) (book ++ entry ∷ []))) ≡ option_or (option_map (λ (f : ℕ × Entry). f.0) (cond b (Some (k, e)) (known_from doc (k + 1) book))) (cond (same_text entry.doc doc) (Some (k + length (e ∷ book))) None)
    at true h = refl
    at false h = h ∙ ap (λ n. option_or (option_map (λ (f : ℕ × Entry). f.0) (known_from doc (k + 1) book)) (cond (same_text entry.doc doc) (Some n) None)) same

pub document_moves : (book : List Entry) (entry : Entry) → judge book entry ≡ New → (doc : List ℕ) → number_of (book ++ entry ∷ []) doc ≡ changed (slice_cmp nat_cmp) (Some (entry.doc, Some (length book + 1))) doc (number_of book doc)
document_moves book entry new doc =
    let same : 1 + length book ≡ length book + 1 = omega arith in
    number_step doc 1 book entry
    ∙ ap (λ n. option_or (number_of book doc) (cond (same_text entry.doc doc) (Some n) None)) same
    ∙ put_behind (same_text entry.doc doc) (length book + 1) (number_of book doc) (λ is. ap (number_of book) (sym ((text_same entry.doc doc).0 is)) ∙ ap (option_map (λ (f : ℕ × Entry). f.0)) (unknown_document book entry new))
    ∙ ap (λ b. cond b (Some (length book + 1)) (number_of book doc)) (sym (tie entry.doc doc))

-- the entry with a document is the one with its number
reached : (doc : List ℕ) (k : ℕ) (book : List Entry) (n : ℕ) (e : Entry) → known_from doc k book ≡ Some (n, e) → (j : ℕ) × (n ≡ k + j) × (slice_get book j ≡ Some e)
reached doc k [] n e h = absurd (cc)
reached doc k (x ∷ book) n e h = at (same_text x.doc doc) (λ g. reached doc (k + 1) book n e g) h
  where
    at : (b : Bool) → (known_from doc (k + 1) book ≡ Some (n, e) → (j : ℕ) × (n ≡ (k + 1) + j) × (slice_get book j ≡ Some e))
        → cond b (Some (k, x)) (known_from doc (k + 1) book) ≡ Some (n, e) → (j : ℕ) × (n ≡ k + j) × (slice_get (x ∷ book) j ≡ Some e)
    at true later g = (0, grind arith, grind arith)
    at false later g = let l = later g in (suc l.0, omega (arith, l.1), l.2)

-- what is known of a command, by the number of its document
abbrev pub known_at : List Entry → Entry → Option ℕ → Option (ℕ × Bool)
known_at book command number = option_and_then (λ n. option_map (λ (e : Entry). (n, same_entry e command)) (entry_at book n)) number

pub known_found : (book : List Entry) (command : Entry) → option_map (known_same command) (known_from command.doc 1 book) ≡ known_at book command (number_of book command.doc)
known_found book command = at (known_from command.doc 1 book) refl
  where
    at : (found : Option (ℕ × Entry)) → known_from command.doc 1 book ≡ found
        → option_map (known_same command) found ≡ known_at book command (option_map (λ (f : ℕ × Entry). f.0) found)
    at None h = refl
    at (Some f) h =
        let r = reached command.doc 1 book f.0 f.1 h in
        let n : f.0 ≡ suc r.0 = omega (arith, r.1) in
        ap (option_map (λ (e : Entry). (f.0, same_entry e command))) (sym r.2 ∙ ap (entry_at book) (sym n))

-- the same by what a map has of the document
pub known_by : (book seen : List Entry) (command : Entry) (doc : List ℕ) (map : BTreeMap (List ℕ) (Option ℕ)) (found : Option ℕ) → book ≡ seen → IsIndex (slice_cmp nat_cmp) None (number_of book) map
    → doc ≡ command.doc → found ≡ held (slice_cmp nat_cmp) None map doc → option_map (known_same command) (known_from command.doc 1 seen) ≡ known_at book command found
known_by book seen command doc map found same i is h =
    ap (λ b. option_map (known_same command) (known_from command.doc 1 b)) (sym same)
    ∙ known_found book command
    ∙ ap (known_at book command) (sym (h ∙ i doc ∙ ap (number_of book) is))
