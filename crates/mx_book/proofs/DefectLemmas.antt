-- Deferred defects: the open one of one entry, and what releases and extensions that are entered do to them.
use Rattle.std.proofs.Common.{arith, refl, sym, ap, ◌∙◌, ◌≡◌, ℕ, ◌+◌, ◌*◌, ◌≤◌, List, [], ◌∷◌, ◌++◌, Bool, true, false, cond, not, ◌&&◌, ◌||◌, Option, Some, None, append-nil}
use Rattle.std.specs.Prelude.{filter, find, nat_lt, is_some, is_none, IsSomeAnd}
use Rattle.std.specs.List.{cons_option, flat_map, list_any}
use Rattle.std.specs.Option.{option_map_or, option_and_then, option_or}
use Rattle.std.proofs.lemmas.Bool.Decides.{nat_tests}
use Rattle.std.proofs.lemmas.List.Elements.{filter_map-append}
use Rattle.std.proofs.lemmas.List.Folds.{find-append, list_any-append}
use Rattle.mx_book.specs.commands.Act.{Entry, Released, Extended, extension_of, lines_of}
use Rattle.mx_book.specs.commands.Same.{same_text}
use Rattle.mx_book.specs.declared.commands.deferral.Extension.{Extension}
use Rattle.mx_book.specs.declared.commands.release.Line.{Line}
use Rattle.mx_book.specs.declared.commands.release.Release.{Release}
use Rattle.mx_book.proofs.CommandsProofs.SameLemmas.{text_same}
use Rattle.mx_book.specs.declared.defects.Defect.{Defect}
use Rattle.mx_book.specs.declared.verdict.Verdict.TheVariants.{New}
use Rattle.mx_book.specs.Register.{register}
use Rattle.mx_book.specs.Defect.{day_found, days_extended, defect, defects, deferred_by, extension, interval, is_open, is_rectified, last_permitted, open_defects, open_from, rectifies}
use Rattle.mx_book.specs.Judge.{judge, interval_exceeded, line_defects}
use Rattle.mx_book.proofs.PassLemmas.{new-passes}

module _ (book : List Entry) (tail : List ℕ) (entry : Entry) where
  -- where an entry defers a defect that is open, that is the open one among it
  pub open_one : (d : Defect) → deferred_by entry ≡ Some d → is_open book tail d ≡ true → d ∷ [] ≡ open_from book tail (entry ∷ [])
  open_one d e h =
      sym (ap (λ b. cond b (d ∷ []) []) h) ∙ sym (ap (λ o. filter (is_open book tail) (cons_option o [])) e)

  -- where it is closed, there is none
  pub closed_one : (d : Defect) → deferred_by entry ≡ Some d → is_open book tail d ≡ false → [] ≡ open_from book tail (entry ∷ [])
  closed_one d e h =
      sym (ap (λ b. cond b (d ∷ []) []) h) ∙ sym (ap (λ o. filter (is_open book tail) (cons_option o [])) e)

-- ── as entries are added ──

-- an element that is found passes the test
found_passes : {X : Type 0} (p : X → Bool) (xs : List X) (x : X) → find p xs ≡ Some x → p x ≡ true
found_passes p [] x h = (cc)
found_passes p (y ∷ xs) x h = at (p y) refl (found_passes p xs x) h
  where
    at : (b : Bool) → p y ≡ b → (find p xs ≡ Some x → p x ≡ true) → cond b (Some y) (find p xs) ≡ Some x → p x ≡ true
    at true e later h = let same : y ≡ x = cc in ap p (sym same) ∙ e
    at false e later h = later h

-- what passes two tests, one after the other
filter_both : {X : Type 0} (p q r : X → Bool) (xs : List X) → ((x : X) → r x ≡ p x && q x) → filter r xs ≡ filter q (filter p xs)
filter_both p q r [] h = refl
filter_both p q r (x ∷ xs) h = at (p x) (h x) (filter_both p q r xs h)
  where
    at : (b : Bool) → r x ≡ b && q x → filter r xs ≡ filter q (filter p xs) → cond (r x) (x ∷ filter r xs) (filter r xs) ≡ filter q (cond b (x ∷ filter p xs) (filter p xs))
    at true e rest = ap (λ b. cond b (x ∷ filter r xs) (filter r xs)) e ∙ ap (λ ys. cond (q x) (x ∷ ys) ys) rest
    at false e rest = ap (λ b. cond b (x ∷ filter r xs) (filter r xs)) e ∙ rest

-- a defect was rectified by the first entries, or by the others
rectified_by_either : (book more : List Entry) (doc : List ℕ) → is_rectified (book ++ more) doc ≡ is_rectified book doc || is_rectified more doc
rectified_by_either book more doc = list_any-append (λ entry. list_any (rectifies doc) (lines_of entry.act)) book more

-- what was rectified stays so
pub rectified_stays : (book more : List Entry) (doc : List ℕ) → is_rectified book doc ≡ true → is_rectified (book ++ more) doc ≡ true
rectified_stays book more doc h = rectified_by_either book more doc ∙ ap (λ b. b || is_rectified more doc) h

still_open : (of was is : Bool) → of && not (was || (is || false)) ≡ (of && not was) && not is
still_open true true is = refl
still_open true false true = refl
still_open true false false = refl
still_open false was is = refl

-- behind a release those defects are open that were, and that no line of it rectifies
pub released_leaves : (book : List Entry) (tail doc : List ℕ) (release : Release) (lines : List Line)
    → open_defects (book ++ record { doc = doc; act = Released release lines } ∷ []) tail ≡ filter (λ d. not (list_any (rectifies d.doc) lines)) (open_defects book tail)
released_leaves book tail doc release lines =
    let released : Entry = record { doc = doc; act = Released release lines } in
    ap (filter (is_open (book ++ released ∷ []) tail)) (filter_map-append deferred_by book (released ∷ []) ∙ append-nil (defects book))
    ∙ filter_both (is_open book tail) (λ (d : Defect). not (list_any (rectifies d.doc) lines)) (is_open (book ++ released ∷ []) tail) (defects book)
    (λ (d : Defect). ap (λ b. same_text d.deferral.tail tail && not b) (rectified_by_either book (released ∷ []) d.doc)
    ∙ still_open (same_text d.deferral.tail tail) (is_rectified book d.doc) (list_any (rectifies d.doc) lines))

-- a release that is new rectifies no defect a second time
pub new_rectifies_once : (book : List Entry) (doc : List ℕ) (release : Release) (lines : List Line)
    → judge book (record { doc = doc; act = Released release lines }) ≡ New → list_any (is_rectified book) (flat_map line_defects lines) ≡ false
new_rectifies_once book doc release lines new = (new-passes book (record { doc = doc; act = Released release lines }) new).defect_closed

-- ── extensions ──

not_some : (o : Option Extension) → is_some o ≡ false → o ≡ None
not_some None h = refl
not_some (Some x) h = (cc)

not_exceeded : (b : Bool) (most : ℕ) → cond b (Some most) None ≡ None → b ≡ false
not_exceeded true most h = (cc)
not_exceeded false most h = refl

at_most : (days most : ℕ) → nat_lt most days ≡ false → days ≤ most
at_most days most h = grind (arith, nat_tests)

-- behind an extension of what had none, it is that
extension_entered : (book : List Entry) (doc : List ℕ) (x : Extension) → extension book x.defect ≡ None → extension (book ++ record { doc = doc; act = Extended x } ∷ []) x.defect ≡ Some x
extension_entered book doc x h =
    let same : same_text x.defect x.defect ≡ true = (text_same x.defect x.defect).1 refl in
    ap (find (λ (y : Extension). same_text y.defect x.defect)) (filter_map-append (λ e. extension_of e.act) book (record { doc = doc; act = Extended x } ∷ []))
    ∙ find-append (λ (y : Extension). same_text y.defect x.defect) (register extension_of book) (x ∷ [])
    ∙ ap (λ o. option_or o (cond (same_text x.defect x.defect) (Some x) None)) h
    ∙ ap (λ b. cond b (Some x) None) same

doubled : (book : List Entry) (doc : List ℕ) (x : Extension) (o : Option Defect) → defect book x.defect ≡ o → is_none o || false ≡ false
    → extension book x.defect ≡ None → option_and_then (interval_exceeded x.days) o ≡ None
    → IsSomeAnd o (λ d. last_permitted (book ++ record { doc = doc; act = Extended x } ∷ []) d ≤ day_found d + 2 * interval d.deferral.category)
doubled book doc x None found known first short = (cc)
doubled book doc x (Some d) found known first short =
    let name : d.doc ≡ x.defect = (text_same d.doc x.defect).0 (found_passes (λ (e : Defect). same_text e.doc x.defect) (defects book) d found) in
    let days : days_extended (book ++ record { doc = doc; act = Extended x } ∷ []) d.doc ≡ x.days =
    ap (days_extended (book ++ record { doc = doc; act = Extended x } ∷ [])) name ∙ ap (λ o. option_map_or (λ (y : Extension). y.days) o 0) (extension_entered book doc x first) in
    let most : x.days ≤ interval d.deferral.category = at_most x.days (interval d.deferral.category) (not_exceeded (nat_lt (interval d.deferral.category) x.days) (interval d.deferral.category) short) in
    omega (arith, days, most)

-- an extension that is new at most doubles the interval
pub new_doubles : (book : List Entry) (doc : List ℕ) (x : Extension) → judge book (record { doc = doc; act = Extended x }) ≡ New
    → IsSomeAnd (defect book x.defect) (λ d. last_permitted (book ++ record { doc = doc; act = Extended x } ∷ []) d ≤ day_found d + 2 * interval d.deferral.category)
new_doubles book doc x new =
    let passes = new-passes book (record { doc = doc; act = Extended x }) new in
    doubled book doc x (defect book x.defect) refl passes.unknown_defect
    (not_some (extension book x.defect) passes.already_extended) passes.extension_too_long
