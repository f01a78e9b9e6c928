-- A text is read as the day or the moment whose text it is.
use Rattle.std.proofs.Common.{◌≡◌, ℕ, ◌+◌, ◌*◌, ◌/◌, ◌≤◌, List, Bool, true, false, ◌&&◌, cond, Some, None, refl, sym, ap, ◌∙◌, arith, pos, unsigned_abs, nat_le}
use Rattle.std.specs.Prelude.{◌≢◌, Result, Ok, Err, IfOk, OnErr}
use Rattle.std.specs.Result.{result_ok}
use Rattle.std.proofs.lemmas.Bool.{and_from, and_parts}
use Rattle.std.proofs.lemmas.Bool.Decides.{nat_tests}
use Rattle.jiff_core.specs.Calendar.{days_from_civil}
use Rattle.mx_base.specs.declared.calendar.CivilDate.{CivilDate}
use Rattle.mx_base.specs.Calendar.{date_of}
use Rattle.mx_base.specs.Texts.{date_text, day_text, moment_text}
use Rattle.mx_base.proofs.CalendarLemmas.{date_of-is_day}
use Rattle.mx_book.specs.commands.Same.{same_text}
use Rattle.mx_book.proofs.CommandsProofs.SameLemmas.{text_same}
use Rattle.mx_intake.specs.Vocabulary.{pair_at, named_day, day_of_text, named_moment, moment_of_text}

-- the year, the month and the day that the text of a date writes
year_of_text : (t : CivilDate) → pair_at (date_text t) 0 * 100 + pair_at (date_text t) 2 ≡ t.year
year_of_text t = omega arith

month_of_text : (t : CivilDate) → pair_at (date_text t) 5 ≡ t.month
month_of_text t = omega arith

day_of_month : (t : CivilDate) → pair_at (date_text t) 8 ≡ t.day
day_of_month t = omega arith

-- the text of a day names that day
named_day-day_text : (d : ℕ) → d ≤ 84005 → named_day (day_text d) ≡ d
unfolding named_day day_text
named_day-day_text d h =
    let t : CivilDate = date_of d in
    ap (λ year. unsigned_abs (days_from_civil (pos year) (pair_at (date_text t) 5) (pair_at (date_text t) 8))) (year_of_text t)
    ∙ ap (λ month. unsigned_abs (days_from_civil (pos t.year) month (pair_at (date_text t) 8))) (month_of_text t)
    ∙ ap (λ day. unsigned_abs (days_from_civil (pos t.year) t.month day)) (day_of_month t)
    ∙ ap unsigned_abs (date_of-is_day d h).number

-- a value that passes its test, and one that does not
chosen : {A : Type 0} (b : Bool) (a : A) → b ≡ true → cond b (Some a) None ≡ Some a
chosen true a h = refl
chosen false a h = absurd (cc)

refused : {A : Type 0} (b : Bool) (a : A) → (b ≡ true → ⊥) → cond b (Some a) None ≡ None
refused true a never = absurd (never refl)
refused false a never = refl

at_most : (n most : ℕ) → n ≤ most → nat_le n most ≡ true
at_most n most h = grind (arith, nat_tests)

at_most_by : (n most : ℕ) → nat_le n most ≡ true → n ≤ most
at_most_by n most h = grind (arith, nat_tests)

-- what a text names is found where it has that text and is not past the last
found : (named : List ℕ → ℕ) (said : ℕ → List ℕ) (last : ℕ) (text : List ℕ) (n : ℕ) → named (said n) ≡ n → n ≤ last → said n ≡ text
    → cond (nat_le (named text) last && same_text (said (named text)) text) (Some (named text)) None ≡ Some n
found named said last text n back h e =
    let is : named text ≡ n = ap named (sym e) ∙ back in
    let test : nat_le n last && same_text (said n) text ≡ true = and_from (nat_le n last) (same_text (said n) text) (at_most n last h) ((text_same (said n) text).1 e) in
    ap (λ m. cond (nat_le m last && same_text (said m) text) (Some m) None) is ∙ chosen (nat_le n last && same_text (said n) text) n test

-- and nothing is found where nothing has that text
not_found : (named : List ℕ → ℕ) (said : ℕ → List ℕ) (last : ℕ) (text : List ℕ) → ((n : ℕ) → n ≤ last → said n ≢ text)
    → cond (nat_le (named text) last && same_text (said (named text)) text) (Some (named text)) None ≡ None
not_found named said last text never =
    refused (nat_le (named text) last && same_text (said (named text)) text) (named text)
    (λ test. let parts = and_parts (nat_le (named text) last) (same_text (said (named text)) text) test in
    never (named text) (at_most_by (named text) last parts.0) ((text_same (said (named text)) text).0 parts.1))

-- so a reader of texts finds what a text names
read_by : {E : Type 0} (named : List ℕ → ℕ) (said : ℕ → List ℕ) (last : ℕ) (text : List ℕ) → ((n : ℕ) → n ≤ last → named (said n) ≡ n)
    → (r : Result ℕ E) → IfOk r (λ n. (n ≤ last) × (said n ≡ text)) → OnErr r ((n : ℕ) → n ≤ last → said n ≢ text)
    → result_ok r ≡ cond (nat_le (named text) last && same_text (said (named text)) text) (Some (named text)) None
read_by named said last text back (Ok n) ok err = sym (found named said last text n (back n ok.0) ok.0 ok.1)
read_by named said last text back (Err e) ok err = sym (not_found named said last text err)

pub day_of_text-read : {E : Type 0} (text : List ℕ) (r : Result ℕ E) → IfOk r (λ d. (d ≤ 84005) × (day_text d ≡ text)) → OnErr r ((d : ℕ) → d ≤ 84005 → day_text d ≢ text) → result_ok r ≡ day_of_text text
unfolding day_of_text
day_of_text-read text r = read_by named_day day_text 84005 text named_day-day_text r

-- the day of a moment's text is the day that stands in front of it
named_moment-moment_text : (m : ℕ) → m ≤ 120968639 → named_moment (moment_text m) ≡ m
unfolding named_moment named_day moment_text day_text
named_moment-moment_text m h =
    let t : CivilDate = date_of (m / 1440) in
    let day : unsigned_abs (days_from_civil (pos (pair_at (date_text t) 0 * 100 + pair_at (date_text t) 2)) (pair_at (date_text t) 5) (pair_at (date_text t) 8)) ≡ m / 1440 = named_day-day_text (m / 1440) (omega arith) in
    omega (arith, day)

pub moment_of_text-read : {E : Type 0} (text : List ℕ) (r : Result ℕ E) → IfOk r (λ m. (m ≤ 120968639) × (moment_text m ≡ text)) → OnErr r ((m : ℕ) → m ≤ 120968639 → moment_text m ≢ text) → result_ok r ≡ moment_of_text text
unfolding moment_of_text
moment_of_text-read text r = read_by named_moment moment_text 120968639 text named_moment-moment_text r
