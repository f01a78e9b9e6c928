-- What the rows of a log give, one after another.
use Rattle.std.proofs.Common.{◌≡◌, ◌≤◌, ◌<◌, ◌+◌, ℕ, List, [], ◌∷◌, ◌++◌, length, get_or, drop, take, map, append_assoc, Bool, true, false, cond, Some, None, Result, Ok, Err, refl, sym, ap, ◌∙◌, arith, nat_lt}
use Rattle.std.specs.Prelude.{IsUtf8}
use Rattle.std.proofs.lemmas.Bool.Decides.{nat_tests}
use Rattle.std.proofs.lemmas.List.{drop_more, length-take-le, take_all}
use Rattle.std.proofs.lemmas.Str.{IsUtf8-from_is_utf8, is_utf8-from_IsUtf8}
use Rattle.std.specs.Str.{is_utf8}
use Rattle.csv.specs.Reading.{default_config, records, strip_bom}
use Rattle.mx_book.specs.commands.Act.{Entry}
use Rattle.mx_intake.specs.Fault.{fault}
use Rattle.mx_intake.specs.Sectors.{text_of_field, is_header, row_of, rows_from, rows_if_few, rows_under_header, sector_rows}
use Rattle.mx_intake.specs.declared.fault.IntakeFault.{IntakeFault}

-- ── a field as text ──

pub text_of_field-text : (field : List ℕ) → IsUtf8 field → text_of_field field ≡ Some field
unfolding text_of_field
text_of_field-text field t = rw (is_utf8-from_IsUtf8 field t)

not_text_at : (field : List ℕ) (b : Bool) → is_utf8 field ≡ b → (IsUtf8 field → ⊥) → b ≡ false
not_text_at field true e fails = absurd (fails (IsUtf8-from_is_utf8 field e))
not_text_at field false e fails = refl

pub text_of_field-other : (field : List ℕ) → (IsUtf8 field → ⊥) → text_of_field field ≡ None
unfolding text_of_field
text_of_field-other field fails = rw (not_text_at field (is_utf8 field) refl fails)

-- ── all rows ──

-- one more row
pub rows_from-next : {V : Type 0} (view : V → List (List ℕ)) (vs : List V) (first : List (Result Entry IntakeFault)) (i : ℕ) (v : V) (row : Result Entry IntakeFault)
    → i < length vs → v ≡ get_or vs i v → row ≡ row_of (i + 1) (view v)
    → rows_from 1 (map view vs) ≡ first ++ rows_from (i + 1) (map view (drop i vs))
    → rows_from 1 (map view vs) ≡ (first ++ row ∷ []) ++ rows_from (i + 1 + 1) (map view (drop (i + 1) vs))
rows_from-next view vs first i v row h is same so_far =
    let front : drop i vs ≡ v ∷ drop (i + 1) vs = drop_more vs i v h ∙ ap (λ x. x ∷ drop (i + 1) vs) (sym is) in
    so_far ∙ ap (λ rest. first ++ rows_from (i + 1) (map view rest)) front
    ∙ ap (λ one. first ++ (one ∷ rows_from (i + 1 + 1) (map view (drop (i + 1) vs)))) (sym same)
    ∙ sym (append_assoc first (row ∷ []) (rows_from (i + 1 + 1) (map view (drop (i + 1) vs))))

pub rows_if_few-many : (rows : List (List (List ℕ))) → 100000 < length rows → rows_if_few rows ≡ Err (fault 67 0)
rows_if_few-many rows h =
    let over : nat_lt 100000 (length rows) ≡ true = grind (arith, nat_tests) in
    rw over refl

pub rows_if_few-few : (rows : List (List (List ℕ))) → length rows ≤ 100000 → rows_if_few rows ≡ Ok (rows_from 1 rows)
rows_if_few-few rows h =
    let within : nat_lt 100000 (length rows) ≡ false = grind (arith, nat_tests) in
    rw within refl

-- ── as many rows as show that there are too many ──

few_first : (rows : List (List (List ℕ))) (b : Bool) → nat_lt 100001 (length rows) ≡ b → rows_if_few (take 100001 rows) ≡ rows_if_few rows
few_first rows true many =
    let over : 100001 < length rows = grind (arith, nat_tests, many) in
    let cut : length (take 100001 rows) ≡ 100001 = length-take-le 100001 rows (omega (arith, over)) in
    rows_if_few-many (take 100001 rows) (omega (arith, cut)) ∙ sym (rows_if_few-many rows (omega (arith, over)))
few_first rows false few = ap rows_if_few (take_all 100001 rows (grind (arith, nat_tests, few)))

-- the header, the rows and one more give what all records give
pub first_enough : (records : List (List (List ℕ))) → rows_under_header (take 100002 records) ≡ rows_under_header records
first_enough [] = ap rows_under_header (take_all 100002 [] (omega arith))
first_enough (first ∷ rows) =
    ap (λ (given : Result (List (Result Entry IntakeFault)) IntakeFault). cond (is_header first) given (Err (fault 66 0))) (few_first rows (nat_lt 100001 (length rows)) refl)

-- what a text of no more bytes than are taken gives, by its first records
pub sector_rows_by : (bytes : List ℕ) (taken : List (List (List ℕ))) → length bytes ≤ 8388608 → taken ≡ take 100002 (records default_config (strip_bom bytes)) → sector_rows bytes ≡ rows_under_header taken
sector_rows_by bytes taken within same =
    let few : nat_lt 8388608 (length bytes) ≡ false = grind (arith, nat_tests) in
    rw few (sym (first_enough (records default_config (strip_bom bytes))) ∙ ap rows_under_header (sym same))
