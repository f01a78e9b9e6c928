-- An entry is to blame exactly where the merge says that one is damaged.
use Rattle.std.proofs.Common.{◌≡◌, ◌∙◌, ◌⊎◌, inl, inr, ℕ, ◌+◌, Bool, true, false, cond, List, [], ◌∷◌, ◌++◌, length, nat_eq, Option, None, Some, refl, ap, subst, arith}
use Rattle.std.specs.Prelude.{Result, Ok, Err}
use Rattle.std.specs.Option.{option_map_or}
use Rattle.std.proofs.lemmas.Bool.{and_from}
use Rattle.std.proofs.lemmas.Bool.Decides.{nat_tests}
use Rattle.mx_book.specs.commands.Act.{Entry}
use Rattle.mx_book.specs.Book.{is_new}
use Rattle.mx_book.specs.Judge.{judge}
use Rattle.mx_base.specs.declared.rows.rows.EntryKind.{EntryKind}
use Rattle.mx_base.specs.declared.rows.rows.EntryRow.{EntryRow}
use Rattle.mx_registers.specs.Merge.{Rest, are_taken, take_command}
use Rattle.mx_book_tables.proofs.StandsProofs.PointLemmas.{and_left, and_right}
use Rattle.mx_verify.specs.merged.Blame.{Gives, HasBlame, IsToBlame}
use Rattle.mx_verify.specs.merged.Merging.{has_row, merging, without_command}
use Rattle.mx_verify.specs.declared.merged.merged.NoBook.{NoBook}
use Rattle.mx_verify.specs.declared.merged.merged.NoBook.TheVariants.{Damaged, Differs}

abbrev IsDamaged : Result (List Entry) NoBook → EntryKind → Type 0
IsDamaged found kind = found ≡ Err (Damaged kind)

number_is : (a b : ℕ) → nat_eq a b ≡ true → a ≡ b
number_is a b e = grind (arith, nat_tests)

number_same : (a b : ℕ) → a ≡ b → nat_eq a b ≡ true
number_same a b e = grind (arith, nat_tests)

-- ── one is damaged, so one is to blame ──

pub damaged_blamed : (before : List Entry) (entries : List EntryRow) (rest : Rest) (kind : EntryKind) → IsDamaged (merging before entries rest) kind → HasBlame before entries rest kind
damaged_blamed before [] rest kind e = at (are_taken rest) e
  where
    at : (b : Bool) → IsDamaged (cond b (Ok before) (Err Differs)) kind → HasBlame before [] rest kind
    at true e = absurd cc
    at false e = absurd cc
damaged_blamed before (entry ∷ entries) rest kind e = at (nat_eq entry.seq (length before + 1)) refl (take_command before entry rest) refl e (λ next. damaged_blamed (before ++ next.0 ∷ []) entries next.1 kind)
  where
    here : nat_eq entry.seq (length before + 1) ≡ true → entry.kind ≡ kind → ((take_command before entry rest ≡ None) × (has_row entry rest ≡ true)) ⊎ ((next : Entry × Rest) × (take_command before entry rest ≡ Some next) × (is_new (judge before next.0) ≡ false))
        → HasBlame before (entry ∷ entries) rest kind
    here number same why = record {
      taken = [];
      entry = entry;
      more = entries;
      split = refl;
      of_kind = same;
      book = before;
      left = rest;
      gives = (refl, refl);
      blame = record { number = number_is entry.seq (length before + 1) number; why = why };
    }

    without : (b : Bool) → has_row entry rest ≡ b → IsDamaged (Err (cond b (Damaged entry.kind) Differs)) kind → (entry.kind ≡ kind) × (has_row entry rest ≡ true)
    without true row e = (let same : entry.kind ≡ kind = cc in same, row)
    without false row e = absurd cc

    judged : (next : Entry × Rest) → nat_eq entry.seq (length before + 1) ≡ true → take_command before entry rest ≡ Some next → (b : Bool) → is_new (judge before next.0) ≡ b → IsDamaged (cond b (merging (before ++ next.0 ∷ []) entries next.1) (Err (Damaged entry.kind))) kind
        → (IsDamaged (merging (before ++ next.0 ∷ []) entries next.1) kind → HasBlame (before ++ next.0 ∷ []) entries next.1 kind) → HasBlame before (entry ∷ entries) rest kind
    judged next number taken true new e rec =
        let r = rec e in
        record {
          taken = entry ∷ r.taken;
          entry = r.entry;
          more = r.more;
          split = ap (λ l. entry ∷ l) r.split;
          of_kind = r.of_kind;
          book = r.book;
          left = r.left;
          gives = (next, taken, and_from _ _ number new, r.gives);
          blame = r.blame;
        }
    judged next number taken false old e rec = here number (let same : entry.kind ≡ kind = cc in same) (inr (next, taken, old))

    at : (b : Bool) → nat_eq entry.seq (length before + 1) ≡ b → (t : Option (Entry × Rest)) → take_command before entry rest ≡ t
        → IsDamaged (cond b (option_map_or (λ (next : Entry × Rest). cond (is_new (judge before next.0)) (merging (before ++ next.0 ∷ []) entries next.1) (Err (Damaged entry.kind))) t (Err (without_command entry rest))) (Err Differs)) kind
        → ((next : Entry × Rest) → IsDamaged (merging (before ++ next.0 ∷ []) entries next.1) kind → HasBlame (before ++ next.0 ∷ []) entries next.1 kind) → HasBlame before (entry ∷ entries) rest kind
    at true number None taken e rec = let w = without (has_row entry rest) refl e in here number w.0 (inl (taken, w.1))
    at true number (Some next) taken e rec = judged next number taken (is_new (judge before next.0)) refl e (rec next)
    at false number t taken e rec = absurd cc

-- ── and the other way round ──

module _ (entry : EntryRow) (more : List EntryRow) (book : List Entry) (left : Rest) (blame : IsToBlame book entry left) where
  -- what the merge comes to at an entry with the next number
  goes : (before : List Entry) (x : EntryRow) (entries : List EntryRow) (rest : Rest) (t : Option (Entry × Rest)) → nat_eq x.seq (length before + 1) ≡ true → take_command before x rest ≡ t
      → merging before (x ∷ entries) rest ≡ option_map_or (λ (next : Entry × Rest). cond (is_new (judge before next.0)) (merging (before ++ next.0 ∷ []) entries next.1) (Err (Damaged x.kind))) t (Err (without_command x rest))
  goes before x entries rest t number taken =
      ap (λ b. cond b (option_map_or (λ (next : Entry × Rest). cond (is_new (judge before next.0)) (merging (before ++ next.0 ∷ []) entries next.1) (Err (Damaged x.kind))) (take_command before x rest) (Err (without_command x rest))) (Err Differs)) number
      ∙ ap (λ o. option_map_or (λ (next : Entry × Rest). cond (is_new (judge before next.0)) (merging (before ++ next.0 ∷ []) entries next.1) (Err (Damaged x.kind))) o (Err (without_command x rest))) taken

  at_blame : merging book (entry ∷ more) left ≡ Err (Damaged entry.kind)
  at_blame = elim blame.why [
    | inl none ↦ goes book entry more left None number none.0 ∙ ap (λ b. Err (cond b (Damaged entry.kind) Differs)) none.1
    | inr some ↦ goes book entry more left (Some some.0) number some.1 ∙ ap (λ b. cond b (merging (book ++ some.0.0 ∷ []) more some.0.1) (Err (Damaged entry.kind))) some.2
  ]
    where
      number : nat_eq entry.seq (length book + 1) ≡ true
      number = number_same entry.seq (length book + 1) blame.number

  behind : (taken : List EntryRow) (before : List Entry) (rest : Rest) → Gives before taken rest book left → merging before (taken ++ entry ∷ more) rest ≡ Err (Damaged entry.kind)
  behind [] before rest gives = subst (λ b. merging b (entry ∷ more) rest ≡ Err (Damaged entry.kind)) gives.0 (subst (λ r. merging book (entry ∷ more) r ≡ Err (Damaged entry.kind)) gives.1 at_blame)
  behind (x ∷ taken) before rest gives =
      let next = gives.0 in
      goes before x (taken ++ entry ∷ more) rest (Some next) (and_left _ _ gives.2) gives.1
      ∙ ap (λ b. cond b (merging (before ++ next.0 ∷ []) (taken ++ entry ∷ more) next.1) (Err (Damaged x.kind))) (and_right _ _ gives.2)
      ∙ behind taken (before ++ next.0 ∷ []) next.1 gives.3

pub blamed_damaged : (before : List Entry) (entries : List EntryRow) (rest : Rest) (kind : EntryKind) → HasBlame before entries rest kind → IsDamaged (merging before entries rest) kind
blamed_damaged before entries rest kind h =
    ap (λ l. merging before l rest) h.split ∙ behind h.entry h.more h.book h.left h.blame h.taken before rest h.gives ∙ ap (λ k. Err (Damaged k)) h.of_kind
