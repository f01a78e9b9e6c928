-- How many rows entries give to a register, with one entry more.
use Rattle.std.proofs.Common.{◌≡◌, ℕ, ◌+◌, ◌≤◌, ◌<◌, List, [], ◌∷◌, ◌++◌, length, Option, Some, None, Bool, cond, refl, sym, ap, ◌∙◌, arith, length-append}
use Rattle.std.specs.Prelude.{is_some}
use Rattle.std.specs.List.{cons_option}
use Rattle.std.proofs.lemmas.List.Elements.{filter_map-append}
use Rattle.mx_book.specs.commands.Act.{Act, Entry}
use Rattle.mx_book.specs.Register.{register}

module _ {Row : Type 0} (pick : Act → Option Row) where
  pub one_more : (book : List Entry) (entry : Entry) → length (register pick (book ++ entry ∷ [])) ≡ length (register pick book) + cond (is_some (pick entry.act)) 1 0
  one_more book entry = ap length (filter_map-append (λ (e : Entry). pick e.act) book (entry ∷ [])) ∙ length-append (register pick book) (cons_option (pick entry.act) []) ∙ ap (λ n. length (register pick book) + n) (at (pick entry.act))
    where
      at : (o : Option Row) → length (cons_option o []) ≡ cond (is_some o) 1 0
      at None = refl
      at (Some row) = refl

  pub no_more : (book : List Entry) → length (register pick book) ≤ length book
  no_more [] = omega arith
  no_more (entry ∷ book) = at (pick entry.act) (no_more book)
    where
      at : (o : Option Row) → length (register pick book) ≤ length book → length (cons_option o (register pick book)) ≤ length (entry ∷ book)
      at None h = omega arith
      at (Some row) h = omega arith

  -- a count that is raised where the entry gives a row
  pub counted : (book : List Entry) (entry : Entry) (n m : ℕ) (is_one : Bool) (row : Option Row) → n ≡ length (register pick book) → length book ≤ 1000000 → is_one ≡ is_some row → row ≡ pick entry.act
      → (n < 4294967295 → m ≡ n + cond is_one 1 0) → m ≡ length (register pick (book ++ entry ∷ []))
  counted book entry n m is_one row is few one said step =
      let bound = no_more book in
      step (omega (arith, is, few, bound))
      ∙ ap (λ k. k + cond is_one 1 0) is
      ∙ ap (λ b. length (register pick book) + cond b 1 0) (one ∙ ap is_some said)
      ∙ sym (one_more book entry)
