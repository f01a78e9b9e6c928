-- A deferral, its entry and its aircraft, where it is known which defects were rectified: what it says where these are there, and what is damaged where one is not.
use Rattle.std.proofs.Common.{◌≡◌, ℕ, ◌∙◌, Bool, true, false, cond, List, [], ◌∷◌, Option, Some, None, ap, ap₂, inl, inr, refl, sym, subst}
use Rattle.std.specs.Prelude.{is_some, nat_eq}
use Rattle.std.specs.HashSet.{HashSet, contains}
use Rattle.std.specs.List.{cons_option, filter_map}
use Rattle.sqlite.specs.Order.{Row}
use Rattle.sqlite.specs.Tree.{Trees}
use Rattle.mx_book.specs.commands.Act.{Entry}
use Rattle.mx_book.specs.declared.defects.Defect.{Defect}
use Rattle.mx_base.specs.declared.rows.rows.DeferralRow.{DeferralRow}
use Rattle.mx_layout.specs.TableName.{TableName}
use Rattle.mx_layout.specs.declared.fault.Table.TheVariants as table
use Rattle.mx_layout.specs.kept.Cells.{kept_defect}
use Rattle.mx_layout.specs.kept.Kept.{Kept}
use Rattle.mx_row_rules.specs.found.Defects.{deferred_said, is_rectified_at, left_said}
use Rattle.mx_lookups.specs.numbers.AnyRows.{AreSaid}
use Rattle.mx_lookups.specs.numbers.Damage.{IsDamaged, IsKept}
use Rattle.mx_lookups.specs.numbers.Given.{AreRectified, DefectOfRow, IsRectifiedAt, LeftSaid}
use Rattle.mx_lookups.specs.numbers.Told.{Damage, DamageEach, DefectIfOpenDamage, DefectOfRowDamage, LacksOne}
use Rattle.mx_lookups.proofs.DamageLemmas.{deferred_unmet, entry_unmet}
use Rattle.mx_lookups.proofs.NumbersProofs.ToldLemmas.{has_none}

-- ── of a book ──

-- what is there is said
pub said_there : {X : Type 0} (said : Option X) → is_some said ≡ true → None ≡ said → ⊥
said_there said there none = (let e = ap is_some none ∙ there in absurd cc)

-- what is said by one test and by another is the same where the tests are
pub said_same : {X Y : Type 0} (f g : X → Option Y) → ((x : X) → f x ≡ g x) → (xs : List X) → filter_map f xs ≡ filter_map g xs
said_same f g same [] = refl
said_same f g same (x ∷ xs) = ap₂ (λ o l. cons_option o l) (same x) (said_same f g same xs)

module _ {S : Type 0} (rectified : HashSet ℕ S) where
  -- what a deferral says, but for those with one of the numbers
  abbrev pub said_but : List Entry → DeferralRow → Option Defect
  said_but book row = cond (contains nat_eq rectified row.seq) None (deferred_said book row)

  -- where these are the defects that were rectified, the open ones are left
  pub but_left : (book : List Entry) → ((n : ℕ) → contains nat_eq rectified n ≡ is_rectified_at book n) → (rows : List DeferralRow) → filter_map (said_but book) rows ≡ filter_map (left_said book) rows
  but_left book known rows = said_same (said_but book) (left_said book) (λ row. ap (λ t. cond t None (deferred_said book row)) (known row.seq)) rows

  -- ── over any rows ──

  -- what it says so, where these are the numbers that lines have
  abbrev pub SaysBut : Trees → DeferralRow → Option Defect → Type 0
  SaysBut trees row said = AreRectified rectified trees → LeftSaid trees row said

  pub each_left : (trees : Trees) → AreRectified rectified trees → (rows : List DeferralRow) (answer : List Defect) → AreSaid (SaysBut trees) rows answer → AreSaid (LeftSaid trees) rows answer
  each_left trees known [] answer h = h
  each_left trees known (row ∷ rows) answer h = (h.0, h.1, h.2 known, each_left trees known rows h.1 h.3, h.4)

  module _ (trees : Trees) (row : DeferralRow) where
    not_among : contains nat_eq rectified row.seq ≡ false → AreRectified rectified trees → IsRectifiedAt row.seq trees false
    not_among out known = subst (IsRectifiedAt row.seq trees) out (known row.seq)

    -- it is one of them
    pub left_out : contains nat_eq rectified row.seq ≡ true → SaysBut trees row None
    left_out among known = subst (IsRectifiedAt row.seq trees) among (known row.seq)

    -- it is none of them, and says this
    pub said_left : contains nat_eq rectified row.seq ≡ false → (defect : Defect) → DefectOfRow row trees (Some defect) → SaysBut trees row (Some defect)
    said_left out defect it known = (it.0, it.1, (not_among out known, it.2), it.3, it.4)

    -- what is looked up for it is damaged
    pub left_damage : contains nat_eq rectified row.seq ≡ false → (name : TableName) → DefectOfRowDamage row name trees → AreRectified rectified trees → DefectIfOpenDamage row name trees
    left_damage out name (inl doc) known = inl (inr (not_among out known, doc))
    left_damage out name (inr tail) known = inr (tail.0, (not_among out known, tail.1), tail.2)

    -- its entry is not there, or its aircraft
    pub lacks_one : contains nat_eq rectified row.seq ≡ false → DefectOfRow row trees None → AreRectified rectified trees → LacksOne row trees
    lacks_one out (inl gone) known = inl (not_among out known, has_none (λ r. r.doc) gone)
    lacks_one out (inr gone) known = inr (gone.0, (not_among out known, gone.1), has_none (λ r. r.tail) gone.2)

-- the deferral is damaged
pub lacking : (trees : Trees) (row : DeferralRow) → IsKept kept_defect trees row → DefectOfRow row trees None → IsDamaged table.Defect trees
lacking trees row kept (inl gone) = entry_unmet trees row kept gone
lacking trees row kept (inr gone) = deferred_unmet trees row kept gone.2

-- what is told for one row under a premise is told for it
pub each_under : {X : Type 0} (k : Kept X) (chosen : Row → Bool) (Then : X → Damage) (name : TableName) (trees : Trees) (Known : Trees → Type 0) → DamageEach k chosen (λ x name trees. Known trees → Then x name trees) name trees → Known trees → DamageEach k chosen Then name trees
each_under k chosen Then name trees Known (inl unread) known = inl unread
each_under k chosen Then name trees Known (inr one) known = inr (one.0, one.1, one.2 known)
