-- What is left of files that `sqlite` did not open.
use Rattle.std.proofs.Common.{◌≡◌, ◌≢◌, ◌≤◌, ◌<◌, ◌∙◌, ℕ, ◌%◌, List, take, slice_index, ◌∷◌, [], Bool, Some, None, Option, Result, Ok, Err, IfOk, IfErr, IfSome, IsTrue, inl, inr, sym, ap, subst, arith, eq-eqb, ne_eqb, get_or-take}
use Rattle.std.proofs.Math.Logic.{∥∥₁_elim, ∥∥₁_map}
use Rattle.std.proofs.lemmas.Bool.{and_from, cases_eq}
use Rattle.sqlite_disk.specs.declared.Disk.{Ghosts}
use Rattle.sqlite_disk.specs.declared.Files.{Files}
use Rattle.sqlite_disk.specs.Events.{replay, settled}
use Rattle.sqlite_disk.specs.History.{MayLeave}
use Rattle.sqlite_wal.specs.Recovery as raw
use Rattle.sqlite_wal.specs.Recovery.{Image, IsIgnored, Pages}
use Rattle.sqlite_wal.specs.Reads.{AreClean}
use Rattle.sqlite_wal.specs.Files.{outcomes}
use Rattle.sqlite_wal.specs.Format.{be32}
use Rattle.sqlite_wal.proofs.AppendLemmas.{some_value}
use Rattle.sqlite_pool.specs.Stored.{is_summed, reserved, resealed, stored_size, StandsAs}
use Rattle.sqlite_pool.specs.StoredLaws.{trimmed_some}
use Rattle.sqlite_pool.proofs.ProbeLemmas.{reserved_word, size_by_file, size_by_log}
use Rattle.sqlite_pool.proofs.ResealLemmas.{same_trimmed, still_whole}
use Rattle.sqlite_pool.proofs.StateLemmas.{clean_is, may_leave_is}
use Rattle.sqlite_trees.specs.Tree.{Trees}
use Rattle.sqlite_store.specs.declared.store.FileStore.{FileStore}
use Rattle.sqlite_store.specs.FileStore.{recovers, view}
use Rattle.sqlite.specs.declared.error.Error.{Error}
use Rattle.sqlite.specs.declared.file.Leftover.{Leftover}
use Rattle.sqlite.specs.declared.file.Leftover.TheVariants as left
use Rattle.sqlite.specs.Files.{faults_of, image_of, FailsToOpenFiles, HoldsDatabase, IsCleanLeft, LeavesFiles, NamesSize, SaysSums}
use Rattle.sqlite.specs.Closing.{files_left}
use Rattle.sqlite.specs.Held.{AreDatabases}
use Rattle.sqlite.specs.Opening.{HoldsIn}
use Rattle.sqlite.proofs.FileLemmas.{is_something}
use Rattle.sqlite.proofs.Theorems.{opens_again}
use Rattle.mx_database.specs.power.Left.{HoldsAmong, IsFaithful, IsLeft, IsStopOfOpening, OpensOnceMore, SaysNoSums, StandsStill}

-- the image holds a database whose tables are among these
abbrev pub Holds : (Trees → Type 0) → Image → Type 0
Holds among image = ∥ ((db : Trees) × among db × HoldsDatabase image db) ∥₁

nothing_twice : (a b : ⊥) → a ≡ b
nothing_twice a b = absurd a

-- what two clauses say of an answer
pub ok_by : {A E : Type 0} {P Q R : A → Type 0} (r : Result A E) → IfOk r P → IfOk r Q → ((a : A) → P a → Q a → R a) → IfOk r R
ok_by (Ok a) p q so = so a p q
ok_by (Err e) p q so = tt

pub err_by : {A E : Type 0} {P Q R : E → Type 0} (r : Result A E) → IfErr r P → IfErr r Q → ((e : E) → P e → Q e → R e) → IfErr r R
err_by (Ok a) p q so = tt
err_by (Err e) p q so = so e p q

pub ok_when : {A E Sure : Type 0} (Q R : A → Type 0) (r : Result A E) → IfOk r (λ a. Q a → Sure) → (Sure → IfOk r (λ a. Q a → R a)) → IfOk r (λ a. Q a → R a)
ok_when Q R (Ok a) sure so = λ q. so (sure q) q
ok_when Q R (Err e) sure so = tt

pub some_by : {A : Type 0} {P Q : A → Type 0} (o : Option A) → IfSome o P → ((a : A) → P a → Q a) → IfSome o Q
some_by (Some a) p so = so a p
some_by None p so = tt

-- a file that was opened and to which nothing has happened since holds what it held
pub only_start : (start : List ℕ) (key : ℕ) (mixes : Bool) (c : List ℕ) → (let m = replay start (settled key ∷ []) in MayLeave mixes m.seen m.synced m.steps c) → c ≡ start
only_start start key mixes c (inl same) = same
only_start start key mixes c (inr same) = same

-- ── the size of pages of files without sums ──

big : (size : ℕ) → 512 ≤ stored_size size → 504 ≤ size
big size large = let few : reserved size ≤ 8 = grind arith in omega (arith, large)

-- files that hold a database name the size of its pages
named_size : (image : Image) (db : Trees) (held : HoldsDatabase image db) (size : ℕ) → NamesSize image size → stored_size held.0 ≡ size
named_size image db held size names = elim (cases_eq (stored_size held.0) size) [
  | inl same ↦ same
  | inr other ↦
      let large = big held.0 held.1.0 in
      let unread : ¬ (¬ IsIgnored image.log) = λ seen. other (sym (size_by_log held.0 image held.2.pages held.2.found seen) ∙ sym (names.0 seen)) in
      absurd (unread (λ ignored. other (sym (size_by_file held.0 image held.2.pages held.2.found large held.2.ours.file.sound ignored) ∙ sym (names.1 ignored))))
]

-- an unsummed size is told by what its pages take in the file
same_size : (image : Image) (db : Trees) (held : HoldsDatabase image db) (size : ℕ) → stored_size held.0 ≡ stored_size size
    → (IsTrue (is_summed size) → SaysSums (stored_size size) image) → reserved held.0 ≡ 0 → held.0 ≡ size
same_size image db held size same says none =
    let large = big held.0 held.1.0 in
    let page = reserved_word held.0 _ _ held.2.found large held.2.ours.file.sound in
    elim (cases_eq (size % 16) 8) [
      | inl on ↦
          let eight : reserved size ≡ 8 = rw (eq-eqb _ 8 on) in
          let said = says (eq-eqb _ 8 eight) held.2.found.stored page.0 (subst (λ n. raw.Recovers n image held.2.found.stored) same held.2.found.found) page.1 (page.2 ∙ same) in
          absurd (let x : ⊥ = omega (arith, said, page.3, none) in x)
      | inr off ↦ let no : reserved size ≡ 0 = rw (ne_eqb _ 8 off) in omega (arith, same, none, no)
    ]

-- what stands for files holds the database that they held
stands_held : (size : ℕ) (old new : Image) (db : Trees) → HoldsIn size old db → StandsAs size old new → HoldsIn size new db
stands_held size old new db held stands = record {
  pages = held.pages;
  wanted = held.wanted;
  schema = held.schema;
  found = stands.1 held.pages held.found;
  ours = held.ours;
  reads = held.reads;
  sound = held.sound;
}

-- bytes 20 to 23 of a page are among those that are used
front_word : (size : ℕ) (a b : List ℕ) → 24 ≤ size → take size a ≡ take size b → be32 a 20 ≡ be32 b 20
unfolding be32
front_word size a b large same =
    let byte = λ (k : ℕ) (low : k < 24). sym (get_or-take size a k 0 (omega arith)) ∙ ap (λ (x : List ℕ). slice_index x k) same ∙ get_or-take size b k 0 (omega arith) in
    rw (byte 20 (omega arith), byte 21 (omega arith), byte 22 (omega arith), byte 23 (omega arith))

-- where what stands for files says of no sums, they had none
had_no_sums : (old new : Image) (db : Trees) (held : HoldsDatabase old db) (size : ℕ) → stored_size held.0 ≡ stored_size size → StandsAs size old new → SaysNoSums new → reserved held.0 ≡ 0
had_no_sums old new db held size same stands plain =
    let large = big held.0 held.1.0 in
    let page = reserved_word held.0 _ _ held.2.found large held.2.ours.file.sound in
    let stored = held.2.found.stored in
    let first = page.0 in
    let found = subst (λ n. raw.Recovers n old stored) same held.2.found.found in
    let whole = subst (λ n. raw.AreWhole n stored) same held.2.found.whole in
    let len = page.2 ∙ same in
    let small : 504 ≤ size = big size (subst (λ n. 512 ≤ n) same held.1.0) in
    let unsaid : be32 first 20 ≢ 0x0840_2020 = elim stands.0 [
      | inl alike ↦ plain _ stored first (alike stored found) page.1 len
      | inr summed ↦ elim (summed.2 stored found) [
        | inl now ↦ plain _ stored first now page.1 len
        | inr now ↦
            let after = resealed size summed.0 stored in
            let intact = still_whole size summed.0 stored whole in
            let (last, at) = some_value (after 1) intact.first in
            let both = sym (trimmed_some size after 1 last at) ∙ ap (λ (p : Pages). p 1) (same_trimmed size summed.0 stored whole) ∙ trimmed_some size stored 1 first page.1 in
            let front : take size last ≡ take size first = cc in
            let word = front_word size last first (omega (arith, small)) front in
            λ is. plain _ after last now at (intact.sized 1 last at) (word ∙ is)
      ]
    ] in
    elim (cases_eq (held.0 % 16) 8) [
      | inl on ↦ let eight : reserved held.0 ≡ 8 = rw (eq-eqb _ 8 on) in absurd (unsaid (omega (arith, page.3, eight)))
      | inr off ↦ rw (ne_eqb _ 8 off)
    ]

-- so it holds the same database
still_held : (old new : Image) (db : Trees) (size : ℕ) → NamesSize old (stored_size size) → (IsTrue (is_summed size) → SaysSums (stored_size size) old) → StandsAs size old new → SaysNoSums new
    → HoldsDatabase old db → HoldsDatabase new db
still_held old new db size names says stands plain held =
    let same = named_size old db held (stored_size size) names in
    let is = same_size old db held size same says (had_no_sums old new db held size same stands plain) in
    (held.0, held.1, stands_held held.0 old new db held.2 (subst (λ n. StandsAs n old new) (sym is) stands))

-- ── what an opening leaves ──

module _ {D : Type 0} {g : Ghosts D} where
  pub clean_left : (rest : Leftover D g) → AreClean g (files_left rest).0 (files_left rest).1 → IsCleanLeft rest
  clean_left (left.Files files) clean = clean
  clean_left (left.Unopened files) clean = clean_is files.pool ∙ clean
  clean_left (left.Store it) clean = clean_is it.pool ∙ clean

  pub faithful_left : IsFaithful g → (rest : Leftover D g) → IsCleanLeft rest
  faithful_left faithful rest = clean_left rest (and_from _ _ (faithful (files_left rest).0) (faithful (files_left rest).1))

  -- the store of a connection, as its process ends
  pub store_holds : (it : FileStore D g) → IsTrue (view it).is_clean → IsTrue (view it).is_numbered → AreDatabases (recovers it) → (among : Trees → Type 0) → ((db : Trees) → recovers it db → among db)
      → HoldsAmong among (left.Store it)
  store_holds it clean numbered sound among in_it image may =
      let honest = sym (clean_is it.pool) ∙ clean in
      ∥∥₁_map (opens_again it numbered sound image (may_leave_is it.pool image honest may)) (λ one. (one.0, in_it one.0 one.1, one.2))

  -- what is left of files holds what they held
  pub still_stands : (among : Trees → Type 0) (files : Files D) → Holds among (image_of g files) → ((image : Image) → outcomes g files.log files.db image → Holds among image)
      → (rest : Leftover D g) → IsCleanLeft rest → LeavesFiles files rest → StandsStill among rest
  still_stands among files seen old (left.Files now) clean leaves = λ image may. old image (leaves image may)
  still_stands among files seen old (left.Store it) clean leaves = λ db found. ∥∥₁_map seen (λ one. subst among (sym ((leaves db found).1 one.0 one.2)) one.1)
  still_stands among files seen old (left.Unopened now) clean (inl nothing) = absurd (∥∥₁_elim seen nothing_twice (λ one. is_something _ one.0 one.2 nothing.0))
  still_stands among files seen old (left.Unopened now) clean (inr kept) = λ plain image may.
      let here = may_leave_is now.pool image (sym (clean_is now.pool) ∙ clean) may in
      elim (kept.4 image here).same [
        | inl was ↦ old image was
        | inr stands ↦ ∥∥₁_map seen (λ one. (one.0, one.1, still_held _ image one.0 _ kept.1 kept.3 stands (plain image may) one.2))
      ]

  -- files that hold a database are not opened for a reason
  pub stop_of_opening : (among : Trees → Type 0) (files : Files D) → Holds among (image_of g files) → (faults : ℕ) → faults ≤ faults_of g files → (rest : Leftover D g) (error : Error)
      → FailsToOpenFiles files rest error → IsStopOfOpening faults error rest
  stop_of_opening among files seen faults few rest error (inl memory) = inl memory
  stop_of_opening among files seen faults few rest error (inr (inl refused)) = absurd (∥∥₁_elim seen nothing_twice (λ one. refused.1 (inl (one.0, one.2))))
  stop_of_opening among files seen faults few rest error (inr (inr (inl fault))) = inr (inl (omega (arith, few, fault.1)))
  stop_of_opening among files seen faults few rest error (inr (inr (inr full))) = inr (inr full)

  pub holds_once_more : (among : Trees → Type 0) (rest : Leftover D g) → StandsStill among rest → OpensOnceMore rest → HoldsAmong among rest
  holds_once_more among (left.Files files) stands opens = stands
  holds_once_more among (left.Unopened files) stands opens = stands opens
  holds_once_more among (left.Store it) stands opens = absurd opens

  wider_holds : (few many : Trees → Type 0) → ((db : Trees) → few db → ∥ many db ∥₁) → (rest : Leftover D g) → HoldsAmong few rest → HoldsAmong many rest
  wider_holds few many so rest holds image may = ∥∥₁_elim (holds image may) squash₁ (λ one. ∥∥₁_map (so one.0 one.1) (λ it. (one.0, it, one.2)))

  wider_stands : (few many : Trees → Type 0) → ((db : Trees) → few db → ∥ many db ∥₁) → (rest : Leftover D g) → StandsStill few rest → StandsStill many rest
  wider_stands few many so (left.Files files) stands = wider_holds few many so (left.Files files) stands
  wider_stands few many so (left.Unopened files) stands = λ plain. wider_holds few many so (left.Unopened files) (stands plain)
  wider_stands few many so (left.Store it) stands = λ db found. ∥∥₁_elim (stands db found) squash₁ (so db)

  wider_reason : (before after : ℕ) → before ≤ after → (error : Error) (rest : Leftover D g) → IsStopOfOpening after error rest → IsStopOfOpening before error rest
  wider_reason before after less error rest (inl memory) = inl memory
  wider_reason before after less error rest (inr (inl more)) = inr (inl (omega (arith, less, more)))
  wider_reason before after less error rest (inr (inr full)) = inr (inr full)

  -- the same of more tables, and of fewer failures
  pub wider_left : (few many : Trees → Type 0) → ((db : Trees) → few db → ∥ many db ∥₁) → (before after : ℕ) → before ≤ after → (error : Error) (rest : Leftover D g) → IsLeft few after error rest → IsLeft many before error rest
  wider_left few many so before after less error rest is = record { stands = wider_stands few many so rest is.stands; reason = wider_reason before after less error rest is.reason }
