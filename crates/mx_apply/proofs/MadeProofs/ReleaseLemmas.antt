-- What is known of the lines of a release, and when a task is due, by what was looked up.
use Rattle.std.proofs.Common.{◌≡◌, ◌∙◌, inr, ℕ, pos, List, [], ◌∷◌, ◌++◌, Option, Result, Vec, None, Some, Ok, Err, refl, sym, ap, subst, append_assoc, append-nil}
use Rattle.std.specs.Prelude.{IsErrAnd, IsSome, MatchOption, find}
use Rattle.std.specs.Option.{option_and_then, option_map}
use Rattle.std.specs.declared.alloc.Global.{Global}
use Rattle.sqlite.specs.State.{State}
use Rattle.sqlite.specs.Tree.{Trees}
use Rattle.sqlite.specs.declared.types.Value.TheVariants.{Int}
use Rattle.mx_base.specs.declared.amounts.Use.{Use}
use Rattle.mx_book.specs.commands.Act.{Entry}
use Rattle.mx_book.specs.commands.Same.{same_text}
use Rattle.mx_book.specs.declared.commands.item.Item.{Item}
use Rattle.mx_book.specs.declared.commands.programme.Task.{Task}
use Rattle.mx_book.specs.declared.commands.release.Line.{Line}
use Rattle.mx_book.specs.declared.commands.release.Release.{Release}
use Rattle.mx_book.specs.due.Due.{IsLife, due_after}
use Rattle.mx_book.specs.Asking.{task_of}
use Rattle.mx_book.specs.Base.{base}
use Rattle.mx_book.specs.Programme.{kind_at, tasks_in_force}
use Rattle.mx_book.specs.Register.{birth}
use Rattle.mx_registers.specs.kept.Items.{number_of_place}
use Rattle.mx_row_rules.specs.changes.Certified.{AreKnownOf, IsKnownOf}
use Rattle.mx_row_rules.specs.declared.changes.releases.Certified.{Certified}
use Rattle.mx_base.specs.declared.rows.rows.TotalRow.{TotalRow}
use Rattle.mx_layout.specs.declared.fault.Table.TheVariants as table
use Rattle.mx_layout.specs.declared.fault.TableFault.{TableFault}
use Rattle.mx_layout.specs.declared.fault.TableFault.TheVariants.{Memory}
use Rattle.mx_layout.specs.kept.Cells.{kept_total2}
use Rattle.mx_table_rows.specs.chosen.Choices.{has_value}
use Rattle.mx_row_rules.specs.found.Lives.{life_in}
use Rattle.mx_lookups.specs.numbers.AnyRows.{Gives}
use Rattle.mx_lookups.specs.numbers.Damage.{HasRow, IsDamaged}
use Rattle.mx_lookups.specs.numbers.Given.{LifeOf}
use Rattle.mx_lookups.specs.numbers.Reads.{Reads}
use Rattle.mx_lookups.proofs.NumbersProofs.AnyLemmas.{first_kept}
use Rattle.mx_lookups.proofs.NumbersProofs.ReadLemmas.{reads_then, stopped, told}
use Rattle.mx_apply.specs.made.Releases.{due_by_kind}
use Rattle.mx_apply.proofs.MadeProofs.MadeLemmas.{starved}

-- ── when a task is due ──

joined : {A B : Type 0} (f : A → Option B) (o : Option A) → option_and_then f o ≡ option_and_then (λ x. x) (option_map f o)
joined f None = refl
joined f (Some a) = refl

-- by the task that was looked up in the programme of a kind, where there is a kind
pub due_known : (book : List Entry) (kind : Option (List ℕ)) (k : List ℕ) (item : Item) (id : List ℕ) (known : Option (Option Task)) → kind ≡ Some k → known ≡ task_of book k id
    → due_by_kind book kind item id ≡ option_and_then (due_after (base book item id) (birth book item)) (option_and_then (λ task. task) known)
due_known book kind k item id known some is =
    ap (λ o. due_by_kind book o item id) some
    ∙ ap (option_and_then (due_after (base book item id) (birth book item))) (joined (find (λ (t : Task). same_text t.id id)) (tasks_in_force book k) ∙ ap (option_and_then (λ task. task)) (sym is))

-- ── a life that is past ──

life_there : (trees : Trees) (u : Use) (number : Option ℕ) → MatchOption number (Some u ≡ None) (λ n. IsSome (Some u) × Gives kept_total2 (has_value 0 (Int (pos n))) life_in trees (Some u)) → HasRow kept_total2 (λ row. u ≡ row.life) trees
life_there trees u None gave = absurd cc
life_there trees u (Some n) gave = first_kept kept_total2 (λ (row : TotalRow). row.life) u gave.1

-- the total of the item has a life that none may have
pub life_past : (trees : Trees) (item : Item) (found : Option Use) (u : Use) → found ≡ Some u → ¬ IsLife u → LifeOf item trees found → IsDamaged table.Total2 trees
unfolding IsDamaged
life_past trees item found u is past gave =
    let some = subst (LifeOf item trees) is gave in
    let row = life_there trees u some.found some.then in
    inr (inr (row.0, row.1, λ low. past (subst IsLife (sym row.2) low)))

-- ── lines, one after another ──

module _ (r : Release) (lines : List Line) (number : ℕ) (kind : Option (List ℕ)) where
  -- the number and the kind are those of the place, and what is known of some lines comes before what is known of those that are left
  abbrev IsWalked : List Certified → List Line → List Entry → Type 0
  IsWalked done left book = ((number ≡ number_of_place book r.place) × (kind ≡ kind_at book r.place)) × ((more : List Certified) → AreKnownOf book r left more → AreKnownOf book r lines (done ++ more))

  abbrev pub LinesWalk : State → State → List Certified → List Line → Type 0
  LinesWalk old new done left = Reads {V = ℕ} (λ book v. IsWalked done left book) old new (Ok 0)

  pub lines_begun : (old new : State) (done : List Certified) (left : List Line) → done ≡ [] → left ≡ lines → Reads {V = ℕ × Option (List ℕ)} (λ book v. (v.0 ≡ number_of_place book r.place) × (v.1 ≡ kind_at book r.place)) old new (Ok (number, kind)) → LinesWalk old new done left
  lines_begun old new done left none all = told _ _ old new (number, kind) 0 (λ book b is. (is, λ more h. subst (λ d. AreKnownOf book r lines (d ++ more)) (sym none) (subst (λ l. AreKnownOf book r l more) all h)))

  module _ (a b c : State) (done : List Certified) (left later : List Line) (line : Line) (walk : LinesWalk a b done left) (is : left ≡ line ∷ later) where
    one_more : (book : List Entry) (known : Certified) (longer : List Certified) → longer ≡ done ++ known ∷ [] → IsWalked done left book → IsKnownOf book r line known → IsWalked longer later book
    one_more book known longer more was this =
        (was.0, λ rest h. subst (λ d. AreKnownOf book r lines (d ++ rest)) (sym more) (subst (AreKnownOf book r lines) (sym (append_assoc done (known ∷ []) rest)) (was.1 (known ∷ rest) (subst (λ l. AreKnownOf book r l (known ∷ rest)) (sym is) (this, h)))))

    pub lines_more : (known : Certified) (longer : List Certified) → longer ≡ done ++ known ∷ [] → Reads (λ book v. kind ≡ kind_at book r.place → IsKnownOf book r line v) b c (Ok known) → LinesWalk a c longer later
    lines_more known longer more one = told _ _ a c known 0 (λ book is_book both. one_more book known longer more both.0 (both.1 both.0.0.1)) (reads_then _ _ a b c 0 (Ok known) walk one)

  pub lines_stopped : {V W : Type 0} (a b c : State) (done : List Certified) (left : List Line) → LinesWalk a b done left → (P : List Entry → V → Type 0) (Q : List Entry → W → Type 0) (e : TableFault) (result : Result W TableFault) → IsErrAnd result (λ f. f ≡ e) → Reads P b c (Err e) → Reads Q a c result
  lines_stopped {V = V} a b c done left walk P Q e result is one = stopped {V = V} _ Q a c e result is (reads_then _ P a b c 0 (Err e) walk one)

  pub lines_starved : {V W : Type 0} (a b c : State) (done : List Certified) (left : List Line) → LinesWalk a b done left → (P : List Entry → V → Type 0) (Q : List Entry → W → Type 0) (v : V) (result : Result W TableFault) → IsErrAnd result (λ e. e ≡ Memory) → Reads P b c (Ok v) → Reads Q a c result
  lines_starved a b c done left walk P Q v result is one = starved _ Q a c v result is (reads_then _ P a b c 0 (Ok v) walk one)

  pub lines_ended : (a b : State) (known : Vec Certified Global) (left : List Line) → left ≡ [] → LinesWalk a b known.items left → Reads {V = ℕ × Vec Certified Global} (λ book v. (v.0 ≡ number_of_place book r.place) × AreKnownOf book r lines v.1.items) a b (Ok (number, known))
  lines_ended a b known left none =
      told _ _ a b 0 (number, known) (λ book is_book was. (was.0.0, subst (AreKnownOf book r lines) (append-nil known.items) (was.1 [] (subst (λ l. AreKnownOf book r l []) (sym none) tt))))
