-- The records of a text, as a reader gives them one after another.
use Rattle.std.proofs.Common.{◌≡◌, ◌≤◌, ◌<◌, ◌+◌, ℕ, zero, suc, List, [], ◌∷◌, length, take, Bool, true, false, Some, None, refl, sym, ap, ◌∙◌, arith}
use Rattle.std.proofs.lemmas.List.{take_all}
use Rattle.csv.specs.Machine.{Read, ends_at_end, is_end, next_record, step}
use Rattle.csv.specs.Reading.{AreRecords, Reached, records, records_from}
use Rattle.csv.specs.declared.parser.Config.{Config}
use Rattle.csv.specs.declared.parser.State.{State}
use Rattle.csv.specs.declared.parser.State.TheVariants as st

-- ── what a record leaves of a text ──

left_of : (q p : Read) → Some q ≡ Some p → length q.2 ≡ length p.2
left_of q p e = cc

nothing_left : (cfg : Config) (s : State) (fields : List (List ℕ)) (field : List ℕ) (p : Read) → next_record cfg s fields field [] ≡ Some p → length p.2 ≡ 0
unfolding next_record
nothing_left cfg s fields field p e = by (ends_at_end s) refl
  where
    by : (b : Bool) → ends_at_end s ≡ b → length p.2 ≡ 0
    by true t = sym (left_of _ p (rw t at e))
    by false t = cc (rw t at e)

left_after : (cfg : Config) (s : State) (fields : List (List ℕ)) (field : List ℕ) (c : ℕ) (rest : List ℕ) (p : Read)
    → ((t : State) (more : List (List ℕ)) (part : List ℕ) → next_record cfg t more part rest ≡ Some p → length p.2 ≤ length rest)
    → next_record cfg s fields field (c ∷ rest) ≡ Some p → length p.2 ≤ length rest
unfolding next_record
left_after cfg s fields field c rest p behind e = by (is_end (step cfg s c).1) refl
  where
    by : (b : Bool) → is_end (step cfg s c).1 ≡ b → length p.2 ≤ length rest
    by true t = let same = left_of _ p (rw t at e) in omega (arith, same)
    by false t = behind _ _ _ (rw t at e)

left_most : (cfg : Config) (s : State) (fields : List (List ℕ)) (field : List ℕ) (xs : List ℕ) (p : Read)
    → next_record cfg s fields field xs ≡ Some p → length p.2 ≤ length xs
left_most cfg s fields field [] p e = let none = nothing_left cfg s fields field p e in omega (arith, none)
left_most cfg s fields field (c ∷ rest) p e =
    let less = left_after cfg s fields field c rest p (λ t more part. left_most cfg t more part rest p) e in omega (arith, less)

-- a record takes a byte at least
takes_a_byte : (cfg : Config) (s : State) (c : ℕ) (rest : List ℕ) (p : Read) → next_record cfg s [] [] (c ∷ rest) ≡ Some p → length p.2 ≤ length rest
takes_a_byte cfg s c rest p e = left_after cfg s [] [] c rest p (λ t more part. left_most cfg t more part rest p) e

-- ── the end of a text ──

ends_fresh : (cfg : Config) (s : State) (p : Read) → next_record cfg s [] [] [] ≡ Some p → (p.1 ≡ st.StartRecord) × (p.2 ≡ [])
unfolding next_record
ends_fresh cfg s p e = by (ends_at_end s) refl
  where
    by : (b : Bool) → ends_at_end s ≡ b → (p.1 ≡ st.StartRecord) × (p.2 ≡ [])
    by true t = let same = rw t at e in (cc, cc)
    by false t = cc (rw t at e)

none_from : (cfg : Config) (n : ℕ) → records_from cfg n st.StartRecord [] ≡ []
unfolding records_from next_record
none_from cfg zero = refl
none_from cfg (suc n) = refl

none_reached : (cfg : Config) (rows : List (List (List ℕ))) (s2 : State) (ys : List ℕ) → Reached cfg st.StartRecord [] rows s2 ys → rows ≡ []
unfolding Reached next_record
none_reached cfg [] s2 ys h = refl
none_reached cfg (r ∷ rs) s2 ys h = cc h.1

-- ── all records ──

behind_end : (cfg : Config) (n : ℕ) (p : Read) (rs : List (List (List ℕ))) (s2 : State) (ys : List ℕ) → p.1 ≡ st.StartRecord → p.2 ≡ []
    → Reached cfg p.1 p.2 rs s2 ys → rs ≡ records_from cfg n p.1 p.2
behind_end cfg n p rs s2 ys start empty h = rw (start, empty) (none_reached cfg rs s2 ys (rw (start, empty) at h) ∙ sym (none_from cfg n))

reached_all : (cfg : Config) (n : ℕ) (s : State) (xs : List ℕ) (rows : List (List (List ℕ))) (s2 : State) (ys : List ℕ) → length xs < n
    → Reached cfg s xs rows s2 ys → next_record cfg s2 [] [] ys ≡ None → rows ≡ records_from cfg n s xs
unfolding Reached records_from
reached_all cfg zero s xs rows s2 ys h r e = absurd (omega (arith, h))
reached_all cfg (suc n) s xs [] s2 ys h r e = rw (r.0, r.1, e) refl
reached_all cfg (suc n) s [] (row ∷ rows) s2 ys h r e =
    let fresh = ends_fresh cfg s r.0 r.1 in
    rw (r.1, r.2) (ap (λ more. r.0.0 ∷ more) (behind_end cfg n r.0 rows s2 ys fresh.0 fresh.1 r.3))
reached_all cfg (suc n) s (c ∷ rest) (row ∷ rows) s2 ys h r e =
    let less = takes_a_byte cfg s c rest r.0 r.1 in
    rw (r.1, r.2) (ap (λ more. r.0.0 ∷ more) (reached_all cfg n r.0.1 r.0.2 rows s2 ys (omega (arith, h, less)) r.3 e))

-- the records that were read to the end of a text are all its records
pub are_records : (cfg : Config) (xs : List ℕ) (rows : List (List (List ℕ))) → AreRecords cfg st.StartRecord xs rows → rows ≡ records cfg xs
are_records cfg xs rows a = reached_all cfg (length xs + 1) st.StartRecord xs rows a.0 a.1 (omega arith) a.2 a.3

-- the records that were read to the end of a text are its first ones, where no more are wanted
pub are_first_records : (cfg : Config) (xs : List ℕ) (rows : List (List (List ℕ))) (wanted : ℕ) → length rows ≤ wanted → AreRecords cfg st.StartRecord xs rows
    → rows ≡ take wanted (records cfg xs)
are_first_records cfg xs rows wanted few a =
    let all = are_records cfg xs rows a in
    sym (take_all wanted rows few) ∙ ap (take wanted) all

-- ── the first records ──

one_behind_end : (cfg : Config) (n : ℕ) (p : Read) (rs : List (List (List ℕ))) (s2 : State) (ys : List ℕ) → p.1 ≡ st.StartRecord → p.2 ≡ []
    → Reached cfg p.1 p.2 rs s2 ys → rs ≡ take (length rs) (records_from cfg n p.1 p.2)
one_behind_end cfg n p rs s2 ys start empty h =
    let none = none_reached cfg rs s2 ys (rw (start, empty) at h) in
    rw none refl

reached_first : (cfg : Config) (n : ℕ) (s : State) (xs : List ℕ) (rows : List (List (List ℕ))) (s2 : State) (ys : List ℕ) → length xs < n
    → Reached cfg s xs rows s2 ys → rows ≡ take (length rows) (records_from cfg n s xs)
unfolding Reached records_from
reached_first cfg zero s xs rows s2 ys h r = absurd (omega (arith, h))
reached_first cfg (suc n) s xs [] s2 ys h r = refl
reached_first cfg (suc n) s [] (row ∷ rows) s2 ys h r =
    let fresh = ends_fresh cfg s r.0 r.1 in
    rw (r.1, r.2) (ap (λ more. r.0.0 ∷ more) (one_behind_end cfg n r.0 rows s2 ys fresh.0 fresh.1 r.3))
reached_first cfg (suc n) s (c ∷ rest) (row ∷ rows) s2 ys h r =
    let less = takes_a_byte cfg s c rest r.0 r.1 in
    rw (r.1, r.2) (ap (λ more. r.0.0 ∷ more) (reached_first cfg n r.0.1 r.0.2 rows s2 ys (omega (arith, h, less)) r.3))

-- the records that were read of a text are its first ones
pub were_first : (cfg : Config) (xs : List ℕ) (rows : List (List (List ℕ))) (s2 : State) (ys : List ℕ) → Reached cfg st.StartRecord xs rows s2 ys
    → rows ≡ take (length rows) (records cfg xs)
were_first cfg xs rows s2 ys r = reached_first cfg (length xs + 1) st.StartRecord xs rows s2 ys (omega arith) r
