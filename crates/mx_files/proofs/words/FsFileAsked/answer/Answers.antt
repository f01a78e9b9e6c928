use Rattle.std.proofs.Common.{arith, ◌≡◌, ◌≤◌, ◌⊎◌, ℕ, inl, inr, Result, Ok, Err, IfOk, IfErr, refl}
use Rattle.mx_files.proofs.words.FsFileAsked.answer.Goals as goal

weaker : {X E : Type 0} (P Q : X → Type 0) (result : Result X E) → ((x : X) → P x → Q x) → IfOk result P → IfOk result Q
weaker P Q (Ok x) so is = so x is
weaker P Q (Err e) so is = tt

weaker_fault : {X E : Type 0} (P Q : E → Type 0) (result : Result X E) → ((e : E) → P e → Q e) → IfErr result P → IfErr result Q
weaker_fault P Q (Ok x) so is = tt
weaker_fault P Q (Err e) so is = so e is

at_least : (status : ℕ) → (status ≡ 3) ⊎ (status ≡ 4) → 3 ≤ status
at_least status (inl is) = omega (arith, is)
at_least status (inr is) = omega (arith, is)

pub returns-clause-answers : goal.returns-clause-answers
returns-clause-answers g c = record {
  shown = weaker _ _ c.import_all.result (λ ending it. (_, it.1, (it.0, refl, it.2))) c.import_all.ensures.ended;
  unread = weaker_fault _ _ c.import_all.result (λ stop it is. (it is).0) c.import_all.ensures.unread;
  status = weaker_fault _ _ c.import_all.result (λ stop it. at_least _ it) c.import_all.ensures.status;
}

pub returns-clause-kept : goal.returns-clause-kept
returns-clause-kept g c =
    let told = c.import_all.ensures in record {
      ended = weaker _ _ c.import_all.result (λ ending it. (it.0, (it.3, it.1), it.2)) told.ended;
      stopped = λ fault is. let it = told.stopped fault is in (it.0, (it.2, it.1));
      unread = told.unread;
      fault = told.fault;
      unprinted = told.unprinted;
      ran = told.ran;
    }
