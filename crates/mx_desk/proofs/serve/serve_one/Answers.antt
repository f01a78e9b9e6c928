use Rattle.std.proofs.Common.{◌≡◌, ◌≢◌, ◌∙◌, sym, ap, subst, rules, inl, refl, ◌++◌, ℕ, List, [], Err}
use Rattle.std.specs.Prelude.{⊤}
use Rattle.std.specs.Io.KnownBytes.{Appends}
use Rattle.sqlite.specs.Held.{state}
use Rattle.mx_http.specs.request.Head.{head_of}
use Rattle.mx_http.specs.responses.Stopped.{AppendsSome}
use Rattle.mx_desk.specs.Served.{Writes}
use Rattle.mx_desk.specs.Taken.{TakesBehind}
use Rattle.mx_desk.proofs.ServedLemmas.{left_here}
use Rattle.mx_desk.proofs.ServeLemmas.{done_has, failed_has}
use Rattle.mx_desk.proofs.SilentLemmas.{answer_told, begun_told, has_begun, never_written, served_told, stopped_told}
use Rattle.mx_desk.proofs.TakenLemmas.{no_fault_left, nothing_taken, request_taken}
use Rattle.mx_desk.proofs.serve.serve_one.Goals as goal

pub returns-in_err-text-clause-answered : goal.returns-in_err-text-clause-answered
returns-in_err-text-clause-answered g c = λ input known.
    let told = c.in-Ok.ensures.enough input known in
    let begun : c.in-Ok.front.items ≢ [] = search rules in
    let passed : c.from_residual.result ≡ Err c.in_err-text.field-0.0 = search rules in
    stopped_told c.args.office.now c.answer_request.new.office input c.from_residual.result c.in_err-text.field-0.0 passed (λ is. c.in_err-text.ensures.unwritten (ap Err is)) (g.W.Write.contents c.args.writer.now)
    (begun_told input (has_begun input c.in-Ok.front.items told.0 told.2 begun)
    (c.in_err-text.ensures.stopped input told.0 told.1 (told.2 ∙ ap (λ (bytes : List ℕ). bytes ++ told.0) (sym c.deref.ensures.value)) (ap head_of c.deref.ensures.value ∙ told.3)))

pub returns-in_err-text-clause-served : goal.returns-in_err-text-clause-served
returns-in_err-text-clause-served g c = λ book input rests clean known.
    served_told c.args.office.now c.answer_request.new.office input book rests clean (Writes c.from_residual.result (g.W.Write.contents c.args.writer.now) (g.W.Write.contents c.args.writer.now)) (returns-in_err-text-clause-answered g c input known)

pub returns-then-is_err-clause-answered : goal.returns-then-is_err-clause-answered
returns-then-is_err-clause-answered g c = λ input known.
    let told = c.in-Ok.ensures.enough input known in
    let begun : c.in-Ok.front.items ≢ [] = search rules in
    answer_told c.args.office.now c.answer_request.new.office input c.in_ok-text.text.items (AppendsSome (g.W.Write.contents c.args.writer.now) (g.W.Write.contents c.write_text.new.writer))
    (has_begun input c.in-Ok.front.items told.0 told.2 begun)
    (c.in_ok-text.ensures.answered input told.0 told.1 (told.2 ∙ ap (λ (bytes : List ℕ). bytes ++ told.0) (sym c.deref.ensures.value)) (ap head_of c.deref.ensures.value ∙ told.3))
    (subst (λ (bytes : List ℕ). AppendsSome (g.W.Write.contents c.args.writer.now) (g.W.Write.contents c.write_text.new.writer) bytes) c.deref-2.ensures.value (failed_has c.write_text.result c.is_err.result _ c.is_err.ensures.value c.if-is_err.true c.write_text.ensures.cut))

pub returns-then-is_err-clause-served : goal.returns-then-is_err-clause-served
returns-then-is_err-clause-served g c = λ book input rests clean known.
    served_told c.args.office.now c.answer_request.new.office input book rests clean (AppendsSome (g.W.Write.contents c.args.writer.now) (g.W.Write.contents c.write_text.new.writer)) (returns-then-is_err-clause-answered g c input known)

pub returns-clause-answered : goal.returns-clause-answered
returns-clause-answered g c = λ input known.
    let told = c.in-Ok.ensures.enough input known in
    let begun : c.in-Ok.front.items ≢ [] = search rules in
    answer_told c.args.office.now c.answer_request.new.office input c.in_ok-text.text.items (Appends (g.W.Write.contents c.args.writer.now) (g.W.Write.contents c.write_text.new.writer))
    (has_begun input c.in-Ok.front.items told.0 told.2 begun)
    (c.in_ok-text.ensures.answered input told.0 told.1 (told.2 ∙ ap (λ (bytes : List ℕ). bytes ++ told.0) (sym c.deref.ensures.value)) (ap head_of c.deref.ensures.value ∙ told.3))
    (subst (λ (bytes : List ℕ). Appends (g.W.Write.contents c.args.writer.now) (g.W.Write.contents c.write_text.new.writer) bytes) c.deref-2.ensures.value (done_has c.write_text.result c.is_err.result _ c.is_err.ensures.value c.if-is_err.false c.write_text.ensures.written))

pub returns-clause-served : goal.returns-clause-served
returns-clause-served g c = λ book input rests clean known.
    served_told c.args.office.now c.answer_request.new.office input book rests clean (Appends (g.W.Write.contents c.args.writer.now) (g.W.Write.contents c.write_text.new.writer)) (returns-clause-answered g c input known)

-- ── what is taken ──

pub returns-then-is_empty-clause-takes : goal.returns-then-is_empty-clause-takes
returns-then-is_empty-clause-takes g c = λ input known memory read.
    let told = c.in-Ok.ensures.enough input known in
    let none : c.in-Ok.front.items ≡ [] = search rules in
    nothing_taken input c.in-Ok.front.items told.0 _ none told.1 told.2 c.in-Ok.ensures.prompt

pub returns-in_err-text-clause-takes : goal.returns-in_err-text-clause-takes
returns-in_err-text-clause-takes g c = λ input known memory read.
    let passed : c.from_residual.result ≡ Err c.in_err-text.field-0.0 = search rules in
    absurd (no_fault_left c.in_err-text.field-0.0 (λ is. memory (passed ∙ ap Err is)) (λ is. read (passed ∙ ap Err is)) (λ is. c.in_err-text.ensures.unwritten (ap Err is)))

pub returns-then-is_err-clause-takes : goal.returns-then-is_err-clause-takes
returns-then-is_err-clause-takes g c = λ input known memory read.
    let told = c.in-Ok.ensures.enough input known in
    request_taken input c.in-Ok.front.items told.0 _ _ told.1 told.2 c.in-Ok.ensures.prompt
    (subst (λ (bytes : List ℕ). TakesBehind (head_of bytes) bytes (g.R.Read.remaining c.read_head.new.reader) (g.R.Read.remaining c.answer_request.new.reader)) c.deref.ensures.value c.in_ok-text.ensures.takes)

pub returns-clause-takes : goal.returns-clause-takes
returns-clause-takes g c = λ input known memory read.
    let told = c.in-Ok.ensures.enough input known in
    request_taken input c.in-Ok.front.items told.0 _ _ told.1 told.2 c.in-Ok.ensures.prompt
    (subst (λ (bytes : List ℕ). TakesBehind (head_of bytes) bytes (g.R.Read.remaining c.read_head.new.reader) (g.R.Read.remaining c.answer_request.new.reader)) c.deref.ensures.value c.in_ok-text.ensures.takes)

-- ── nothing was asked ──

pub returns-in-Err-clause-answered : goal.returns-in-Err-clause-answered
returns-in-Err-clause-answered g c = λ input known.
    stopped_told c.args.office.now c.args.office.now input (Err c.of_input.result) c.of_input.result refl (λ is. never_written c.in-Err.fault (sym c.of_input.ensures ∙ is)) (g.W.Write.contents c.args.writer.now) (inl refl)

pub returns-in-Err-clause-served : goal.returns-in-Err-clause-served
returns-in-Err-clause-served g c = λ book input rests clean known.
    served_told c.args.office.now c.args.office.now input book rests clean (Writes {X = ⊤} (Err c.of_input.result) (g.W.Write.contents c.args.writer.now) (g.W.Write.contents c.args.writer.now)) (returns-in-Err-clause-answered g c input known)

pub returns-in-Err-clause-takes : goal.returns-in-Err-clause-takes
returns-in-Err-clause-takes g c = λ input known memory read. absurd (no_fault_left c.of_input.result (λ is. memory (ap Err is)) (λ is. read (ap Err is)) (λ is. never_written c.in-Err.fault (sym c.of_input.ensures ∙ is)))

pub returns-in-Err-clause-crash : goal.returns-in-Err-clause-crash
returns-in-Err-clause-crash g c = λ book rests. left_here book (state g.S.Store c.args.office.now.conn) rests

pub returns-then-is_empty-clause-crash : goal.returns-then-is_empty-clause-crash
returns-then-is_empty-clause-crash g c = λ book rests. left_here book (state g.S.Store c.args.office.now.conn) rests
