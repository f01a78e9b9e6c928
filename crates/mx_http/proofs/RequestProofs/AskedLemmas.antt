-- What a head asks for is one, and its method is a token.
use Rattle.std.proofs.Common.{◌≡◌, ◌∙◌, ap, sym, subst, refl, inl, inr, ℕ, List, [], Result, Err}
use Rattle.httparse.specs.Grammar.{RequestHead, is_token_byte, IsToken}
use Rattle.httparse.specs.Spans.{IsRequestAt, span_bytes}
use Rattle.httparse.specs.declared.spans.HeaderSpan.{HeaderSpan}
use Rattle.httparse.specs.declared.spans.RequestSpans.{RequestSpans}
use Rattle.httparse.proofs.GrammarLemmas.{request_unique}
use Rattle.http_header.specs.Token as header
use Rattle.mx_http.specs.request.Asked.{AsksFor, asked_by, rejected}
use Rattle.mx_http.specs.request.Head.{IsReadable}
use Rattle.mx_http.specs.request.Routes.{Asked, route_of}
use Rattle.mx_http.specs.declared.request.routes.NoRoute.{NoRoute}
use Rattle.mx_http.specs.declared.request.rejection.Rejection.{Rejection}

-- the two libraries mean the same by a token
same_token : (bytes : List ℕ) → IsToken bytes → header.IsToken bytes
unfolding is_token_byte header.is_token_byte
same_token bytes token = token

pub method_is_token : (bytes : List ℕ) (headers : List HeaderSpan) (parts : RequestSpans)
    → ((whole : RequestHead) × IsReadable bytes whole × IsRequestAt bytes headers parts whole)
    → header.IsToken (span_bytes bytes parts.method)
method_is_token bytes headers parts (whole, readable, at) =
    same_token (span_bytes bytes parts.method) (subst IsToken (sym at.method) readable.reads.0.method)

-- a head whose method and target have no route
pub is_rejected : (bytes : List ℕ) (headers : List HeaderSpan) (parts : RequestSpans)
    → ((whole : RequestHead) × IsReadable bytes whole × IsRequestAt bytes headers parts whole)
    → (method target : List ℕ) (why : NoRoute) (rejection : Rejection)
    → method ≡ span_bytes bytes parts.method → target ≡ span_bytes bytes parts.path
    → route_of method target ≡ Err why → rejection ≡ rejected why → AsksFor bytes (Err rejection)
is_rejected bytes headers parts (whole, readable, at) method target why rejection method_is target_is none is =
    let asked : route_of whole.method whole.target ≡ Err why = rw (← at.method, ← at.path, ← method_is, ← target_is) none in
    inl (whole, readable, rw (asked, is) refl)

-- bytes are one head at most
pub asks_for_one : (bytes : List ℕ) (a b : Result (Asked × ℕ) Rejection) → AsksFor bytes a → AsksFor bytes b → a ≡ b
asks_for_one bytes a b (inl (head, reads, is)) (inl (other, again, same)) =
    is ∙ (ap asked_by (request_unique bytes head other [] [] reads.reads again.reads).0 ∙ sym same)
asks_for_one bytes a b (inl (head, reads, is)) (inr (none, same)) = absurd (none head reads)
asks_for_one bytes a b (inr (none, is)) (inl (other, again, same)) = absurd (none other again)
asks_for_one bytes a b (inr (none, is)) (inr (never, same)) = is ∙ sym same
