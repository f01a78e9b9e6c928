-- The head of a request (RFC 9112, section 2.1): where it ends, and what is one.
use Rattle.std.specs.Prelude.{◌≡◌, ℕ, ◌+◌, ◌≤◌, List, [], ◌∷◌, ◌++◌, length, take, nat_lt, Option, Some, None, option_map, Result, Ok, Err, if◌then◌else◌}
use Rattle.std.specs.Str.{bytes_eq}
use Rattle.httparse.specs.Grammar.{RequestHead, ReadsRequest}
use Rattle.mx_http.specs.declared.request.rejection.Rejection.{Rejection}
use Rattle.mx_http.specs.declared.request.rejection.Rejection.TheVariants.{BadRequest, HeadTooLarge}
use Rattle.mx_http.specs.declared.request.head.TheConstants.{MOST_HEAD, MOST_FIELDS}

-- CR LF CR LF, which ends a head
abbrev pub head_mark : List ℕ
head_mark = 13 ∷ 10 ∷ 13 ∷ 10 ∷ []

-- how long the head is at the front of these bytes: up to the first mark, with it
abbrev pub head_length : List ℕ → Option ℕ
head_length [] = None
head_length (b ∷ bytes) = if bytes_eq (take 4 (b ∷ bytes)) head_mark then Some 4 else option_map (λ n. n + 1) (head_length bytes)

-- the head ends nowhere within the bytes that it may have: it is too large, or the input ended within it
abbrev pub without_head : List ℕ → Rejection
without_head input = if nat_lt (length input) MOST_HEAD then BadRequest else HeadTooLarge

abbrev pub cut_at : Option ℕ → List ℕ → Result ℕ Rejection
cut_at (Some n) input = Ok n
cut_at None input = Err (without_head input)

-- how long the head of an input is, which ends within its first 8,192 bytes; or why it has none
abbrev pub head_of : List ℕ → Result ℕ Rejection
head_of input = cut_at (head_length (take MOST_HEAD input)) input

-- no head ends before the last so many bytes
abbrev pub HasNoHeadBefore : ℕ → List ℕ → Type 0
HasNoHeadBefore most bytes = (before last : List ℕ) × (bytes ≡ before ++ last) × (head_length before ≡ None) × (length last ≤ most)

-- these bytes are a head of the grammar and nothing else, of HTTP/1.0 or HTTP/1.1, with a target in UTF-8 and at most 64 fields
pub record IsReadable (bytes : List ℕ) (head : RequestHead) : Type 0 where
  pub reads : ReadsRequest bytes head []
  pub few : length head.fields ≤ MOST_FIELDS
