-- The bytes of a response (RFC 9112, section 4).
use Rattle.std.specs.Prelude.{ℕ, List, [], ◌∷◌, ◌++◌, length, codes, Bool, true, false, Option, Some, None}
use Rattle.std.specs.Option.{unwrap_or}
use Rattle.std.specs.Fmt.{decimal}
use Rattle.http.specs.StatusCode.{reason_phrase}

-- a line, which ends in CR LF
abbrev pub line : List ℕ → List ℕ
line text = text ++ (13 ∷ 10 ∷ [])

-- the phrase that belongs to a status, and nothing where none does
abbrev pub phrase_of : ℕ → List ℕ
phrase_of status = unwrap_or (reason_phrase status) []

-- the line of the status, with the phrase that belongs to it
abbrev pub status_line : ℕ → List ℕ
status_line status = line (codes "HTTP/1.1 " ++ (decimal status ++ (32 ∷ phrase_of status)))

-- the field that says how long the body is
abbrev pub length_line : ℕ → List ℕ
length_line n = line (codes "Content-Length: " ++ decimal n)

-- the field that says which method is allowed: POST, or else GET
abbrev pub allow_line : Option Bool → List ℕ
allow_line None = []
allow_line (Some true) = line (codes "Allow: POST")
allow_line (Some false) = line (codes "Allow: GET")

-- the fields: plain text, of this length, and the connection ends
abbrev pub field_lines : ℕ → Option Bool → List ℕ
field_lines n allowed = line (codes "Content-Type: text/plain") ++ (length_line n ++ (line (codes "Connection: close") ++ allow_line allowed))

-- the bytes of a response: the line of its status, its fields, an empty line, its body
abbrev pub response_bytes : ℕ → Option Bool → List ℕ → List ℕ
response_bytes status allowed body = status_line status ++ (field_lines (length body) allowed ++ (line [] ++ body))
