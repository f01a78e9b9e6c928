-- Where components were fitted, and from when to when.
use Rattle.std.specs.Prelude.{ℕ, List, [], ◌∷◌, ◌++◌, Bool, false, ◌&&◌, Option, is_none, find, filter}
use Rattle.std.specs.List.{list_any}
use Rattle.std.specs.Option.{option_map, option_map_or}
use Rattle.mx_book.specs.commands.Act.{Act, Entry, Fitted, removal_of}
use Rattle.mx_book.specs.commands.Same.{same_text}
use Rattle.mx_book.specs.Register.{register}

-- a component in a position of an aircraft, from its fitting to its removal; open while it is not removed
pub record Span : Type 0 where
  pub serial : List ℕ
  pub tail : List ℕ
  pub position : List ℕ
  pub from : ℕ
  pub to : Option ℕ

-- the moment of the first removal of a component
abbrev pub first_removal : List ℕ → List Entry → Option ℕ
first_removal serial book = option_map (λ r. r.moment) (find (λ r. same_text r.serial serial) (register removal_of book))

-- the span that an entry begins, where it fits a component: up to the first later removal of that component
abbrev pub span_begun : Act → List Entry → List Span
span_begun (Fitted f) later = record { serial = f.serial; tail = f.tail; position = f.position; from = f.moment; to = first_removal f.serial later } ∷ []
span_begun _ later = []

-- the spans of a book, in the order of the fittings
abbrev pub spans : List Entry → List Span
spans [] = []
spans (entry ∷ later) = span_begun entry.act later ++ spans later

-- the spans of a component
abbrev pub spans_of : List Entry → List ℕ → List Span
spans_of book serial = filter (λ s. same_text s.serial serial) (spans book)

-- the open span of a component: where it is fitted
abbrev pub fitted : List Entry → List ℕ → Option Span
fitted book serial = find (λ s. same_text s.serial serial && is_none s.to) (spans book)

-- the registration of the aircraft that a component is fitted to
abbrev pub tail_fitted : List Entry → List ℕ → Option (List ℕ)
tail_fitted book serial = option_map (λ s. s.tail) (fitted book serial)

-- the component is fitted to the aircraft
abbrev pub is_fitted_to : List Entry → List ℕ → List ℕ → Bool
is_fitted_to book tail serial = option_map_or (λ t. same_text t tail) (tail_fitted book serial) false

-- the span is open and of this aircraft
abbrev pub is_open_on : List ℕ → Span → Bool
is_open_on tail s = same_text s.tail tail && is_none s.to

-- a component is fitted to the position of the aircraft
abbrev pub is_taken : List Entry → List ℕ → List ℕ → Bool
is_taken book tail position = list_any (λ s. is_open_on tail s && same_text s.position position) (spans book)

-- the open spans of a component
abbrev pub open_spans_of : List Entry → List ℕ → List Span
open_spans_of book serial = filter (λ s. same_text s.serial serial && is_none s.to) (spans book)

-- the open spans in a position of an aircraft
abbrev pub open_spans_at : List Entry → List ℕ → List ℕ → List Span
open_spans_at book tail position = filter (λ s. is_open_on tail s && same_text s.position position) (spans book)

-- ── how the plain program finds the spans: entry by entry ──

-- the span that an entry begins, where it is of this component
abbrev pub spans_begun_of : Entry → List Entry → List ℕ → List Span
spans_begun_of entry later serial = filter (λ s. same_text s.serial serial) (span_begun entry.act later)
