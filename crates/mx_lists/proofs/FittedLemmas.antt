-- What is fitted to an aircraft, by places and by spans.
use Rattle.std.proofs.Common.{◌≡◌, refl, ap, List, [], ◌∷◌, map}
use Rattle.std.specs.List.{cons_option, filter_map}
use Rattle.mx_book.specs.commands.Act.{Entry}
use Rattle.mx_book.specs.Span.{Span}
use Rattle.mx_lists.specs.LifeList.{part_of}
use Rattle.mx_lists.specs.Fitted.{place_of, part_of_place}

-- the parts in the places of some spans are those of the spans
pub parts_of_places : (book : List Entry) (spans : List Span) → filter_map (part_of_place book) (map place_of spans) ≡ filter_map (part_of book) spans
parts_of_places book [] = refl
parts_of_places book (s ∷ spans) = ap (cons_option (part_of book s)) (parts_of_places book spans)
