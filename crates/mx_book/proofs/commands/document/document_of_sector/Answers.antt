use Rattle.std.proofs.Common.{◌≡◌, ◌++◌, ◌∷◌, List, ℕ, sym, ap, subst, ◌∙◌}
use Rattle.std.specs.Fmt.{decimal}
use Rattle.mx_base.specs.Identifier.{IsIdentifier, is_graphic}
use Rattle.mx_book.specs.commands.Shape.{sector_doc}
use Rattle.mx_book.proofs.CommandsProofs.DocumentLemmas.{sector_doc-IsIdentifier}
use Rattle.mx_book.proofs.commands.document.document_of_sector.Goals as goal

pub unwrap-requires : goal.unwrap-requires
unwrap-requires c =
    let sector = c.args.sector.now in
    let same : c.as_str.result.now ≡ sector_doc sector =
    c.as_str.ensures.value ∙ c.in_ok-text.ensures.ok
    ∙ ap (λ (tail : List ℕ). 84 ∷ 76 ∷ 47 ∷ (tail ++ 47 ∷ (decimal sector.page ++ 47 ∷ decimal sector.line))) c.as_str-tail.ensures.value in
    c.read.ensures.succeeds.1 (subst (IsIdentifier is_graphic 40) (sym same) (sector_doc-IsIdentifier sector c.as_str-tail.ensures.valid c.requires))
