use Rattle.std.proofs.Common.{arith, sym, subst, ap, ◌∙◌, ℕ, ◌-◌, ◌≤◌, [], ◌∷◌, ◌++◌, append-nil, append_assoc}
use Rattle.std.proofs.lemmas.Map.Keys.{le_from_is_le}
use Rattle.std.specs.Option.{option_map_or}
use Rattle.mx_indexed_book.specs.maps.Movements.{behind, movements}
use Rattle.mx_indexed_book.specs.declared.maps.movements.Movement.{Movement}
use Rattle.mx_indexed_book.proofs.MapsProofs.MovementLemmas.{all_earliest, behind_by_last, earliest, none_behind}
use Rattle.mx_indexed_book.proofs.maps.movements.Movements.behind.Goals as goal

pub loop-movement-init : goal.loop-movement-init
loop-movement-init c book are =
    let count = c.count-count.result in
    let ms = movements book c.args.tail.now in
    let is = c.count-count.ensures book are in
    (omega arith, ap (λ l. l ++ behind c.args.moment (earliest count ms)) c.new-found.ensures.items ∙ ap (behind c.args.moment) (all_earliest count ms is))

pub loop-movement-preserved : goal.loop-movement-preserved
loop-movement-preserved c book are =
    let moment = c.args.moment in
    let ms = movements book c.args.tail.now in
    let count = c.loop-movement.count in
    let found = c.loop-movement.found.items in
    let m = c.in-Some.movement in
    let so_far = c.loop-movement.invariant book are in
    let fewer = so_far.0 in (
      omega arith,
      ap (λ l. l ++ behind moment (earliest (count - 1) ms)) c.in_ok-push.ensures.items
          ∙ append_assoc found (m ∷ []) (behind moment (earliest (count - 1) ms))
          ∙ ap (λ l. found ++ l) (sym (behind_by_last moment ms count so_far.0 ∙ ap (λ o. option_map_or (λ (x : Movement). x ∷ behind moment (earliest (count - 1) ms)) o []) (sym (c.in-Some.ensures.last book are))))
          ∙ so_far.1,
    )

pub returns : goal.returns
returns c book is_book clocks are =
    let moment = c.args.moment in
    let ms = movements book c.args.tail.now in
    let found = c.loop-movement.found.items in
    let so_far = c.loop-movement.invariant book are in
    let count = c.loop-movement.count in
    sym (append-nil found)
    ∙ ap (λ l. found ++ l) (sym (behind_by_last moment ms count so_far.0 ∙ ap (λ o. option_map_or (λ (x : Movement). x ∷ behind moment (earliest (count - 1) ms)) o []) (sym (c.in_default.ensures.last book are))))
    ∙ so_far.1

pub returns-then-le : goal.returns-then-le
returns-then-le c book is_book clocks are =
    let tail = c.args.tail.now in
    let moment = c.args.moment in
    let clock = c.of_airframe.result in
    let by = le_from_is_le clock moment (sym c.le.ensures ∙ c.if-le.true) in
    let is = c.of_airframe.ensures book clocks in
    c.new-found.ensures.items ∙ none_behind book tail moment is_book (subst (λ (n : ℕ). n ≤ moment) is by)
