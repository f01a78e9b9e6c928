use Rattle.std.proofs.Common.{ap, ◌∙◌, ℕ, [], ◌∷◌, ◌++◌, length}
use Rattle.mx_book.specs.commands.Act.{aircraft_of, component_of}
use Rattle.mx_book.specs.Register.{register}
use Rattle.mx_indexed_book.specs.declared.maps.counts.Counts.{Counts}
use Rattle.mx_indexed_book.proofs.MapsProofs.CountLemmas.{counted}
use Rattle.mx_indexed_book.proofs.maps.counts.Counts.counted.Goals as goal

pub returns : goal.returns
returns c book is are =
    let entry = c.args.entry.now in
    let aircraft = counted aircraft_of book entry c.args.self.now.aircraft c.with_one.result c.is_some.result c.added_aircraft.result (ap (λ (k : Counts). k.aircraft) are) is.few c.is_some.ensures c.added_aircraft.ensures c.with_one.ensures in
    let components = counted component_of book entry c.args.self.now.components c.with_one-2.result c.is_some-2.result c.added_component.result (ap (λ (k : Counts). k.components) are) is.few c.is_some-2.ensures c.added_component.ensures c.with_one-2.ensures in
    ap (λ (n : ℕ). record { aircraft = n; components = c.with_one-2.result }) aircraft
    ∙ ap (λ (n : ℕ). record { aircraft = length (register aircraft_of (book ++ entry ∷ [])); components = n }) components
