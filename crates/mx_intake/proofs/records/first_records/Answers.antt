use Rattle.std.proofs.Common.{Bor, List, ℕ, ◌≡◌, ◌≤◌, ◌∙◌, sym, refl, rules, arith, inl, inr, true, map, Some, ◌∷◌, [], length}
use Rattle.std.specs.Result.{is_ok}
use Rattle.std.proofs.lemmas.List.{length-map, map-append}
use Rattle.csv.specs.Reading.{Reached, default_config, strip_bom}
use Rattle.csv.specs.Records.{fields_of}
use Rattle.csv.specs.declared.parser.State.TheVariants as st
use Rattle.csv.proofs.ReadFacts.{rows-end, rows-more}
use Rattle.mx_intake.proofs.RecordsLemmas.{are_first_records, were_first}
use Rattle.mx_intake.proofs.records.first_records.Goals as goal

pub rows-init : goal.rows-init
unfolding Reached
rows-init c =
    let fr = c.from_reader-reader.ensures in
    let e = c.has_headers.ensures in
    let f = c.flexible.ensures in
    let rdr = c.into_byte_records-records.ensures.rdr in
    let left = c.into_byte_records-records.ensures.left in
    rw (rdr, c.new-rows.ensures.items) (
      rw (f, e) at fr.trim ∙ c.new.ensures.trim,
      inr (inr (rw (f, e) at fr.has_headers, fr.headers)),
      left,
      rw (f, e) at fr.config ∙ c.new.ensures.config,
      rw f at fr.flexible,
      search (rules, arith),
      strip_bom c.args.bytes.now,
      fr.source,
      (sym fr.state, refl),
    )

pub rows-preserved : goal.rows-preserved
rows-preserved c =
    let inv = c.rows.invariant in
    let all = rw (c.in-Some-Ok.is, c.in-Some-Ok.field-0-is) at (c.next.ensures.steps inv.2 inv.0) in
    let s = all.0 inv.1 in
    let good : is_ok c.push.result ≡ true = search rules in
    let items = rw good at c.push.ensures.items in
    let m = rows-more (λ (s : Bor (List ℕ)). Some s.now) c.rows.records.rdr c.next.new.self.rdr (fields_of c.in-Some-Ok.row) default_config st.StartRecord (strip_bom c.args.bytes.now) inv.6 (map fields_of c.rows.rows.items) inv.3 inv.7 inv.8 s.0 in
    (s.0.3 ∙ inv.0, inl s.1, s.2, s.0.2 ∙ inv.3, all.3 ∙ inv.4, search (rules, arith), m.0, m.1, rw (items, map-append fields_of c.rows.rows.items (c.in-Some-Ok.row ∷ [])) m.2)

pub returns-in-None-clause-ok : goal.returns-in-None-clause-ok
returns-in-None-clause-ok c =
    let inv = c.rows.invariant in
    let s = rw c.in-None.is at ((c.next.ensures.steps inv.2 inv.0).0 inv.1) in
    let few : length (map fields_of c.rows.rows.items) ≤ c.args.wanted = omega (arith, inv.5, length-map c.rows.rows.items fields_of) in
    are_first_records default_config (strip_bom c.args.bytes.now) (map fields_of c.rows.rows.items) c.args.wanted few
    (c.rows.records.rdr.state, inv.6, inv.8, rows-end (λ (s : Bor (List ℕ)). Some s.now) c.rows.records.rdr c.next.new.self.rdr [] default_config inv.6 inv.3 inv.7 s)

-- as many records were read as are wanted
pub returns-clause-ok : goal.returns-clause-ok
returns-clause-ok c =
    let inv = c.rows.invariant in
    let wanted : length (map fields_of c.rows.rows.items) ≡ c.args.wanted = omega (arith, inv.5, length-map c.rows.rows.items fields_of) in
    were_first default_config (strip_bom c.args.bytes.now) (map fields_of c.rows.rows.items) c.rows.records.rdr.state inv.6 inv.8 ∙ rw wanted refl
