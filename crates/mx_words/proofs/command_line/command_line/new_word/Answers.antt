use Rattle.std.proofs.Common.{rules, map, take, ℕ, List, Bor, ap, ap₂, sym, ◌∙◌}
use Rattle.std.proofs.lemmas.List.{map_more}
use Rattle.clap.specs.Words.{with_rule}
use Rattle.mx_words.specs.command_line.CommandLine.{word}
use Rattle.mx_words.proofs.CommandLineProofs.CommandLineLemmas.{word_more}
use Rattle.mx_words.proofs.command_line.command_line.new_word.Goals as goal

abbrev named : Bor (List ℕ) × Bor (List ℕ) → List ℕ
named v = v.0.now

pub loop-name-preserved : goal.loop-name-preserved
loop-name-preserved c =
    let i = c.loop-name.name-index in
    let values = c.args.values.now in
    let more = map_more named values i _ c.loop-name-test.true in (
      c.in_ok-word.ensures.shape c.value.ensures.local ∙ ap₂ with_rule c.loop-name.invariant.0 c.value.ensures.rule
          ∙ word_more c.args.name.now (map named (take i values)) _ ∙ ap (word c.args.name.now) (sym more),
      search rules,
    )
