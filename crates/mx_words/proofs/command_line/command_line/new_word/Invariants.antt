use Rattle.std.proofs.Common.{map, take}
use Rattle.mx_words.specs.command_line.CommandLine.{IsApp, word}
use Rattle.mx_words.proofs.command_line.command_line.new_word.Given as goal

abbrev pub invariant-loop-name : goal.invariant-loop-name
invariant-loop-name l = IsApp (word l.fn.name (map (λ v. v.0.now) (take l.name-index l.values))) l.word
