use Rattle.std.proofs.Common.{rules}
use Rattle.std.proofs.lemmas.List.{append_assoc}
use Rattle.mx_reports.proofs.lists.append_limit_words.Goals as goal

pub returns-clause-words : goal.returns-clause-words
returns-clause-words c = search (rules, append_assoc)
