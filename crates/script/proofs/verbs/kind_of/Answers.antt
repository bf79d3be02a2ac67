use Rattle.std.proofs.Common.{codes, sym, ap, rules, arith}
use Rattle.std.proofs.lemmas.Slice.Eq.{text_from_reads}
use Rattle.script.specs.Reads.{kind_of_word}
use Rattle.script.proofs.verbs.kind_of.Goals as goal

pub returns-in-strike : goal.returns-in-strike
returns-in-strike c = sym (ap kind_of_word (text_from_reads c.args.word.now (codes "strike") (omega arith) (search rules)))

pub returns-in-settle : goal.returns-in-settle
returns-in-settle c = sym (ap kind_of_word (text_from_reads c.args.word.now (codes "settle") (omega arith) (search rules)))

pub returns-in-reduce : goal.returns-in-reduce
returns-in-reduce c = sym (ap kind_of_word (text_from_reads c.args.word.now (codes "reduce") (omega arith) (search rules)))
