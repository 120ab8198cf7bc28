use Rattle.std.proofs.Common.{arith, ap, ◌∙◌}
use Rattle.std.specs.List.{prefix_len}
use Rattle.lf_lex.specs.Bytes.{is_in_word}
use Rattle.lf_lex.proofs.Ascii.{word_some, word_start, word_end}
use Rattle.lf_lex.proofs.step.word.Goals as goal

pub part-requires-clause-start : goal.part-requires-clause-start
part-requires-clause-start c = word_start c.args.text.now c.args.at c.utf8.text c.requires.within c.args.inside c.requires.begins

pub part-requires-clause-end : goal.part-requires-clause-end
part-requires-clause-end c =
    word_end c.args.text.now c.args.at c.utf8.text c.requires.within c.args.inside c.requires.begins c.prefix_len-len.result (c.prefix_len-len.ensures.value ∙ ap (prefix_len (is_in_word c.args.inside)) c.here.ensures.value) (omega arith)

pub returns-clause-within : goal.returns-clause-within
returns-clause-within c =
    let e = c.prefix_len-len.ensures.value ∙ ap (prefix_len (is_in_word c.args.inside)) c.here.ensures.value in
    let some = word_some c.args.text.now c.args.at c.utf8.text c.requires.within c.args.inside c.requires.begins in
    (omega arith, omega arith)
