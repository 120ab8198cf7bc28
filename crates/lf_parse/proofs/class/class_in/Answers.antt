use Rattle.std.proofs.Common.{map, sym, ◌∙◌}
use Rattle.std.specs.Char.{to_ascii_lowercase}
use Rattle.lf_parse.proofs.Words.{entry_is, entry_is_not}
use Rattle.lf_parse.proofs.class.class_in.Goals as goal

pub returns-then-is_word : goal.returns-then-is_word
returns-then-is_word c =
    sym (entry_is (map to_ascii_lowercase c.args.text.now) c.args.words.now c.loop-word.word-index _ c.loop-word-test.true (sym c.is_word.ensures ∙ c.if-is_word.true)) ∙ c.loop-word.invariant

pub loop-word-preserved : goal.loop-word-preserved
loop-word-preserved c =
    sym (entry_is_not (map to_ascii_lowercase c.args.text.now) c.args.words.now c.loop-word.word-index _ c.loop-word-test.true (sym c.is_word.ensures ∙ c.if-is_word.false)) ∙ c.loop-word.invariant
