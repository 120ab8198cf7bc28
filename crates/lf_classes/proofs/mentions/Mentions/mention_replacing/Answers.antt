use Rattle.std.proofs.Common.{◌≡◌, ap, ◌∙◌}
use Rattle.std.proofs.lemmas.Result.{on_ok_weaker}
use Rattle.lf_semantics.specs.Mentions.{mention, replacement_texts, source_mentions}
use Rattle.lf_ast.specs.Arguments.{text_at, texts_of}
use Rattle.lf_ast.specs.Tree.{trees}
use Rattle.lf_classes.specs.views.Mentioned.{mentioned_all, with_mentioned}
use Rattle.lf_classes.proofs.mentions.Mentions.mention_replacing.Goals as goal

pub returns : goal.returns
returns c =
    let texts = texts_of (trees c.args.args.now) in
    let self = c.args.self.now in
    let target : c.mention_target.new.self ≡ with_mentioned self (mention (text_at texts 1) (replacement_texts (text_at texts 2))) =
    c.in_ok-mention_target.ensures ∙ ap (λ label. with_mentioned self (mention label (replacement_texts c.text_at-2.result.now))) c.text_at.ensures
    ∙ ap (λ text. with_mentioned self (mention (text_at texts 1) (replacement_texts text))) c.text_at-2.ensures in
    on_ok_weaker c.mention_source.result
    (λ e. e ∙ ap (λ seen. mentioned_all seen (source_mentions c.text_at-3.result.now c.text_at-4.result.now)) target
    ∙ ap (λ source. mentioned_all (with_mentioned self (mention (text_at texts 1) (replacement_texts (text_at texts 2)))) (source_mentions source c.text_at-4.result.now)) c.text_at-3.ensures
    ∙ ap (λ pattern. mentioned_all (with_mentioned self (mention (text_at texts 1) (replacement_texts (text_at texts 2)))) (source_mentions (text_at texts 3) pattern)) c.text_at-4.ensures)
    c.mention_source.ensures
