use Rattle.std.proofs.Common.{◌≡◌, [], map, drop, sym, ap, ◌∙◌}
use Rattle.std.proofs.lemmas.Result.{on_ok_weaker}
use Rattle.lf_ast.specs.Arguments.{text_at, text_of, texts_of}
use Rattle.lf_ast.specs.Labels.{Bytes}
use Rattle.lf_ast.specs.Tree.{tree, trees}
use Rattle.lf_ast.specs.declared.expr.Expr.{Expr}
use Rattle.lf_semantics.specs.Mentions.{mention}
use Rattle.lf_classes.specs.views.Mentioned.{mentioned_all, with_mentioned}
use Rattle.lf_classes.proofs.Walks.{mentioned_arguments}
use Rattle.lf_classes.proofs.mentions.Mentions.mention_joining.Goals as goal

pub returns : goal.returns
returns c =
    let texts = texts_of (trees c.args.args.now) in
    let self = c.args.self.now in
    let target : c.mention_label.new.self ≡ with_mentioned self (mention (text_at texts 1) []) = c.in_ok-mention_label.ensures ∙ ap (λ label. with_mentioned self (mention label [])) c.text_at.ensures in
    let sources : map (λ (e : Expr). mention (text_of (tree e)) []) c.behind.result.now ≡ map (λ (text : Bytes). mention text []) (drop 3 texts) =
    ap (map (λ (e : Expr). mention (text_of (tree e)) [])) c.behind.ensures ∙ sym (mentioned_arguments c.args.args.now 3) in
    on_ok_weaker c.mention_sources.result
    (λ e. e ∙ ap (λ seen. mentioned_all seen (map (λ (e : Expr). mention (text_of (tree e)) []) c.behind.result.now)) target ∙ ap (mentioned_all (with_mentioned self (mention (text_at texts 1) []))) sources)
    c.mention_sources.ensures
