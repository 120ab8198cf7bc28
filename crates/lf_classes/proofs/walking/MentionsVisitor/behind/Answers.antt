use Rattle.std.proofs.Common.{[], ◌++◌, Option, ap, cond, sym, ◌∙◌}
use Rattle.std.specs.Option.{option_map}
use Rattle.std.proofs.lemmas.Result.{on_ok_weaker}
use Rattle.lf_ast.proofs.TreeOf.{tree_aggregate, tree_call}
use Rattle.lf_ast.specs.Arguments.{texts_of}
use Rattle.lf_ast.specs.Functions.{Signature, called_by, signature_of}
use Rattle.lf_ast.specs.Tree.{trees}
use Rattle.lf_semantics.specs.Mentions.{group_names, names_mentions, stands_first}
use Rattle.lf_classes.specs.views.Mentioned.{called_behind, mentioned_all, own_behind}
use Rattle.lf_classes.proofs.walking.MentionsVisitor.behind.Goals as goal

pub returns-in-Call : goal.returns-in-Call
returns-in-Call c =
    let s = c.in-Call in
    let self = c.args.self.now in
    let o = option_map signature_of c.args.function.now in
    let is = tree_call _ s.name s.args s.span s.is in
    on_ok_weaker c.mention_behind_call.result
    (λ e. e ∙ ap (λ args. mentioned_all self (called_behind o (texts_of (trees args)))) c.as_slice.ensures
    ∙ ap (λ (o : Option Signature). mentioned_all self (called_behind o (texts_of (trees s.args)))) (c.requires ∙ ap called_by is)
    ∙ ap (λ e. mentioned_all self (own_behind e)) (sym is))
    c.mention_behind_call.ensures

pub returns-in-Aggregate : goal.returns-in-Aggregate
returns-in-Aggregate c =
    let s = c.in-Aggregate in
    let self = c.args.self.now in
    let o = option_map signature_of c.args.function.now in
    let names = group_names s.grouping in
    let is = tree_aggregate _ s.op s.grouping s.args s.span s.is in
    on_ok_weaker c.mention_behind_aggregate.result
    (λ e. e ∙ ap (λ args. mentioned_all self (called_behind o (texts_of (trees args)) ++ cond (stands_first names (trees args)) [] (names_mentions names))) c.as_slice-in-Aggregate.ensures
    ∙ ap (λ (o : Option Signature). mentioned_all self (called_behind o (texts_of (trees s.args)) ++ cond (stands_first names (trees s.args)) [] (names_mentions names))) (c.requires ∙ ap called_by is)
    ∙ ap (λ e. mentioned_all self (own_behind e)) (sym is))
    c.mention_behind_aggregate.ensures
