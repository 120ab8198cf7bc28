use Rattle.std.proofs.Common.{◌+◌, get_or, arith, ◌∙◌, ap}
use Rattle.lf_classes.proofs.Changes.{held_view, label_within, none_view, place_within}
use Rattle.lf_classes.proofs.row.Row.has.Goals as goal

pub start-requires : goal.start-requires
start-requires c = let r = c.self.inside in label_within r.live r.shape r.bits _ c.self.view_is c.self.invariant.total c.args.label c.requires.label

pub get-requires : goal.get-requires
get-requires c =
    let r = c.self.inside in
    omega (arith, c.start.ensures, place_within r.live r.shape r.bits _ c.self.view_is c.self.invariant.total c.args.label c.args.class c.requires.label c.requires.class)

pub returns-then-self : goal.returns-then-self
returns-then-self c =
    let r = c.self.inside in
    c.get.ensures ∙ ap (λ k. get_or r.bits (k + c.args.class) _) c.start.ensures
    ∙ held_view r.live r.shape r.bits _ c.self.view_is c.self.invariant.total c.args.label c.args.class c.if-self.true c.requires.label c.requires.class

pub returns-else-self : goal.returns-else-self
returns-else-self c =
    let r = c.self.inside in
    c.if-self.false ∙ none_view r.live r.shape r.bits _ c.self.view_is c.self.invariant.total c.args.label c.args.class c.if-self.false

pub overflow_add-start : goal.overflow_add-start
overflow_add-start c =
    let r = c.self.inside in
    omega (arith, c.start.ensures, c.self.invariant.total, c.self.invariant.small, place_within r.live r.shape r.bits _ c.self.view_is c.self.invariant.total c.args.label c.args.class c.requires.label c.requires.class)
