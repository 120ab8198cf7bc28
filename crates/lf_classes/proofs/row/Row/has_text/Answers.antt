use Rattle.std.proofs.Common.{sym, ◌∙◌, ap, arith}
use Rattle.lf_classes.specs.views.Cut.{cut, shown}
use Rattle.lf_classes.proofs.Cutting.{start_within}
use Rattle.lf_classes.proofs.Changes.{label_within}
use Rattle.lf_classes.proofs.TextClasses.{text_empty, text_looked}
use Rattle.lf_classes.proofs.row.Row.has_text.Goals as goal

pub start-requires : goal.start-requires
start-requires c = let r = c.self.inside in label_within r.live r.shape r.bits _ c.self.view_is c.self.invariant.total c.args.label c.requires

pub end-requires : goal.end-requires
end-requires c = let r = c.self.inside in label_within r.live r.shape r.bits _ c.self.view_is c.self.invariant.total c.args.label c.requires

pub any-requires : goal.any-requires
any-requires c =
    let r = c.self.inside in
    let l = label_within r.live r.shape r.bits _ c.self.view_is c.self.invariant.total c.args.label c.requires in
    omega (arith, c.end.ensures, start_within r.shape c.args.label l, c.self.invariant.total)

pub returns-then-self : goal.returns-then-self
returns-then-self c = λ u.
    let r = c.self.inside in
    text_looked u r.live r.shape r.bits _ c.self.view_is c.self.invariant.total c.args.label c.start.result c.end.result c.requires c.start.ensures c.end.ensures c.if-self.true c.any.result c.any.ensures.some c.any.ensures.none

pub returns-else-self : goal.returns-else-self
returns-else-self c = λ u.
    let r = c.self.inside in
    c.if-self.false ∙ sym (text_empty u r.shape r.bits _ c.args.label (ap (λ b. shown b (cut r.shape r.bits)) (sym c.if-self.false) ∙ c.self.view_is))

pub overflow_add-start : goal.overflow_add-start
overflow_add-start c =
    let r = c.self.inside in
    let l = label_within r.live r.shape r.bits _ c.self.view_is c.self.invariant.total c.args.label c.requires in
    omega (arith, c.start.ensures, c.self.invariant.total, c.self.invariant.small, start_within r.shape c.args.label l)
