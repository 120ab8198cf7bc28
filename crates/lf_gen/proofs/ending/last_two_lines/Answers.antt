use Rattle.std.proofs.Common.{◌≡◌, ◌≤◌, ap, ◌∙◌, subst, length, take, arith}
use Rattle.lf_base.specs.Names.{Bytes}
use Rattle.lf_gen.specs.Lines.{last_lines}
use Rattle.lf_gen.specs.views.Ends.{BeginsLastLine}
use Rattle.lf_gen.proofs.LineLaws.{last_of_lines, last_two}
use Rattle.lf_gen.proofs.ending.last_two_lines.Goals as goal

pub returns-clause-end : goal.returns-clause-end
returns-clause-end c =
    let text : Bytes = c.args.text.now in
    let last = c.last_line-last.result in
    let before = c.last_line-before.result in
    let front_is : c.range.result.now ≡ take last text = c.range.ensures.value ∙ ap (λ n. take n text) (omega arith) in
    let within : before ≤ length (take last text) = subst (λ (front : Bytes). before ≤ length front) front_is c.last_line-before.ensures.boundary.0 in
    let other : BeginsLastLine (take last text) before = subst (λ (front : Bytes). BeginsLastLine front before) front_is c.last_line-before.ensures.line in
    c.range_from.ensures.value ∙ last_two text last before c.last_line-last.ensures.boundary.0 within c.last_line-last.ensures.line other

pub returns-clause-lines : goal.returns-clause-lines
returns-clause-lines c lines are e = returns-clause-end c ∙ ap (last_lines 2) e ∙ last_of_lines 2 lines are
