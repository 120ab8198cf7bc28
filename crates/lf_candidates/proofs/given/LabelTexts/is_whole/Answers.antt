use Rattle.std.proofs.Common.{◌≡◌, length, sym, ap, ◌∙◌, arith}
use Rattle.std.specs.Prelude.{is_some}
use Rattle.std.specs.List.{list_all}
use Rattle.std.proofs.lemmas.List.{take_all}
use Rattle.lf_candidates.proofs.Standing.{all_said}
use Rattle.lf_candidates.proofs.given.LabelTexts.is_whole.Goals as goal

pub returns : goal.returns
returns c = λ u D within stands.
    sym (sym (all_said u within D c.args.self.now stands) ∙ ap (list_all is_some) (sym (take_all c.loop-label.label c.args.self.now (let view : length c.self.inside.classes.items ≡ length c.args.self.now = ap length c.self.view_is in let done = c.loop-label-test.false in let many = c.len-label-end.ensures in omega (arith, view, done, many)))) ∙ c.loop-label.invariant)
