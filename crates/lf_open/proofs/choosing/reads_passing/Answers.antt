use Rattle.std.proofs.Common.{false, List, ℕ, slice_index_or, ◌∙◌, ap}
use Rattle.std.specs.List.{list_any}
use Rattle.std.specs.Prelude.{slice_get}
use Rattle.lf_open.proofs.Chosen.{tells_read}
use Rattle.lf_open.proofs.choosing.reads_passing.Goals as goal

pub returns : goal.returns
returns c = λ rules of_rule sources are.
    tells_read rules of_rule c.args.passing.now are c.args.rule c.in_ok-reach.reach
    (λ of at k. c.in_ok-reach.ensures.members rules sources of (ap (slice_get rules) c.in_ok-rule_number.ensures ∙ at) k) c.any_passing.result
    (c.any_passing.ensures ∙ ap (λ (l : List ℕ). list_any (λ k. slice_index_or c.args.passing.now k false) l) c.as_slice.ensures)
