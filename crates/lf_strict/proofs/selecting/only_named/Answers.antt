use Rattle.std.proofs.Common.{rules}
use Rattle.std.proofs.lemmas.Fn.{filter_same}
use Rattle.lf_strict.specs.views.Selected.{has_name}
use Rattle.lf_strict.proofs.selecting.only_named.Goals as goal

pub returns : goal.returns
returns c = filter_same _ (has_name c.args.name.now) _ (λ x b f' is. search rules) _ _ c.retain.ensures.filtered
