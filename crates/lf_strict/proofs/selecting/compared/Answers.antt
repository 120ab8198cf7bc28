use Rattle.std.proofs.Common.{rules}
use Rattle.std.specs.Str.{bytes_eq}
use Rattle.std.proofs.lemmas.Fn.{filter_same}
use Rattle.lf_semantics.specs.Texts.{value_of}
use Rattle.lf_strict.specs.views.Selected.{as_wanted}
use Rattle.lf_strict.proofs.selecting.compared.Goals as goal

pub returns : goal.returns
returns c =
    filter_same _ (λ s. as_wanted c.args.wanted (bytes_eq (value_of s c.args.matcher.now.label) c.args.matcher.now.value)) _ (λ x b f' is. search rules) _ _ c.retain.ensures.filtered
