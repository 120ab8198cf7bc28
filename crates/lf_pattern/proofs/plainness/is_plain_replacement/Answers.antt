use Rattle.std.proofs.Common.{rules, ◌≡◌, ◌∙◌, sym, ap}
use Rattle.std.specs.Str.{chars}
use Rattle.std.proofs.lemmas.Str.{chars_from_encodes}
use Rattle.lf_pattern.specs.reading.Plainness.{passes}
use Rattle.lf_pattern.specs.declared.plainness.Check.TheVariants.{Text}
use Rattle.lf_pattern.proofs.PlainnessLaws.{plain-passes, passes-plain}
use Rattle.lf_pattern.proofs.plainness.is_plain_replacement.Goals as goal

pub returns : goal.returns
returns c =
    let same : c.in_ok-characters.characters.items ≡ chars c.args.replacement.now = search (rules, chars_from_encodes) in
    let result : c.scan.result ≡ passes Text (chars c.args.replacement.now) = c.scan.ensures ∙ ap (passes Text) (c.deref.ensures.value ∙ same) in
    (λ h. passes-plain (chars c.args.replacement.now) (sym result ∙ h), λ (ps, reads). result ∙ plain-passes reads)
