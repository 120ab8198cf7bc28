use Rattle.std.proofs.Common.{rules, ◌≡◌, ap, ◌∙◌}
use Rattle.std.specs.Str.{chars}
use Rattle.std.proofs.lemmas.Str.{chars_from_encodes}
use Rattle.lf_pattern.specs.reading.Expansion.{is_capture}
use Rattle.lf_pattern.proofs.plain.in_pair.Goals as goal

pub returns : goal.returns
returns c =
    let same : c.in_ok-characters.characters.items ≡ chars c.args.text.now = search (rules, chars_from_encodes) in
    c.is_pair.ensures ∙ ap is_capture (c.deref.ensures.value ∙ same)
