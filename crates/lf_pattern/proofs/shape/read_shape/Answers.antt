use Rattle.std.proofs.Common.{rules, ◌≡◌, ◌∙◌, List, ℕ, IfOk, subst}
use Rattle.std.specs.Str.{chars}
use Rattle.std.proofs.lemmas.Str.{chars_from_encodes}
use Rattle.lf_pattern.specs.ShapeScan.{read_from, start}
use Rattle.lf_pattern.proofs.shape.read_shape.Goals as goal

pub returns : goal.returns
returns c =
    let same : c.in_ok-characters.characters.items ≡ chars c.args.text.now = search (rules, chars_from_encodes) in
    let P : List ℕ → Type 0 = λ cs. IfOk c.read.result (λ r. r ≡ read_from start cs) in
    subst P (c.deref.ensures.value ∙ same) c.read.ensures
