use Rattle.std.proofs.Common.{◌∙◌, ◌≡◌, ◌+◌, ap, sym, List, ℕ, length, subst, Ok}
use Rattle.lf_scalar.specs.Cells.{Value}
use Rattle.lf_scalar.specs.Offsets.{AreOffsets}
use Rattle.lf_scalar.specs.views.Ascending.{offsets_from}
use Rattle.lf_yaml.proofs.Ascents.{made-is, ascending}
use Rattle.lf_yaml.proofs.plain.slice_scalar.Goals as goal

pub invariant_of-result : goal.invariant_of-result
invariant_of-result c =
    let e : c.in-Ok-of.text ≡ c.args.text.now = c.in-Ok-of.ensures ∙ c.as_text.ensures in
    let f : c.in-Ok.from ≡ offsets_from c.args.at (length c.args.text.now + 1) = c.in-Ok.ensures.offsets in
    let a : AreOffsets c.in-Ok-of.text c.in-Ok.from c.args.span =
    subst (λ (xs : List ℕ). AreOffsets xs c.in-Ok.from c.args.span) (sym e)
    (subst (λ (xs : List ℕ). AreOffsets c.args.text.now xs c.args.span) (sym f) (ascending c.args.at c.args.text.now c.args.span c.requires.start c.requires.end)) in
    record { offsets = a }

pub returns-in-Ok-of : goal.returns-in-Ok-of
returns-in-Ok-of c =
    let e : c.in-Ok-of.text ≡ c.args.text.now = c.in-Ok-of.ensures ∙ c.as_text.ensures in
    let f : c.in-Ok.from ≡ offsets_from c.args.at (length c.args.text.now + 1) = c.in-Ok.ensures.offsets in
    ap (λ (v : Value). Ok v) (sym (made-is c.args.at c.args.text.now c.args.span))
    ∙ ap (λ (xs : List ℕ). let v : Value = record { text = xs; from = offsets_from c.args.at (length c.args.text.now + 1); span = c.args.span } in Ok v) (sym e)
    ∙ ap (λ (xs : List ℕ). let v : Value = record { text = c.in-Ok-of.text; from = xs; span = c.args.span } in Ok v) (sym f)
