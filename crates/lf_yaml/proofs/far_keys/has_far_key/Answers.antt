use Rattle.std.proofs.Common.{◌∙◌, Bool, false, None, Some, suc, refl, ap, sym, ◌&&◌}
use Rattle.lf_scalar.specs.Cells.{cell, cells}
use Rattle.lf_yaml.specs.Keys.{is_too_far, before_offset}
use Rattle.lf_yaml.proofs.FarKeys.{no-quote-far, quote-far}
use Rattle.lf_yaml.proofs.far_keys.has_far_key.Goals as goal

pub returns-then-is_apart : goal.returns-then-is_apart
returns-then-is_apart c =
    let far : Bool = is_too_far (before_offset c.in-Some-sign_of.colon (cells c.args.at c.args.text.now)) in
    quote-far c.in-Some.quote c.args.at c.args.text.now (Some (cell 58 c.in-Some-sign_of.colon, cells (suc c.in-Some-sign_of.colon) c.in-Some-sign_of.behind.now)) c.is_far.result c.requires.some (c.in-Some.ensures.kind c.args.at) c.in-Some-sign_of.ensures.sign
    (c.is_far.ensures ∙ ap (λ (b : Bool). b && far) (sym (sym (c.is_apart.ensures (suc c.in-Some-sign_of.colon)) ∙ c.if-is_apart.true)))

pub returns-else-is_apart : goal.returns-else-is_apart
returns-else-is_apart c =
    let far : Bool = is_too_far (before_offset c.in-Some-sign_of.colon (cells c.args.at c.args.text.now)) in
    quote-far c.in-Some.quote c.args.at c.args.text.now (Some (cell 58 c.in-Some-sign_of.colon, cells (suc c.in-Some-sign_of.colon) c.in-Some-sign_of.behind.now)) c.is_apart.result c.requires.some (c.in-Some.ensures.kind c.args.at) c.in-Some-sign_of.ensures.sign
    (c.if-is_apart.false ∙ ap (λ (b : Bool). b && far) (sym (sym (c.is_apart.ensures (suc c.in-Some-sign_of.colon)) ∙ c.if-is_apart.false)))

pub returns-in-None-sign_of : goal.returns-in-None-sign_of
returns-in-None-sign_of c = quote-far c.in-Some.quote c.args.at c.args.text.now None false c.requires.some (c.in-Some.ensures.kind c.args.at) c.in-None-sign_of.ensures.sign refl

pub returns-in-None : goal.returns-in-None
returns-in-None c = no-quote-far c.args.at c.args.text.now c.requires.some (c.in-None.ensures.kind c.args.at)
