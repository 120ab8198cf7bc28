use Rattle.lf_base.proofs.Answering.{found, only, refused, breach}
use Rattle.lf_templates.specs.Templates.{References, Breaks}
use Rattle.lf_templates.specs.reading.Templates.{reading}
use Rattle.lf_templates.proofs.Deciding.{decides}
use Rattle.lf_templates.proofs.Inside.{found_inside, refused_inside}
use Rattle.lf_templates.proofs.reading.references.Goals as goal

pub returns : goal.returns
returns c =
    let from = c.args.template.now.from in
    let text = c.args.template.now.text in
    let answer = c.read.result in
    let g = rw (c.as_slice.ensures, c.as_str.ensures) at c.read.ensures in
    let d = decides from text in
    let f = found (λ x. x) (References from text) (Breaks from text) (reading from text) d answer g in
    let r = refused (λ x. x) (References from text) (Breaks from text) (reading from text) d answer g in
    record {
      found = f;
      only = only (λ x. x) (References from text) (Breaks from text) (reading from text) d answer g;
      refused = r;
      breach = breach (λ x. x) (References from text) (Breaks from text) (reading from text) d answer g;
      inside = found_inside from text c.requires.from c.requires.rises answer f;
      refused_inside = refused_inside from text c.requires.from c.requires.rises answer r;
    }
