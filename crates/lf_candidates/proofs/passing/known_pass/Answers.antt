use Rattle.std.proofs.Common.{◌≡◌, ◌∙◌, ap}
use Rattle.std.proofs.lemmas.Option.{IfSome_then}
use Rattle.lf_classes.specs.views.PatternCache.{passing_row}
use Rattle.lf_candidates.proofs.PassingTexts.{cached_passes, cached_shape}
use Rattle.lf_candidates.proofs.passing.known_pass.Goals as goal

pub own_class-requires-clause-shape : goal.own_class-requires-clause-shape
own_class-requires-clause-shape c =
    cached_shape c.args.universe.now c.label_of-label.result c.args.matcher.now.op c.as_str-2.result.now c.label_of-label.ensures.within c.in-Some.row.now c.in-Some.ensures

pub returns-in-Some : goal.returns-in-Some
returns-in-Some c =
    let u = c.args.universe.now in
    let m = c.args.matcher.now in
    let label = c.label_of-label.result in
    let row = c.in-Some.row.now in
    let is : row ≡ passing_row u label m.op m.value = c.in-Some.ensures ∙ ap (passing_row u label m.op) c.as_str-2.ensures in
    IfSome_then c.own_class.result c.own_class.ensures (λ found own. own.1 ∙ cached_passes u label m.op m.value c.label_of-label.ensures.within row c.args.text.now is own.0)
