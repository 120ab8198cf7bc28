use Rattle.std.proofs.Common.{Bool, ap, arith, sym, ◌∙◌}
use Rattle.lf_trials.specs.Verdicts.{leaves}
use Rattle.lf_candidates.specs.views.ClassTexts.{name_at}
use Rattle.lf_candidates.proofs.FirstClass.{row_length, set_length}
use Rattle.lf_candidates.proofs.LeftPresences.{absence_left, text_left}
use Rattle.lf_candidates.proofs.candidates.leaves.Goals as goal

pub has_text-requires : goal.has_text-requires
has_text-requires c = let many = row_length c.args.universe.now c.args.row.now c.requires.shape in omega (arith, many, c.requires.label)

pub has-requires-clause-label : goal.has-requires-clause-label
has-requires-clause-label c = let many = row_length c.args.universe.now c.args.row.now c.requires.shape in omega (arith, many, c.requires.label)

pub has-requires-clause-class : goal.has-requires-clause-class
has-requires-clause-class c = let room = set_length c.args.universe.now c.args.row.now c.requires.shape c.args.label c.requires.label in omega (arith, room)

pub returns-then-presence : goal.returns-then-presence
returns-then-presence c =
    let u = c.args.universe.now in
    let label = c.args.label in
    text_left u c.requires.universe label c.requires.label c.args.row.now c.requires.shape c.has_text.result c.has_text.ensures ∙ ap (λ (b : Bool). leaves u c.args.row.now (name_at u label) b) (sym c.if-presence.true)

pub returns-else-presence : goal.returns-else-presence
returns-else-presence c =
    let u = c.args.universe.now in
    let label = c.args.label in
    absence_left u c.requires.universe label c.requires.label c.args.row.now c.requires.shape c.has.result c.has.ensures ∙ ap (λ (b : Bool). leaves u c.args.row.now (name_at u label) b) (sym c.if-presence.false)
