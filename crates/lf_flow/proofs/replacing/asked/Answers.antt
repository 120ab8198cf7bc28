use Rattle.std.proofs.Common.{◌≡◌, not, sym, ◌∙◌, ap}
use Rattle.lf_pattern.specs.Matching.{matches}
use Rattle.lf_semantics.specs.RowTable.{may_match}
use Rattle.lf_flow.proofs.ClassSets.{more}
use Rattle.lf_flow.proofs.PatternSets.{match_named, match_other}
use Rattle.lf_flow.proofs.replacing.asked.Goals as goal
use Rattle.lf_flow.proofs.replacing.asked.Goals.{in-Some, in-None}

pub loop-class-preserved : goal.loop-class-preserved
loop-class-preserved c =
    let u = c.args.universe.now in
    let pattern = c.args.pattern.now in
    let label = c.args.label in
    let class = c.loop-class.class in
    let asked : c.match-class_text.found ≡ may_match u pattern label class =
    elim c.match-class_text.branch [
      | in-Some w ↦
          let text = w.in-Some.text.now in
          w.found-is ∙ w.matches-found.ensures.value ∙ ap (λ p. matches p text) c.loop-class.invariant.same
          ∙ sym (match_named u pattern label class text w.in-Some.ensures.own.0 w.in-Some.ensures.own.1)
      | in-None w ↦ w.found-is ∙ sym (ap not c.requires.other) ∙ sym (match_other u pattern label class w.in-None.ensures.other)
    ] in
    record {
      same = elim c.match-class_text.branch [
        | in-Some w ↦ w.probe-is ∙ w.matches-found.ensures.same ∙ c.loop-class.invariant.same
        | in-None w ↦ w.probe-is ∙ c.loop-class.invariant.same
      ];
      set = rw c.in_ok-push.ensures.items (more class (may_match u pattern label) c.loop-class.on.items c.match-class_text.found c.loop-class.invariant.set asked);
    }
