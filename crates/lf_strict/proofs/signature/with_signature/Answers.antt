use Rattle.std.proofs.Common.{◌≡◌, ◌++◌, ◌∷◌, [], rules, List, sym, ◌∙◌, ap}
use Rattle.lf_ast.specs.Labels.{Labels}
use Rattle.lf_strict.specs.views.Signed.{is_signed}
use Rattle.lf_strict.proofs.Filtered.{kept_more, passed_more, texts_more}
use Rattle.lf_strict.proofs.Signatures.{has_texts}
use Rattle.lf_strict.proofs.signature.with_signature.Goals as goal
use Rattle.lf_strict.proofs.signature.with_signature.Goals.{then-branch+in_ok-copy+in_ok-push, else-branch}

pub loop-sample-preserved : goal.loop-sample-preserved
loop-sample-preserved c =
    let p = is_signed c.args.matching.now c.args.signatures.now c.args.wanted in
    let xs = c.args.samples.now in
    let k = c.loop-sample.sample-index in
    let x = c.sample-item.result in
    let old : List Labels = c.loop-sample.kept.items in (
      elim c.if-branch.branch [
        | then-branch+in_ok-copy+in_ok-push w ↦
            let pushed : w.push.new.self.items ≡ old ++ w.in_ok-copy.field-0 ∷ [] = search rules in
            rw w.kept-is (pushed ∙ ap (λ (y : Labels). old ++ y ∷ []) w.in_ok-copy.ensures ∙ kept_more p xs old k x c.loop-sample-test.true c.sample-item.is (sym c.in_ok-is_signed.ensures.signed ∙ w.if-branch.true) c.loop-sample.invariant.0)
        | else-branch w ↦ rw w.kept-is (passed_more p xs old k x c.loop-sample-test.true c.sample-item.is (sym c.in_ok-is_signed.ensures.signed ∙ w.if-branch.false) c.loop-sample.invariant.0)
      ],
      texts_more xs k x c.loop-sample-test.true c.sample-item.is (has_texts x c.in_ok-is_signed.ensures.texts) c.loop-sample.invariant.1,
    )
