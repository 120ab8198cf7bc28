use Rattle.std.proofs.Common.{sym, ap, ◌∙◌, arith}
use Rattle.std.specs.FinMap.{entries, len-entries}
use Rattle.std.proofs.lemmas.Option.{slice_get_within}
use Rattle.lf_semantics.specs.Texts.{value_of}
use Rattle.lf_strict.proofs.Signatures.{agrees_further, same_texts}
use Rattle.lf_strict.proofs.same_signature.agrees.Goals as goal
use Rattle.lf_strict.proofs.same_signature.agrees.Goals.{else-signs-via-then-signs+else-ne, else-signs-via-else-signs}

pub loop-k-init : goal.loop-k-init
loop-k-init c = λ j e lt. absurd (omega (arith, lt))

pub loop-k-preserved : goal.loop-k-preserved
loop-k-preserved c =
    agrees_further c.args.matching.now c.args.sample.now c.args.other.now c.loop-k.k (c.pair.result.0.now, c.pair.result.1.now) c.pair.ensures.value
    (elim c.else-signs.branch [
      | else-signs-via-then-signs+else-ne w ↦ (λ signed.
          let label = c.as_str-label.ensures in
          ap (value_of c.args.sample.now) (sym label) ∙ sym w.text_of.ensures
          ∙ same_texts w.text_of.result.now w.text_of-then-signs.result.now w.ne.result w.ne.ensures w.if-ne.false
          ∙ w.text_of-then-signs.ensures ∙ ap (value_of c.args.other.now) label)
      | else-signs-via-else-signs w ↦ (λ signed. absurd (let is = c.signs.ensures in let label = c.as_str-label.ensures in let no = w.if-signs.false in cc))
    ])
    c.loop-k.invariant

pub returns-clause-each : goal.returns-clause-each
returns-clause-each c = λ _ k e at signed.
    c.loop-k.invariant k e (
    let within = slice_get_within (entries c.args.sample.now) k e at in
    let count = c.len-k-end.ensures.value in
    let same = len-entries c.args.sample.now in
    let all = c.loop-k-test.false in
    omega (arith, within, count, same, all)) at signed
