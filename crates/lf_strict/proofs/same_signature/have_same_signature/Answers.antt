use Rattle.std.proofs.Common.{sym, ◌∙◌, true≢false}
use Rattle.lf_strict.proofs.Signatures.{both_agree, has_texts, told_signature}
use Rattle.lf_strict.proofs.same_signature.have_same_signature.Goals as goal

pub returns-then-agrees : goal.returns-then-agrees
returns-then-agrees c =
    let m = c.args.matching.now in
    let s = c.args.sample.now in
    let t = c.args.other.now in
    let here = c.agrees.ensures in
    let there = c.agrees-then-agrees.ensures in
    told_signature m s t c.agrees-then-agrees.result
    (λ yes. (has_texts s here.texts, has_texts t there.texts, both_agree m s t (here.each c.if-agrees.true) (there.each yes)))
    (λ no same. there.differs no (λ label signed. sym (same label signed)))

pub returns-else-agrees : goal.returns-else-agrees
returns-else-agrees c = told_signature c.args.matching.now c.args.sample.now c.args.other.now c.agrees.result (λ yes. absurd (true≢false (sym yes ∙ c.if-agrees.false))) c.agrees.ensures.differs
