use Rattle.std.proofs.Common.{◌≡◌, List, Some, None, arith, sym, ◌∙◌, subst}
use Rattle.std.specs.BTreeMap.{Updates, get}
use Rattle.std.proofs.lemmas.List.{take_all}
use Rattle.lf_ast.specs.Labels.{Labels}
use Rattle.lf_witness.specs.Ascending.{labels_cmp}
use Rattle.lf_strict.specs.views.Paired.{IsIndex, signature_of}
use Rattle.lf_strict.proofs.ManySide.{index_more, is_not_there, is_there, no_ones, two_alike}
use Rattle.lf_strict.proofs.Signatures.{has_texts}
use Rattle.lf_strict.proofs.partners.indexed.Goals as goal

pub loop-sample-init : goal.loop-sample-init
loop-sample-init c = no_ones c.args.matching.now c.new-ones.result c.new-ones.ensures.empty

pub returns-then-is_some : goal.returns-then-is_some
returns-then-is_some c =
    let m = c.args.matching.now in
    let ones = c.loop-sample.ones in
    let there = is_there c.in_ok-insert.field-0 (sym c.is_some.ensures ∙ c.if-is_some.true) in
    let found : get labels_cmp ones (signature_of m c.sample-item.result) ≡ Some there.0 = subst (λ z. get labels_cmp ones z ≡ Some there.0) c.in_ok-signature.ensures (sym c.in_ok-insert.ensures.old ∙ there.1) in
    two_alike m c.args.samples.now c.loop-sample.sample-index c.sample-item.result c.loop-sample-test.true c.sample-item.is c.requires ones c.loop-sample.invariant there.0 found

pub loop-sample-preserved : goal.loop-sample-preserved
loop-sample-preserved c =
    let m = c.args.matching.now in
    let ones = c.loop-sample.ones in
    let more = c.insert.new.self in
    let x = c.sample-item.result in
    let key : c.in_ok-signature.signature ≡ signature_of m x = c.in_ok-signature.ensures in
    let none : get labels_cmp ones (signature_of m x) ≡ None = subst (λ z. get labels_cmp ones z ≡ None) key (sym c.in_ok-insert.ensures.old ∙ is_not_there c.in_ok-insert.field-0 (sym c.is_some.ensures ∙ c.if-is_some.false)) in
    let updates : Updates labels_cmp ones more (signature_of m x) (Some x) =
    subst (λ (z : Labels). Updates labels_cmp ones more z (Some x)) key (subst (λ (y : Labels). Updates labels_cmp ones more c.in_ok-signature.signature (Some y)) c.in_ok-copy.ensures c.in_ok-insert.ensures.updates) in
    index_more m c.args.samples.now c.loop-sample.sample-index x c.loop-sample-test.true c.sample-item.is ones more (has_texts x c.len-count.ensures.texts) c.loop-sample.invariant none updates

pub returns : goal.returns
returns c = subst (λ (l : List Labels). IsIndex c.args.matching.now l c.loop-sample.ones) (take_all c.loop-sample.sample-index c.args.samples.now (omega arith)) c.loop-sample.invariant
