use Rattle.std.proofs.Common.{◌<◌, ℕ, List, get_or, length, sym, ap₂, ◌∙◌, rules}
use Rattle.std.specs.Prelude.{bit_or}
use Rattle.std.proofs.lemmas.List.{get_or_read}
use Rattle.std.proofs.lemmas.List.Elements.{Contains-get_or}
use Rattle.std.proofs.lemmas.List.Sums.{fold_more}
use Rattle.lf_weights.specs.views.Masks.{mask_at}
use Rattle.lf_weights.proofs.masks.join.Goals as goal

pub index-requires : goal.index-requires
index-requires c =
    let within : get_or c.args.others.now c.loop-other.other-index 0 < length c.args.masks.now.items = c.requires.others (get_or c.args.others.now c.loop-other.other-index 0) (Contains-get_or c.args.others.now c.loop-other.other-index 0 c.loop-other-test.true) in
    search rules

pub loop-other-preserved : goal.loop-other-preserved
loop-other-preserved c =
    let masks : List ℕ = c.args.masks.now.items in
    let others : List ℕ = c.args.others.now in
    let i : ℕ = c.loop-other.other-index in
    let other : ℕ = get_or others i 0 in
    let within : other < length masks = c.requires.others other (Contains-get_or others i 0 c.loop-other-test.true) in
    ap₂ bit_or c.loop-other.invariant (get_or_read masks other c.index.result.now within c.index.ensures 0)
    ∙ sym (fold_more (λ (m l : ℕ). bit_or m (mask_at masks l)) (mask_at masks c.args.number) others i 0 c.loop-other-test.true)
