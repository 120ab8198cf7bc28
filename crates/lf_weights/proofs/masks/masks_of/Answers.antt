use Rattle.std.proofs.Common.{◌≡◌, ◌<◌, ◌+◌, ℕ, List, [], get_or, length, set, sym, ap, subst, ◌∙◌, arith}
use Rattle.std.specs.List.{Contains}
use Rattle.std.proofs.lemmas.List.{get_or_read}
use Rattle.lf_weights.specs.views.Masks.{AreMasks, IsOwn, joined}
use Rattle.lf_weights.proofs.Passing.{HasSoFar, all_joined, none_joined, one_more}
use Rattle.lf_weights.proofs.masks.masks_of.Goals as goal

pub join-requires-clause-others : goal.join-requires-clause-others
join-requires-clause-others c = λ l there.
    let nexts : List (List ℕ) = c.args.nexts.now in
    let number : ℕ = c.loop-number.number in
    let less : number < length nexts = omega (arith, c.loop-number-test.true, c.len-number-end.ensures) in
    let next : c.as_slice.result.now ≡ get_or nexts number [] = c.as_slice.ensures ∙ get_or_read nexts number c.get.result.now less c.get.ensures.read [] in
    let down = c.requires.down number l (subst (λ (ls : List ℕ). Contains ls l) next there) in
    omega (arith, down, less, c.loop-number.invariant.size)

pub loop-number-init : goal.loop-number-init
loop-number-init c =
    let P : ℕ → Type 0 = λ n. AreMasks n (IsOwn c.args.numbers.now) c.in_ok-masks.masks.items in
    none_joined c.args.nexts.now c.args.numbers.now c.in_ok-masks.masks.items (subst P c.len.ensures c.in_ok-masks.ensures)

pub loop-number-preserved : goal.loop-number-preserved
loop-number-preserved c =
    let nexts : List (List ℕ) = c.args.nexts.now in
    let masks : List ℕ = c.loop-number.masks.items in
    let number : ℕ = c.loop-number.number in
    let less : number < length nexts = omega (arith, c.loop-number-test.true, c.len-number-end.ensures) in
    let next : c.as_slice.result.now ≡ get_or nexts number [] = c.as_slice.ensures ∙ get_or_read nexts number c.get.result.now less c.get.ensures.read [] in
    let new : c.join.new.masks.items ≡ set masks number (joined masks number (get_or nexts number [])) = c.join.ensures ∙ ap (λ (ls : List ℕ). set masks number (joined masks number ls)) next in
    let P : List ℕ → Type 0 = λ ls. AreMasks (length nexts) (HasSoFar nexts c.args.numbers.now (number + 1)) ls in
    subst P (sym new) (one_more nexts c.requires.down c.args.numbers.now masks number less c.loop-number.invariant)

pub returns : goal.returns
returns c =
    let all : c.loop-number.number ≡ length c.args.nexts.now = omega (arith, c.loop-number-test.false, c.loop-number.auto.number-end, c.len-number-end.ensures) in
    all_joined c.args.nexts.now c.args.numbers.now c.loop-number.masks.items c.loop-number.number all c.loop-number.invariant
