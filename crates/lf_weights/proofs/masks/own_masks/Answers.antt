use Rattle.std.proofs.Common.{◌≡◌, ◌<◌, ◌+◌, ◌*◌, ◌%◌, ◌^◌, ℕ, List, get_or, length, set, sym, subst, arith}
use Rattle.std.specs.Prelude.{bit_or}
use Rattle.std.proofs.lemmas.List.{get_or_read}
use Rattle.lf_weights.specs.views.Masks.{AreMasks}
use Rattle.lf_weights.proofs.Passing.{HasBefore, one_more_node}
use Rattle.lf_weights.proofs.masks.own_masks.Goals as goal

pub loop-place-preserved : goal.loop-place-preserved
loop-place-preserved c =
    let numbers : List ℕ = c.args.numbers.now in
    let masks : List ℕ = c.loop-place.masks.items in
    let place : ℕ = c.loop-place.place in
    let number : ℕ = get_or numbers place 0 in
    let within : number < c.args.count = c.requires.numbers place c.loop-place-test.true in
    let inside : number < length masks = omega (arith, within, c.loop-place.invariant.size) in
    let was : c.index.result.now ≡ get_or masks number 0 = get_or_read masks number c.index.result.now inside c.index.ensures 0 in
    let P : ℕ → Type 0 = λ m. AreMasks c.args.count (HasBefore numbers (place + 1)) (set masks number (bit_or m (1 * 2 ^ place % 2 ^ 64))) in
    subst P (sym was) (one_more_node numbers masks c.args.count place (omega (arith, c.loop-place-test.true, c.requires.few)) within c.loop-place.invariant)
