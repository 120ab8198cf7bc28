use Rattle.std.proofs.Common.{◌≡◌, ◌+◌, ◌*◌, ◌-◌, ◌^◌, ◌≤◌, ℕ, List, [], get_or, length, min, take, drop, ap, ap₂, subst, ◌∙◌, arith}
use Rattle.std.specs.List.{Contains, sum_by}
use Rattle.std.proofs.lemmas.List.{length-take}
use Rattle.lf_graph.specs.Components.{AreComponents, Components}
use Rattle.lf_weights.specs.views.Masks.{AreMasks, LeadsInto, mask_at, weight_in}
use Rattle.lf_weights.proofs.Blocks.{all_weights, first_number_within, next_begins, node_within, none_before, nodes, one_block_more, weight_before}
use Rattle.lf_weights.proofs.Nodes.{down}
use Rattle.lf_weights.proofs.Sums.{part_up_to}
use Rattle.lf_weights.proofs.weighing.weight_reached.Goals as goal

pub loop-block-init : goal.loop-block-init
loop-block-init c = λ reached are.
    let weights : List ℕ = c.args.weights.now in
    let first : min 0 (length weights) ≡ 0 = omega arith in
    let none : weight_before weights reached (min 0 (length weights)) ≡ 0 = ap (weight_before weights reached) first ∙ none_before weights reached in
    omega (arith, none)

pub masks_of-requires-clause-few : goal.masks_of-requires-clause-few
masks_of-requires-clause-few c =
    let long = ap length c.block_of.ensures ∙ length-take 64 (drop (64 * c.loop-block.block) c.first_of-numbers.result.now) in
    omega (arith, long)

pub masks_of-requires-clause-numbers : goal.masks_of-requires-clause-numbers
masks_of-requires-clause-numbers c = λ j h.
    let weights : List ℕ = c.args.weights.now in
    let first : ℕ = 64 * c.loop-block.block in
    let numbers : c.first_of-numbers.result.now ≡ take (length weights) c.in_ok-components.components.numbers = c.first_of-numbers.ensures ∙ ap (take (length weights)) c.numbers.ensures in
    let is : c.block_of.result.now ≡ nodes c.args.edges.now c.in_ok-components.components c.in_ok-components.ensures weights c.requires.weights first = c.block_of.ensures ∙ ap (λ (l : List ℕ). take 64 (drop first l)) numbers in
    let nexts = ap length c.in_ok-nexts.ensures in
    let same = ap (λ (l : List ℕ). get_or l j 0) is in
    let begins : first ≤ length weights = omega (arith, c.loop-block-test.true) in
    let long = ap length is in
    let within = node_within c.args.edges.now c.in_ok-components.components c.in_ok-components.ensures weights c.requires.weights first begins j (omega (arith, h, long)) in
    omega (arith, nexts, same, within)

pub masks_of-requires-clause-down : goal.masks_of-requires-clause-down
masks_of-requires-clause-down c = λ k l there.
    down c.args.edges.now c.in_ok-components.components c.in_ok-components.ensures k l (subst (λ (ls : List (List ℕ)). Contains (get_or ls k []) l) c.in_ok-nexts.ensures there)

pub weigh_all-requires-clause-numbers : goal.weigh_all-requires-clause-numbers
weigh_all-requires-clause-numbers c = λ k there.
    let weights : List ℕ = c.args.weights.now in
    let numbers : c.first_of-numbers.result.now ≡ take (length weights) c.in_ok-components.components.numbers = c.first_of-numbers.ensures ∙ ap (take (length weights)) c.numbers.ensures in
    let within = first_number_within c.args.edges.now c.in_ok-components.components c.in_ok-components.ensures weights c.requires.weights k (subst (λ (l : List ℕ). Contains l k) numbers there) in
    let nexts = ap length c.in_ok-nexts.ensures in
    let masks = ap length c.as_slice.ensures.value in
    omega (arith, within, nexts, masks, c.in_ok-masks.ensures.size)

pub weigh_all-requires-clause-few : goal.weigh_all-requires-clause-few
weigh_all-requires-clause-few c =
    let long = ap length c.block_of-part.ensures ∙ length-take 64 (drop (64 * c.loop-block.block) c.args.weights.now) in
    omega (arith, long)

pub loop-block-preserved : goal.loop-block-preserved
loop-block-preserved c = λ reached found.
    let edges : List (List ℕ) = c.args.edges.now in
    let weights : List ℕ = c.args.weights.now in
    let parts : Components = c.in_ok-components.components in
    let are : AreComponents edges parts = c.in_ok-components.ensures in
    let first : ℕ = 64 * c.loop-block.block in
    let begins : first ≤ length weights = omega (arith, c.loop-block-test.true) in
    let masks : List ℕ = c.in_ok-masks.masks.items in
    let most : ℕ = 2 ^ 64 - 1 in
    let own : List ℕ = take 64 (drop first weights) in
    let over : ℕ = sum_by (λ k. weight_in (mask_at masks k) own) (take (length weights) parts.numbers) in
    let numbers : c.first_of-numbers.result.now ≡ take (length weights) parts.numbers = c.first_of-numbers.ensures ∙ ap (take (length weights)) c.numbers.ensures in
    let block : c.block_of.result.now ≡ take 64 (drop first (take (length weights) parts.numbers)) = c.block_of.ensures ∙ ap (λ (l : List ℕ). take 64 (drop first l)) numbers in
    let has : AreMasks (length parts.nexts) (LeadsInto parts.nexts (take 64 (drop first (take (length weights) parts.numbers)))) masks =
    subst (λ (l : List ℕ). AreMasks (length parts.nexts) (LeadsInto parts.nexts l) masks) block (subst (λ (ls : List (List ℕ)). AreMasks (length ls) (LeadsInto ls c.block_of.result.now) masks) c.in_ok-nexts.ensures c.in_ok-masks.ensures) in
    let weighed : c.weigh_all.result ≡ min over most =
    c.weigh_all.ensures ∙ ap₂ (λ (w n : List ℕ). min (sum_by (λ k. weight_in (mask_at c.as_slice.result.now k) w) n) most) c.block_of-part.ensures numbers
    ∙ ap (λ (m : List ℕ). min (sum_by (λ k. weight_in (mask_at m k) own) (take (length weights) parts.numbers)) most) c.as_slice.ensures.value in
    let whole : min first (length weights) ≡ first = omega (arith, begins) in
    let so_far : c.loop-block.total ≡ min (weight_before weights reached first) most = c.loop-block.invariant reached found ∙ ap (λ (m : ℕ). min (weight_before weights reached m) most) whole in
    let all = one_block_more edges parts are weights c.requires.weights reached found first begins masks has in
    let next = next_begins edges parts are weights c.requires.weights reached found first begins (64 * (c.loop-block.block + 1)) (omega arith) in
    part_up_to (weight_before weights reached first) over most c.loop-block.total c.weigh_all.result c.saturating_add-total.result so_far weighed c.saturating_add-total.ensures
    ∙ ap (λ (n : ℕ). min n most) (all ∙ ap (weight_before weights reached) next)

pub returns : goal.returns
returns c = λ reached found.
    let weights : List ℕ = c.args.weights.now in
    let most : ℕ = 2 ^ 64 - 1 in
    let end : min (64 * c.loop-block.block) (length weights) ≡ length weights = omega (arith, c.loop-block-test.false) in
    c.loop-block.invariant reached found
    ∙ ap (λ (m : ℕ). min (weight_before weights reached m) most) end
    ∙ ap (λ (n : ℕ). min n most) (all_weights c.args.edges.now c.in_ok-components.components c.in_ok-components.ensures weights c.requires.weights reached found)
