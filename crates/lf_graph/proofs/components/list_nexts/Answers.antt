use Rattle.std.proofs.Common.{◌≡◌, ◌<◌, ℕ, List, [], BTreeSet, get_or, set, map, length, sym, ◌∙◌, ap, subst, arith}
use Rattle.std.specs.List.{Contains}
use Rattle.std.proofs.lemmas.List.{get_or-map, get_or_read, length-map, map-set}
use Rattle.lf_graph.specs.Components.{number_of}
use Rattle.lf_graph.specs.views.Listing.{Adds, AreNexts, numbers_of}
use Rattle.lf_graph.specs.Paths.{after}
use Rattle.lf_graph.proofs.Listed.{no_nexts, one_more_next}
use Rattle.lf_graph.proofs.components.list_nexts.Goals as goal

pub loop-node-init : goal.loop-node-init
loop-node-init c =
    let P : List (List ℕ) → Type 0 = λ l. AreNexts c.args.edges.now c.args.numbers.now 0 c.args.count l in
    subst P (sym c.in_ok-nexts.ensures) (no_nexts c.args.edges.now c.args.numbers.now c.args.count)

pub add_numbers-requires : goal.add_numbers-requires
add_numbers-requires c u there =
    let edges : List (List ℕ) = c.args.edges.now in
    let n : ℕ = c.loop-node.node in
    let h : n < length edges = omega (arith, c.loop-node-test.true, c.len-node-end.ensures) in
    let is : c.as_slice.result.now ≡ after edges n = c.as_slice.ensures ∙ get_or_read edges n c.get.result.now h c.get.ensures.read [] in
    let P : List ℕ → Type 0 = λ l. Contains l u in
    let b = c.requires.graph n u (subst P is there) in
    omega (arith, b, c.requires.numbers.nodes)

pub loop-node-preserved : goal.loop-node-preserved
loop-node-preserved c =
    let edges : List (List ℕ) = c.args.edges.now in
    let numbers : List ℕ = c.args.numbers.now in
    let n : ℕ = c.loop-node.node in
    let number : ℕ = number_of numbers n in
    let keys : BTreeSet ℕ → List ℕ = λ t. t.keys in
    let sets : List (BTreeSet ℕ) = c.loop-node.nexts.items in
    let found : BTreeSet ℕ = c.index_mut.result.now in
    let added : BTreeSet ℕ = c.add_numbers.new.found in
    let h : n < length edges = omega (arith, c.loop-node-test.true, c.len-node-end.ensures) in
    let less : number < c.args.count = c.requires.numbers.below n h in
    let size = length-map sets keys in
    let within : number < length sets = omega (arith, less, size, c.loop-node.invariant.size) in
    let is : c.as_slice.result.now ≡ after edges n = c.as_slice.ensures ∙ get_or_read edges n c.get.result.now h c.get.ensures.read [] in
    let had : found.keys ≡ get_or (map keys sets) number [] = ap keys c.index_mut.ensures.value ∙ sym (get_or-map keys sets number found [] within) in
    let P : List ℕ → Type 0 = λ l. Adds (numbers_of numbers l) found.keys added.keys in
    let Q : List ℕ → Type 0 = λ l. Adds (numbers_of numbers (after edges n)) l added.keys in
    one_more_next edges numbers n c.args.count (map keys sets) (map keys (set sets number added)) added.keys less c.loop-node.invariant (subst Q had (subst P is c.in_ok-add_numbers.ensures)) (map-set keys sets number added)

pub returns : goal.returns
returns c =
    let P : ℕ → Type 0 = λ n. AreNexts c.args.edges.now c.args.numbers.now n c.args.count (map (λ (t : BTreeSet ℕ). t.keys) c.loop-node.nexts.items) in
    let all : c.loop-node.node ≡ length c.args.edges.now = omega (arith, c.loop-node-test.false, c.len-node-end.ensures, c.loop-node.auto.node-end) in
    subst P all c.loop-node.invariant
