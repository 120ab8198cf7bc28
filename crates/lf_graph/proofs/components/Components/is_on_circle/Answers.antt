use Rattle.std.proofs.Common.{◌≡◌, ◌<◌, ℕ, List, BTreeSet, [], get_or, length, map, sym, ◌∙◌, ap, subst, arith}
use Rattle.std.specs.List.{Contains}
use Rattle.std.proofs.lemmas.List.{get_or-map, get_or_read, length-map}
use Rattle.lf_graph.specs.Components.{Components, number_of}
use Rattle.lf_graph.proofs.Held.{held, holds}
use Rattle.lf_graph.proofs.Leading.{circle_from, circle_to}
use Rattle.lf_graph.proofs.components.Components.is_on_circle.Goals as goal

pub returns : goal.returns
returns c edges are =
    let parts : Components = c.args.self.now in
    let numbers : List ℕ = c.self.inside.numbers.items in
    let nexts : List (BTreeSet ℕ) = c.self.inside.nexts.items in
    let number : ℕ = c.index.result.now in
    let set : BTreeSet ℕ = c.index-2.result.now in
    let node : c.args.node < length edges = omega (arith, c.requires.node, are.numbered.nodes) in
    let same : numbers ≡ parts.numbers = ap (λ (s : Components). s.numbers) c.self.view_is in
    let size = ap length same in
    let is : number ≡ number_of parts.numbers c.args.node =
    get_or_read numbers c.args.node number (omega (arith, c.requires.node, size)) c.index.ensures 0 ∙ ap (λ (l : List ℕ). get_or l c.args.node 0) same in
    let lists : map (λ (t : BTreeSet ℕ). t.keys) nexts ≡ parts.nexts = ap (λ (s : Components). s.nexts) c.self.view_is in
    let below = are.numbered.below c.args.node node in
    let count = ap length lists in
    let sets = length-map nexts (λ (t : BTreeSet ℕ). t.keys) in
    let within : number < length nexts = omega (arith, is, below, count, sets, are.count) in
    let keys : get_or parts.nexts number [] ≡ set.keys =
    ap (λ (l : List (List ℕ)). get_or l number []) (sym lists) ∙ get_or-map (λ (t : BTreeSet ℕ). t.keys) nexts number set [] within ∙ ap (λ (t : BTreeSet ℕ). t.keys) (sym c.index-2.ensures) in
    let P : List ℕ → Type 0 = λ l. Contains l number in
    let Q : ℕ → Type 0 = λ k. Contains (get_or parts.nexts k []) k in (
      λ t. circle_to edges parts are c.args.node node (subst Q is (subst P (sym keys) (held number set.keys (sym c.contains.ensures ∙ t)))),
      λ circle. c.contains.ensures ∙ holds number set.keys (subst P keys (subst Q (sym is) (circle_from edges parts are c.args.node node circle))),
    )
