use Rattle.std.proofs.Common.{◌<◌, ℕ, List, BTreeSet, [], get_or, length, sym, ◌∙◌, ap, arith}
use Rattle.std.proofs.lemmas.List.{get_or-map, length-map}
use Rattle.lf_graph.proofs.components.Components.nexts.Goals as goal

pub index-requires : goal.index-requires
index-requires c =
    let sets = c.self.inside.nexts.items in
    let size = ap (λ s. length s.nexts) c.self.view_is in
    let same = length-map sets (λ (t : BTreeSet ℕ). t.keys) in
    omega (arith, c.requires, size, same)

pub returns : goal.returns
returns c =
    let sets : List (BTreeSet ℕ) = c.self.inside.nexts.items in
    let number : ℕ = c.args.number in
    let size = ap (λ s. length s.nexts) c.self.view_is in
    let same = length-map sets (λ (t : BTreeSet ℕ). t.keys) in
    let within : number < length sets = omega (arith, c.requires, size, same) in
    ap (λ (t : BTreeSet ℕ). t.keys) c.index.ensures ∙ sym (get_or-map (λ (t : BTreeSet ℕ). t.keys) sets number c.index.result.now [] within) ∙ ap (λ s. get_or s.nexts number []) c.self.view_is
