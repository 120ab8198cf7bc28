use Rattle.std.proofs.Common.{◌<◌, ℕ, List, BTreeSet, length, map, sym, subst, arith}
use Rattle.lf_graph.specs.Components.{AreNumbers, Components, number_of}
use Rattle.lf_graph.specs.views.Listing.{AreMembers, AreNexts}
use Rattle.lf_graph.proofs.Listed.{all_listed}
use Rattle.lf_graph.proofs.components.Components.of.Goals as goal

pub list_members-requires : goal.list_members-requires
list_members-requires c =
    let edges : List (List ℕ) = c.args.edges.now in
    let count : ℕ = c.in_ok-numbers.numbers.count in
    let P : List ℕ → Type 0 = λ l. (u : ℕ) → u < length l → number_of l u < count in
    let numbered : AreNumbers edges c.in_ok-numbers.numbers.of.items count = c.in_ok-numbers.ensures in
    subst P (sym c.as_slice.ensures.value) (λ u h. numbered.below u (omega (arith, h, numbered.nodes)))

pub list_nexts-requires : goal.list_nexts-requires
list_nexts-requires c =
    let P : List ℕ → Type 0 = λ l. AreNumbers c.args.edges.now l c.in_ok-numbers.numbers.count in record {
      graph = c.requires;
      numbers = subst P (sym c.as_slice-2.ensures.value) c.in_ok-numbers.ensures;
    }

pub returns : goal.returns
returns c =
    let edges : List (List ℕ) = c.args.edges.now in
    let count : ℕ = c.in_ok-numbers.numbers.count in
    let numbers : List ℕ = c.in_ok-numbers.numbers.of.items in
    let members : List (List ℕ) = c.in_ok-members.members in
    let nexts : List (List ℕ) = map (λ (t : BTreeSet ℕ). t.keys) c.in_ok-nexts.nexts.items in
    let parts : Components = record { numbers = numbers; members = members; nexts = nexts } in
    let M : List ℕ → Type 0 = λ l. AreMembers l (length l) count members in
    let N : List ℕ → Type 0 = λ l. AreNexts edges l (length edges) count nexts in
    all_listed edges parts count c.requires c.in_ok-numbers.ensures (subst M c.as_slice.ensures.value c.in_ok-members.ensures) (subst N c.as_slice-2.ensures.value c.in_ok-nexts.ensures)
