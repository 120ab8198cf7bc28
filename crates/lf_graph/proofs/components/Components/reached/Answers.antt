use Rattle.std.proofs.Common.{◌≡◌, ◌↔◌, ℕ, List, [], BTreeSet, get_or, length, map, sym, ◌∙◌, ap, subst, arith, rules}
use Rattle.std.specs.List.{Contains}
use Rattle.std.proofs.lemmas.List.{get_or-map, length-map, nil_from_length}
use Rattle.std.proofs.lemmas.Result.{IfOk-weaker}
use Rattle.lf_graph.specs.Components.{AreComponents, Components}
use Rattle.lf_graph.specs.views.Listing.{Adds, AddsBelow}
use Rattle.lf_graph.specs.Paths.{IsReached}
use Rattle.lf_graph.proofs.Reaching.{IsFoundOrDue, all_found, due_within, goes_on, lower, starts, starts_within, was_due}
use Rattle.lf_graph.proofs.components.Components.reached.Goals as goal

pub loop-number-init : goal.loop-number-init
loop-number-init c =
    let parts : Components = c.args.self.now in
    let start : List ℕ = c.args.start.now in
    let due : List ℕ = c.in_ok-due.due.keys in (
      starts_within c.requires.graph.0 parts c.requires.graph.1 start due c.requires.start c.in_ok-due.ensures,
      λ edges are. let P : List ℕ → Type 0 = λ l. IsFoundOrDue edges parts.numbers start l due in subst P (sym c.new-found.ensures.items) (starts edges parts are start due c.requires.start c.in_ok-due.ensures),
    )

pub index-requires : goal.index-requires
index-requires c =
    let same = ap (λ (s : Components). length s.nexts) c.self.view_is in
    let size = length-map c.self.inside.nexts.items (λ (t : BTreeSet ℕ). t.keys) in
    let each = c.requires.graph.1.count in
    let h = c.loop-number.invariant.0 c.in-Some.number (was_due c.loop-number.due.keys c.pop_last.new.self.keys c.in-Some.number c.in-Some.ensures.removal) in
    omega (arith, h, same, size, each, c.self.inside.nexts.ok.0)

pub loop-number-smaller : goal.loop-number-smaller
loop-number-smaller c =
    lower c.loop-number.due.keys c.pop_last.new.self.keys c.add_below.new.due.keys c.index.result.now.keys c.in-Some.number c.in-Some.ensures.removal c.in-Some.ensures.all_below c.in_ok-add_below.ensures

pub returns-clause-members : goal.returns-clause-members
returns-clause-members c =
    let start : List ℕ = c.args.start.now in
    let due : List ℕ = c.loop-number.due.keys in
    let found : List ℕ = c.loop-number.found.items in
    let none : length due ≡ 0 = search rules in
    IfOk-weaker c.in_order.result (λ sorted. (v : ℕ) → Contains sorted v ↔ Contains found v)
    (λ sorted. (edges : List (List ℕ)) → AreComponents edges c.args.self.now → (v : ℕ) → Contains sorted v ↔ IsReached edges start v)
    (λ sorted same edges are v.
    let all = all_found edges c.args.self.now.numbers start found due (nil_from_length due none) (c.loop-number.invariant.1 edges are) v in
    (λ h. all.0 ((same v).0 h), λ h. (same v).1 (all.1 h)))
    c.in_order.ensures.same

pub loop-number-preserved : goal.loop-number-preserved
loop-number-preserved c =
    let parts : Components = c.args.self.now in
    let start : List ℕ = c.args.start.now in
    let k : ℕ = c.in-Some.number in
    let due : List ℕ = c.loop-number.due.keys in
    let rest : List ℕ = c.pop_last.new.self.keys in
    let later : List ℕ = c.add_below.new.due.keys in
    let found : List ℕ = c.loop-number.found.items in
    let more : List ℕ = c.add_all.new.found.items in
    let nexts : List (BTreeSet ℕ) = c.self.inside.nexts.items in
    let set : BTreeSet ℕ = c.index.result.now in
    let top = c.loop-number.invariant.0 k (was_due due rest k c.in-Some.ensures.removal) in
    let lists : map (λ (t : BTreeSet ℕ). t.keys) nexts ≡ parts.nexts = ap (λ (s : Components). s.nexts) c.self.view_is in
    let members : c.self.inside.members ≡ parts.members = ap (λ (s : Components). s.members) c.self.view_is in
    let count = ap length lists in
    let sets = length-map nexts (λ (t : BTreeSet ℕ). t.keys) in
    let each = c.requires.graph.1.count in
    let keys : get_or parts.nexts k [] ≡ set.keys =
    ap (λ (l : List (List ℕ)). get_or l k []) (sym lists) ∙ get_or-map (λ (t : BTreeSet ℕ). t.keys) nexts k set [] (omega (arith, top, count, sets, each)) ∙ ap (λ (t : BTreeSet ℕ). t.keys) (sym c.index.ensures) in
    let nodes : c.at.result.now ≡ get_or parts.members k [] = c.at.ensures ∙ ap (λ (l : List (List ℕ)). get_or l k []) members in
    let P : List ℕ → Type 0 = λ l. Adds l found more in
    let Q : List ℕ → Type 0 = λ l. AddsBelow l k rest later in (
      due_within due rest later set.keys k c.in-Some.ensures.removal c.in-Some.ensures.all_below c.in_ok-add_below.ensures (length parts.members) c.loop-number.invariant.0,
      λ edges are. goes_on edges parts are start found more due rest later k c.in-Some.ensures.removal (subst P nodes c.in_ok-add_all.ensures) (subst Q (sym keys) c.in_ok-add_below.ensures) (c.loop-number.invariant.1 edges are),
    )
