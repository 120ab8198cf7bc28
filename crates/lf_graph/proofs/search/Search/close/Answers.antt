use Rattle.std.proofs.Common.{◌≡◌, ℕ, List, length, take, drop, refl, ◌∙◌, ap, subst, arith}
use Rattle.std.specs.List.{Contains}
use Rattle.lf_graph.specs.views.Search.{IsClosing, last_part}
use Rattle.lf_graph.specs.declared.search.Search.{Search}
use Rattle.lf_graph.proofs.Closing.{begin_within, closes_part, less, open_within}
use Rattle.lf_graph.proofs.search.Search.close.Goals as goal
use Rattle.lf_graph.proofs.search.Search.close.Goals.{After-truncate}

pub from_place-requires : goal.from_place-requires
from_place-requires c =
    let size = ap length c.as_slice.ensures.value in
    let at = c.in-Some.ensures.some.0 in
    let parts = c.requires.parts in
    let within = begin_within c.args.edges.now c.args.self.now c.requires.search c.requires.parts in
    omega (arith, size, at, within)

pub close_all-requires : goal.close_all-requires
close_all-requires c u there =
    let P : List ℕ → Type 0 = λ l. Contains l u in
    let Q : List ℕ → Type 0 = λ l. Contains (drop c.in-Some.begin l) u in
    open_within c.args.edges.now c.args.self.now c.requires.search c.in-Some.begin u (subst Q c.as_slice.ensures.value (subst P c.from_place.ensures there))

module _ (c : After-truncate) where
  abbrev later : Search
  later = record { nodes = c.close_all.new.nodes; «open» = c.truncate.new.self; parts = c.take_last.new.places; due = c.args.self.now.due; closed = c.in_ok-self.field-0 }

  begin : c.in-Some.begin ≡ last_part c.args.self.now
  begin = c.in-Some.ensures.some.0

  closing : IsClosing c.args.self.now.closed (drop (last_part c.args.self.now) c.args.self.now.open.items) c.args.self.now.nodes.items later.nodes.items
  closing =
      let P : List ℕ → Type 0 = λ l. IsClosing c.args.self.now.closed l c.args.self.now.nodes.items later.nodes.items in
      subst P (c.from_place.ensures ∙ ap (drop c.in-Some.begin) c.as_slice.ensures.value ∙ ap (λ (k : ℕ). drop k c.args.self.now.open.items) begin) c.close_all.ensures

  opened : later.open.items ≡ take (last_part c.args.self.now) c.args.self.now.open.items
  opened = c.truncate.ensures.items ∙ ap (λ (k : ℕ). take k c.args.self.now.open.items) begin

pub returns-in-Some-clause-search : goal.returns-in-Some-clause-search
returns-in-Some-clause-search c =
    closes_part c.args.edges.now c.args.self.now (later c) c.requires.search c.requires.parts c.requires.none (closing c) (opened c) c.in-Some.ensures.some.1 refl c.in_ok-self.ensures

pub returns-in-Some-clause-less : goal.returns-in-Some-clause-less
returns-in-Some-clause-less c =
    less c.args.edges.now c.args.self.now (later c) c.requires.search c.requires.parts c.requires.none (closing c) (opened c) c.in-Some.ensures.some.1 refl c.in_ok-self.ensures
