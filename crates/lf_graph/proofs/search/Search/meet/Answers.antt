use Rattle.std.proofs.Common.{◌≡◌, ◌++◌, ◌∷◌, [], ℕ, List, length, refl, ◌∙◌, ap}
use Rattle.std.specs.Prelude.{slice_set}
use Rattle.std.proofs.lemmas.List.{get_or_read}
use Rattle.lf_graph.specs.Paths.{after}
use Rattle.lf_graph.specs.views.Search.{edges_from}
use Rattle.lf_graph.specs.declared.search.NodeState.TheVariants.{Open}
use Rattle.lf_graph.specs.declared.search.Search.{Search}
use Rattle.lf_graph.proofs.Meeting.{less, meets}
use Rattle.lf_graph.proofs.search.Search.meet.Goals as goal
use Rattle.lf_graph.proofs.search.Search.meet.Goals.{In_ok-push_edges}

module _ (c : In_ok-push_edges) where
  abbrev later : Search
  later = record { nodes = c.put.new.nodes; «open» = c.push.new.self; parts = c.push-2.new.self; due = c.push_edges.new.due; closed = c.args.self.now.closed }

  place : length c.as_slice-place.result.now ≡ length c.args.self.now.open.items
  place = ap length c.as_slice-place.ensures.value

  nodes : later.nodes.items ≡ slice_set c.args.self.now.nodes.items c.args.node (Open (length c.args.self.now.open.items))
  nodes = c.put.ensures ∙ ap (λ (k : ℕ). slice_set c.args.self.now.nodes.items c.args.node (Open k)) place

  opened : later.open.items ≡ c.args.self.now.open.items ++ c.args.node ∷ []
  opened = c.in_ok-push.ensures.items

  parts : later.parts.items ≡ c.args.self.now.parts.items ++ length c.args.self.now.open.items ∷ []
  parts = c.in_ok-push-2.ensures.items ∙ ap (λ (k : ℕ). c.args.self.now.parts.items ++ k ∷ []) place

  targets : c.as_slice.result.now ≡ after c.args.edges.now c.args.node
  targets = c.as_slice.ensures ∙ get_or_read c.args.edges.now c.args.node c.get.result.now c.requires.node c.get.ensures.read []

  due : later.due.items ≡ c.args.self.now.due.items ++ edges_from (length c.args.self.now.open.items) (after c.args.edges.now c.args.node)
  due =
      c.in_ok-push_edges.ensures
      ∙ ap (λ (k : ℕ). c.args.self.now.due.items ++ edges_from k c.as_slice.result.now) place
      ∙ ap (λ (l : List ℕ). c.args.self.now.due.items ++ edges_from (length c.args.self.now.open.items) l) targets

pub returns-clause-search : goal.returns-clause-search
returns-clause-search c =
    meets c.args.edges.now c.args.self.now (later c) c.args.node c.requires.node c.requires.search c.requires.leads c.requires.unmet (nodes c) (opened c) (parts c) (due c) refl

pub returns-clause-work : goal.returns-clause-work
returns-clause-work c =
    less c.args.edges.now c.args.self.now (later c) c.args.node c.requires.node c.requires.search c.requires.leads c.requires.unmet (nodes c) (opened c) (parts c) (due c) refl
