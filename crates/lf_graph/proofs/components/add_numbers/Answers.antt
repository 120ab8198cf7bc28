use Rattle.std.proofs.Common.{◌<◌, ℕ, List, get_or, length, sym, subst, arith, rules}
use Rattle.std.proofs.lemmas.List.{get_or-map, length-map, take_all}
use Rattle.std.proofs.lemmas.List.Elements.{Contains-get_or}
use Rattle.lf_graph.specs.Components.{number_of}
use Rattle.lf_graph.specs.views.Listing.{Adds, numbers_of}
use Rattle.lf_graph.proofs.Inserting.{adds_next, adds_one}
use Rattle.lf_graph.proofs.components.add_numbers.Goals as goal

pub offset_bounds-numbers-node : goal.offset_bounds-numbers-node
offset_bounds-numbers-node c =
    let nodes : List ℕ = c.args.nodes.now in
    let i : ℕ = c.loop-node.node-index in
    let within : get_or nodes i 0 < length c.args.numbers.now = c.requires (get_or nodes i 0) (Contains-get_or nodes i 0 c.loop-node-test.true) in
    search rules

pub bounds-numbers-node : goal.bounds-numbers-node
bounds-numbers-node c =
    let nodes : List ℕ = c.args.nodes.now in
    let i : ℕ = c.loop-node.node-index in
    c.requires (get_or nodes i 0) (Contains-get_or nodes i 0 c.loop-node-test.true)

pub loop-node-preserved : goal.loop-node-preserved
loop-node-preserved c =
    let numbers : List ℕ = c.args.numbers.now in
    let nodes : List ℕ = c.args.nodes.now in
    let i : ℕ = c.loop-node.node-index in
    let n = length-map nodes (number_of numbers) in
    let is = get_or-map (number_of numbers) nodes i 0 0 c.loop-node-test.true in
    adds_next (numbers_of numbers nodes) i (number_of numbers (get_or nodes i 0)) c.args.found.now.keys c.loop-node.found.keys c.insert.new.self.keys (omega (arith, n, c.loop-node-test.true)) (sym is) c.loop-node.invariant (adds_one c.loop-node.found.keys c.insert.new.self.keys (number_of numbers (get_or nodes i 0)) c.in_ok-insert.ensures.keys)

pub returns : goal.returns
returns c =
    let all : List ℕ = numbers_of c.args.numbers.now c.args.nodes.now in
    let P : List ℕ → Type 0 = λ l. Adds l c.args.found.now.keys c.loop-node.found.keys in
    let n = length-map c.args.nodes.now (number_of c.args.numbers.now) in
    subst P (take_all c.loop-node.node-index all (omega (arith, n, c.loop-node-test.false))) c.loop-node.invariant
