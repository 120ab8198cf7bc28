use Rattle.std.proofs.Common.{◌≡◌, ◌<◌, ℕ, List, [], length, sym, ◌∙◌, ap, subst}
use Rattle.lf_graph.specs.views.Listing.{Adds, numbers_of}
use Rattle.lf_graph.proofs.components.Components.components_of.Goals as goal

pub add_numbers-requires : goal.add_numbers-requires
add_numbers-requires c u there =
    let P : List ℕ → Type 0 = λ l. u < length l in
    let same : c.as_slice.result.now ≡ c.args.self.now.numbers = c.as_slice.ensures.value ∙ ap (λ s. s.numbers) c.self.view_is in
    subst P (sym same) (c.requires u there)

pub returns : goal.returns
returns c =
    let nodes : List ℕ = c.args.nodes.now in
    let found : List ℕ = c.add_numbers.new.found.keys in
    let P : List ℕ → Type 0 = λ l. Adds (numbers_of l nodes) [] found in
    let Q : List ℕ → Type 0 = λ l. Adds (numbers_of c.as_slice.result.now nodes) l found in
    let same : c.as_slice.result.now ≡ c.args.self.now.numbers = c.as_slice.ensures.value ∙ ap (λ s. s.numbers) c.self.view_is in
    subst P same (subst Q c.new-found.ensures.empty c.in_ok-add_numbers.ensures)
