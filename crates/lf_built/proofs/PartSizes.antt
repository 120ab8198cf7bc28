-- How many parts there are in an expression, by those in its parts.
use Rattle.std.proofs.Common.{◌≡◌, ◌+◌, ℕ, List, [], ◌∷◌, length, map, sum, refl, ap, arith}
use Rattle.std.proofs.lemmas.List.{length-append}
use Rattle.std.proofs.lemmas.List.Sums.{sum_by-cons}
use Rattle.lf_ast.specs.Tree.{Tree, parts_of, nodes}
use Rattle.lf_ast.proofs.Listing.{nodes_all, nodes_parts}
use Rattle.lf_built.specs.views.Places.{size}

sizes_all : (xs : List Tree) → length (nodes_all xs) ≡ sum (map size xs)
sizes_all [] = refl
sizes_all (x ∷ xs) = let more = sum_by-cons (λ (n : ℕ). n) (size x) (map size xs) in let both = length-append (nodes x) (nodes_all xs) in let others = sizes_all xs in omega (arith, more, both, others)

pub size_is : (e : Tree) → sum (map size (parts_of e)) + 1 ≡ size e
size_is e = let all = ap length (nodes_parts e) in let parts = sizes_all (parts_of e) in omega (arith, all, parts)
