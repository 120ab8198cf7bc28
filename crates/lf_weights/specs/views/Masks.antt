-- Masks: for each component a word, of which a bit stands for each node of a block.
use Rattle.std.specs.Prelude.{◌≡◌, ◌↔◌, ◌<◌, ◌*◌, ℕ, List, fold, bit_or, length, slice_index_or}
use Rattle.std.specs.Int.{bit_at}
use Rattle.std.specs.List.{range_with_len, sum_by}
use Rattle.lf_graph.specs.Paths.{Leads}

-- the mask of a component
abbrev pub mask_at : List ℕ → ℕ → ℕ
mask_at masks k = slice_index_or masks k 0

-- the bits of each mask stand for what meets the condition
pub record AreMasks (count : ℕ) (has : ℕ → ℕ → Type 0) (masks : List ℕ) : Type 0 where
  pub size : length masks ≡ count
  pub bits : (k j : ℕ) → k < count → (bit_at (mask_at masks k) j ≡ 1) ↔ has k j

-- a node of the block, by its place in it, is of the component
abbrev pub IsOwn : List ℕ → ℕ → ℕ → Type 0
IsOwn numbers k j = (j < length numbers) × (slice_index_or numbers j 0 ≡ k)

-- edges lead from the component to that of a node of the block
abbrev pub LeadsInto : List (List ℕ) → List ℕ → ℕ → ℕ → Type 0
LeadsInto nexts numbers k j = (j < length numbers) × Leads nexts k (slice_index_or numbers j 0)

-- the mask of a component, with the bits of others
abbrev pub joined : List ℕ → ℕ → List ℕ → ℕ
joined masks k others = fold (λ mask l. bit_or mask (mask_at masks l)) (mask_at masks k) others

-- the weights of the nodes whose bits are set
abbrev pub weight_in : ℕ → List ℕ → ℕ
weight_in mask weights = sum_by (λ j. bit_at mask j * slice_index_or weights j 0) (range_with_len 0 (length weights))
