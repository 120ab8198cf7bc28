-- What expressions read, and what they read in common.
use Rattle.std.proofs.Common.{◌≡◌, ℕ, ◌<◌, List, [], length, get_or, inl, inr, ◌∙◌}
use Rattle.std.specs.List.{Contains}
use Rattle.std.proofs.lemmas.List.{get_or_default}
use Rattle.lf_ast.specs.Labels.{Bytes}
use Rattle.lf_ast.specs.Tree.{Tree}
use Rattle.lf_ast.specs.Rules.{RuleTree}
use Rattle.lf_deps.specs.Reading.{AreApart, Reads, selectors}
use Rattle.lf_deps.specs.Reading.Reads.{selected, through}
use Rattle.lf_deps.specs.views.Search.{AreRead, ReadsBy}

-- what an expression reads is what its selectors read

pub reads_to : (rules : List RuleTree) (e : Tree) (n : Bytes) → ReadsBy rules (selectors e) n → Reads rules e n
reads_to rules e n (inl s) = selected s
reads_to rules e n (inr q) = through q.0 q.1 q.2 q.3 q.4

pub reads_from : (rules : List RuleTree) (e : Tree) (n : Bytes) → Reads rules e n → ReadsBy rules (selectors e) n
reads_from rules e n (selected s) = inl s
reads_from rules e n (through r c a s rest) = inr (r, c, a, s, rest)

-- the names that two expressions read
pub common_read : (rules : List RuleTree) (e f : Tree) (l r : List Bytes) → AreRead rules (selectors e) l → AreRead rules (selectors f) r → ((n : Bytes) → Contains l n → Contains r n → ⊥) → AreApart rules e f
common_read rules e f l r left right none name a b = none name ((left name).1 (reads_from rules e name a)) ((right name).1 (reads_from rules f name b))

pub none_read : (rules : List RuleTree) (e f : Tree) (l r : List Bytes) → AreRead rules (selectors e) l → AreRead rules (selectors f) r → AreApart rules e f → (n : Bytes) → Contains l n → Contains r n → ⊥
none_read rules e f l r left right apart n a b = apart n (reads_to rules e n ((left n).0 a)) (reads_to rules f n ((right n).0 b))

-- where a text stands
pub text_place : (texts : List Bytes) (n : Bytes) → Contains texts n → (k : ℕ) × (k < length texts) × (get_or texts k [] ≡ n)
text_place texts n c = (c.0, c.1, get_or_default texts c.0 [] n c.1 ∙ c.2)
