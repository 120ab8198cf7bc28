use Rattle.std.proofs.Common.{◌≡◌, ◌↔◌, Bool, true, false, List, Option, refl, ◌∙◌, subst}
use Rattle.std.specs.List.{Contains}
use Rattle.lf_ast.specs.Labels.{Bytes}
use Rattle.lf_ast.specs.Tree.{Tree, tree}
use Rattle.lf_ast.specs.Rules.{RuleTree}
use Rattle.lf_deps.specs.Reading.{AreApart, selectors}
use Rattle.lf_deps.specs.views.Search.{AreRead}
use Rattle.lf_deps.proofs.Reached.{common_read, none_read}
use Rattle.lf_deps.proofs.reading.apart_of.Goals as goal

told : (rules : List RuleTree) (e f : Tree) (l r : List Bytes) → AreRead rules (selectors e) l → AreRead rules (selectors f) r → (b : Bool)
    → (b ≡ false → (n : Bytes) × Contains l n × Contains r n) → (b ≡ true → (n : Bytes) → Contains l n → Contains r n → ⊥) → (b ≡ true) ↔ AreApart rules e f
told rules e f l r left right b common none = (λ t. common_read rules e f l r left right (none t), λ a. by b (λ g. let h = common g in none_read rules e f l r left right a h.0 h.1 h.2))
  where
    by : (b : Bool) → (b ≡ false → ⊥) → b ≡ true
    by true h = refl
    by false h = absurd (h refl)

pub returns : goal.returns
returns c rules is =
    let l : List Bytes = c.in_ok-read_left.read_left in
    let r : List Bytes = c.in_ok-read_right.read_right in
    let A : List (Option Bytes) → Type 0 = λ f. AreRead rules f l in
    let B : List (Option Bytes) → Type 0 = λ f. AreRead rules f r in
    let left = subst A (c.as_slice.ensures ∙ c.in_ok-of_left.ensures) (c.in_ok-read_left.ensures rules is) in
    let right = subst B (c.as_slice-2.ensures ∙ c.in_ok-of_right.ensures) (c.in_ok-read_right.ensures rules is) in
    told rules (tree c.args.left.now) (tree c.args.right.now) l r left right c.have_none_common.result c.have_none_common.ensures.common c.have_none_common.ensures.none
