-- Parts that are to be built, and where they stand.
use Rattle.std.proofs.Common.{◌≡◌, ◌≤◌, ◌+◌, ℕ, zero, suc, Bool, cond, List, [], ◌∷◌, drop, map, Option, Some, None, refl, sym, ◌∙◌, ap, subst, arith}
use Rattle.std.specs.Prelude.{slice_get}
use Rattle.std.specs.List.{sum_by}
use Rattle.std.proofs.lemmas.List.Sums.{sum_by-cons}
use Rattle.lf_ast.specs.Functions.{Signature, aggregation, called_by}
use Rattle.lf_ast.specs.Tree.{Tree, Trees, Number, Str, Selector, Subquery, Paren, Unary, Binary, Call, Aggregate, Nil, Next, list, parts_of}
use Rattle.lf_ast.specs.declared.expr.Agg.{Agg}
use Rattle.lf_ast.specs.declared.expr.Agg.TheVariants.{Sum, Min, Max, Avg, Group, Stddev, Stdvar, Count, Quantile, CountValues, Topk, Bottomk}
use Rattle.lf_ast.specs.declared.expr.Matching.{Matching}
use Rattle.lf_ast.specs.declared.expr.Op.{Op}
use Rattle.lf_ast.specs.declared.functions.LabelEffect.TheVariants.{HistogramQuantile}
use Rattle.lf_semantics.specs.ClassRows.{Sets}
use Rattle.lf_semantics.specs.Environments.{Covers}
use Rattle.lf_semantics.specs.Listing.{Listing}
use Rattle.lf_semantics.specs.Parts.{argument_at}
use Rattle.lf_semantics.specs.RowTable.{row_of}
use Rattle.lf_trials.specs.Given.{Given}
use Rattle.lf_trials.specs.Matched.{has_signature, side}
use Rattle.lf_trials.specs.Sides.{left_gives, right_gives}
use Rattle.lf_candidates.specs.views.ClassTexts.{KnowsBuckets, Stands}
use Rattle.lf_built.specs.declared.prepared.Prepared.{Prepared}
use Rattle.lf_built.specs.declared.sides.Sides.{Sides}
use Rattle.lf_built.specs.declared.spots.Spot.{Spot}
use Rattle.lf_built.specs.declared.work.WantedParts.{WantedParts}
use Rattle.lf_built.specs.declared.work.WantedParts.TheVariants as P
use Rattle.lf_built.specs.views.Indexed.{env_of, trees_of, universe_of}
use Rattle.lf_built.specs.views.Places.{size}
use Rattle.lf_built.specs.views.Sides.{AreSides}
use Rattle.lf_built.specs.views.Spots.{IsPartSpot, IsSpot, tree_at}
use Rattle.lf_built.specs.views.Tasks.{Visit, Wanted, match_wanted, one_wanted, want}
use Rattle.lf_built.specs.views.Works.{AreParts, AreTasks, tasks_of, weight}
use Rattle.lf_built.proofs.KnownNames.{buckets_known}
use Rattle.lf_built.proofs.Places.{size_is, size_of_part}

pub some_at : {X : Type 0} (xs : List X) (k : ℕ) (y : X) (ys : List X) → drop k xs ≡ y ∷ ys → slice_get xs k ≡ Some y
some_at xs zero y ys e = ap (λ l. slice_get l 0) e
some_at [] (suc k) y ys e = absurd (cc)
some_at (x ∷ xs) (suc k) y ys e = some_at xs k y ys e

pub none_at : {X : Type 0} (xs : List X) (k : ℕ) → drop k xs ≡ [] → slice_get xs k ≡ None
none_at xs zero e = ap (λ l. slice_get l 0) e
none_at [] (suc k) e = refl
none_at (x ∷ xs) (suc k) e = none_at xs k e

pub argument_is : (args : Trees) (k : ℕ) → slice_get (list args) k ≡ argument_at args k
argument_is Nil k = refl
argument_is (Next x xs) zero = refl
argument_is (Next x xs) (suc k) = argument_is xs k

aggregates : (op : Agg) → (aggregation op).labels ≡ HistogramQuantile → ⊥
aggregates Sum e = cc
aggregates Min e = cc
aggregates Max e = cc
aggregates Avg e = cc
aggregates Group e = cc
aggregates Stddev e = cc
aggregates Stdvar e = cc
aggregates Count e = cc
aggregates Quantile e = cc
aggregates CountValues e = cc
aggregates Topk e = cc
aggregates Bottomk e = cc

pub buckets_of : (u : Listing) (e : Tree) (s : Signature) → called_by e ≡ Some s → s.labels ≡ HistogramQuantile → Covers u e → KnowsBuckets u
buckets_of u (Call name args span) s is effect known = buckets_known u name args span s is effect known
buckets_of u (Aggregate op grouping args span) s is effect known =
    absurd (aggregates op (let same : aggregation op ≡ s = cc in ap (λ (x : Signature). x.labels) same ∙ effect))
buckets_of u (Number text span) s is effect known = absurd (cc)
buckets_of u (Str text span) s is effect known = absurd (cc)
buckets_of u (Selector name matchers sight span) s is effect known = absurd (cc)
buckets_of u (Subquery of sight span) s is effect known = absurd (cc)
buckets_of u (Paren of span) s is effect known = absurd (cc)
buckets_of u (Unary minus of span) s is effect known = absurd (cc)
buckets_of u (Binary op m left right span) s is effect known = absurd (cc)

module _ (p : Prepared) (e : Tree) where
  one_in : (o : Option Tree) (spot : Spot) (texts : List (Option ℕ)) (D : Given) → IsPartSpot (trees_of p) o (Some spot) → Stands (universe_of p) texts D → ((x : Tree) → o ≡ Some x → size x + 1 ≤ size e) → AreParts p e (one_wanted D o) (Some (P.One spot texts))
  one_in None spot texts D is stands smaller = absurd is
  one_in (Some x) spot texts D is stands smaller =
      let a : size (tree_at spot) ≡ size x = ap size is.1 in
      let b : size x + 1 ≤ size e = smaller x refl in
      ((is.0, is.1, stands, tt), omega (arith, a, b, sum_by-cons weight (Rattle.lf_built.specs.declared.work.Pending.TheVariants.Visit spot texts) []))

  pub one_part : (k : ℕ) (spot : Spot) (texts : List (Option ℕ)) (D : Given) → IsPartSpot (trees_of p) (slice_get (parts_of e) k) (Some spot) → Stands (universe_of p) texts D → AreParts p e (one_wanted D (slice_get (parts_of e) k)) (Some (P.One spot texts))
  one_part k spot texts D is stands = one_in (slice_get (parts_of e) k) spot texts D is stands (λ x there. let a = size_of_part (parts_of e) k x there in let b = size_is e in omega (arith, a, b))

  module _ (op : Op) (m : Matching) (left right : Spot) (D : Given) where
    abbrev l : Sets
    l = row_of (universe_of p) (env_of p) (tree_at left)

    abbrev r : Sets
    r = row_of (universe_of p) (env_of p) (tree_at right)

    abbrev pub AreOf : Option Sides → Type 0
    AreOf sides = AreSides (universe_of p) (has_signature (universe_of p) op m l r D) (side (universe_of p) (left_gives op m) op m l r D) (side (universe_of p) (right_gives op m) op m l r D) sides

    -- what is wanted of both sides
    abbrev wants : Option (List Wanted)
    wants = Some (want (tree_at left) (side (universe_of p) (left_gives op m) op m l r D) ∷ want (tree_at right) (side (universe_of p) (right_gives op m) op m l r D) ∷ [])

    pub both_sides : (sides : Sides) → IsSpot (trees_of p) left → IsSpot (trees_of p) right → parts_of e ≡ tree_at left ∷ tree_at right ∷ [] → AreOf (Some sides)
        → AreParts p e (match_wanted (universe_of p) (env_of p) op m (tree_at left) (tree_at right) D) (Some (P.Both left sides.left right sides.right))
    both_sides sides is_left is_right parts are =
        let a : sum_by size (parts_of e) ≡ size (tree_at left) + (size (tree_at right) + 0) =
        ap (sum_by size) parts ∙ sum_by-cons size (tree_at left) (tree_at right ∷ []) ∙ ap (λ n. size (tree_at left) + n) (sum_by-cons size (tree_at right) []) in
        let b = size_is e in
        let first = Rattle.lf_built.specs.declared.work.Pending.TheVariants.Visit left sides.left in
        let second = Rattle.lf_built.specs.declared.work.Pending.TheVariants.Visit right sides.right in
        let d = sum_by-cons weight first (second ∷ []) in
        let f = sum_by-cons weight second [] in
        subst (λ (h : Bool). AreParts p e (cond h wants None) (Some (P.Both left sides.left right sides.right))) (sym are.0) ((is_left, refl, are.1, (is_right, refl, are.2, tt)), omega (arith, a, b, d, f))

    pub no_sides : AreOf None → AreParts p e (match_wanted (universe_of p) (env_of p) op m (tree_at left) (tree_at right) D) None
    no_sides are = subst (λ (h : Bool). AreParts p e (cond h wants None) None) (sym are) tt

  -- what is wanted where parts are
  pub some_parts : (wanted : Option (List Wanted)) (parts : WantedParts) → AreParts p e wanted (Some parts) → (ws : List Wanted) × (wanted ≡ Some ws) × AreTasks p (tasks_of parts) (map Visit ws) × (sum_by weight (tasks_of parts) + 1 ≤ size e)
  some_parts None parts are = absurd are
  some_parts (Some ws) parts are = (ws, refl, are.0, are.1)
