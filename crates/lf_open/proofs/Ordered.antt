-- Open constructs of one rule that are in the order of their keys, each key once, are in their own order.
use Rattle.std.proofs.Common.{◌≡◌, ℕ, List, [], ◌∷◌, map, refl, sym, ap, ◌∙◌, subst}
use Rattle.std.proofs.lemmas.List.{map-id}
use Rattle.std.specs.FinMap.{nat_cmp-IsAntisymmetric, slice_cmp-IsAntisymmetric}
use Rattle.std.specs.List.{dedup}
use Rattle.std.specs.List.Sorted.{IsPermutation, IsSorted}
use Rattle.std.specs.Ordering.{eq_by_cmp}
use Rattle.std.specs.Prelude.{slice_index_or}
use Rattle.std.specs.declared.cmp.Ordering.TheVariants.{Equal}
use Rattle.lf_laws.specs.Ascending.{IsInOrder}
use Rattle.lf_base.proofs.KeyedOrder.{in_order as all_in_order}
use Rattle.lf_open.specs.Constructs.{number_of}
use Rattle.lf_open.specs.OpenList.{key_of, open_cmp}
use Rattle.lf_open.specs.declared.construct.Construct.{Construct}
use Rattle.lf_open.specs.declared.construct.Construct.TheVariants.{SharedMetric, UnnamedSelector, ComplexPattern, MadeLabel, Forked, LoudUnless, CyclicName, NamedBucket, OpenAbsent}
use Rattle.lf_open.specs.declared.open_at.OpenAt.{OpenAt}
use Rattle.lf_base.specs.declared.keyed.Keyed.{Keyed}
use Rattle.lf_base.specs.views.Keyed.{keyed_cmp}
use Rattle.lf_open.specs.views.InOrder.{AreOfRule, keyed}

-- ---- what has the same key and rule is the same

constructs : List Construct
constructs = SharedMetric ∷ SharedMetric ∷ UnnamedSelector ∷ ComplexPattern ∷ MadeLabel ∷ Forked ∷ LoudUnless ∷ CyclicName ∷ NamedBucket ∷ OpenAbsent ∷ []

construct_at : ℕ → Construct
construct_at k = slice_index_or constructs k SharedMetric

at_number : (c : Construct) → construct_at (number_of c) ≡ c
unfolding construct_at constructs
at_number SharedMetric = refl
at_number UnnamedSelector = refl
at_number ComplexPattern = refl
at_number MadeLabel = refl
at_number Forked = refl
at_number LoudUnless = refl
at_number CyclicName = refl
at_number NamedBucket = refl
at_number OpenAbsent = refl

-- the open construct of a rule with this key
from_key : ℕ → List ℕ → OpenAt
from_key rule key = record { construct = construct_at (slice_index_or key 1 0); rule = rule; span = record { start = slice_index_or key 0 0; end = slice_index_or key 2 0 } }

by_key : (rule : ℕ) (o : OpenAt) → o.rule ≡ rule → from_key rule (key_of o) ≡ o
unfolding from_key
by_key rule o of =
    ap (λ (c : Construct). record { construct = c; rule = rule; span = o.span }) (at_number o.construct)
    ∙ ap (λ (z : ℕ). record { construct = o.construct; rule = z; span = o.span }) (sym of)

pub equal_same : (rule : ℕ) (o p : OpenAt) → o.rule ≡ rule → p.rule ≡ rule → open_cmp o p ≡ Equal → o ≡ p
equal_same rule o p first second e = sym (by_key rule o first) ∙ ap (from_key rule) (slice_cmp-IsAntisymmetric nat_cmp-IsAntisymmetric (key_of o) (key_of p) e) ∙ by_key rule p second

-- ---- lists

module _ (found : List OpenAt) (sorted : List (Keyed OpenAt)) (moved : IsPermutation (map keyed found) sorted) (up : IsSorted keyed_cmp sorted) (rule : ℕ) (of_rule : AreOfRule rule found) where
  pub in_order : (rs : List (Keyed OpenAt)) → rs ≡ dedup (eq_by_cmp keyed_cmp) sorted → IsInOrder open_cmp found (map (λ (k : Keyed OpenAt). k.item) rs)
  in_order rs is =
      subst (λ (os : List OpenAt). IsInOrder open_cmp os (map (λ (k : Keyed OpenAt). k.item) rs)) (map-id found)
      (subst (IsInOrder open_cmp (map (λ (o : OpenAt). o) found)) (map-id (map (λ (k : Keyed OpenAt). k.item) rs))
      (all_in_order key_of (λ (o : OpenAt). o) open_cmp found sorted moved up (λ o p _ _ less. less) (λ o p co cp tie. equal_same rule o p (of_rule o co) (of_rule p cp) tie) rs is))
