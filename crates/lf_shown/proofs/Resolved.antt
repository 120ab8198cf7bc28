-- What the empty list of open constructs means for a rule of accepted files: each presence that its row leaves to a label is shown by the built world, so a label stays unresolved only
-- where something stands open.
use Rattle.std.proofs.Common.{◌≡◌, ◌≢◌, ◌≤◌, ◌<◌, ◌+◌, ◌^◌, ℕ, zero, suc, true, List, [], ◌∷◌, map, length, get_or, Some, subst, arith, slice_get}
use Rattle.std.specs.List.{Contains, sum}
use Rattle.lf_laws.proofs.Slices.{member_at}
use Rattle.lf_ast.specs.Labels.{Bytes}
use Rattle.lf_ast.specs.Rules.{RuleTree}
use Rattle.lf_semantics.specs.ClassRows.{is_live}
use Rattle.lf_semantics.specs.Environments.{IsKnown, IsLeast, rule_row}
use Rattle.lf_semantics.specs.Laws.{SetNoNames}
use Rattle.lf_semantics.specs.Listing.{Listing, class_count, universe_of}
use Rattle.lf_semantics.specs.Mentions.{mentions}
use Rattle.lf_semantics.specs.RowTable.{Environment}
use Rattle.lf_semantics.proofs.ListingLaws.{universe_covers, universe_is_listing}
use Rattle.lf_semantics.proofs.Members.{all_front}
use Rattle.lf_trials.specs.Candidates.{labels_in}
use Rattle.lf_trials.specs.Forks.{HoldsFork}
use Rattle.lf_trials.specs.Verdicts.{IsLabelVerdict, Unresolved}
use Rattle.lf_trials.proofs.Reachable.{fork_test, tells_forks}
use Rattle.lf_open.specs.OpenList.{AreOpen}
use Rattle.lf_open.specs.declared.open_at.OpenAt.{OpenAt}
use Rattle.lf_open.proofs.Settled.{settled}
use Rattle.lf_shown.specs.Laws.{GivesEachAlone, ShowsAllLeft}
use Rattle.lf_shown.specs.NoneOpen.{HasNoneOpen}
use Rattle.lf_shown.proofs.Choices.{IsSmall}
use Rattle.lf_shown.proofs.Marks.{rule_is_free}
use Rattle.lf_shown.proofs.Settled.{AreTyped, none_open}
use Rattle.lf_shown.proofs.Showing.{all_shown, alone, never_unresolved}
use Rattle.lf_classes.proofs.Cutting.{sum_cons}

-- the texts of one label are no more than all classes together
one_of_all : (named : List (List Bytes)) (label : ℕ) → length (get_or named label []) ≤ sum (map (λ texts. length texts + 2) named)
one_of_all [] label = omega arith
one_of_all (texts ∷ named) zero = let e = sum_cons (length texts + 2) (map (λ texts. length texts + 2) named) in omega (arith, e)
one_of_all (texts ∷ named) (suc label) = let e = sum_cons (length texts + 2) (map (λ texts. length texts + 2) named) in let h = one_of_all named label in omega (arith, e, h)

pub small_by_count : (u : Listing) → class_count u < 2 ^ 63 → IsSmall u
small_by_count u few label = let h = one_of_all u.named label in omega (arith, h, few)

-- rules of accepted files: each has a type, none sets the metric name by a label, and their classes can be counted
module _ (rules : List RuleTree) (typed : AreTyped rules) (unnamed : SetNoNames rules) (few : class_count (universe_of rules) < 2 ^ 63) (env : Environment) (least : IsLeast (universe_of rules) rules env) where
  abbrev u : Listing
  u = universe_of rules

  module _ (i : ℕ) (r : RuleTree) (at : slice_get rules i ≡ Some r) where
    none : AreOpen rules i [] → HasNoneOpen rules r.expr
    none empty = let t = typed r (member_at rules i r at) in none_open rules typed r.expr t.0 t.1 (settled rules i r at empty)

    -- Where nothing stands open for the rule, and its row isn't empty, the built world shows each presence that the row leaves to a label.
    pub all_is_shown : AreOpen rules i [] → is_live (rule_row u env r) ≡ true → ShowsAllLeft u env rules i r
    all_is_shown empty live = all_shown u (universe_is_listing rules) (small_by_count u few) rules (universe_covers rules) unnamed env least i r at (none empty) live

    -- So where a label stays unresolved something stands open.
    pub unresolved_is_open : is_live (rule_row u env r) ≡ true → (label : Bytes) → Contains (labels_in u) label → IsLabelVerdict u env rules i (rule_row u env r) label Unresolved → (found : List OpenAt) → AreOpen rules i found → found ≢ []
    unresolved_is_open live label listed unresolved found open_of empty =
        never_unresolved u (universe_is_listing rules) (small_by_count u few) rules (universe_covers rules) unnamed env least i r at (none (subst (AreOpen rules i) empty open_of)) live label listed unresolved

    -- Where nothing stands open and the rule holds no fork, in itself or in what it reads, each choice of a text for each label that the row holds is given alone by what is built for it.
    pub choice_is_alone : AreOpen rules i [] → (HoldsFork rules r.expr → ⊥) → GivesEachAlone u env rules (fork_test rules) (i ∷ []) r.expr
    choice_is_alone empty no_fork D total held =
        alone u (universe_is_listing rules) (small_by_count u few) rules (universe_covers rules) unnamed env least (fork_test rules) (tells_forks rules) (i ∷ []) r.expr
        (all_front (IsKnown u) (mentions r.expr) _ (universe_covers rules r (member_at rules i r at))) (none empty) no_fork (rule_is_free rules i r at (none empty)) D total held
