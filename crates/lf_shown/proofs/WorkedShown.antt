-- The law of what is shown, at a worked rule: its premises are met, so the built world shows both presences of a label.
use Rattle.std.proofs.Common.{◌≡◌, ◌<◌, ◌^◌, inl, inr, true, false, List, [], ◌∷◌, length, codes, refl, arith}
use Rattle.std.specs.Fmt.{digits}
use Rattle.std.specs.List.{Contains}
use Rattle.lf_laws.proofs.Booleans.{clash}
use Rattle.lf_laws.proofs.Members.{each_member}
use Rattle.lf_ast.specs.Labels.{Bytes}
use Rattle.lf_ast.specs.Rules.{RuleTree}
use Rattle.lf_ast.specs.declared.expr.MatchOp.TheVariants.{Equal}
use Rattle.lf_semantics.specs.Environments.{IsLeast}
use Rattle.lf_semantics.specs.Laws.{SetNoNames}
use Rattle.lf_semantics.specs.Listing.{Listing, class_count, universe_of}
use Rattle.lf_semantics.specs.Worlds.{SetsNoName}
use Rattle.lf_semantics.proofs.ListingLaws.{universe_covers, universe_is_listing}
use Rattle.lf_semantics.proofs.Written.{asks, place_at, selector, sum_by}
use Rattle.lf_trials.specs.Candidates.{labels_in}
use Rattle.lf_trials.specs.Trials.{Shown, ShowsBuilt}
use Rattle.lf_shown.specs.Laws.{ResolvesEach}
use Rattle.lf_shown.specs.NoneOpen.{HasNoneOpen, IsClosed}
use Rattle.lf_shown.proofs.Resolved.{small_by_count}
use Rattle.lf_shown.proofs.Showing.{never_unresolved, shown}
use Rattle.lf_shown.proofs.WorkedNoneOpen.{acyclic, no_fork}

abbrev job : Bytes
job = codes "job"

-- an alert on `sum by (job) (foo{env="p"})`
abbrev alert : RuleTree
alert = record {
  file = 0;
  alert = true;
  name = codes "A";
  name_span = place_at 0;
  expr = sum_by (job ∷ []) (selector (codes "foo") (asks (codes "env") Equal (codes "p") ∷ []));
  expr_span = place_at 0;
  labels = [];
  templates = [];
}

abbrev rules : List RuleTree
rules = alert ∷ []

abbrev u : Listing
u = universe_of rules

-- nothing is recorded, so the empty environment is the least
least : IsLeast u rules []
least = record {
  of_rules = record { environment = record { rows = tt; classes = tt }; names = refl };
  closed = λ r c recording. absurd (each_member (λ (r : RuleTree). r.alert ≡ false → ⊥) rules r ((λ e. clash true refl e), tt) c recording);
  least = λ other of_rules closed. by other of_rules.names;
}
  where
    by : (other : Rattle.lf_semantics.specs.RowTable.Environment) → Rattle.std.specs.Prelude.map (λ (entry : Bytes × Rattle.lf_semantics.specs.ClassRows.Sets). entry.0) other ≡ [] → Rattle.lf_semantics.specs.Environments.EnvironmentLeq [] other
    by [] e = tt
    by (entry ∷ other) e = absurd (cc)

sets_no_names : SetNoNames rules
sets_no_names r c = each_member SetsNoName rules r (tt, tt) c

few : class_count u < 2 ^ 63
few = omega arith

foo_closed : IsClosed rules (selector (codes "foo") (asks (codes "env") Equal (codes "p") ∷ []))
foo_closed =
    inr (record {
      name = codes "foo";
      says = refl;
      acyclic = acyclic rules (codes "foo") (inl refl, tt);
      plain = (inl refl, tt);
      unmatched = λ fork. absurd (no_fork rules (selector (codes "foo") (asks (codes "env") Equal (codes "p") ∷ [])) refl fork);
    })

none_open : HasNoneOpen rules alert.expr
none_open = record {
  own = inr ((foo_closed, tt), tt);
  read = λ r c reach. absurd (each_member (λ (r : RuleTree). r.alert ≡ false → ⊥) rules r ((λ e. clash true refl e), tt) c reach.0);
}

job_listed : Contains (labels_in u) job
job_listed = let count : length (labels_in u) ≡ 4 = refl in (1, omega (arith, count), refl)

-- samples with `job`, and samples without it
both_shown : ((with_job : Shown) × ShowsBuilt u [] rules 0 job true with_job) × ((without_job : Shown) × ShowsBuilt u [] rules 0 job false without_job)
unfolding digits
both_shown =
    let show = shown u (universe_is_listing rules) (small_by_count u few) rules (universe_covers rules) sets_no_names [] least 0 alert refl none_open refl job job_listed in
    (show true refl, show false refl)

each_resolved : ResolvesEach u [] rules 0 alert
each_resolved = never_unresolved u (universe_is_listing rules) (small_by_count u few) rules (universe_covers rules) sets_no_names [] least 0 alert refl none_open refl
