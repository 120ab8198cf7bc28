-- Each step leaves less to be done.
use Rattle.std.proofs.Common.{◌≡◌, ◌≤◌, ◌<◌, ◌+◌, ◌-◌, ◌*◌, ℕ, List, ◌∷◌, ◌++◌, Some, ◌∙◌, ap, subst, arith}
use Rattle.std.specs.Prelude.{slice_get}
use Rattle.std.specs.List.{sum_by}
use Rattle.std.proofs.lemmas.List.Sums.{get_or-le-sum_by, sum_by-append, sum_by-cons}
use Rattle.std.proofs.lemmas.Option.{get_or_from_slice_get, slice_get_within}
use Rattle.lf_ast.specs.Rules.{RuleTree}
use Rattle.lf_built.specs.declared.prepared.Prepared.{Prepared}
use Rattle.lf_built.specs.declared.work.WantedParts.{WantedParts}
use Rattle.lf_built.specs.declared.work.Pending.{Pending}
use Rattle.lf_built.specs.declared.work.Work.{Work}
use Rattle.lf_built.specs.views.Indexed.{trees_of}
use Rattle.lf_built.specs.views.Places.{size}
use Rattle.lf_built.specs.views.Works.{effort, largest, stack_of, tasks_of, weight}

pub one_of_sum : {X : Type 0} (f : X → ℕ) (xs : List X) (k : ℕ) (x : X) → slice_get xs k ≡ Some x → f x ≤ sum_by f xs
one_of_sum {X} f xs k x e = subst (λ (y : X). f y ≤ sum_by f xs) (get_or_from_slice_get xs k x x e) (get_or-le-sum_by f xs k x (slice_get_within xs k x e))

-- one selector more
one_less : (most s t large : ℕ) → t ≡ s + 1 → s < most → (most - t) * large + large ≡ (most - s) * large
one_less most s t large e less =
    let k : ℕ = most - t in
    let up : most - s ≡ k + 1 = omega (arith, e, less) in
    let times : (most - s) * large ≡ (k + 1) * large = ap (λ n. n * large) up in
    omega (arith, times)

pub parts_less : (p : Prepared) (most n : ℕ) (parts : WantedParts) (before after : Work) → sum_by weight (tasks_of parts) + 1 ≤ n → after.made.selectors ≡ before.made.selectors → stack_of after ≡ tasks_of parts ++ stack_of before
    → effort p most after + 1 ≤ effort p most before + n
parts_less p most n parts before after less made stack =
    let a : (most - after.made.selectors) * largest (trees_of p) ≡ (most - before.made.selectors) * largest (trees_of p) = ap (λ k. (most - k) * largest (trees_of p)) made in
    let b : sum_by weight (stack_of after) ≡ sum_by weight (tasks_of parts) + sum_by weight (stack_of before) = ap (sum_by weight) stack ∙ sum_by-append weight (tasks_of parts) (stack_of before) in
    omega (arith, a, b, less)

pub entered_less : (p : Prepared) (most k : ℕ) (r : RuleTree) (visit finish : Pending) (before after : Work) → slice_get (trees_of p) k ≡ Some r → weight visit ≡ size r.expr → weight finish ≡ 1
    → after.made.selectors ≡ before.made.selectors + 1 → before.made.selectors < most → stack_of after ≡ visit ∷ finish ∷ stack_of before → effort p most after ≤ effort p most before
entered_less p most k r visit finish before after is v f e less stack =
    let a = one_less most before.made.selectors after.made.selectors (largest (trees_of p)) e less in
    let fits = one_of_sum (λ (x : RuleTree). size x.expr) (trees_of p) k r is in
    let b : sum_by weight (stack_of after) ≡ weight visit + (weight finish + sum_by weight (stack_of before)) =
    ap (sum_by weight) stack ∙ sum_by-cons weight visit (finish ∷ stack_of before) ∙ ap (λ n. weight visit + n) (sum_by-cons weight finish (stack_of before)) in
    omega (arith, a, b, fits, v, f)

pub popped_less : (p : Prepared) (most : ℕ) (task : Pending) (before rest : Work) → rest.made.selectors ≡ before.made.selectors → stack_of before ≡ task ∷ stack_of rest → effort p most rest + weight task ≡ effort p most before
popped_less p most task before rest made stack =
    let a : (most - rest.made.selectors) * largest (trees_of p) ≡ (most - before.made.selectors) * largest (trees_of p) = ap (λ k. (most - k) * largest (trees_of p)) made in
    let b : sum_by weight (stack_of before) ≡ weight task + sum_by weight (stack_of rest) = ap (sum_by weight) stack ∙ sum_by-cons weight task (stack_of rest) in
    omega (arith, a, b)
