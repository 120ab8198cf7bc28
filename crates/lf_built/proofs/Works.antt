-- What is done with a task leaves the whole as it is.
use Rattle.std.proofs.Common.{◌||◌, ◌≡◌, ◌≤◌, ◌+◌, ℕ, suc, Bool, true, false, cond, List, [], ◌∷◌, ◌++◌, map, reverse, Option, Some, None, refl, sym, ◌∙◌, ap, subst, arith}
use Rattle.std.specs.Prelude.{option_and_then, option_map, slice_get}
use Rattle.std.specs.Str.{bytes_eq}
use Rattle.std.proofs.lemmas.List.{reverse-append}
use Rattle.std.proofs.lemmas.Option.{same_Some}
use Rattle.lf_ast.specs.Labels.{Bytes, Labels}
use Rattle.lf_ast.specs.Rules.{RuleTree}
use Rattle.lf_ast.specs.Tree.{Tree}
use Rattle.lf_ast.specs.declared.expr.Matcher.{Matcher}
use Rattle.lf_semantics.specs.Listing.{Listing}
use Rattle.lf_trials.specs.Building.{Builder, Building, and_then, both, one_more, with_series}
use Rattle.lf_trials.specs.Built.{before_recording, build, build_by_rule, build_selector, builder, fits, handed, sets_label}
use Rattle.lf_semantics.specs.Grouped.{is_metric}
use Rattle.lf_trials.specs.Given.{Given, losing}
use Rattle.lf_trials.specs.Reached.{first_rule, is_recorded}
use Rattle.lf_candidates.specs.views.ClassTexts.{Stands, StandsFor}
use Rattle.lf_built.specs.declared.prepared.Prepared.{Prepared}
use Rattle.lf_built.specs.declared.spots.Spot.{Spot}
use Rattle.lf_built.specs.declared.work.WantedParts.{WantedParts}
use Rattle.lf_built.specs.declared.work.Pending.{Pending}
use Rattle.lf_built.specs.declared.work.Pending.TheVariants as T
use Rattle.lf_built.specs.declared.work.Work.{Work}
use Rattle.lf_built.specs.views.Indexed.{env_of, forks_of, trees_of, universe_of}
use Rattle.lf_built.specs.views.Spots.{IsSpot, tree_at}
use Rattle.lf_built.specs.views.Tasks.{Finish, Task, Visit, Wanted, outcome, selector_only, step_only, want}
use Rattle.lf_built.specs.views.Works.{AreTasks, Builds, GoesOn, IsEntered, Leaves, LeavesBehind, NoWorld, all_of, by_rule_of, marks_of, outcome_of, so_far, stack_of, tasks_of}
use Rattle.lf_built.proofs.Tasks.{and_assoc, recorded, visits}

-- texts that stand for what may be given

pub stands_some : (u : Listing) (texts : List (Option ℕ)) (o : Option Given) → StandsFor u (Some texts) o → (D : Given) × (o ≡ Some D) × Stands u texts D
stands_some u texts None h = absurd h
stands_some u texts (Some D) h = (D, refl, h)

pub stands_none : (u : Listing) (o : Option Given) → StandsFor u None o → o ≡ None
stands_none u None h = refl
stands_none u (Some D) h = absurd h

-- no world

pub none_at_all : (most : ℕ) (whole : Option Building) → whole ≡ None → NoWorld most whole
none_at_all most whole e b is few = absurd (let clash : None ≡ Some b = sym e ∙ is in cc)

too_many : (most : ℕ) (a : Building) (built o : Option Building) → a.selectors ≡ most → ((x : Building) → built ≡ Some x → 1 ≤ x.selectors) → NoWorld most (and_then (Some a) (and_then built o))
too_many most a None o full some b is few = absurd (cc)
too_many most a (Some x) None full some b is few = absurd (cc)
too_many most a (Some x) (Some y) full some b is few =
    let one : 1 ≤ x.selectors = some x refl in
    let same : a.selectors + (x.selectors + y.selectors) ≡ b.selectors = ap (λ (z : Building). z.selectors) (same_Some (both a (both x y)) b is) in
    omega (arith, one, same, full, few)

pub no_more : (p : Prepared) (most : ℕ) (whole built : Option Building) (w : Work) → w.made.selectors ≡ most → ((x : Building) → built ≡ Some x → 1 ≤ x.selectors) → LeavesBehind p whole built w → NoWorld most whole
no_more p most whole built w full some left = subst (NoWorld most) (sym left.rest) (too_many most (so_far w.made) built (outcome_of p w left.tasks) full some)

pub nothing_built : (p : Prepared) (most : ℕ) (whole built : Option Building) (w : Work) → built ≡ None → LeavesBehind p whole built w → NoWorld most whole
nothing_built p most whole built w none left =
    none_at_all most whole (left.rest ∙ ap (λ (o : Option Building). and_then (Some (so_far w.made)) (and_then o (outcome_of p w left.tasks))) none)

-- a selector that is built counts

rule_counts : (o : Option Building) (x : Building) → option_map one_more o ≡ Some x → 1 ≤ x.selectors
rule_counts None x e = absurd (cc)
rule_counts (Some b) x e = let same : b.selectors + 1 ≡ x.selectors = ap (λ (z : Building). z.selectors) (same_Some (one_more b) x e) in omega (arith, same)

series_counts : (s : Labels) (x : Building) → with_series s ≡ Some x → 1 ≤ x.selectors
series_counts s x e = let same : 1 ≡ x.selectors = ap (λ (z : Building). z.selectors) (same_Some _ x e) in omega (arith, same)

name_counts : (recorded empty : Bool) (o : Option Building) (s : Labels) (x : Building) → cond recorded (option_map one_more o) (cond empty None (with_series s)) ≡ Some x → 1 ≤ x.selectors
name_counts true empty o s x e = rule_counts o x e
name_counts false true o s x e = absurd (cc)
name_counts false false o s x e = series_counts s x e

unnamed_counts : (u : Listing) (rules : List RuleTree) (o : Option Bytes) (D : Given) (x : Building) → Rattle.lf_trials.specs.Built.series_named u rules o D ≡ Some x → 1 ≤ x.selectors
unnamed_counts u rules None D x e = absurd (cc)
unnamed_counts u rules (Some name) D x e = series_counts _ x e

pub selector_counts : (u : Listing) (rules : List RuleTree) (by_rule : Bytes → Builder) (name : Option Bytes) (matchers : List Matcher) (D : Given) (x : Building) → build_selector u rules by_rule name matchers D ≡ Some x → 1 ≤ x.selectors
selector_counts u rules by_rule (Some name) matchers D x e = name_counts (is_recorded rules name) (bytes_eq name []) (by_rule name D) _ x e
selector_counts u rules by_rule None matchers D x e = unnamed_counts u rules (Rattle.lf_trials.specs.Built.name_of_series u rules matchers D) D x e

-- what is added is taken from the whole

module _ (p : Prepared) where
  pub added : (whole : Option Building) (x : Building) (before after : Work) → stack_of after ≡ stack_of before → marks_of after ≡ marks_of before → after.unmarked ≡ before.unmarked → so_far after.made ≡ both (so_far before.made) x
      → LeavesBehind p whole (Some x) before → Builds p whole after
  added whole x before after stack marks unmarked made left = record {
    tasks = left.tasks;
    are = subst (λ (s : List Pending). AreTasks p s left.tasks) (sym stack) left.are;
    rest =
        left.rest
        ∙ sym (and_assoc (Some (so_far before.made)) (Some x) (outcome_of p before left.tasks))
        ∙ ap (λ (b : Building). and_then (Some b) (outcome_of p before left.tasks)) (sym made)
        ∙ ap (λ (n : ℕ). and_then (Some (so_far after.made)) (outcome (universe_of p) (env_of p) (trees_of p) (forks_of p) n (marks_of before) left.tasks)) (sym unmarked)
        ∙ ap (λ (m : List ℕ). and_then (Some (so_far after.made)) (outcome (universe_of p) (env_of p) (trees_of p) (forks_of p) after.unmarked m left.tasks)) (sym marks);
  }

  -- tasks one behind the other
  both_tasks : (xs ys : List Pending) (ts us : List Task) → AreTasks p xs ts → AreTasks p ys us → AreTasks p (xs ++ ys) (ts ++ us)
  both_tasks [] ys [] us a b = b
  both_tasks [] ys (t ∷ ts) us a b = absurd a
  both_tasks (T.Visit spot texts ∷ xs) ys [] us a b = absurd a
  both_tasks (T.Visit spot texts ∷ xs) ys (Visit w ∷ ts) us a b = (a.0, a.1, a.2, both_tasks xs ys ts us a.3 b)
  both_tasks (T.Visit spot texts ∷ xs) ys (Finish ∷ ts) us a b = absurd a
  both_tasks (T.Finish ∷ xs) ys [] us a b = absurd a
  both_tasks (T.Finish ∷ xs) ys (Visit w ∷ ts) us a b = absurd a
  both_tasks (T.Finish ∷ xs) ys (Finish ∷ ts) us a b = both_tasks xs ys ts us a b

  -- expressions that are wanted are put before the tasks
  pub expanded : (whole : Option Building) (wanted : List Wanted) (parts : WantedParts) (before after : Work) → AreTasks p (tasks_of parts) (map Visit wanted) → stack_of after ≡ tasks_of parts ++ stack_of before
      → marks_of after ≡ marks_of before → after.unmarked ≡ before.unmarked → so_far after.made ≡ so_far before.made → LeavesBehind p whole (all_of p before (Some wanted)) before → Builds p whole after
  expanded whole wanted parts before after are stack marks unmarked made left = record {
    tasks = map Visit wanted ++ left.tasks;
    are = subst (λ (s : List Pending). AreTasks p s (map Visit wanted ++ left.tasks)) (sym stack) (both_tasks (tasks_of parts) (stack_of before) (map Visit wanted) left.tasks are left.are);
    rest =
        left.rest
        ∙ ap (and_then (Some (so_far before.made))) (sym (visits (universe_of p) (env_of p) (trees_of p) (forks_of p) before.unmarked (marks_of before) wanted left.tasks))
        ∙ ap (λ (b : Building). and_then (Some b) (outcome_of p before (map Visit wanted ++ left.tasks))) (sym made)
        ∙ ap (λ (n : ℕ). and_then (Some (so_far after.made)) (outcome (universe_of p) (env_of p) (trees_of p) (forks_of p) n (marks_of before) (map Visit wanted ++ left.tasks))) (sym unmarked)
        ∙ ap (λ (m : List ℕ). and_then (Some (so_far after.made)) (outcome (universe_of p) (env_of p) (trees_of p) (forks_of p) after.unmarked m (map Visit wanted ++ left.tasks))) (sym marks);
  }

  -- the expression that is to be built next
  pub record NextVisit (whole : Option Building) (spot : Spot) (texts : List (Option ℕ)) (w : Work) : Type 0 where
    pub is_spot : IsSpot (trees_of p) spot
    pub given : Given
    pub stands : Stands (universe_of p) texts given
    pub left : LeavesBehind p whole (build (universe_of p) (env_of p) (trees_of p) (forks_of p) (tree_at spot) (builder (universe_of p) (env_of p) (trees_of p) (forks_of p) (by_rule_of p w) (tree_at spot)) given) w

  visit_in : (whole : Option Building) (spot : Spot) (texts : List (Option ℕ)) (w : Work) (tasks : List Task) → AreTasks p (T.Visit spot texts ∷ stack_of w) tasks
      → whole ≡ and_then (Some (so_far w.made)) (outcome_of p w tasks) → NextVisit whole spot texts w
  visit_in whole spot texts w [] are rest = absurd are
  visit_in whole spot texts w (Finish ∷ tasks) are rest = absurd are
  visit_in whole spot texts w (Visit wanted ∷ tasks) are rest = record {
    is_spot = are.0;
    given = wanted.texts;
    stands = are.2;
    left = record {
      tasks = tasks;
      are = are.3;
      rest = rest
          ∙ ap (λ (e : Tree). and_then (Some (so_far w.made)) (and_then (build (universe_of p) (env_of p) (trees_of p) (forks_of p) e (builder (universe_of p) (env_of p) (trees_of p) (forks_of p) (by_rule_of p w) e) wanted.texts) (outcome_of p w tasks)))
          (sym are.1);
    };
  }

  pub next_visit : (whole : Option Building) (spot : Spot) (texts : List (Option ℕ)) (w : Work) → Leaves p whole (T.Visit spot texts ∷ stack_of w) w → NextVisit whole spot texts w
  next_visit whole spot texts w left = visit_in whole spot texts w left.tasks left.are left.rest

  pub handed_some : (whole : Option Building) (spot : Spot) (texts made : List (Option ℕ)) (w : Work) (next : NextVisit whole spot texts w)
      → StandsFor (universe_of p) (Some made) (handed (universe_of p) (env_of p) (trees_of p) (forks_of p) (tree_at spot) next.given)
      → (D : Given) × Stands (universe_of p) made D × LeavesBehind p whole (builder (universe_of p) (env_of p) (trees_of p) (forks_of p) (by_rule_of p w) (tree_at spot) D) w
  handed_some whole spot texts made w next some =
      let h = stands_some (universe_of p) made _ some in (
        h.0,
        h.2,
        record {
          tasks = next.left.tasks;
          are = next.left.are;
          rest = next.left.rest
              ∙ ap (λ (o : Option Given). and_then (Some (so_far w.made)) (and_then (option_and_then (builder (universe_of p) (env_of p) (trees_of p) (forks_of p) (by_rule_of p w) (tree_at spot)) o) (outcome_of p w next.left.tasks))) h.1;
        },
      )

  pub entered_stack : (k : ℕ) (D : Given) (before after : Work) → (entry : IsEntered p k D before after) → stack_of after ≡ T.Visit entry.spot entry.texts ∷ T.Finish ∷ stack_of before
  entered_stack k D before after entry =
      ap reverse entry.stack ∙ reverse-append (before.stack.items ++ T.Finish ∷ []) (T.Visit entry.spot entry.texts ∷ []) ∙ ap (λ (s : List Pending). T.Visit entry.spot entry.texts ∷ s) (reverse-append before.stack.items (T.Finish ∷ []))

  pub entry_of : (k : ℕ) (D : Given) (before after : Work) (r : RuleTree) → slice_get (trees_of p) k ≡ Some r → (spot : Spot) (texts : List (Option ℕ)) → IsSpot (trees_of p) spot → tree_at spot ≡ r.expr
      → Stands (universe_of p) texts (losing (λ name. is_metric name || sets_label r name) D) → (middle last : List Pending) → last ≡ middle ++ T.Visit spot texts ∷ [] → middle ≡ before.stack.items ++ T.Finish ∷ []
      → after.marked ≡ before.marked ++ k ∷ [] → before.unmarked ≡ suc after.unmarked → so_far after.made ≡ both (so_far before.made) (record { series = []; steps = []; selectors = 1 }) → after.stack.items ≡ last → IsEntered p k D before after
  entry_of k D before after r is spot texts is_spot is_expr stands middle last a b marked unmarked made e = record {
    rule = r;
    is_rule = is;
    spot = spot;
    is_spot = is_spot;
    is_expr = is_expr;
    texts = texts;
    stands = stands;
    stack = e ∙ a ∙ ap (λ (s : List Pending). s ++ T.Visit spot texts ∷ []) b;
    marked = marked;
    unmarked = unmarked;
    made = made;
  }

  -- a rule is marked, and its expression is put before the tasks
  pub entered : (whole : Option Building) (name : Bytes) (D : Given) (k : ℕ) (r : RuleTree) (before after : Work)
      → first_rule (fits (universe_of p) (env_of p) (trees_of p) (forks_of p) (marks_of before) name D) 0 (trees_of p) ≡ Some (k, r) → (entry : IsEntered p k D before after) → entry.rule ≡ r
      → LeavesBehind p whole (option_map one_more (by_rule_of p before name D)) before → Builds p whole after
  entered whole name D k r before after found entry same left =
      let u = universe_of p in
      let env = env_of p in
      let rules = trees_of p in
      let forks = forks_of p in
      let n : ℕ = after.unmarked in
      let tasks : List Task = left.tasks in
      let visit : Task = Visit (want r.expr (before_recording u env rules forks r D)) in
      let stack : stack_of after ≡ T.Visit entry.spot entry.texts ∷ T.Finish ∷ stack_of before =
      ap reverse entry.stack ∙ reverse-append (before.stack.items ++ T.Finish ∷ []) (T.Visit entry.spot entry.texts ∷ []) ∙ ap (λ (s : List Pending). T.Visit entry.spot entry.texts ∷ s) (reverse-append before.stack.items (T.Finish ∷ [])) in
      let marks : marks_of after ≡ k ∷ marks_of before = ap reverse entry.marked ∙ reverse-append before.marked (k ∷ []) in
      record {
        tasks = visit ∷ Finish ∷ tasks;
        are = subst (λ (s : List Pending). AreTasks p s (visit ∷ Finish ∷ tasks)) (sym stack)
            (entry.is_spot, entry.is_expr ∙ ap (λ (x : RuleTree). x.expr) same, subst (λ (x : RuleTree). Stands u entry.texts (before_recording u env rules forks x D)) same entry.stands, left.are);
        rest =
            left.rest
            ∙ ap (λ (m : ℕ). and_then (Some (so_far before.made)) (and_then (option_map one_more (build_by_rule u env rules forks m (marks_of before) name D)) (outcome u env rules forks m (marks_of before) tasks))) entry.unmarked
            ∙ ap (and_then (Some (so_far before.made))) (recorded u env rules forks n (marks_of before) name D tasks k r found)
            ∙ sym (and_assoc (Some (so_far before.made)) selector_only (outcome u env rules forks n (k ∷ marks_of before) (visit ∷ Finish ∷ tasks)))
            ∙ ap (λ (b : Building). and_then (Some b) (outcome u env rules forks n (k ∷ marks_of before) (visit ∷ Finish ∷ tasks))) (sym entry.made)
            ∙ ap (λ (m : List ℕ). and_then (Some (so_far after.made)) (outcome u env rules forks n m (visit ∷ Finish ∷ tasks))) (sym marks);
      }

  -- the mark of a rule is taken off, and its step is added

  finish_in : (whole : Option Building) (k : ℕ) (before after : Work) (tasks : List Task) → stack_of after ≡ stack_of before → marks_of before ≡ k ∷ marks_of after → after.unmarked ≡ suc before.unmarked
      → so_far after.made ≡ both (so_far before.made) (record { series = []; steps = k ∷ []; selectors = 0 }) → AreTasks p (T.Finish ∷ stack_of before) tasks → whole ≡ and_then (Some (so_far before.made)) (outcome_of p before tasks)
      → Builds p whole after
  finish_in whole k before after [] stack marks unmarked made are rest = absurd are
  finish_in whole k before after (Visit w ∷ tasks) stack marks unmarked made are rest = absurd are
  finish_in whole k before after (Finish ∷ tasks) stack marks unmarked made are rest =
      let u = universe_of p in
      let env = env_of p in
      let rules = trees_of p in
      let forks = forks_of p in
      record {
        tasks = tasks;
        are = subst (λ (s : List Pending). AreTasks p s tasks) (sym stack) are;
        rest =
            rest
            ∙ ap (λ (m : List ℕ). and_then (Some (so_far before.made)) (outcome u env rules forks before.unmarked m (Finish ∷ tasks))) marks
            ∙ sym (and_assoc (Some (so_far before.made)) (step_only k) (outcome u env rules forks (suc before.unmarked) (marks_of after) tasks))
            ∙ ap (λ (b : Building). and_then (Some b) (outcome u env rules forks (suc before.unmarked) (marks_of after) tasks)) (sym made)
            ∙ ap (λ (n : ℕ). and_then (Some (so_far after.made)) (outcome u env rules forks n (marks_of after) tasks)) (sym unmarked);
      }

  pub finished : (whole : Option Building) (k : ℕ) (before after : Work) → stack_of after ≡ stack_of before → marks_of before ≡ k ∷ marks_of after → after.unmarked ≡ suc before.unmarked
      → so_far after.made ≡ both (so_far before.made) (record { series = []; steps = k ∷ []; selectors = 0 }) → Leaves p whole (T.Finish ∷ stack_of before) before → Builds p whole after
  finished whole k before after stack marks unmarked made left = finish_in whole k before after left.tasks stack marks unmarked made left.are left.rest

  -- where no task is left, all is built

  done_in : (whole : Option Building) (w : Work) (tasks : List Task) → AreTasks p [] tasks → whole ≡ and_then (Some (so_far w.made)) (outcome_of p w tasks) → whole ≡ Some (so_far w.made)
  done_in whole w [] are rest = rest ∙ Rattle.lf_built.proofs.Tasks.and_nothing (Some (so_far w.made))
  done_in whole w (t ∷ tasks) are rest = absurd are

  pub done : (whole : Option Building) (w : Work) → stack_of w ≡ [] → Builds p whole w → whole ≡ Some (so_far w.made)
  done whole w none left = done_in whole w left.tasks (subst (λ (s : List Pending). AreTasks p s left.tasks) none left.are) left.rest

  -- a task is taken off the stack

  pub popped_stack : (old front : List Pending) (task : Pending) → old ≡ front ++ task ∷ [] → reverse old ≡ task ∷ reverse front
  popped_stack old front task e = ap reverse e ∙ reverse-append front (task ∷ [])

  pub popped : (whole : Option Building) (task : Pending) (before after : Work) → stack_of before ≡ task ∷ stack_of after → marks_of after ≡ marks_of before → after.unmarked ≡ before.unmarked → so_far after.made ≡ so_far before.made
      → Builds p whole before → Leaves p whole (task ∷ stack_of after) after
  popped whole task before after stack marks unmarked made left = record {
    tasks = left.tasks;
    are = subst (λ (s : List Pending). AreTasks p s left.tasks) stack left.are;
    rest =
        left.rest
        ∙ ap (λ (b : Building). and_then (Some b) (outcome_of p before left.tasks)) (sym made)
        ∙ ap (λ (n : ℕ). and_then (Some (so_far after.made)) (outcome (universe_of p) (env_of p) (trees_of p) (forks_of p) n (marks_of before) left.tasks)) (sym unmarked)
        ∙ ap (λ (m : List ℕ). and_then (Some (so_far after.made)) (outcome (universe_of p) (env_of p) (trees_of p) (forks_of p) after.unmarked m left.tasks)) (sym marks);
  }

  pub goes_false : (most : ℕ) (whole : Option Building) (w : Work) (b : Bool) → b ≡ false → GoesOn p most whole w b → NoWorld most whole
  goes_false most whole w true e goes = absurd (cc)
  goes_false most whole w false e goes = goes

  pub goes_true : (most : ℕ) (whole : Option Building) (w : Work) (b : Bool) → b ≡ true → GoesOn p most whole w b → Builds p whole w × (w.made.selectors ≤ most)
  goes_true most whole w true e goes = goes
  goes_true most whole w false e goes = absurd (cc)
