use Rattle.std.proofs.Common.{◌≡◌, ◌<◌, ℕ, Bool, true, false, not, ◌&&◌, List, length, reverse, get_or, Some, refl, sym, ◌∙◌, ap, subst, arith, below_more}
use Rattle.std.specs.Prelude.{slice_get}
use Rattle.lf_ast.specs.Labels.{Bytes}
use Rattle.lf_ast.specs.Rules.{RuleTree}
use Rattle.lf_trials.specs.Built.{fits}
use Rattle.lf_trials.specs.Given.{holds_texts}
use Rattle.lf_trials.specs.Reached.{first_rule}
use Rattle.lf_built.specs.views.Indexed.{env_of, forks_of, trees_of, universe_of}
use Rattle.std.specs.List.{Contains}
use Rattle.lf_deps.specs.views.Search.{numbers_of}
use Rattle.lf_deps.proofs.LookedUp.{makers_is}
use Rattle.lf_semantics.specs.ClassRows.{Sets}
use Rattle.lf_semantics.specs.Environments.{records}
use Rattle.lf_trials.specs.Reached.{is_marked}
use Rattle.lf_built.proofs.FirstRules.{get_or_in}
use Rattle.lf_built.specs.views.Fitting.{IsFirstRule}
use Rattle.lf_built.proofs.Fits.{fits_by, none_fit, number_within, recorded_at, some_fits, stored_at}
use Rattle.lf_built.proofs.StandingParts.{recorded_shape}
use Rattle.lf_built.proofs.prepared.Prepared.first_fitting.Goals as goal
use Rattle.lf_built.proofs.prepared.Prepared.first_fitting.Goals.{else-not-has-via-then-not-has+else-is_held_by, else-not-has-via-else-not-has}

-- what is known of the number at an index
module _ (p : Rattle.lf_built.specs.declared.prepared.Prepared.Prepared) (known : Rattle.lf_built.specs.views.Indexed.IsPrepared p) (name : Bytes) (items : List ℕ) (is : items ≡ numbers_of (records name) 0 (trees_of p)) (i : ℕ) (less : i < length items) where
  rule_at : (r : RuleTree) × (slice_get (trees_of p) (get_or items i 0) ≡ Some r) × (r.alert ≡ false)
  rule_at = number_within p known name (get_or items i 0) (subst (λ (l : List ℕ). Contains l (get_or items i 0)) is (i, less, get_or_in items i (get_or items i 0) 0 less))

pub recorded_row-requires-clause-rule : goal.recorded_row-requires-clause-rule
recorded_row-requires-clause-rule c =
    let p = c.args.self.now in
    let items = c.makers_of-number-items.result.now in
    rule_at p c.requires.known c.args.name.now items (c.makers_of-number-items.ensures ∙ makers_is (trees_of p) p.sources.now c.requires.known.sources c.args.name.now) c.loop-number.number-index (omega (arith, c.loop-number-test.true))

pub is_held_by-requires-clause-shape : goal.is_held_by-requires-clause-shape
is_held_by-requires-clause-shape c =
    let p = c.args.self.now in
    let items = c.makers_of-number-items.result.now in
    let i : ℕ = c.loop-number.number-index in
    let f = rule_at p c.requires.known c.args.name.now items (c.makers_of-number-items.ensures ∙ makers_is (trees_of p) p.sources.now c.requires.known.sources c.args.name.now) i (omega (arith, c.loop-number-test.true)) in
    recorded_shape p c.requires.known f.0 c.recorded_row.result.now (c.recorded_row.ensures f.0 f.1)

pub returns-then-is_held_by-clause-first : goal.returns-then-is_held_by-clause-first
returns-then-is_held_by-clause-first c D stands =
    let p = c.args.self.now in
    let name : Bytes = c.args.name.now in
    let items : List ℕ = c.makers_of-number-items.result.now in
    let i : ℕ = c.loop-number.number-index in
    let is = c.makers_of-number-items.ensures ∙ makers_is (trees_of p) p.sources.now c.requires.known.sources c.args.name.now in
    let less : i < length items = omega (arith, c.loop-number-test.true) in
    let f = rule_at p c.requires.known name items is i less in
    let k : ℕ = get_or items i 0 in
    let row = c.recorded_row.ensures f.0 f.1 ∙ sym (recorded_at p c.requires.known k f.0 f.1) in
    let held : holds_texts (universe_of p) (stored_at p k) D ≡ true = sym (c.is_held_by.ensures D stands ∙ ap (λ (x : Sets). holds_texts (universe_of p) x D) row) ∙ c.if-is_held_by.true in
    let unmarked : is_marked (reverse c.args.marked.now) k ≡ false = sym c.has.ensures ∙ c.if-not-has.true in
    let here : fits_by p c.args.marked.now D k ≡ true = ap (λ b. not b && holds_texts (universe_of p) (stored_at p k) D) unmarked ∙ held in
    let P : List ℕ → Type 0 = λ l. (j : ℕ) → j < i → fits_by p c.args.marked.now D (get_or l j 0) ≡ false in
    let Q : List ℕ → Type 0 = λ l. fits_by p c.args.marked.now D (get_or l i 0) ≡ true in
    let R : List ℕ → Type 0 = λ l. i < length l in
    let S : List ℕ → Type 0 = λ l. IsFirstRule (trees_of p) (first_rule (fits (universe_of p) (env_of p) (trees_of p) (forks_of p) (reverse c.args.marked.now) name D) 0 (trees_of p)) (Some (get_or l i 0)) in
    subst S (sym is) (some_fits p c.requires.known c.args.marked.now name D i (subst R is less) (subst P is (c.loop-number.invariant D stands)) (subst Q is here))

pub returns-clause-first : goal.returns-clause-first
returns-clause-first c D stands =
    let p = c.args.self.now in
    let items : List ℕ = c.makers_of-number-items.result.now in
    let is = c.makers_of-number-items.ensures ∙ makers_is (trees_of p) p.sources.now c.requires.known.sources c.args.name.now in
    let P : List ℕ → Type 0 = λ l. (j : ℕ) → j < length l → fits_by p c.args.marked.now D (get_or l j 0) ≡ false in
    none_fit p c.requires.known c.args.marked.now c.args.name.now D (subst P is (λ j less. c.loop-number.invariant D stands j (omega (arith, less, c.loop-number-test.false))))

unmarked_no : (marked : List ℕ) (k : ℕ) (rest : Bool) → is_marked (reverse marked) k ≡ true → (not (is_marked (reverse marked) k) && rest) ≡ false
unmarked_no marked k rest e = ap (λ b. not b && rest) e

held_no : (b rest : Bool) → rest ≡ false → (b && rest) ≡ false
held_no true rest e = e
held_no false rest e = refl

pub loop-number-preserved : goal.loop-number-preserved
loop-number-preserved c D stands =
    let p = c.args.self.now in
    let items : List ℕ = c.makers_of-number-items.result.now in
    let i : ℕ = c.loop-number.number-index in
    let is = c.makers_of-number-items.ensures ∙ makers_is (trees_of p) p.sources.now c.requires.known.sources c.args.name.now in
    let f = rule_at p c.requires.known c.args.name.now items is i (omega (arith, c.loop-number-test.true)) in
    let k : ℕ = get_or items i 0 in
    below_more _ _ (c.loop-number.invariant D stands)
    (elim c.else-not-has.branch [
      | else-not-has-via-then-not-has+else-is_held_by w ↦
          let row = w.recorded_row.ensures f.0 f.1 ∙ sym (recorded_at p c.requires.known k f.0 f.1) in
          held_no (not (is_marked (reverse c.args.marked.now) k)) (holds_texts (universe_of p) (stored_at p k) D) (sym (w.is_held_by.ensures D stands ∙ ap (λ (x : Sets). holds_texts (universe_of p) x D) row) ∙ w.if-is_held_by.false)
      | else-not-has-via-else-not-has w ↦ unmarked_no c.args.marked.now k (holds_texts (universe_of p) (stored_at p k) D) (sym c.has.ensures ∙ w.if-not-has.false)
    ])
