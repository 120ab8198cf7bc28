-- Rules that pass a test, or read a rule that does.
use Rattle.std.proofs.Common.{◌≡◌, ◌+◌, ◌<◌, ◌≤◌, ◌⊎◌, ◌↔◌, inl, inr, ℕ, Bool, true, false, ◌||◌, List, [], ◌∷◌, ◌++◌, length, get_or, Some, sym, ap, ◌∙◌, arith, slice_get, map}
use Rattle.std.proofs.Math.Seq.{get_or-append_seam}
use Rattle.std.proofs.lemmas.Bool.{cases_lt, or_cases, or_left, or_right}
use Rattle.std.proofs.lemmas.List.{get_or_append_left}
use Rattle.std.proofs.lemmas.Option.{get_or_from_slice_get, slice_get-get_or, slice_get-map, slice_get_within}
use Rattle.std.specs.Prelude.{option_map}
use Rattle.std.specs.List.{Contains, list_any}
use Rattle.lf_laws.proofs.Members.{any_has, some_has}
use Rattle.lf_ast.specs.Rules.{RuleTree, rule_tree, rule_trees}
use Rattle.lf_ast.specs.declared.rule.Rule.{Rule}
use Rattle.lf_deps.proofs.RuleTrees.{map_trees}
use Rattle.lf_deps.specs.Reading.{Reaches}
use Rattle.lf_open.specs.views.Choosing.{ArePassing, TellsRead}
use Rattle.lf_open.specs.views.Marks.{AreChosenBy}

-- of the rules reached one passes
pub tells_read : (rules : List RuleTree) (of_rule : RuleTree → Bool) (passing : List Bool) → ArePassing rules of_rule passing → (i : ℕ) (found : List ℕ)
    → ((of : RuleTree) → slice_get rules i ≡ Some of → (k : ℕ) → Contains found k ↔ ((r : RuleTree) × (slice_get rules k ≡ Some r) × Reaches rules of.expr r))
    → (reads : Bool) → reads ≡ list_any (λ k. get_or passing k false) found → TellsRead rules of_rule i reads
tells_read rules of_rule passing are i found members reads is r at = (to, from)
  where
    test : ℕ → Bool
    test k = get_or passing k false

    to : reads ≡ true → (s : RuleTree) × Contains rules s × Reaches rules r.expr s × (of_rule s ≡ true)
    to e =
        let w = some_has (λ k. get_or passing k false) found (sym is ∙ e) in
        let m = (members r at w.0).0 w.1 in
        (m.0, (w.0, slice_get_within rules w.0 m.0 m.1, get_or_from_slice_get rules w.0 m.0 m.0 m.1), m.2, sym (are w.0 m.0 m.1) ∙ w.2)

    from : ((s : RuleTree) × Contains rules s × Reaches rules r.expr s × (of_rule s ≡ true)) → reads ≡ true
    from (s, there, reaches, own) =
        let at_s : slice_get rules there.0 ≡ Some s = slice_get-get_or rules there.0 s there.1 ∙ ap Some there.2 in
        is ∙ any_has (λ k. get_or passing k false) found there.0 ((members r at there.0).1 (s, at_s, reaches)) (are there.0 s at_s ∙ own)

-- a list of what is told of each

abbrev pub ChosenUpTo : List RuleTree → (RuleTree → Bool) → ℕ → List Bool → Type 0
ChosenUpTo rules of_rule i found =
    (k : ℕ) (r : RuleTree) → k < i → slice_get rules k ≡ Some r → (get_or found k false ≡ true) ↔ ((of_rule r ≡ true) ⊎ ((s : RuleTree) × Contains rules s × Reaches rules r.expr s × (of_rule s ≡ true)))

module _ (rules : List RuleTree) (of_rule : RuleTree → Bool) (passing : List Bool) (are : ArePassing rules of_rule passing) where
  pub chosen_more : (i : ℕ) (old new : List Bool) (on reads : Bool) → length old ≡ i → on ≡ get_or passing i false → TellsRead rules of_rule i reads → new ≡ old ++ (on || reads) ∷ [] → ChosenUpTo rules of_rule i old
      → ChosenUpTo rules of_rule (i + 1) new
  chosen_more i old new on reads count is tells e upto k r less at = by (cases_lt k i)
    where
      before : k < i → get_or new k false ≡ get_or old k false
      before h = ap (λ (l : List Bool). get_or l k false) e ∙ get_or_append_left old ((on || reads) ∷ []) false k (omega (arith, h, count))

      at_end : k ≡ i → get_or new k false ≡ (on || reads)
      at_end same = ap (λ (l : List Bool). get_or l k false) e ∙ ap (λ (n : ℕ). get_or (old ++ (on || reads) ∷ []) n false) (same ∙ sym count) ∙ get_or-append_seam old (on || reads) [] false

      by : (k < i) ⊎ (i ≤ k) → (get_or new k false ≡ true) ↔ ((of_rule r ≡ true) ⊎ ((s : RuleTree) × Contains rules s × Reaches rules r.expr s × (of_rule s ≡ true)))
      by (inl h) = (λ x. (upto k r h at).0 (sym (before h) ∙ x), λ x. before h ∙ (upto k r h at).1 x)
      by (inr h) =
          let same : k ≡ i = omega (arith, h, less) in
          let at_i : slice_get rules i ≡ Some r = ap (slice_get rules) (sym same) ∙ at in
          let own : on ≡ of_rule r = is ∙ are i r at_i in (
            λ x. elim (or_cases on reads (sym (at_end same) ∙ x)) [ inl a ↦ inl (sym own ∙ a) | inr b ↦ inr ((tells r at_i).0 b) ],
            λ x. at_end same ∙ elim x [ inl a ↦ or_left on reads (own ∙ a) | inr b ↦ or_right on reads ((tells r at_i).1 b) ],
          )

  pub chosen_all : (i : ℕ) (found : List Bool) → length rules ≤ i → ChosenUpTo rules of_rule i found → AreChosenBy rules of_rule found
  chosen_all i found end upto k r at = let w = slice_get_within rules k r at in upto k r (omega (arith, w, end)) at

-- a list of what is told of each rule
pub passing_by : (rules : List Rule) (test : RuleTree → Bool) (passing given : List Bool) → given ≡ passing → passing ≡ map (λ (r : Rule). test (rule_tree r)) rules → ArePassing (rule_trees rules) test given
passing_by rules test passing given same is k r at =
    ap (λ (l : List Bool). get_or l k false) (same ∙ is ∙ map_trees test rules)
    ∙ get_or_from_slice_get (map test (rule_trees rules)) k (test r) false (slice_get-map test (rule_trees rules) k ∙ ap (option_map test) at)
