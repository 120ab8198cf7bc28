-- The names that rules record, one rule after another.
use Rattle.std.proofs.Common.{◌≡◌, ℕ, ◌+◌, ◌<◌, ◌≤◌, Bool, true, false, cond, nat_lt, List, [], ◌∷◌, ◌++◌, length, take, get_or, refl, ◌∙◌, ap, sym, arith, length-append}
use Rattle.std.proofs.lemmas.List.{map-append, take_more}
use Rattle.lf_ast.specs.Labels.{Bytes}
use Rattle.lf_ast.specs.Rules.{RuleTree, rule_tree, rule_trees}
use Rattle.lf_ast.specs.declared.rule.Rule.{Rule}
use Rattle.lf_classes.specs.views.TextSets.{with_text}
use Rattle.lf_semantics.specs.Environments.{names_recorded, recorded_names}
use Rattle.lf_semantics.specs.Listing.{first_seen, place}
use Rattle.lf_classes.proofs.Seen.{first_seen-push}

names_more : (rules : List RuleTree) (r : RuleTree) → names_recorded (rules ++ r ∷ []) ≡ cond r.alert (names_recorded rules) (names_recorded rules ++ r.name ∷ [])
names_more [] r = refl
names_more (x ∷ rules) r = by x.alert r.alert (names_more rules r)
  where
    by : (a b : Bool) → names_recorded (rules ++ r ∷ []) ≡ cond b (names_recorded rules) (names_recorded rules ++ r.name ∷ [])
        → cond a (names_recorded (rules ++ r ∷ [])) (x.name ∷ names_recorded (rules ++ r ∷ []))
        ≡ cond b (cond a (names_recorded rules) (x.name ∷ names_recorded rules)) (cond a (names_recorded rules) (x.name ∷ names_recorded rules) ++ r.name ∷ [])
    by true true e = e
    by true false e = e
    by false true e = ap (λ (xs : List Bytes). x.name ∷ xs) e
    by false false e = ap (λ (xs : List Bytes). x.name ∷ xs) e

-- one more rule
pub recorded_more : (rules : List RuleTree) (r : RuleTree) → recorded_names (rules ++ r ∷ []) ≡ cond r.alert (recorded_names rules) (with_text (recorded_names rules) r.name)
recorded_more rules r = ap first_seen (names_more rules r) ∙ by r.alert
  where
    by : (b : Bool) → first_seen (cond b (names_recorded rules) (names_recorded rules ++ r.name ∷ [])) ≡ cond b (first_seen (names_recorded rules)) (with_text (first_seen (names_recorded rules)) r.name)
    by true = refl
    by false = first_seen-push (names_recorded rules) r.name

-- the names are those that rules record, and no more than the rules
pub record AreRecorded (names : List Bytes) (rules : List RuleTree) : Type 0 where
  pub are : names ≡ recorded_names rules
  pub few : length names ≤ length rules

few_more : (names : List Bytes) (alert : Bool) (name : Bytes) → length (cond alert names (with_text names name)) ≤ length names + 1
few_more names true name = omega arith
few_more names false name =
    elim (nat_lt (place names name) (length names)) as (λ b. length (cond b names (names ++ name ∷ [])) ≤ length names + 1) [
      | true ↦ omega arith
      | false ↦ omega (arith, length-append names (name ∷ []))
    ]

pub recorded_next : (names after : List Bytes) (rules : List Rule) (i : ℕ) (r : Rule) → i < length rules → r ≡ get_or rules i r → after ≡ cond r.alert names (with_text names r.name) → AreRecorded names (rule_trees (take i rules))
    → AreRecorded after (rule_trees (take (i + 1) rules))
recorded_next names after rules i r h is put before =
    let before_all = rule_trees (take i rules) in
    let more : before_all ++ rule_tree r ∷ [] ≡ rule_trees (take (i + 1) rules) =
    sym (map-append rule_tree (take i rules) (r ∷ [])) ∙ ap (λ (x : Rule). rule_trees (take i rules ++ x ∷ [])) is ∙ ap rule_trees (sym (take_more rules i r h)) in
    let long : length (rule_trees (take (i + 1) rules)) ≡ length before_all + 1 = sym (ap length more) ∙ length-append before_all (rule_tree r ∷ []) in
    let size = ap length put in
    record {
      are = put ∙ ap (λ (l : List Bytes). cond r.alert l (with_text l r.name)) before.are ∙ sym (recorded_more before_all (rule_tree r)) ∙ ap recorded_names more;
      few = omega (arith, size, few_more names r.alert r.name, before.few, long);
    }
