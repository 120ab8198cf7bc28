-- The rules of a file have its number, and their templates have sources.
use Rattle.std.proofs.Common.{◌≡◌, inl, inr, ℕ, ◌+◌, true, false, Bool, cond, List, [], ◌∷◌, ◌++◌, map, length, sym, ap, subst}
use Rattle.std.specs.List.{AllByRecursion, AllZip, Contains}
use Rattle.std.specs.List.Sorted.{IsNonDecreasing}
use Rattle.lf_ast.specs.Labels.{Bytes}
use Rattle.lf_ast.specs.Rules.{RuleTree}
use Rattle.lf_ast.specs.declared.rule.Template.{Template}
use Rattle.lf_laws.proofs.Members.{each_member, first_or_behind, map_member, none_in}
use Rattle.lf_rules.specs.Sources.{Setting, SettingInside, Source, SourceInside, SourcesInside}
use Rattle.lf_rules.proofs.Spans.{sources_inside}
use Rattle.lf_yaml.proofs.InsideTrees.{tree_inside}
use Rattle.lf_accept.specs.Accepted.{IsAccepted, IsAcceptedRule, template_of, templates_of}

-- the text of a template has a source for each byte and for its end, and these never fall
abbrev pub HasSource : Template → Type 0
HasSource t = (length t.from ≡ length t.text + 1) × IsNonDecreasing t.from

both_inside : (n : ℕ) (ss others : List Setting) → AllByRecursion (SettingInside n) ss → AllByRecursion (SettingInside n) others → AllByRecursion (SettingInside n) (ss ++ others)
both_inside n [] others h k = k
both_inside n (s ∷ ss) others h k = (h.0, both_inside n ss others h.1 k)

of_setting : (n : ℕ) (s : Setting) → SettingInside n s → HasSource (template_of s)
of_setting n s h = (h.1.1.0, h.1.1.1)

of_settings : (n : ℕ) (ss : List Setting) → AllByRecursion (SettingInside n) ss → (t : Template) → Contains (map template_of ss) t → HasSource t
of_settings n ss h t c =
    let found = map_member template_of ss t c in
    subst HasSource (sym found.2) (of_setting n found.0 (each_member (SettingInside n) ss found.0 h found.1))

of_source : (n : ℕ) (s : Source) → SourceInside n s → (t : Template) → Contains (templates_of s) t → HasSource t
of_source n s h = by s.alert
  where
    by : (alert : Bool) → (t : Template) → Contains (cond alert (map template_of (s.labels ++ s.annotations)) []) t → HasSource t
    by true t c = of_settings n (s.labels ++ s.annotations) (both_inside n s.labels s.annotations h.labels h.annotations) t c
    by false t c = absurd (none_in t c)

-- what is so of a rule of the file with this number
abbrev pub IsSourced : ℕ → RuleTree → Type 0
IsSourced file r = (r.file ≡ file) × ((t : Template) → Contains r.templates t → HasSource t)

of_rule : (n file : ℕ) (s : Source) (r : RuleTree) → SourceInside n s → IsAcceptedRule file s r → IsSourced file r
of_rule n file s r h is =
    let templates : r.templates ≡ templates_of s = ap (λ x. x.templates) is.1 in
    (ap (λ x. x.file) is.1, λ t c. of_source n s h t (subst (λ (ts : List Template). Contains ts t) templates c))

of_rules : (n file : ℕ) (ss : List Source) (rs : List RuleTree) → SourcesInside n ss → AllZip (IsAcceptedRule file) ss rs → (r : RuleTree) → Contains rs r → IsSourced file r
of_rules n file [] [] h are r c = absurd (none_in r c)
of_rules n file [] (x ∷ rs) h are r c = absurd are
of_rules n file (s ∷ ss) [] h are r c = absurd are
of_rules n file (s ∷ ss) (x ∷ rs) h are r c = elim (first_or_behind x rs r c) [
  | inl e ↦ subst (IsSourced file) e (of_rule n file s x h.0 are.0)
  | inr d ↦ of_rules n file ss rs h.1 are.1 r d
]

pub sourced : (bytes : Bytes) (file : ℕ) (rules : List RuleTree) → IsAccepted bytes file rules → (r : RuleTree) → Contains rules r → IsSourced file r
sourced bytes file rules a = of_rules (length bytes) file a.sources rules (sources_inside (length bytes) a.says.0 a.sources (tree_inside bytes a.says.0 a.says.1) a.says.2) a.are_rules
