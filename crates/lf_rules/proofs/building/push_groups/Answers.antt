use Rattle.std.proofs.Common.{◌≡◌, ◌++◌, ℕ, suc, List, [], ◌∷◌, map, codes, sym, ap, ◌∙◌, subst, append_assoc}
use Rattle.lf_yaml.specs.Tree.{Tree, tree}
use Rattle.lf_rules.specs.Mappings.{given}
use Rattle.lf_rules.specs.reading.Files.{AreReadableGroups, tree_source, items_of, group_sources, groups_sources}
use Rattle.lf_rules.specs.Sources.{Source, source_in}
use Rattle.std.proofs.lemmas.List.{append-nil, nil_from_length}
use Rattle.lf_rules.proofs.building.push_groups.Goals as goal

step : (number next : ℕ) (t : Tree) (ts : List Tree) (before now whole : List Source) → next ≡ suc number → now ≡ before ++ group_sources number t → (before ++ groups_sources number (t ∷ ts)) ≡ whole → (now ++ groups_sources next ts) ≡ whole
unfolding groups_sources
step number next t ts before now whole n e h =
    ap (λ k. now ++ groups_sources k ts) n ∙ ap (λ w. w ++ groups_sources (suc number) ts) e ∙ append_assoc before (group_sources number t) (groups_sources (suc number) ts) ∙ h

ended : (number : ℕ) (now : List Source) → now ≡ (now ++ groups_sources number [])
unfolding groups_sources
ended number now = sym (append-nil now)

pub loop-group-preserved : goal.loop-group-preserved
loop-group-preserved c =
    let readable : AreReadableGroups (map tree (c.in-Some.group.now ∷ c.in-Some.others.now)) = subst (λ ns. AreReadableGroups (map tree ns)) c.in-Some.ensures.cases.0 c.loop-group.invariant.0 in (
      readable.1,
      step c.loop-group.number _ (tree c.in-Some.group.now) (map tree c.in-Some.others.now) (map source_in c.loop-group.rules) _ _ c.in_ok-number.ensures
          (c.in_ok-push_rules.ensures ∙ ap (λ ts. map source_in c.loop-group.rules ++ map (tree_source c.loop-group.number) ts) (c.items_at.ensures ∙ ap (λ es. items_of (given (codes "rules") es)) c.entries_of.ensures))
          (ap (λ ns. map source_in c.loop-group.rules ++ groups_sources c.loop-group.number (map tree ns)) (sym c.in-Some.ensures.cases.0) ∙ c.loop-group.invariant.1),
    )

pub returns : goal.returns
returns c =
    ended c.loop-group.number (map source_in c.loop-group.rules)
    ∙ ap (λ ns. map source_in c.loop-group.rules ++ groups_sources c.loop-group.number (map tree ns)) (sym (nil_from_length c.loop-group.rest.now c.in_default.ensures.cases))
    ∙ c.loop-group.invariant.1
