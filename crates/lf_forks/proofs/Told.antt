-- What is marked tells which selectors are forks, or are made by one.
use Rattle.std.proofs.Common.{◌≡◌, ◌<◌, ◌+◌, ◌⊎◌, ◌↔◌, ℕ, Bool, true, false, cond, List, [], ◌∷◌, length, get_or, Option, Some, None, inl, inr, refl, sym, ◌∙◌, ap, subst, arith, true≢false}
use Rattle.std.specs.List.{Contains, flat_map}
use Rattle.std.proofs.Math.Path.{fun_ext}
use Rattle.std.proofs.lemmas.Bool.{cases_lt, false_from_ne_true}
use Rattle.std.proofs.lemmas.List.{get_or_past}
use Rattle.lf_laws.proofs.Members.{behind, first_or_behind, here, in_flat_map, none_in, of_flat_map, only_one}
use Rattle.lf_ast.specs.Labels.{Bytes}
use Rattle.lf_ast.specs.Rules.{RuleTree}
use Rattle.lf_ast.specs.Tree.{Tree}
use Rattle.lf_graph.specs.Paths.{IsReached}
use Rattle.lf_semantics.specs.Listing.{place}
use Rattle.lf_semantics.proofs.Places.{at_place}
use Rattle.lf_trials.specs.Forks.{has_own_fork, has_passing, is_forked_selector}
use Rattle.lf_trials.specs.Reached.{has_several_rules}
use Rattle.lf_forks.specs.views.ForkTests.{IsForkRule, SelectsFork, TellsSelectors}
use Rattle.lf_forks.specs.views.NameMarks.{Marks, NameMarks, has_mark}
use Rattle.lf_forks.specs.views.Uses.{AreOwn, AreUses, fork_nodes}
use Rattle.lf_forks.proofs.MadeByForks.{IsStart, all_reached, made_reached, reached_made}
use Rattle.lf_forks.proofs.Recorded.{placed, several_placed}
use Rattle.lf_deps.proofs.Ordered.{named_source}

module _ (rules : List RuleTree) (own : NameMarks) (is : AreOwn rules own) where
  -- the forks of the rules' own expressions are found

  own_test : (o : Option Bytes) → is_forked_selector rules o ≡ has_mark own o
  own_test None = sym is.without_name
  own_test (Some name) = elim (cases_lt (place own.names name) (length own.names)) [
    | inl h ↦ sym (is.marked (place own.names name) h ∙ ap (has_several_rules rules) (at_place own.names name h))
    | inr h ↦
        let past : get_or own.marked (place own.names name) false ≡ false = get_or_past own.marked (place own.names name) false (omega (arith, h, is.count)) in
        false_from_ne_true (has_several_rules rules name) (λ e. let w = several_placed rules own.names is.names name e in omega (arith, w, h)) ∙ sym past
  ]

  own_is : (e : Tree) → has_own_fork rules e ≡ has_passing (has_mark own) e
  own_is e = ap (λ (test : Option Bytes → Bool). has_passing test e) (fun_ext own_test)

  abbrev nodes : List ℕ
  nodes = flat_map (fork_nodes own) rules

  of_nodes : (r : RuleTree) (v : ℕ) → Contains rules r → Contains (fork_nodes own r) v → IsForkRule rules r × ((place own.names r.name ≡ v) ⊎ (length own.names ≡ v))
  of_nodes r v there c = by r.alert refl (has_passing (has_mark own) r.expr) refl c
    where
      by : (a : Bool) → r.alert ≡ a → (b : Bool) → has_passing (has_mark own) r.expr ≡ b → Contains (cond a [] (cond b (place own.names r.name ∷ length own.names ∷ []) [])) v
          → IsForkRule rules r × ((place own.names r.name ≡ v) ⊎ (length own.names ≡ v))
      by true e b f d = absurd (none_in v d)
      by false e false f d = absurd (none_in v d)
      by false e true f d = (
        record { rule = there; recording = e; fork = own_is r.expr ∙ f },
        elim (first_or_behind (place own.names r.name) (length own.names ∷ []) v d) [ inl g ↦ inl g | inr g ↦ inr (only_one (length own.names) v g) ],
      )

  in_nodes : (r : RuleTree) (v : ℕ) → IsForkRule rules r → ((place own.names r.name ≡ v) ⊎ (length own.names ≡ v)) → Contains (fork_nodes own r) v
  in_nodes r v fork at =
      let both : List ℕ = place own.names r.name ∷ length own.names ∷ [] in
      let P : Bool → Type 0 = λ a. Contains (cond a [] (cond (has_passing (has_mark own) r.expr) both [])) v in
      let Q : Bool → Type 0 = λ b. Contains (cond b both []) v in
      let R : ℕ → Type 0 = λ w. Contains both w in
      let it : Contains both v = elim at [
        | inl e ↦ subst R e (here (place own.names r.name) (length own.names ∷ []))
        | inr e ↦ subst R e (behind (place own.names r.name) (length own.names ∷ []) (length own.names) (here (length own.names) []))
      ] in
      subst P (sym fork.recording) (subst Q (sym (sym (own_is r.expr) ∙ fork.fork)) it)

  pub starts : IsStart rules own.names is.names nodes
  starts v = (
    λ c. let from = of_flat_map (fork_nodes own) rules v c in let it = of_nodes from.0 v from.1 from.2 in (from.0, it.0, it.1),
    λ f. in_flat_map (fork_nodes own) rules f.0 v f.1.rule (in_nodes f.0 v f.1 f.2),
  )

  pub starts_below : (v : ℕ) → Contains nodes v → v < length own.names + 1
  starts_below v c =
      let f = (starts v).0 c in
      let w = placed rules own.names is.names f.0 f.1.rule f.1.recording in
      elim f.2 [ inl e ↦ omega (arith, e, w) | inr e ↦ omega (arith, e) ]

  module _ (uses : List (List ℕ)) (are : AreUses rules own.names uses) (made : List ℕ) (reached : (v : ℕ) → Contains made v ↔ IsReached uses nodes v) where
    -- a selector of a name that isn't recorded is no fork
    fork_placed : (name : Bytes) → SelectsFork rules (Some name) → place own.names name < length own.names
    fork_placed name (inl several) = several_placed rules own.names is.names name several
    fork_placed name (inr (r, fork, inl same)) = subst (λ n. place own.names n < length own.names) same (placed rules own.names is.names r fork.rule fork.recording)
    fork_placed name (inr (r, fork, inr (s, there, (recording, same), reads))) = subst (λ n. place own.names n < length own.names) same (placed rules own.names is.names s there recording)

    some_made : (v : ℕ) → Contains made v → (r : RuleTree) × IsForkRule rules r
    some_made v c =
        let q = (reached v).0 c in
        let r = (starts q.0).0 q.1 in
        (r.0, r.1)

    made_some : (r : RuleTree) → IsForkRule rules r → Contains made (length own.names)
    made_some r fork = (reached (length own.names)).1 (all_reached rules own.names is.names uses are nodes starts r fork)

    pub tells : (m : NameMarks) → Marks made own m → TellsSelectors rules (has_mark m)
    tells m marks None = (
      λ t. elim (marks.without_name.0 t) [ inl e ↦ absurd (true≢false (sym e ∙ is.without_name)) | inr v ↦ some_made v.0 v.1 ],
      λ f. marks.without_name.1 (inr (length own.names, made_some f.0 f.1)),
    )
    tells m marks (Some name) =
        let k : ℕ = place own.names name in
        let same : has_mark m (Some name) ≡ get_or m.marked k false = ap (λ (l : List Bytes). get_or m.marked (place l name) false) marks.names in
        elim (cases_lt k (length own.names)) [
          | inl h ↦
              let marked = marks.marked k (omega (arith, h, is.count)) in
              let several : get_or own.marked k false ≡ has_several_rules rules name = is.marked k h ∙ ap (has_several_rules rules) (at_place own.names name h) in (
                λ t. elim (marked.0 (sym same ∙ t)) [
                  | inl e ↦ inl (sym several ∙ e)
                  | inr c ↦ inr (reached_made rules own.names is.names uses are nodes starts k ((reached k).0 c) (Some name) (named_source own.names name h))
                ],
                λ f. same ∙ marked.1 (elim f [
                  | inl e ↦ inl (several ∙ e)
                  | inr m ↦ inr ((reached k).1 (made_reached rules own.names is.names uses are nodes starts name m))
                ]),
              )
          | inr h ↦ (
            λ t.
                let past : get_or m.marked k false ≡ false = get_or_past m.marked k false (omega (arith, h, is.count, marks.count)) in
                absurd (true≢false (sym t ∙ same ∙ past)),
            λ f. let w = fork_placed name f in absurd (omega (arith, w, h)),
          )
        ]
