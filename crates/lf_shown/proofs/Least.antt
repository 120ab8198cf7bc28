-- What the least environment holds: nothing that some narrower environment, which is a post-fixed point too, doesn't hold; so each class of a name's row is one of what its rules
-- store.
use Rattle.std.proofs.Common.{◌≡◌, ◌<◌, ℕ, Bool, true, false, not, ◌&&◌, cond, List, [], ◌∷◌, map, Option, Some, None, refl, sym, ◌∙◌, ap, subst}
use Rattle.std.proofs.lemmas.Bool.{not-true}
use Rattle.std.specs.List.{AllByRecursion, Contains, list_any}
use Rattle.std.specs.Str.{bytes_eq}
use Rattle.lf_laws.proofs.Booleans.{and_left, and_right}
use Rattle.lf_laws.proofs.Members.{any_has, same_true, some_has, true_same}
use Rattle.lf_ast.specs.Labels.{Bytes}
use Rattle.lf_ast.specs.Rules.{RuleTree}
use Rattle.lf_semantics.specs.ClassRows.{HasShape, Sets, holds, is_live, narrowed, remade}
use Rattle.lf_semantics.specs.Environments.{records, EnvironmentLeq, IsEnvironment, IsEnvironmentOf, IsLeast, IsPostFixedPoint, IsRow, Leq, recorded_row}
use Rattle.lf_semantics.specs.Listing.{IsListing, Listing, class_of, label_of, other_class}
use Rattle.lf_ast.specs.Selectors.{metric}
use Rattle.lf_semantics.specs.RowTable.{Environment, row_named}
use Rattle.lf_semantics.proofs.LeqLaws.{leq_trans, live_more, normalized_live, same_length}
use Rattle.lf_semantics.proofs.NormalizedRows.{normalized_narrowed, recorded_row_is}
use Rattle.lf_semantics.proofs.RowLaws.{shape_narrowed, shape_remade}
use Rattle.lf_semantics.proofs.RowsGrow.{OptionUnder, named_leq, recorded_grows}
use Rattle.lf_deps.specs.Reading.{Records}
use Rattle.lf_shown.proofs.Rows.{Held, in_remade, narrowed_held, narrowed_passes, narrowed_was_live}

-- a row lies in a narrower one if it lies in the row and each of its classes passes
leq_into : (u : Listing) (test : ℕ → ℕ → Bool) (x row : Sets) → HasShape u x → HasShape u row → Leq x row → (is_live x ≡ true → (l c : ℕ) → Held x l c → test l c ≡ true) → Leq x (narrowed test row)
leq_into u test x row s t leq passes live =
    let g = leq live in
    let new : Sets = remade (λ l c on. on && test l c) row in
    let each : (l c : ℕ) → Held x l c → Held new l c = λ l c h. in_remade (λ l c on. on && test l c) row l c (g.1 l c h) (passes live l c h) in
    let is : is_live new ≡ true = live_more x new (same_length u x new s (shape_remade (λ l c on. on && test l c) 0 row ∙ t)) each live in
    let same : narrowed test row ≡ new = normalized_live new is in
    (ap is_live same ∙ is, λ l c h. subst (λ y. Held y l c) (sym same) (each l c h))

leq_narrower : (test : ℕ → ℕ → Bool) (row : Sets) → Leq (narrowed test row) row
leq_narrower test row live = (narrowed_was_live test row live, λ l c h. narrowed_held test row live l c h)

-- ---- environments, narrowed

module _ (test : Bytes → ℕ → ℕ → Bool) where
  abbrev pub narrower : Environment → Environment
  narrower env = map (λ (entry : Bytes × Sets). (entry.0, narrowed (test entry.0) entry.1)) env

  narrower_leq : (env : Environment) → EnvironmentLeq (narrower env) env
  narrower_leq [] = tt
  narrower_leq (entry ∷ env) = (refl, leq_narrower (test entry.0) entry.1, narrower_leq env)

  narrower_names : (env : Environment) → map (λ (entry : Bytes × Sets). entry.0) (narrower env) ≡ map (λ (entry : Bytes × Sets). entry.0) env
  narrower_names [] = refl
  narrower_names (entry ∷ env) = ap (λ xs. entry.0 ∷ xs) (narrower_names env)

  pub narrower_row : (env : Environment) (n : Bytes) (row : Sets) → row_named env n ≡ Some row → row_named (narrower env) n ≡ Some (narrowed (test n) row)
  narrower_row [] n row e = absurd (cc)
  narrower_row (entry ∷ env) n row e = by (bytes_eq entry.0 n) refl e (narrower_row env n row)
    where
      by : (b : Bool) → bytes_eq entry.0 n ≡ b → cond b (Some entry.1) (row_named env n) ≡ Some row → (row_named env n ≡ Some row → row_named (narrower env) n ≡ Some (narrowed (test n) row))
          → cond b (Some (narrowed (test entry.0) entry.1)) (row_named (narrower env) n) ≡ Some (narrowed (test n) row)
      by true is e rest = let q : entry.1 ≡ row = cc in ap (λ x. Some (narrowed (test x) entry.1)) (true_same entry.0 n is) ∙ ap (λ r. Some (narrowed (test n) r)) q
      by false is e rest = rest e

  module _ (u : Listing) where
    narrower_rows : (env : Environment) → AllByRecursion (λ (entry : Bytes × Sets). IsRow u entry.1) env → AllByRecursion (λ (entry : Bytes × Sets). IsRow u entry.1) (narrower env)
    narrower_rows [] rows = tt
    narrower_rows (entry ∷ env) rows = ((shape_narrowed (test entry.0) entry.1 ∙ rows.0.0, normalized_narrowed (test entry.0) entry.1), narrower_rows env rows.1)

    narrower_classes : (env : Environment) → AllByRecursion (λ (entry : Bytes × Sets). class_of u (label_of u metric) entry.0 < other_class u (label_of u metric)) env
        → AllByRecursion (λ (entry : Bytes × Sets). class_of u (label_of u metric) entry.0 < other_class u (label_of u metric)) (narrower env)
    narrower_classes [] classes = tt
    narrower_classes (entry ∷ env) classes = (classes.0, narrower_classes env classes.1)

    module _ (p : IsListing u) (rules : List RuleTree) (env : Environment) (least : IsLeast u rules env) where
      pub narrower_is : IsEnvironment u (narrower env)
      narrower_is = record { rows = narrower_rows env least.of_rules.environment.rows; classes = narrower_classes env least.of_rules.environment.classes }

      -- each class of the row of a name passes, if each class passes of what a rule stores over the narrower rows
      module _ (passes : (r : RuleTree) → Contains rules r → r.alert ≡ false → is_live (recorded_row u (narrower env) r) ≡ true → (l c : ℕ) → Held (recorded_row u (narrower env) r) l c → test r.name l c ≡ true) where
        closed : IsPostFixedPoint u rules (narrower env)
        closed r c recording =
            let old = least.closed r c recording in
            let grows = recorded_grows u p (narrower env) env narrower_is least.of_rules.environment (narrower_leq env) r in
            let shape = (Rattle.lf_shown.proofs.Recorded.named_row u env r.name old.0 least.of_rules.environment.rows old.1).0 in (
              narrowed (test r.name) old.0,
              narrower_row env r.name old.0 old.1,
              leq_into u (test r.name) (recorded_row u (narrower env) r) old.0 (recorded_row_is u p (narrower env) narrower_is r).0 shape (leq_trans (recorded_row u (narrower env) r) (recorded_row u env r) old.0 grows old.2) (passes r c recording),
            )

        of_rules : IsEnvironmentOf u rules (narrower env)
        of_rules = record { environment = narrower_is; names = narrower_names env ∙ least.of_rules.names }

        pub all_pass : (n : Bytes) (row : Sets) → row_named env n ≡ Some row → is_live row ≡ true → (l c : ℕ) → Held row l c → test n l c ≡ true
        all_pass n row is live l c held =
            let under : OptionUnder (row_named env n) (row_named (narrower env) n) = named_leq env (narrower env) n (least.least (narrower env) of_rules closed) in
            let leq : Leq row (narrowed (test n) row) = by (row_named env n) is (row_named (narrower env) n) (narrower_row env n row is) under in
            let g = leq live in
            narrowed_passes (test n) row g.0 l c (g.1 l c held)
          where
            by : (o : Option Sets) → o ≡ Some row → (q : Option Sets) → q ≡ Some (narrowed (test n) row) → OptionUnder o q → Leq row (narrowed (test n) row)
            by None e q f h = absurd (cc)
            by (Some a) e None f h = absurd (cc)
            by (Some a) e (Some b) f h = let x : a ≡ row = cc in let y : b ≡ narrowed (test n) row = cc in subst (λ z. Leq row z) y (subst (λ z. Leq z b) x h)

      pub narrower_below : EnvironmentLeq (narrower env) env
      narrower_below = narrower_leq env

-- ---- each class of a name's row is one of what a rule of the name stores

module _ (u : Listing) (p : IsListing u) (rules : List RuleTree) (env : Environment) (least : IsLeast u rules env) where
  stored_by : Bytes → ℕ → ℕ → RuleTree → Bool
  stored_by n l c r = records n r && (is_live (recorded_row u env r) && holds (recorded_row u env r) l c)

  some_stores : Bytes → ℕ → ℕ → Bool
  some_stores n l c = list_any (stored_by n l c) rules

  pub is_union : (n : Bytes) (row : Sets) → row_named env n ≡ Some row → is_live row ≡ true → (l c : ℕ) → Held row l c → (r : RuleTree) × Contains rules r × Records r n × (is_live (recorded_row u env r) ≡ true) × Held (recorded_row u env r) l c
  unfolding some_stores stored_by
  is_union n row is live l c held =
      let passes : (r : RuleTree) → Contains rules r → r.alert ≡ false → is_live (recorded_row u (narrower some_stores env) r) ≡ true → (l c : ℕ) → Held (recorded_row u (narrower some_stores env) r) l c → some_stores r.name l c ≡ true = λ r there recording live l c h.
      let g = recorded_grows u p (narrower some_stores env) env (narrower_is some_stores u p rules env least) least.of_rules.environment (narrower_below some_stores u p rules env least) r live in
      any_has (stored_by r.name l c) rules r there (rw (recording, same_true r.name r.name refl, g.0, g.1 l c h) refl) in
      let found = some_has (stored_by n l c) rules (all_pass some_stores u p rules env least passes n row is live l c held) in
      let a = and_left (records n found.0) (is_live (recorded_row u env found.0) && holds (recorded_row u env found.0) l c) found.2 in
      let b = and_right (records n found.0) (is_live (recorded_row u env found.0) && holds (recorded_row u env found.0) l c) found.2 in (
        found.0,
        found.1,
        (not-true found.0.alert (and_left (not found.0.alert) (bytes_eq found.0.name n) a), true_same found.0.name n (and_right (not found.0.alert) (bytes_eq found.0.name n) a)),
        and_left (is_live (recorded_row u env found.0)) _ b,
        and_right (is_live (recorded_row u env found.0)) _ b,
      )
