-- The row of an expression, and that of what a rule records, grow with the environment.
use Rattle.std.proofs.Common.{◌≡◌, ℕ, zero, suc, Bool, true, false, not, ◌&&◌, ◌||◌, cond, eqb, List, [], ◌∷◌, Option, Some, None, refl, sym, ◌∙◌, ap, subst}
use Rattle.std.specs.List.{AllByRecursion}
use Rattle.std.specs.Str.{bytes_eq}
use Rattle.lf_ast.specs.Functions.{Signature, aggregation, function_named}
use Rattle.lf_ast.specs.Labels.{Bytes}
use Rattle.lf_ast.specs.Rules.{RuleTree}
use Rattle.lf_ast.specs.Tree.{Tree, Trees, Number, Str, Selector, Subquery, Paren, Unary, Binary, Call, Aggregate, Nil, Next}
use Rattle.lf_ast.specs.declared.expr.Grouping.{Grouping}
use Rattle.lf_ast.specs.declared.expr.Grouping.TheVariants.{None as Ungrouped}
use Rattle.lf_ast.specs.declared.expr.Matcher.{Matcher}
use Rattle.lf_ast.specs.declared.rule.RuleLabel.{RuleLabel}
use Rattle.lf_ast.specs.Selectors.{selected_name, metric}
use Rattle.lf_semantics.specs.ClassRows.{HasShape, Sets, bottom, top}
use Rattle.lf_semantics.specs.Environments.{EnvironmentLeq, IsEnvironment, IsRow, Leq, recorded_row, rule_row, with_text, with_texts}
use Rattle.lf_semantics.specs.Listing.{IsListing, Listing, class_of, label_of}
use Rattle.lf_semantics.specs.Parts.{is_evaluated, is_scalar_part, operand_place, type_by_form}
use Rattle.lf_semantics.specs.RowTable.{Environment, bare_row, call_row, is_label, is_metric_label, is_recorded, passes_matchers, row_at, row_named, row_of, row_or_series, scraped_row, seen_row, selector_row, series_row, with_recorded}
use Rattle.lf_semantics.proofs.ConstructsGrow.{binary_grows, effect_grows, sign_grows}
use Rattle.lf_semantics.proofs.SamplesRepresented.{shape_with_text, shape_with_texts}
use Rattle.lf_semantics.proofs.RowLaws.{shape_bottom, shape_top}
use Rattle.lf_semantics.proofs.SelectorsRepresent.{shape_scraped, shape_seen, shape_with_recorded}
use Rattle.lf_semantics.proofs.Soundness.{shape_of_row, shape_of_row_at}
use Rattle.lf_semantics.proofs.LeqLaws.{leq_join, leq_narrowed, leq_refl, leq_replaced}

-- the rows of a name in two environments
abbrev pub OptionUnder : Option Sets → Option Sets → Type 0
OptionUnder None None = Unit {0}
OptionUnder (Some a) (Some b) = Leq a b
OptionUnder _ _ = ⊥

pub named_leq : (env other : Environment) (name : Bytes) → EnvironmentLeq env other → OptionUnder (row_named env name) (row_named other name)
named_leq [] [] name h = tt
named_leq [] (b ∷ other) name h = absurd h
named_leq (a ∷ env) [] name h = absurd h
named_leq (a ∷ env) (b ∷ other) name h =
    let P : Bytes → Type 0 = λ x. OptionUnder (cond (bytes_eq a.0 name) (Some a.1) (row_named env name)) (cond (bytes_eq x name) (Some b.1) (row_named other name)) in
    subst P h.0 (by (bytes_eq a.0 name) (named_leq env other name h.2))
  where
    by : (k : Bool) → OptionUnder (row_named env name) (row_named other name) → OptionUnder (cond k (Some a.1) (row_named env name)) (cond k (Some b.1) (row_named other name))
    by true rest = h.1
    by false rest = rest

module _ (u : Listing) where
  same_recorded : (env other : Environment) (label class : ℕ) → EnvironmentLeq env other → is_recorded u env label class ≡ is_recorded u other label class
  same_recorded [] [] label class h = refl
  same_recorded [] (b ∷ other) label class h = absurd h
  same_recorded (a ∷ env) [] label class h = absurd h
  same_recorded (a ∷ env) (b ∷ other) label class h =
      ap (λ (x : Bytes). eqb (class_of u label x) class || is_recorded u env label class) h.0
      ∙ ap (λ k. eqb (class_of u label b.0) class || k) (same_recorded env other label class h.2)

  scraped_grows : (env other : Environment) → EnvironmentLeq env other → Leq (scraped_row u env) (scraped_row u other)
  scraped_grows env other h =
      leq_replaced u (top u) (top u) (shape_top u) (shape_top u) (is_metric_label u) (λ label class. not (eqb class 0) && not (is_recorded u env label class)) (λ label class. not (eqb class 0) && not (is_recorded u other label class))
      (λ live l c e. sym (ap (λ b. not (eqb c 0) && not b) (same_recorded env other l c h)) ∙ e) (leq_refl (top u))

module _ (u : Listing) (p : IsListing u) (env other : Environment) (ok : IsEnvironment u env) (ok' : IsEnvironment u other) (h : EnvironmentLeq env other) where
  -- selectors

  with_recorded_grows : (first first' : Sets) (rows rows' : Environment) → HasShape u first → HasShape u first' → AllByRecursion (λ entry. IsRow u entry.1) rows → AllByRecursion (λ entry. IsRow u entry.1) rows'
      → Leq first first' → EnvironmentLeq rows rows' → Leq (with_recorded u rows first) (with_recorded u rows' first')
  with_recorded_grows first first' [] [] s t k l leq g = leq
  with_recorded_grows first first' [] (b ∷ rows') s t k l leq g = absurd g
  with_recorded_grows first first' (a ∷ rows) [] s t k l leq g = absurd g
  with_recorded_grows first first' (a ∷ rows) (b ∷ rows') s t k l leq g =
      leq_join u (with_recorded u rows first) a.1 (with_recorded u rows' first') b.1 (shape_with_recorded u p other ok' first' rows' t l.1) l.0.0 (with_recorded_grows first first' rows rows' s t k.1 l.1 leq g.2) g.1

  named_grows : (name : Bytes) (a b : Option Sets) → OptionUnder a b → Leq (row_or_series u a name) (row_or_series u b name)
  named_grows name None None k = leq_refl (series_row u name)
  named_grows name (Some a) (Some b) k = k
  named_grows name None (Some b) k = absurd k
  named_grows name (Some a) None k = absurd k

  seen_grows : (o : Option Bytes) → Leq (seen_row u env o) (seen_row u other o)
  seen_grows (Some name) = named_grows name (row_named env name) (row_named other name) (named_leq env other name h)
  seen_grows None =
      with_recorded_grows (scraped_row u env) (scraped_row u other) env other (shape_scraped u p env ok) (shape_scraped u p other ok') ok.rows ok'.rows (scraped_grows u env other h) h

  selector_grows : (name : Option Bytes) (matchers : List Matcher) → Leq (selector_row u env name matchers) (selector_row u other name matchers)
  selector_grows name matchers =
      let o : Option Bytes = selected_name name matchers in
      leq_narrowed u (seen_row u env o) (seen_row u other o) (shape_seen u p env ok o) (shape_seen u p other ok' o) (passes_matchers u matchers) (passes_matchers u matchers) (λ live l c e. e) (seen_grows o)

  -- expressions

  call_grows : (o : Option Signature) (grouping : Grouping) (args : Trees) → ((k : ℕ) → Leq (row_at u env args k) (row_at u other args k))
      → Leq (call_row u o grouping args (row_at u env args)) (call_row u o grouping args (row_at u other args))
  call_grows None grouping args each = leq_refl (bottom u)
  call_grows (Some s) grouping args each =
      let k : ℕ = operand_place s in
      effect_grows u p (row_at u env args k) (row_at u other args k) (shape_of_row_at u p env ok args k) (shape_of_row_at u p other ok' args k) (each k) s.labels grouping args

  mutual
    pub row_grows : (e : Tree) → Leq (row_of u env e) (row_of u other e)
    row_grows (Number text span) = leq_refl (bare_row u)
    row_grows (Str text span) = leq_refl (bottom u)
    row_grows (Selector name matchers sight span) = selector_grows name matchers
    row_grows (Subquery of sight span) = row_grows of
    row_grows (Paren of span) = row_grows of
    row_grows (Unary minus of span) = sign_grows u p (row_of u env of) (row_of u other of) (shape_of_row u p env ok of) (shape_of_row u p other ok' of) (row_grows of) minus
    row_grows (Binary op m left right span) =
        binary_grows u p (row_of u env left) (row_of u other left) (row_of u env right) (row_of u other right) (shape_of_row u p env ok left) (shape_of_row u p other ok' left) (row_grows left)
        (shape_of_row u p env ok right) (shape_of_row u p other ok' right) (row_grows right) op m (is_scalar_part left) (is_scalar_part right)
    row_grows (Call name args span) = call_grows (function_named name) Ungrouped args (argument_grows args)
    row_grows (Aggregate op grouping args span) = call_grows (Some (aggregation op)) grouping args (argument_grows args)

    argument_grows : (args : Trees) (k : ℕ) → Leq (row_at u env args k) (row_at u other args k)
    argument_grows Nil k = leq_refl (bottom u)
    argument_grows (Next x xs) zero = row_grows x
    argument_grows (Next x xs) (suc k) = argument_grows xs k

  -- rules

  rule_row_grows : (r : RuleTree) → Leq (rule_row u env r) (rule_row u other r)
  rule_row_grows r = by (is_evaluated (type_by_form r.expr))
    where
      by : (b : Bool) → Leq (cond b (row_of u env r.expr) (bottom u)) (cond b (row_of u other r.expr) (bottom u))
      by true = row_grows r.expr
      by false = leq_refl (bottom u)

  with_text_grows : (name text : Bytes) (row row' : Sets) → HasShape u row → HasShape u row' → Leq row row' → Leq (with_text u name text row) (with_text u name text row')
  with_text_grows name text row row' s s' leq =
      let test : ℕ → ℕ → Bool = λ l c. eqb c (class_of u (label_of u name) text) in
      leq_replaced u row row' s s' (is_label u name) test test (λ live l c e. e) leq

  with_texts_grows : (labels : List RuleLabel) (row row' : Sets) → HasShape u row → HasShape u row' → Leq row row' → Leq (with_texts u labels row) (with_texts u labels row')
  with_texts_grows [] row row' s s' leq = leq
  with_texts_grows (l ∷ labels) row row' s s' leq =
      with_text_grows l.key l.value (with_texts u labels row) (with_texts u labels row') (shape_with_texts u p labels row s) (shape_with_texts u p labels row' s') (with_texts_grows labels row row' s s' leq)

  shape_rule_row : (env : Environment) → ((e : Tree) → HasShape u (row_of u env e)) → (r : RuleTree) → HasShape u (rule_row u env r)
  shape_rule_row env shape r = elim (is_evaluated (type_by_form r.expr)) as (λ b. HasShape u (cond b (row_of u env r.expr) (bottom u))) [ true ↦ shape r.expr | false ↦ shape_bottom u ]

  -- the row of what a rule records grows too
  pub recorded_grows : (r : RuleTree) → Leq (recorded_row u env r) (recorded_row u other r)
  recorded_grows r =
      let here : HasShape u (rule_row u env r) = shape_rule_row env (shape_of_row u p env ok) r in
      let there : HasShape u (rule_row u other r) = shape_rule_row other (shape_of_row u p other ok') r in
      with_texts_grows r.labels (with_text u metric r.name (rule_row u env r)) (with_text u metric r.name (rule_row u other r)) (shape_with_text u p metric r.name (rule_row u env r) here)
      (shape_with_text u p metric r.name (rule_row u other r) there) (with_text_grows metric r.name (rule_row u env r) (rule_row u other r) here there (rule_row_grows r))
