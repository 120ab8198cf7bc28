-- What is built for an expression without open constructs gives one sample: by induction over the expression, and over the rules that aren't marked.
use Rattle.std.proofs.Common.{◌≡◌, ◌≤◌, ◌<◌, inl, inr, ℕ, Bool, true, false, ◌&&◌, cond, List, [], ◌∷◌, ◌++◌, Option, Some, None, refl, sym, subst}
use Rattle.std.specs.List.{AllByRecursion}
use Rattle.std.specs.Str.{bytes_eq}
use Rattle.lf_laws.proofs.Booleans.{clash}
use Rattle.lf_laws.proofs.Members.{here, only_one, true_same}
use Rattle.lf_ast.specs.Functions.{Signature}
use Rattle.lf_ast.specs.Labels.{Bytes, Labels}
use Rattle.lf_ast.specs.Rules.{RuleTree}
use Rattle.lf_ast.specs.Selectors.{first_equal_name, is_equal, metric, selected_name}
use Rattle.lf_ast.specs.Tree.{Trees}
use Rattle.lf_ast.specs.Types.{is_scalar}
use Rattle.lf_ast.specs.declared.expr.ExprType.TheVariants.{Scalar, Vector}
use Rattle.lf_ast.specs.declared.expr.Grouping.{Grouping}
use Rattle.lf_ast.specs.declared.expr.Matcher.{Matcher}
use Rattle.lf_ast.specs.declared.expr.MatchOp.{MatchOp}
use Rattle.lf_ast.specs.declared.expr.MatchOp.TheVariants.{Equal, NotEqual, Matches, NotMatches}
use Rattle.lf_ast.specs.declared.expr.Matching.{Matching}
use Rattle.lf_ast.specs.declared.expr.Op.{Op}
use Rattle.lf_ast.specs.declared.functions.LabelEffect.{LabelEffect}
use Rattle.lf_semantics.specs.ClassRows.{Sets}
use Rattle.lf_semantics.specs.Environments.{IsKnown}
use Rattle.lf_semantics.specs.Evaluation.{IsBare, bare}
use Rattle.lf_semantics.specs.Listing.{IsListing, Listing, class_of, label_of, other_class}
use Rattle.lf_semantics.specs.Mentions.{matchers_mentions, name_mentions}
use Rattle.lf_semantics.specs.Parts.{given_by, operand_place}
use Rattle.lf_semantics.specs.RowTable.{bare_row, binary_row, call_row, effect_row}
use Rattle.lf_semantics.proofs.EffectsRepresent.{shape_bare}
use Rattle.lf_semantics.proofs.ScalarCalls.{IsBareIfScalar}
use Rattle.lf_witness.specs.Strict.{IsSet, Outcomes, StrictBinary, StrictCall, StrictEffect}
use Rattle.lf_trials.specs.Building.{Builder, nothing}
use Rattle.lf_trials.specs.Given.{Given}
use Rattle.lf_trials.specs.Matched.{build_binary}
use Rattle.lf_trials.specs.Operands.{build_call, build_effect}
use Rattle.lf_shown.specs.Agreement.{MetricNames}
use Rattle.lf_shown.specs.Silence.{binary_can_be_silent, call_can_be_silent, effect_can_be_silent}
use Rattle.lf_shown.proofs.Choices.{IsSmall}
use Rattle.lf_shown.proofs.Made.{Answers, IsMade, IsRaw, answers_bare}
use Rattle.lf_shown.proofs.Worlds.{gives_more}

-- ---- what is made more loosely

module _ (u : Listing) (rules : List RuleTree) where
  pub answers_more : (row : Sets) (Read More : MetricNames) (count most : ℕ) (f : List Labels → Outcomes) (made : Option _) (D : Given) → ((n : Bytes) → Read n → More n) → count ≤ most → Answers u rules row Read count f made D → Answers u rules row More most f made D
  answers_more row Read More count most f made D into less a = record {
    building = a.building;
    is_built = a.is_built;
    one = a.one;
    represented = a.represented;
    full = a.full;
    within = a.within;
    agrees = a.agrees;
    gives = gives_more rules Read More count most a.building f a.one into less a.gives;
  }

  pub made_more : (row : Sets) (Read More : MetricNames) (count most : ℕ) (f : List Labels → Outcomes) (b : Builder) (fork other silent : Bool) → ((n : Bytes) → Read n → More n) → count ≤ most → (other ≡ false → fork ≡ false)
      → IsMade u rules row Read count f b fork silent → IsMade u rules row More most f b other silent
  made_more row Read More count most f b fork other silent into less forks made = record {
    shape = made.shape;
    answers = λ D h either. answers_more row Read More count most f (b D) D into less (made.answers D h (elim either [ inl e ↦ inl (forks e) | inr few ↦ inr few ]));
    is_silent = λ e W lacks. made.is_silent e W (λ s c read. lacks s c (into _ read));
  }

-- ---- scalars

module _ (u : Listing) (rules : List RuleTree) (p : IsListing u) (small : IsSmall u) where
  -- no label
  pub bare_raw : (Read : MetricNames) (count : ℕ) (fork : Bool) → IsRaw u rules (bare_row u) Read count (λ X. IsSet IsBare) (λ D. nothing) fork false
  bare_raw Read count fork = record {
    shape = shape_bare u p;
    answers = λ D h either. answers_bare u rules p small Read count (λ X. IsSet IsBare) D h (λ X. (here bare [], λ r c. sym (only_one bare r c)));
    is_silent = λ e W lacks. absurd (clash _ e refl);
  }

  pub bare_call : (Read : MetricNames) (count : ℕ) (fork : Bool) (o : Option Signature) → ((s : Signature) → o ≡ Some s → IsBareIfScalar s) → is_scalar (given_by o) ≡ true → (grouping : Grouping) (args : Trees) (rows : ℕ → Sets) (outcomes : List Labels → ℕ → Outcomes)
      (b : ℕ → Builder) (silent : ℕ → Bool) → IsRaw u rules (call_row u o grouping args rows) Read count (λ X. StrictCall o grouping args (outcomes X)) (build_call o grouping args b) fork (call_can_be_silent o args silent)
  bare_call Read count fork None bare e grouping args rows outcomes b silent = absurd (cc)
  bare_call Read count fork (Some s) bare e grouping args rows outcomes b silent =
      let k = operand_place s in
      subst (λ (effect : LabelEffect). IsRaw u rules (effect_row u effect grouping args (rows k)) Read count (λ X. StrictEffect effect grouping args (outcomes X k)) (build_effect effect grouping args (b k)) fork (effect_can_be_silent effect args (silent k)))
      (sym (bare s refl e)) (bare_raw Read count fork)

  pub bare_binary : (Read : MetricNames) (count : ℕ) (fork : Bool) (op : Op) (m : Matching) (x y : Bool) → is_scalar (cond (x && y) Scalar Vector) ≡ true → (left right : Sets) (f g : List Labels → Outcomes) (bl br : Builder) (a b : Bool)
      → IsRaw u rules (binary_row u op m x y left right) Read count (λ X. StrictBinary op m x y (f X) (g X)) (build_binary u op m x y left right bl br) fork (binary_can_be_silent x y a b)
  bare_binary Read count fork op m true true e left right f g bl br a b = bare_raw Read count fork
  bare_binary Read count fork op m true false e left right f g bl br a b = absurd (cc)
  bare_binary Read count fork op m false true e left right f g bl br a b = absurd (cc)
  bare_binary Read count fork op m false false e left right f g bl br a b = absurd (cc)

-- ---- the name that a selector says is known

module _ (u : Listing) where
  abbrev IsOwn : Bytes → Type 0
  IsOwn n = class_of u (label_of u metric) n < other_class u (label_of u metric)

  first_known : (matchers : List Matcher) (n : Bytes) → AllByRecursion (IsKnown u) (matchers_mentions matchers) → first_equal_name matchers ≡ Some n → IsOwn n
  first_known [] n known e = absurd (cc)
  first_known (m ∷ matchers) n known e = by m.op refl (bytes_eq m.label metric) refl e (first_known matchers n known.1)
    where
      equal : m.op ≡ Equal → bytes_eq m.label metric ≡ true → Some m.value ≡ Some n → IsOwn n
      equal is same f =
          let q : m.value ≡ n = cc in
          let all : AllByRecursion (λ text. class_of u (label_of u m.label) text < other_class u (label_of u m.label)) (Rattle.lf_semantics.specs.Mentions.matcher_texts Equal m.value) =
          subst (λ op. AllByRecursion (λ text. class_of u (label_of u m.label) text < other_class u (label_of u m.label)) (Rattle.lf_semantics.specs.Mentions.matcher_texts op m.value)) is known.0.1 in
          let here : class_of u (label_of u metric) m.value < other_class u (label_of u metric) = subst (λ x. class_of u (label_of u x) m.value < other_class u (label_of u x)) (true_same m.label metric same) all.0 in
          subst IsOwn q here

      by : (op : MatchOp) → m.op ≡ op → (b : Bool) → bytes_eq m.label metric ≡ b → cond (is_equal op && b) (Some m.value) (first_equal_name matchers) ≡ Some n → (first_equal_name matchers ≡ Some n → IsOwn n) → IsOwn n
      by Equal is true same f rest = equal is same f
      by Equal is false same f rest = rest f
      by NotEqual is b same f rest = rest f
      by Matches is b same f rest = rest f
      by NotMatches is b same f rest = rest f

  pub said_known : (name : Option Bytes) (matchers : List Matcher) (n : Bytes) → AllByRecursion (IsKnown u) (name_mentions name ++ matchers_mentions matchers) → selected_name name matchers ≡ Some n → IsOwn n
  said_known None matchers n known e = first_known matchers n known e
  said_known (Some x) matchers n known e = let q : x ≡ n = cc in subst IsOwn q known.0.1.0
