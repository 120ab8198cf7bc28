-- The names that an expression without open constructs reads, and the rows of recorded names.
use Rattle.std.proofs.Common.{◌≡◌, ◌⊎◌, inl, inr, Bool, true, false, not, ◌&&◌, cond, List, [], ◌∷◌, map, Option, Some, None, refl, sym, ◌∙◌, ap, subst}
use Rattle.std.proofs.lemmas.Bool.{not-true}
use Rattle.std.specs.List.{Contains}
use Rattle.std.specs.Str.{bytes_eq}
use Rattle.std.proofs.lemmas.List.Elements.{Contains-append_cases}
use Rattle.std.proofs.lemmas.Option.{none-some, same_Some}
use Rattle.lf_laws.proofs.Booleans.{and_left, and_right, clash}
use Rattle.lf_laws.proofs.Members.{any_has, first_or_behind, none_in, only_one, same_true, some_has, true_same}
use Rattle.lf_ast.specs.Labels.{Bytes}
use Rattle.lf_ast.specs.Rules.{RuleTree}
use Rattle.lf_ast.specs.Tree.{Tree, Trees, Number, Str, Selector, Subquery, Paren, Unary, Binary, Call, Aggregate, Nil, Next}
use Rattle.lf_semantics.specs.ClassRows.{Sets}
use Rattle.lf_semantics.specs.Environments.{records, IsEnvironmentOf, names_recorded}
use Rattle.lf_semantics.specs.Listing.{Listing}
use Rattle.lf_semantics.specs.Parts.{is_scalar_part, outside_scalars}
use Rattle.lf_semantics.specs.RowTable.{Environment, row_named}
use Rattle.lf_semantics.proofs.ListingLaws.{in_first_seen, of_first_seen}
use Rattle.lf_semantics.proofs.SamplesRepresented.{none_named}
use Rattle.lf_semantics.proofs.Recorded.{recorded, recorder}
use Rattle.lf_deps.specs.Reading.{IsCyclic, Reaches, Reads, Records, arguments_selectors, selectors, selectors_in}
use Rattle.lf_trials.specs.Reached.{is_recorded}
use Rattle.lf_shown.specs.NoneOpen.{ArgumentsAreClosed, HasNoneOpen, IsClosed, IsClosedIn}

-- ---- each selector says a name that isn't read in its own making

module _ (rules : List RuleTree) where
  abbrev IsFit : Option Bytes → Type 0
  IsFit o = (n : Bytes) × (o ≡ Some n) × (IsCyclic rules n → ⊥)

  out_of_scalar : (x : Tree) (found : List (Option Bytes)) (P : Type 0) → (P → (o : Option Bytes) → Contains found o → IsFit o) → (is_scalar_part x ≡ true) ⊎ P → (o : Option Bytes) → Contains (outside_scalars x found) o → IsFit o
  out_of_scalar x found P each closed o c = by (is_scalar_part x) refl closed c
    where
      by : (b : Bool) → is_scalar_part x ≡ b → (is_scalar_part x ≡ true) ⊎ P → Contains (cond b [] found) o → IsFit o
      by true is either c = absurd (none_in o c)
      by false is (inl e) c = absurd (clash _ e is)
      by false is (inr h) c = each h o c

  mutual
    pub fit_in : (e : Tree) → IsClosedIn rules e → (o : Option Bytes) → Contains (selectors_in e) o → IsFit o
    fit_in (Number text span) closed o c = absurd (none_in o c)
    fit_in (Str text span) closed o c = absurd (none_in o c)
    fit_in (Selector name matchers sight span) closed o c = (closed.name, sym (only_one _ o c) ∙ closed.says, closed.acyclic)
    fit_in (Subquery of sight span) closed o c = out_of_scalar of (selectors_in of) (IsClosedIn rules of) (fit_in of) closed o c
    fit_in (Paren of span) closed o c = out_of_scalar of (selectors_in of) (IsClosedIn rules of) (fit_in of) closed o c
    fit_in (Unary minus of span) closed o c = out_of_scalar of (selectors_in of) (IsClosedIn rules of) (fit_in of) closed o c
    fit_in (Binary op m left right span) closed o c =
        elim (Contains-append_cases (outside_scalars left (selectors_in left)) (outside_scalars right (selectors_in right)) o c) [
          | inl d ↦ out_of_scalar left (selectors_in left) (IsClosedIn rules left) (fit_in left) closed.0 o d
          | inr d ↦ out_of_scalar right (selectors_in right) (IsClosedIn rules right) (fit_in right) closed.1 o d
        ]
    fit_in (Call name args span) closed o c = fit_arguments args closed.0 o c
    fit_in (Aggregate op grouping args span) closed o c = fit_arguments args closed.0 o c

    fit_arguments : (args : Trees) → ArgumentsAreClosed rules args → (o : Option Bytes) → Contains (arguments_selectors args) o → IsFit o
    fit_arguments Nil closed o c = absurd (none_in o c)
    fit_arguments (Next x xs) closed o c = elim (Contains-append_cases (outside_scalars x (selectors_in x)) (arguments_selectors xs) o c) [
      | inl d ↦ out_of_scalar x (selectors_in x) (IsClosedIn rules x) (fit_in x) closed.0 o d
      | inr d ↦ fit_arguments xs closed.1 o d
    ]

  pub fit_selector : (e : Tree) → IsClosed rules e → (o : Option Bytes) → Contains (selectors e) o → IsFit o
  fit_selector e closed o c = out_of_scalar e (selectors_in e) (IsClosedIn rules e) (fit_in e) closed o c

  -- a rule that an expression selects has no open construct where the expression has none
  pub none_behind : (e : Tree) → HasNoneOpen rules e → (r : RuleTree) → Contains rules r → Reaches rules e r → HasNoneOpen rules r.expr
  none_behind e none r c reach = record {
    own = none.read r c reach;
    read = λ q d further. none.read q d (further.0, joined e reach.1 further.1);
  }
    where
      joined : (x : Tree) → Reads rules x r.name → {n : Bytes} → Reads rules r.expr n → Reads rules x n
      joined x (Reads.selected s) later = Reads.through r c reach.0 s later
      joined x (Reads.through q d recording s reads) later = Reads.through q d recording s (joined q.expr reads later)

  -- what it reads isn't read in its own making
  pub read_acyclic : (e : Tree) → HasNoneOpen rules e → (n : Bytes) → Reads rules e n → IsCyclic rules n → ⊥
  read_acyclic e none n (Reads.selected (inl c)) cyclic =
      let fit = fit_selector e none.own (Some n) c in
      fit.2 (subst (IsCyclic rules) (same_Some n fit.0 fit.1) cyclic)
  read_acyclic e none n (Reads.selected (inr c)) cyclic = let fit = fit_selector e none.own None c.0 in absurd (none-some fit.0 fit.1)
  read_acyclic e none n (Reads.through r c recording s reads) cyclic = read_acyclic r.expr (none_behind e none r c (recording, Reads.selected s)) n reads cyclic

-- ---- recorded names have rows

pub some_recorded : (rules : List RuleTree) (n : Bytes) → is_recorded rules n ≡ true → (r : RuleTree) × Contains rules r × Records r n
some_recorded rules n e =
    let r = some_has (records n) rules e in
    (r.0, r.1, (not-true r.0.alert (and_left (not r.0.alert) (bytes_eq r.0.name n) r.2), true_same r.0.name n (and_right (not r.0.alert) (bytes_eq r.0.name n) r.2)))

of_recorded : (rules : List RuleTree) (n : Bytes) → Contains (names_recorded rules) n → is_recorded rules n ≡ true
of_recorded rules n c =
    let r = recorder rules n c in
    any_has (records n) rules r.0 r.1 (ap (λ (b : Bool). not b && bytes_eq r.0.name n) r.2 ∙ same_true r.0.name n r.3)

some_named : (env : Environment) (n : Bytes) → Contains (map (λ (entry : Bytes × Sets). entry.0) env) n → (row : Sets) × (row_named env n ≡ Some row)
some_named [] n c = absurd (none_in n c)
some_named (entry ∷ env) n c = by (bytes_eq entry.0 n) refl (first_or_behind entry.0 _ n c) (some_named env n)
  where
    by : (b : Bool) → bytes_eq entry.0 n ≡ b → (entry.0 ≡ n) ⊎ Contains (map (λ (entry : Bytes × Sets). entry.0) env) n → (Contains (map (λ (entry : Bytes × Sets). entry.0) env) n → (row : Sets) × (row_named env n ≡ Some row))
        → (row : Sets) × (cond b (Some entry.1) (row_named env n) ≡ Some row)
    by true e there rest = (entry.1, refl)
    by false e (inl q) rest = absurd (clash _ (same_true entry.0 n q) e)
    by false e (inr d) rest = rest d

module _ (u : Listing) (rules : List RuleTree) (env : Environment) (of : IsEnvironmentOf u rules env) where
  pub row_of_recorded : (n : Bytes) → is_recorded rules n ≡ true → (row : Sets) × (row_named env n ≡ Some row)
  row_of_recorded n e =
      let r = some_recorded rules n e in
      let c = recorded rules r.0 r.1 r.2.0 in
      some_named env n (subst (λ xs. Contains xs n) (sym of.names) (in_first_seen (names_recorded rules) n (subst (Contains (names_recorded rules)) r.2.1 c)))

  pub none_unrecorded : (n : Bytes) → is_recorded rules n ≡ false → row_named env n ≡ None
  none_unrecorded n e =
      none_named env n (λ x c same. clash _ (of_recorded rules n (of_first_seen (names_recorded rules) n (subst (λ z. Contains (Rattle.lf_semantics.specs.Environments.recorded_names rules) z) same (subst (λ xs. Contains xs x) of.names c)))) e)
