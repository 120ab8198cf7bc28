-- A label can be followed with no other text than the one that is required.
use Rattle.std.proofs.Common.{inl, inr, ◌≡◌, length, map, take, drop, ℕ, zero, suc, Bool, true, false, ◌&&◌, ◌||◌, not, cond, List, [], ◌∷◌, Option, Some, None, refl, sym, ◌∙◌, ap, true≢false}
use Rattle.std.specs.Prelude.{option_and_then}
use Rattle.std.specs.List.{Contains, find}
use Rattle.std.specs.Option.{option_map, option_or}
use Rattle.std.specs.Str.{bytes_eq}
use Rattle.std.proofs.lemmas.Option.{cond_some, none-some, option_and_then_some, same_Some}
use Rattle.lf_laws.proofs.Members.{first_or_behind, none_in, true_same}
use Rattle.lf_ast.specs.Functions.{Signature, aggregation, function_named}
use Rattle.lf_ast.specs.Labels.{Bytes}
use Rattle.lf_ast.specs.Rules.{RuleTree}
use Rattle.lf_ast.specs.Selectors.{is_equal, selected_name}
use Rattle.lf_ast.specs.Tree.{Tree, Trees, Number, Str, Selector, Subquery, Paren, Unary, Binary, Call, Aggregate, Nil, Next, list}
use Rattle.lf_ast.specs.Types.{is_scalar}
use Rattle.lf_ast.specs.declared.expr.ExprType.TheVariants.{Scalar, Vector}
use Rattle.lf_ast.specs.declared.expr.Grouping.{Grouping}
use Rattle.lf_ast.specs.declared.expr.Grouping.TheVariants.{None as Ungrouped}
use Rattle.lf_ast.specs.declared.expr.Matcher.{Matcher}
use Rattle.lf_ast.specs.declared.expr.Matching.{Matching}
use Rattle.lf_ast.specs.declared.expr.MatchOp.{MatchOp}
use Rattle.lf_ast.specs.declared.expr.MatchOp.TheVariants.{Equal, NotEqual, Matches, NotMatches}
use Rattle.lf_ast.specs.declared.expr.Op.{Op}
use Rattle.lf_ast.specs.declared.expr.Op.TheVariants as O
use Rattle.lf_ast.specs.declared.functions.LabelEffect.{LabelEffect}
use Rattle.lf_ast.specs.declared.functions.LabelEffect.TheVariants.{Maps, Keeps, Groups, CountValues, Date, Absent, LabelReplace, LabelJoin, HistogramQuantile, Bare}
use Rattle.lf_ast.specs.views.Walks.{chosen}
use Rattle.lf_semantics.specs.Grouped.{is_filter, is_metric}
use Rattle.lf_semantics.specs.Listing.{Listing}
use Rattle.lf_semantics.specs.Parts.{given_by, is_scalar_part, operand_place}
use Rattle.lf_semantics.specs.Passing.{passes}
use Rattle.lf_semantics.proofs.ScalarCalls.{IsBareIfScalar, named_is_bare, selector_is_no_scalar}
use Rattle.lf_trials.specs.Follow.{Followed, follow, follow_argument, follow_binary, follow_by_rule, follow_call, follow_effect, follow_from, follow_name, follow_operator, follow_pair, if_it_passes, nameless_if, on_series, passes_on_label}
use Rattle.lf_trials.specs.Names.{name_for}
use Rattle.lf_trials.specs.Reached.{is_recorded}
use Rattle.lf_nodes.specs.views.Needed.{operand_part}
use Rattle.lf_candidates.specs.views.ClassTexts.{name_at, text_at}
use Rattle.lf_uniform.specs.declared.texts.WantedPresence.{WantedPresence}
use Rattle.lf_uniform.specs.views.Following.{first_equal}
use Rattle.lf_uniform.specs.views.Required.{asked_of, if_any, required_argument, required_by_call, required_by_effect, required_by_operator, required_text, text_of_parts}
use Rattle.lf_uniform.specs.views.Texts.{IsOnly, comes_out}

-- something was there where something was made of it
from_map : (f : Bytes → Bytes) (o : Followed) (t : Bytes) → option_map f o ≡ Some t → (s : Bytes) × (o ≡ Some s)
from_map f None t e = absurd (none-some t e)
from_map f (Some s) t e = (s, refl)

from_then : (f : Bytes → Followed) (o : Followed) (t : Bytes) → option_and_then f o ≡ Some t → (s : Bytes) × (o ≡ Some s)
from_then f None t e = absurd (none-some t e)
from_then f (Some s) t e = (s, refl)

-- the text of an equality, if it isn't empty
some_text : (text v : Bytes) → if_any text ≡ Some v → (bytes_eq text [] ≡ false) × (text ≡ v)
some_text text v e = by (bytes_eq text []) refl e
  where
    by : (b : Bool) → bytes_eq text [] ≡ b → cond b None (Some text) ≡ Some v → (bytes_eq text [] ≡ false) × (text ≡ v)
    by true is e = absurd (none-some v e)
    by false is e = (is, same_Some text v e)

passes_equal : (op : MatchOp) (value text : Bytes) → is_equal op ≡ true → passes op value text ≡ true → text ≡ value
passes_equal Equal value text is e = true_same text value e
passes_equal NotEqual value text is e = absurd (true≢false (sym is))
passes_equal Matches value text is e = absurd (true≢false (sym is))
passes_equal NotMatches value text is e = absurd (true≢false (sym is))

both_true : (a b : Bool) → (a && b) ≡ true → (a ≡ true) × (b ≡ true)
both_true true b e = (refl, e)
both_true false b e = absurd (true≢false (sym e))

-- what passes the matchers on a label is the text of the first `=` on it, if there is one
first_passes : (label text : Bytes) (matchers : List Matcher) → bytes_eq (first_equal label matchers) [] ≡ false → passes_on_label label matchers text ≡ true → text ≡ first_equal label matchers
first_passes label text [] some passed = absurd (true≢false some)
first_passes label text (m ∷ matchers) some passed =
    let each = both_true (not (bytes_eq m.label label) || passes m.op m.value text) (passes_on_label label matchers text) passed in
    by (is_equal m.op) refl (bytes_eq m.label label) refl some each.0 (λ e. first_passes label text matchers e each.1)
  where
    here : (a b : Bool) → is_equal m.op ≡ a → bytes_eq m.label label ≡ b → (is_equal m.op && bytes_eq m.label label) ≡ (a && b)
    here a b equal on = ap (λ (x : Bool). x && bytes_eq m.label label) equal ∙ ap (λ (x : Bool). a && x) on

    behind : (b : Bool) → (is_equal m.op && bytes_eq m.label label) ≡ false → bytes_eq (cond (is_equal m.op && bytes_eq m.label label) m.value (first_equal label matchers)) [] ≡ false → (bytes_eq (first_equal label matchers) [] ≡ false → text ≡ first_equal label matchers)
        → text ≡ cond (is_equal m.op && bytes_eq m.label label) m.value (first_equal label matchers)
    behind b isnt some later =
        let at : cond (is_equal m.op && bytes_eq m.label label) m.value (first_equal label matchers) ≡ first_equal label matchers = ap (λ (x : Bool). cond x m.value (first_equal label matchers)) isnt in
        later (sym (ap (λ (t : Bytes). bytes_eq t []) at) ∙ some) ∙ sym at

    by : (a : Bool) → is_equal m.op ≡ a → (b : Bool) → bytes_eq m.label label ≡ b → bytes_eq (cond (is_equal m.op && bytes_eq m.label label) m.value (first_equal label matchers)) [] ≡ false → (not (bytes_eq m.label label) || passes m.op m.value text) ≡ true
        → (bytes_eq (first_equal label matchers) [] ≡ false → text ≡ first_equal label matchers) → text ≡ cond (is_equal m.op && bytes_eq m.label label) m.value (first_equal label matchers)
    by true equal true on some one later =
        passes_equal m.op m.value text equal (sym (ap (λ (b : Bool). not b || passes m.op m.value text) on) ∙ one)
        ∙ sym (ap (λ (b : Bool). cond b m.value (first_equal label matchers)) (here true true equal on))
    by true equal false on some one later = behind false (here true false equal on) some later
    by false equal b on some one later = behind false (here false b equal on) some later

module _ (rules : List RuleTree) (label : Bytes) where
  -- what is required of the operand of a call is what the definition asks

  operand_is : (args : Trees) (k : ℕ) → text_of_parts (map (required_text rules label) (take 1 (drop k (list args)))) ≡ required_argument rules label args k
  operand_is Nil zero = refl
  operand_is Nil (suc k) = refl
  operand_is (Next x xs) zero = refl
  operand_is (Next x xs) (suc k) = operand_is xs k

  abbrev pub of_arguments : Option Signature → Trees → List (Option Bytes)
  of_arguments o args = map (required_text rules label) (chosen (operand_part o) (list args))

  pub call_is : (o : Option Signature) (args : Trees) → required_by_call o (λ place. text_of_parts (of_arguments o args)) ≡ required_by_call o (required_argument rules label args)
  call_is None args = refl
  call_is (Some s) args = ap (required_by_effect s.labels) (operand_is args (operand_place s))

  -- nothing is required of a scalar

  abbrev Requires : Tree → Option Bytes → Type 0
  Requires e text = required_text rules label e ≡ text

  neither : (op : Op) (left right : Option Bytes) → left ≡ None → right ≡ None → required_by_operator op left right ≡ None
  neither op left right l r = ap (λ (x : Option Bytes). required_by_operator op x right) l ∙ ap (required_by_operator op None) r ∙ nothing op
    where
      nothing : (op : Op) → required_by_operator op None None ≡ None
      nothing O.Or = refl
      nothing O.Unless = refl
      nothing O.Add = refl
      nothing O.Subtract = refl
      nothing O.Multiply = refl
      nothing O.Divide = refl
      nothing O.Modulo = refl
      nothing O.Power = refl
      nothing O.Atan2 = refl
      nothing O.Equal = refl
      nothing O.NotEqual = refl
      nothing O.LessOrEqual = refl
      nothing O.Less = refl
      nothing O.GreaterOrEqual = refl
      nothing O.Greater = refl
      nothing O.And = refl

  bare_call : (o : Option Signature) (argument : ℕ → Option Bytes) → is_scalar (given_by o) ≡ true → ((s : Signature) → o ≡ Some s → IsBareIfScalar s) → required_by_call o argument ≡ None
  bare_call None argument e bare = refl
  bare_call (Some s) argument e bare = ap (λ (effect : LabelEffect). required_by_effect effect (argument (operand_place s))) (bare s refl e)

  scalars : (l r : Bool) → is_scalar (cond (l && r) Scalar Vector) ≡ true → (l ≡ true) × (r ≡ true)
  scalars true true e = (refl, refl)
  scalars true false e = absurd (true≢false (sym e))
  scalars false r e = absurd (true≢false (sym e))

  of_scalar : (e : Tree) → is_scalar_part e ≡ true → Requires e None
  of_scalar (Number text span) is = refl
  of_scalar (Str text span) is = refl
  of_scalar (Selector name matchers sight span) is = absurd (true≢false (sym is ∙ selector_is_no_scalar sight.range))
  of_scalar (Subquery of sight span) is = absurd (true≢false (sym is))
  of_scalar (Paren of span) is = of_scalar of is
  of_scalar (Unary minus of span) is = of_scalar of is
  of_scalar (Binary op m left right span) is =
      let sides = scalars (is_scalar_part left) (is_scalar_part right) is in
      neither op (required_text rules label left) (required_text rules label right) (of_scalar left sides.0) (of_scalar right sides.1)
  of_scalar (Call name args span) is = bare_call (function_named name) (required_argument rules label args) is (named_is_bare name)
  of_scalar (Aggregate op grouping args span) is = absurd (true≢false (sym is))

module _ (u : Listing) (rules : List RuleTree) (label given : Bytes) (named : is_metric label ≡ false) (known : Bytes → Followed) where
  -- where something is required and followed, the text is the required one
  abbrev Fits : Option Bytes → Followed → Type 0
  Fits required followed = (v t : Bytes) → required ≡ Some v → followed ≡ Some t → given ≡ v

  abbrev IsFit : Tree → Type 0
  IsFit e = Fits (required_text rules label e) (follow u rules label given known e)

  -- selectors

  of_series : (matchers : List Matcher) (name : Followed) → Fits (if_any (first_equal label matchers)) (if_it_passes label matchers (on_series u rules label given name))
  of_series matchers name v t asks followed =
      let some = some_text (first_equal label matchers) v asks in
      let series : on_series u rules label given name ≡ Some given = ap (λ (b : Bool). cond b name (Some given)) named in
      let passed = cond_some (passes_on_label label matchers given) given t (sym (ap (if_it_passes label matchers) series) ∙ followed) in
      first_passes label given matchers some.0 passed.0 ∙ some.1

  of_selector : (said : Option Bytes) (matchers : List Matcher) → Fits (asked_of rules label said matchers) (if_it_passes label matchers (follow_name u rules label given known said matchers))
  of_selector None matchers = of_series matchers (name_for u rules matchers)
  of_selector (Some name) matchers = by (is_recorded rules name)
    where
      by : (b : Bool) → Fits (cond b None (if_any (first_equal label matchers))) (if_it_passes label matchers (cond b (known name) (on_series u rules label given (Some name))))
      by true = λ v t asks followed. absurd (none-some v asks)
      by false = of_series matchers (Some name)

  -- functions and aggregations

  of_effect : (effect : LabelEffect) (grouping : Grouping) (args : Trees) (required : Option Bytes) (operand : Followed) → (args ≡ Nil → required ≡ None) → Fits required operand → Fits (required_by_effect effect required) (follow_effect label effect grouping args operand)
  of_effect Maps grouping args required operand none fits v t asks followed = let some = from_map _ operand t followed in fits v some.0 asks some.1
  of_effect Keeps grouping args required operand none fits v t asks followed = fits v t asks followed
  of_effect Groups grouping args required operand none fits v t asks followed = let some = from_map _ operand t followed in fits v some.0 asks some.1
  of_effect CountValues grouping args required operand none fits v t asks followed = let some = from_map _ operand t followed in fits v some.0 asks some.1
  of_effect Date grouping Nil required operand none fits v t asks followed = absurd (none-some v (sym (none refl) ∙ asks))
  of_effect Date grouping (Next x xs) required operand none fits v t asks followed = let some = from_map _ operand t followed in fits v some.0 asks some.1
  of_effect Absent grouping args required operand none fits v t asks followed = absurd (none-some v asks)
  of_effect LabelReplace grouping args required operand none fits v t asks followed = fits v t asks followed
  of_effect LabelJoin grouping args required operand none fits v t asks followed = fits v t asks followed
  of_effect HistogramQuantile grouping args required operand none fits v t asks followed = let some = from_then _ operand t followed in fits v some.0 asks some.1
  of_effect Bare grouping args required operand none fits v t asks followed = absurd (none-some v asks)

  of_call : (o : Option Signature) (grouping : Grouping) (args : Trees) → ((k : ℕ) → Fits (required_argument rules label args k) (follow_argument u rules label given known args k))
      → Fits (required_by_call o (required_argument rules label args)) (follow_call label o grouping args (follow_argument u rules label given known args))
  of_call None grouping args each = λ v t asks followed. absurd (none-some v asks)
  of_call (Some s) grouping args each =
      of_effect s.labels grouping args (required_argument rules label args (operand_place s)) (follow_argument u rules label given known args (operand_place s)) (λ none. ap (λ (xs : Trees). required_argument rules label xs (operand_place s)) none) (each (operand_place s))

  -- operators

  of_nameless : (drops : Bool) (required : Option Bytes) (operand : Followed) → Fits required operand → Fits required (nameless_if label drops operand)
  of_nameless true required operand fits = λ v t asks followed. let some = from_map _ operand t followed in fits v some.0 asks some.1
  of_nameless false required operand fits = fits

  of_either : (f : Bytes → Bytes → Followed) (l r : Option Bytes) (left right : Followed) → Fits l left → Fits r right → Fits (option_or l r) (option_and_then (λ s. option_and_then (f s) right) left)
  of_either f (Some x) r left right fits other v t asks followed = let some = from_then (λ s. option_and_then (f s) right) left t followed in fits v some.0 asks some.1
  of_either f None r left right fits other v t asks followed =
      option_and_then_some (λ s. option_and_then (f s) right) left t followed (λ s is rest. let some = from_then (f s) right t rest in other v some.0 asks some.1)

  of_operator : (op : Op) (m : Matching) (l r : Option Bytes) (left right : Followed) → Fits l left → Fits r right → Fits (required_by_operator op l r) (follow_operator label op m left right)
  of_operator O.Or m l r left right fits other = λ v t asks followed. absurd (none-some v asks)
  of_operator O.Unless m l r left right fits other = fits
  of_operator O.Add m l r left right fits other = of_either (follow_pair label O.Add m) l r left right fits other
  of_operator O.Subtract m l r left right fits other = of_either (follow_pair label O.Subtract m) l r left right fits other
  of_operator O.Multiply m l r left right fits other = of_either (follow_pair label O.Multiply m) l r left right fits other
  of_operator O.Divide m l r left right fits other = of_either (follow_pair label O.Divide m) l r left right fits other
  of_operator O.Modulo m l r left right fits other = of_either (follow_pair label O.Modulo m) l r left right fits other
  of_operator O.Power m l r left right fits other = of_either (follow_pair label O.Power m) l r left right fits other
  of_operator O.Atan2 m l r left right fits other = of_either (follow_pair label O.Atan2 m) l r left right fits other
  of_operator O.Equal m l r left right fits other = of_either (follow_pair label O.Equal m) l r left right fits other
  of_operator O.NotEqual m l r left right fits other = of_either (follow_pair label O.NotEqual m) l r left right fits other
  of_operator O.LessOrEqual m l r left right fits other = of_either (follow_pair label O.LessOrEqual m) l r left right fits other
  of_operator O.Less m l r left right fits other = of_either (follow_pair label O.Less m) l r left right fits other
  of_operator O.GreaterOrEqual m l r left right fits other = of_either (follow_pair label O.GreaterOrEqual m) l r left right fits other
  of_operator O.Greater m l r left right fits other = of_either (follow_pair label O.Greater m) l r left right fits other
  of_operator O.And m l r left right fits other = of_either (follow_pair label O.And m) l r left right fits other

  -- only one side is no scalar
  left_alone : (op : Op) (l r : Option Bytes) (followed : Followed) → r ≡ None → Fits l followed → Fits (required_by_operator op l r) followed
  left_alone op l r followed none fits v t asks = fits v t (only op l (sym (ap (required_by_operator op l) none) ∙ asks))
    where
      first_or : (l : Option Bytes) → option_or l None ≡ Some v → l ≡ Some v
      first_or (Some x) e = e
      first_or None e = e

      only : (op : Op) (l : Option Bytes) → required_by_operator op l None ≡ Some v → l ≡ Some v
      only O.Or l e = absurd (none-some v e)
      only O.Unless l e = e
      only O.Add l e = first_or l e
      only O.Subtract l e = first_or l e
      only O.Multiply l e = first_or l e
      only O.Divide l e = first_or l e
      only O.Modulo l e = first_or l e
      only O.Power l e = first_or l e
      only O.Atan2 l e = first_or l e
      only O.Equal l e = first_or l e
      only O.NotEqual l e = first_or l e
      only O.LessOrEqual l e = first_or l e
      only O.Less l e = first_or l e
      only O.GreaterOrEqual l e = first_or l e
      only O.Greater l e = first_or l e
      only O.And l e = first_or l e

  right_alone : (op : Op) (l r : Option Bytes) (followed : Followed) → l ≡ None → Fits r followed → Fits (required_by_operator op l r) followed
  right_alone op l r followed none fits v t asks = fits v t (only op (sym (ap (λ (x : Option Bytes). required_by_operator op x r) none) ∙ asks))
    where
      only : (op : Op) → required_by_operator op None r ≡ Some v → r ≡ Some v
      only O.Or e = absurd (none-some v e)
      only O.Unless e = absurd (none-some v e)
      only O.Add e = e
      only O.Subtract e = e
      only O.Multiply e = e
      only O.Divide e = e
      only O.Modulo e = e
      only O.Power e = e
      only O.Atan2 e = e
      only O.Equal e = e
      only O.NotEqual e = e
      only O.LessOrEqual e = e
      only O.Less e = e
      only O.GreaterOrEqual e = e
      only O.Greater e = e
      only O.And e = e

  of_binary : (op : Op) (m : Matching) (left right : Tree) → IsFit left → IsFit right
      → Fits (required_by_operator op (required_text rules label left) (required_text rules label right)) (follow_binary label op m (is_scalar_part left) (is_scalar_part right) (follow u rules label given known left) (follow u rules label given known right))
  of_binary op m left right fits other = by (is_scalar_part left) refl (is_scalar_part right) refl
    where
      by : (a : Bool) → is_scalar_part left ≡ a → (b : Bool) → is_scalar_part right ≡ b → Fits (required_by_operator op (required_text rules label left) (required_text rules label right)) (follow_binary label op m a b (follow u rules label given known left) (follow u rules label given known right))
      by true is true at = λ v t asks followed. absurd (none-some v (sym (neither rules label op (required_text rules label left) (required_text rules label right) (of_scalar rules label left is) (of_scalar rules label right at)) ∙ asks))
      by false is true at = left_alone op (required_text rules label left) (required_text rules label right) _ (of_scalar rules label right at) (of_nameless (not (is_filter op m)) (required_text rules label left) (follow u rules label given known left) fits)
      by true is false at = right_alone op (required_text rules label left) (required_text rules label right) _ (of_scalar rules label left is) (of_nameless (not (is_filter op m)) (required_text rules label right) (follow u rules label given known right) other)
      by false is false at = of_operator op m (required_text rules label left) (required_text rules label right) (follow u rules label given known left) (follow u rules label given known right) fits other

  mutual
    pub only_required : (e : Tree) → IsFit e
    only_required (Number text span) = λ v t asks followed. absurd (none-some v asks)
    only_required (Str text span) = λ v t asks followed. absurd (none-some v asks)
    only_required (Selector name matchers sight span) = of_selector (selected_name name matchers) matchers
    only_required (Subquery of sight span) = only_required of
    only_required (Paren of span) = only_required of
    only_required (Unary minus of span) = of_nameless minus (required_text rules label of) (follow u rules label given known of) (only_required of)
    only_required (Binary op m left right span) = of_binary op m left right (only_required left) (only_required right)
    only_required (Call name args span) = of_call (function_named name) Ungrouped args (of_argument args)
    only_required (Aggregate op grouping args span) = of_call (Some (aggregation op)) grouping args (of_argument args)

    of_argument : (args : Trees) (k : ℕ) → Fits (required_argument rules label args k) (follow_argument u rules label given known args k)
    of_argument Nil k = λ v t asks followed. absurd (none-some v asks)
    of_argument (Next x xs) zero = only_required x
    of_argument (Next x xs) (suc k) = of_argument xs k

-- so only a class that stands for the required text can be followed

came_out : (wanted : WantedPresence) (followed : Followed) → comes_out wanted followed ≡ true → (t : Bytes) × (followed ≡ Some t)
came_out wanted None e = absurd (true≢false (sym e))
came_out wanted (Some t) e = (t, refl)

pub is_only : (u : Listing) (rules : List RuleTree) (i : ℕ) (own : RuleTree) (label class : ℕ) (v : Bytes) → is_metric (name_at u label) ≡ false → required_text rules (name_at u label) own.expr ≡ Some v → text_at u label class ≡ v → IsOnly u rules i own label class
is_only u rules i own label class v named asks at wanted text came =
    let some = came_out wanted (follow_from u rules (name_at u label) text i own) came in
    only_required u rules (name_at u label) text named (follow_by_rule u rules (name_at u label) text (length rules) (i ∷ [])) own.expr v some.0 asks some.1 ∙ sym at

-- the first text that passes, where only one may

found : (test : Bytes → Bool) (texts : List Bytes) (v : Bytes) → Contains texts v → ((t : Bytes) → test t ≡ true → t ≡ v) → test v ≡ true → find test texts ≡ Some v
found test [] v there only passes = absurd (none_in v there)
found test (x ∷ xs) v there only passes = by (test x) refl (λ later. found test xs v later only passes)
  where
    by : (b : Bool) → test x ≡ b → (Contains xs v → find test xs ≡ Some v) → cond b (Some x) (find test xs) ≡ Some v
    by true first later = ap (λ (t : Bytes). Some t) (only x first)
    by false first later = elim (first_or_behind x xs v there) [
      | inl same ↦ absurd (true≢false (sym passes ∙ sym (ap test same) ∙ first))
      | inr behind ↦ later behind
    ]

none_found : (test : Bytes → Bool) (texts : List Bytes) (v : Bytes) → ((t : Bytes) → test t ≡ true → t ≡ v) → test v ≡ false → find test texts ≡ None
none_found test [] v only fails = refl
none_found test (x ∷ xs) v only fails = by (test x) refl (none_found test xs v only fails)
  where
    by : (b : Bool) → test x ≡ b → find test xs ≡ None → cond b (Some x) (find test xs) ≡ None
    by true first later = absurd (true≢false (sym first ∙ ap test (only x first) ∙ fails))
    by false first later = later

pub find_only : (test : Bytes → Bool) (texts : List Bytes) (v : Bytes) → Contains texts v → ((t : Bytes) → test t ≡ true → t ≡ v) → cond (test v) (Some v) None ≡ find test texts
find_only test texts v there only = by (test v) refl
  where
    by : (b : Bool) → test v ≡ b → cond b (Some v) None ≡ find test texts
    by true passes = sym (found test texts v there only passes)
    by false fails = sym (none_found test texts v only fails)
