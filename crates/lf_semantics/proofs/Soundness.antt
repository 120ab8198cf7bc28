-- The row of an expression represents each member of each set that the expression may give.
use Rattle.std.proofs.Common.{◌≡◌, ℕ, zero, suc, Bool, true, false, List, [], Option, Some, None, refl, subst, arith}
use Rattle.std.specs.Prelude.{option_map}
use Rattle.std.specs.List.{Contains}
use Rattle.std.proofs.lemmas.Option.{same_Some}
use Rattle.lf_ast.specs.Functions.{Signature, aggregation, function_named}
use Rattle.lf_ast.specs.Labels.{Labels}
use Rattle.lf_ast.specs.Tree.{Tree, Trees, Number, Str, Selector, Subquery, Paren, Unary, Binary, Call, Aggregate, Nil, Next}
use Rattle.lf_ast.specs.declared.expr.Grouping.{Grouping}
use Rattle.lf_ast.specs.declared.expr.Grouping.TheVariants.{None as Ungrouped}
use Rattle.lf_ast.specs.Arguments.{texts_of}
use Rattle.lf_semantics.specs.ClassRows.{HasShape, Represents}
use Rattle.lf_semantics.specs.Environments.{Admits, Covers, IsEnvironment, IsKnown}
use Rattle.lf_semantics.specs.Evaluation.{ArgumentEvaluates, CallGives, Evaluates}
use Rattle.lf_semantics.specs.Listing.{IsListing, Listing}
use Rattle.lf_semantics.specs.Parts.{Sought, is_scalar_part, operand_place, sought_by, sought_in}
use Rattle.lf_semantics.specs.RowTable.{Environment, call_row, row_at, row_of}
use Rattle.lf_semantics.specs.Mentions.{Mention, arguments_mentions, call_mentions, effect_mentions, group_names, grouped_mentions, matchers_mentions, mentions, modifier_mentions, name_mentions, names_mentions, stands_first}
use Rattle.lf_semantics.proofs.Constructs.{AllKnown, IsSound, operands_known, shape_binary, shape_effect, shape_sign, sound_bare, sound_binary, sound_effect, sound_sign}
use Rattle.lf_semantics.proofs.Members.{all_back, all_front}
use Rattle.lf_semantics.proofs.EffectsRepresent.{shape_bare}
use Rattle.lf_semantics.proofs.Numbered.{AreKnown}
use Rattle.lf_semantics.proofs.RowLaws.{shape_bottom}
use Rattle.lf_semantics.proofs.SelectorsRepresent.{represents_selector, shape_selector}

pub grouped_known : (u : Listing) (b : Bool) (grouping arguments : List Mention) → AllKnown u (grouped_mentions b grouping arguments) → AllKnown u grouping × AllKnown u arguments
grouped_known u true grouping arguments known = (all_front (IsKnown u) grouping arguments known, all_back (IsKnown u) grouping arguments known)
grouped_known u false grouping arguments known = (all_back (IsKnown u) arguments grouping known, all_front (IsKnown u) arguments grouping known)

-- the matchers of the selector that `absent` looks for are named in its argument
module _ (u : Listing) where
  abbrev SoughtKnown : Option Sought → Type 0
  SoughtKnown o = (s : Sought) → o ≡ Some s → AllKnown u (matchers_mentions s.matchers)

  none_known : SoughtKnown None
  none_known s e = absurd (cc)

  within_parentheses : (o : Option Sought) → SoughtKnown o → SoughtKnown (option_map (λ sought. record { matchers = sought.matchers; may_be_bare = true }) o)
  within_parentheses None known = none_known
  within_parentheses (Some t) known = λ s e. subst (λ (x : Sought). AllKnown u (matchers_mentions x.matchers)) (same_Some _ s e) (known t refl)

  sought_known : (e : Tree) → Covers u e → SoughtKnown (sought_by e)
  sought_known (Selector name matchers sight span) known = λ s e. subst (λ (x : Sought). AllKnown u (matchers_mentions x.matchers)) (same_Some _ s e) (all_back (IsKnown u) (name_mentions name) (matchers_mentions matchers) known)
  sought_known (Paren of span) known = within_parentheses (sought_by of) (sought_known of known)
  sought_known (Number text span) known = none_known
  sought_known (Str text span) known = none_known
  sought_known (Subquery of sight span) known = none_known
  sought_known (Unary minus of span) known = none_known
  sought_known (Binary op m left right span) known = none_known
  sought_known (Call name args span) known = none_known
  sought_known (Aggregate op grouping args span) known = none_known

  pub first_sought : (args : Trees) → AllKnown u (arguments_mentions args) → (s : Sought) → sought_in args ≡ Some s → AllKnown u (matchers_mentions s.matchers)
  first_sought Nil known = none_known
  first_sought (Next x xs) known = sought_known x (all_front (IsKnown u) (mentions x) (arguments_mentions xs) known)

module _ (u : Listing) (p : IsListing u) (env : Environment) (ok : IsEnvironment u env) (S N : List Labels) (admits : Admits u env S N) where
  abbrev Good : Tree → Type 0
  Good e = HasShape u (row_of u env e) × (Covers u e → IsSound u (row_of u env e) (Evaluates S N e))

  -- the same of argument k
  abbrev GoodAt : Trees → ℕ → Type 0
  GoodAt args k = HasShape u (row_at u env args k) × (AllKnown u (arguments_mentions args) → IsSound u (row_at u env args k) (ArgumentEvaluates S N args k))

  module _ (s : Signature) (grouping : Grouping) (args : Trees) (good : (k : ℕ) → GoodAt args k) where
    shape_call : HasShape u (call_row u (Some s) grouping args (row_at u env args))
    shape_call = shape_effect u p s.labels grouping args (row_at u env args (operand_place s)) (good (operand_place s)).0

    sound_call : AreKnown u (group_names grouping) → AllKnown u (effect_mentions s.labels (texts_of args) (arguments_mentions args))
        → IsSound u (call_row u (Some s) grouping args (row_at u env args)) (CallGives (Some s) grouping args (ArgumentEvaluates S N args))
    sound_call g known R r w inside =
        let operands : AllKnown u (arguments_mentions args) = operands_known u s.labels (texts_of args) (arguments_mentions args) known in
        sound_effect u p s.labels grouping args (arguments_mentions args) (row_at u env args (operand_place s)) (ArgumentEvaluates S N args (operand_place s)) g known (first_sought u args operands)
        (good (operand_place s)).0 ((good (operand_place s)).1 operands) R r w inside

  shape_named_call : (o : Option Signature) (args : Trees) → ((k : ℕ) → GoodAt args k) → HasShape u (call_row u o Ungrouped args (row_at u env args))
  shape_named_call None args good = shape_bottom u
  shape_named_call (Some s) args good = shape_call s Ungrouped args good

  sound_named_call : (o : Option Signature) (args : Trees) → ((k : ℕ) → GoodAt args k) → AllKnown u (call_mentions o (texts_of args) (arguments_mentions args))
      → IsSound u (call_row u o Ungrouped args (row_at u env args)) (CallGives o Ungrouped args (ArgumentEvaluates S N args))
  sound_named_call None args good known = λ R r w inside. absurd w
  sound_named_call (Some s) args good known = λ R r w inside. sound_call s Ungrouped args good tt known R r w inside

  mutual
    good : (e : Tree) → Good e
    good (Number text span) = (shape_bare u p, λ known R r w inside. sound_bare u p R r w inside)
    good (Str text span) = (shape_bottom u, λ known R r w inside. absurd w)
    good (Selector name matchers sight span) = (
      shape_selector u p env ok name matchers,
      λ known R r w inside.
          let e = w r inside in
          represents_selector u p env ok S N admits name matchers r (all_back (IsKnown u) (name_mentions name) (matchers_mentions matchers) known) e.0 e.1 e.2,
    )
    good (Subquery of sight span) = ((good of).0, λ known R r w inside. let e = w r inside in (good of).1 known e.0 r e.1 e.2)
    good (Paren of span) = good of
    good (Unary minus of span) = (
      shape_sign u p minus (row_of u env of) (good of).0,
      λ known R r w inside. sound_sign u p minus (row_of u env of) (Evaluates S N of) (good of).0 ((good of).1 known) R r w inside,
    )
    good (Binary op m left right span) = (
      shape_binary u p op m (is_scalar_part left) (is_scalar_part right) (row_of u env left) (row_of u env right) (good left).0 (good right).0,
      λ known R s w inside.
          let behind = all_back (IsKnown u) (mentions left) _ known in
          sound_binary u p op m (is_scalar_part left) (is_scalar_part right) (row_of u env left) (row_of u env right) (Evaluates S N left) (Evaluates S N right)
          (all_front (IsKnown u) (modifier_mentions m) (mentions right) behind) (good left).0 (good right).0
          ((good left).1 (all_front (IsKnown u) (mentions left) _ known)) ((good right).1 (all_back (IsKnown u) (modifier_mentions m) (mentions right) behind)) R s w inside,
    )
    good (Call name args span) = (
      shape_named_call (function_named name) args (each_good args),
      λ known R r w inside. sound_named_call (function_named name) args (each_good args) known R r w inside,
    )
    good (Aggregate op grouping args span) = (
      shape_call (aggregation op) grouping args (each_good args),
      λ known R r w inside.
          let parts = grouped_known u (stands_first (group_names grouping) args) (names_mentions (group_names grouping)) (effect_mentions (aggregation op).labels (texts_of args) (arguments_mentions args)) known in
          sound_call (aggregation op) grouping args (each_good args) parts.0 parts.1 R r w inside,
    )

    each_good : (args : Trees) (k : ℕ) → GoodAt args k
    each_good Nil k = (shape_bottom u, λ known R r w inside. absurd w)
    each_good (Next x xs) zero = ((good x).0, λ known. (good x).1 (all_front (IsKnown u) (mentions x) (arguments_mentions xs) known))
    each_good (Next x xs) (suc k) = ((each_good xs k).0, λ known. (each_good xs k).1 (all_back (IsKnown u) (mentions x) (arguments_mentions xs) known))

  -- the row of an expression represents each member of each set that it may give
  pub sound : (e : Tree) → Covers u e → (R : List Labels) (r : Labels) → Evaluates S N e R → Contains R r → Represents u (row_of u env e) r
  sound e = (good e).1

-- a row has a set for each label, with a place for each class
pub shape_of_row : (u : Listing) → IsListing u → (env : Environment) → IsEnvironment u env → (e : Tree) → HasShape u (row_of u env e)
shape_of_row u p env ok e =
    let none : Admits u env [] [] = record { scraped = λ s c. absurd (omega (arith, c.1)); recorded = λ s c. absurd (omega (arith, c.1)) } in
    (good u p env ok [] [] none e).0

-- and so has the row of an argument
pub shape_of_row_at : (u : Listing) → IsListing u → (env : Environment) → IsEnvironment u env → (args : Trees) (k : ℕ) → HasShape u (row_at u env args k)
shape_of_row_at u p env ok args k =
    let none : Admits u env [] [] = record { scraped = λ s c. absurd (omega (arith, c.1)); recorded = λ s c. absurd (omega (arith, c.1)) } in
    (each_good u p env ok [] [] none args k).0
