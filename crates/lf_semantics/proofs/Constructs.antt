-- The row of each construct represents what it may give, if the rows of its parts represent what they may give.
use Rattle.std.proofs.Common.{◌≡◌, Bool, true, false, List, Some, inl, inr, sym, subst}
use Rattle.std.specs.List.{Contains, AllByRecursion}
use Rattle.lf_ast.specs.Labels.{Bytes, Labels}
use Rattle.lf_ast.specs.Types.{names_at}
use Rattle.lf_ast.specs.Tree.{Trees, Nil, Next}
use Rattle.lf_ast.specs.declared.expr.Grouping.{Grouping}
use Rattle.lf_ast.specs.declared.expr.Matching.{Matching}
use Rattle.lf_ast.specs.declared.expr.Op.{Op}
use Rattle.lf_ast.specs.declared.expr.Op.TheVariants.{Add, Subtract, Multiply, Divide, Modulo, Power, Atan2, Equal, NotEqual, LessOrEqual, Less, GreaterOrEqual, Greater, And, Or, Unless}
use Rattle.lf_ast.specs.declared.functions.LabelEffect.{LabelEffect}
use Rattle.lf_ast.specs.declared.functions.LabelEffect.TheVariants.{Maps, Keeps, Groups, CountValues, Date, Absent, LabelReplace, LabelJoin, HistogramQuantile, Bare}
use Rattle.lf_ast.specs.Arguments.{text_at, texts_of}
use Rattle.lf_semantics.specs.ClassRows.{HasShape, Represents, Sets}
use Rattle.lf_semantics.specs.Environments.{IsKnown}
use Rattle.lf_semantics.specs.Evaluation.{ArePairs, BesideScalar, BinaryGives, Combines, EffectGives, Results, IsBare, LosesName, PairsGive, SignGives, SomeMade, Stays}
use Rattle.lf_semantics.specs.Grouped.{is_filter}
use Rattle.lf_semantics.specs.Listing.{IsListing, Listing}
use Rattle.lf_semantics.specs.Parts.{Sought, sought_in}
use Rattle.lf_semantics.specs.RowTable.{bare_row, beside_scalar_row, binary_row, combined_row, effect_row, matched_row, nameless, paired_row, sign_row}
use Rattle.lf_semantics.specs.Strings.{joining, replacing}
use Rattle.lf_semantics.specs.Mentions.{Mention, effect_mentions, group_names, matchers_mentions, modifier_mentions, names_mentions}
use Rattle.lf_semantics.proofs.EffectsRepresent.{represents_absent, represents_bare, represents_counted, represents_grouped, represents_nameless, represents_quantile, shape_absent, shape_bare, shape_counted, shape_grouped, shape_nameless, shape_quantile}
use Rattle.lf_semantics.proofs.Members.{all_back, all_front}
use Rattle.lf_semantics.proofs.Numbered.{AreKnown}
use Rattle.lf_semantics.proofs.PairsRepresent.{represents_matched, represents_out, shape_matched, shape_pairs}
use Rattle.lf_semantics.proofs.RowLaws.{represents_join_left, represents_join_right, shape_join}
use Rattle.lf_semantics.proofs.StringsRepresent.{represents_joining, represents_replacing, shape_joining, shape_replacing}

-- the row of an expression is sound: it represents each member of each set that may be given
abbrev pub IsSound : Listing → Sets → Results → Type 0
IsSound u row gives = (R : List Labels) (r : Labels) → gives R → Contains R r → Represents u row r

-- what is named is in the universe
abbrev pub AllKnown : Listing → List Mention → Type 0
AllKnown u items = AllByRecursion (IsKnown u) items

-- what is named in the operands
pub operands_known : (u : Listing) (effect : LabelEffect) (texts : List Bytes) (operands : List Mention) → AllKnown u (effect_mentions effect texts operands) → AllKnown u operands
operands_known u Maps texts operands known = known
operands_known u Keeps texts operands known = known
operands_known u Groups texts operands known = known
operands_known u CountValues texts operands known = known.1
operands_known u Date texts operands known = known
operands_known u Absent texts operands known = known
operands_known u LabelReplace texts operands known = all_front (IsKnown u) operands _ known
operands_known u LabelJoin texts operands known = all_front (IsKnown u) operands _ known
operands_known u HistogramQuantile texts operands known = known.1
operands_known u Bare texts operands known = known

module _ (u : Listing) (p : IsListing u) where
  -- functions and aggregations

  pub sound_bare : IsSound u (bare_row u) IsBare
  sound_bare R r w inside = let L : Labels → Type 0 = λ t. Represents u (bare_row u) t in subst L (sym (w.1 r inside)) (represents_bare u p)

  sound_maps : (row : Sets) (W : Results) → HasShape u row → IsSound u row W → IsSound u (nameless u row) (SomeMade LosesName W)
  sound_maps row W shape sound R r w inside =
      let e = w.2 r inside in
      let L : Labels → Type 0 = λ t. Represents u (nameless u row) t in
      subst L (sym e.2) (represents_nameless u p row e.0 shape (sound w.0 e.0 w.1 e.1))

  sound_keeps : (row : Sets) (W : Results) → IsSound u row W → IsSound u row (SomeMade Stays W)
  sound_keeps row W sound R r w inside =
      let e = w.2 r inside in
      let L : Labels → Type 0 = λ t. Represents u row t in
      subst L (sym e.2) (sound w.0 e.0 w.1 e.1)

  pub shape_effect : (effect : LabelEffect) (grouping : Grouping) (args : Trees) (row : Sets) → HasShape u row → HasShape u (effect_row u effect grouping args row)
  shape_effect Maps grouping args row shape = shape_nameless u p row shape
  shape_effect Keeps grouping args row shape = shape
  shape_effect Groups grouping args row shape = shape_grouped u p grouping row shape
  shape_effect CountValues grouping args row shape = shape_counted u p grouping (text_at (texts_of args) 0) row shape
  shape_effect Date grouping Nil row shape = shape_bare u p
  shape_effect Date grouping (Next x xs) row shape = shape_nameless u p row shape
  shape_effect Absent grouping args row shape = shape_absent u p (sought_in args)
  shape_effect LabelReplace grouping args row shape = shape_replacing u (replacing (texts_of args)) row shape
  shape_effect LabelJoin grouping args row shape = shape_joining u (joining (texts_of args)) row shape
  shape_effect HistogramQuantile grouping args row shape = shape_quantile u p row shape
  shape_effect Bare grouping args row shape = shape_bare u p

  abbrev SoughtKnown : Trees → Type 0
  SoughtKnown args = (s : Sought) → sought_in args ≡ Some s → AllKnown u (matchers_mentions s.matchers)

  pub sound_effect : (effect : LabelEffect) (grouping : Grouping) (args : Trees) (operands : List Mention) (row : Sets) (W : Results) → AreKnown u (group_names grouping)
      → AllKnown u (effect_mentions effect (texts_of args) operands) → SoughtKnown args → HasShape u row → IsSound u row W → IsSound u (effect_row u effect grouping args row) (EffectGives effect grouping args W)
  sound_effect Maps grouping args operands row W g k a shape sound = sound_maps row W shape sound
  sound_effect Keeps grouping args operands row W g k a shape sound = sound_keeps row W sound
  sound_effect Groups grouping args operands row W g k a shape sound = λ R r w inside.
      let e = w.2.1 r inside in
      let L : Labels → Type 0 = λ t. Represents u (effect_row u Groups grouping args row) t in
      subst L (sym e.2) (represents_grouped u p grouping row e.0 g shape (sound w.0 e.0 w.1 e.1))
  sound_effect CountValues grouping args operands row W g k a shape sound = λ R r w inside.
      let e = w.2 r inside in
      represents_counted u p grouping (text_at (texts_of args) 0) row e.0 r g k.0.0 shape (sound w.0 e.0 w.1 e.1) e.2
  sound_effect Date grouping Nil operands row W g k a shape sound = sound_bare
  sound_effect Date grouping (Next x xs) operands row W g k a shape sound = sound_maps row W shape sound
  sound_effect Absent grouping args operands row W g k a shape sound = λ R r w inside.
      let L : Labels → Type 0 = λ t. Represents u (effect_row u Absent grouping args row) t in
      subst L (sym (w.2 r inside)) (represents_absent u p (sought_in args) w.0 a w.1)
  sound_effect LabelReplace grouping args operands row W g k a shape sound = λ R r w inside.
      let e = w.2.1 r inside in
      represents_replacing u p row e.0 shape (sound w.0 e.0 w.1 e.1) (replacing (texts_of args)) (all_back (IsKnown u) operands _ k) r e.2
  sound_effect LabelJoin grouping args operands row W g k a shape sound = λ R r w inside.
      let e = w.2.1 r inside in
      represents_joining u p row e.0 shape (sound w.0 e.0 w.1 e.1) (joining (texts_of args)) r (all_back (IsKnown u) operands _ k) e.2
  sound_effect HistogramQuantile grouping args operands row W g k a shape sound = λ R r w inside.
      let e = w.2 r inside in
      represents_quantile u p row e.0 r k.0.0 shape (sound w.0 e.0 w.1 e.1) e.2
  sound_effect Bare grouping args operands row W g k a shape sound = sound_bare

  -- operators

  pub shape_beside : (filters : Bool) (row : Sets) → HasShape u row → HasShape u (beside_scalar_row u filters row)
  shape_beside true row shape = shape
  shape_beside false row shape = shape_nameless u p row shape

  sound_loses : (row : Sets) (W : Results) → HasShape u row → IsSound u row W → IsSound u (nameless u row) (SignGives true W)
  sound_loses row W shape sound R r w inside =
      let e = w.2.1 r inside in
      let L : Labels → Type 0 = λ t. Represents u (nameless u row) t in
      subst L (sym e.2) (represents_nameless u p row e.0 shape (sound w.0 e.0 w.1 e.1))

  sound_beside : (filters : Bool) (row : Sets) (W : Results) → HasShape u row → IsSound u row W → IsSound u (beside_scalar_row u filters row) (BesideScalar filters W)
  sound_beside true row W shape sound = sound_keeps row W sound
  sound_beside false row W shape sound = sound_loses row W shape sound

  pub shape_combined : (op : Op) (m : Matching) (left right : Sets) → HasShape u left → HasShape u right → HasShape u (combined_row u op m left right)
  shape_combined And m left right h k = shape_matched u p m left right h
  shape_combined Or m left right h k = shape_join u left right h k
  shape_combined Unless m left right h k = h
  shape_combined Add m left right h k = shape_pairs u p m Add left right h k
  shape_combined Subtract m left right h k = shape_pairs u p m Subtract left right h k
  shape_combined Multiply m left right h k = shape_pairs u p m Multiply left right h k
  shape_combined Divide m left right h k = shape_pairs u p m Divide left right h k
  shape_combined Modulo m left right h k = shape_pairs u p m Modulo left right h k
  shape_combined Power m left right h k = shape_pairs u p m Power left right h k
  shape_combined Atan2 m left right h k = shape_pairs u p m Atan2 left right h k
  shape_combined Equal m left right h k = shape_pairs u p m Equal left right h k
  shape_combined NotEqual m left right h k = shape_pairs u p m NotEqual left right h k
  shape_combined LessOrEqual m left right h k = shape_pairs u p m LessOrEqual left right h k
  shape_combined Less m left right h k = shape_pairs u p m Less left right h k
  shape_combined GreaterOrEqual m left right h k = shape_pairs u p m GreaterOrEqual left right h k
  shape_combined Greater m left right h k = shape_pairs u p m Greater left right h k

  module _ (m : Matching) (known : AllKnown u (modifier_mentions m)) where
    pub on_known : AreKnown u (names_at m.on)
    on_known = all_front (IsKnown u) (names_mentions (names_at m.on)) _ known

    pub ignoring_known : AreKnown u (names_at m.ignoring)
    ignoring_known = all_front (IsKnown u) (names_mentions (names_at m.ignoring)) _ (all_back (IsKnown u) (names_mentions (names_at m.on)) _ known)

    pub include_known : AreKnown u m.include
    include_known = all_back (IsKnown u) (names_mentions (names_at m.ignoring)) _ (all_back (IsKnown u) (names_mentions (names_at m.on)) _ known)

    module _ (left right : Sets) (W V : Results) (h : HasShape u left) (k : HasShape u right) (sound : IsSound u left W) (sound' : IsSound u right V) where
      are_pairs : (op : Op) (b : Bool) (P Q R : List Labels) → PairsGive b op m P Q R → ArePairs op m P Q R
      are_pairs op true P Q R pairs = pairs
      are_pairs op false P Q R pairs = pairs.0

      sound_pairs : (op : Op) (b : Bool) → IsSound u (paired_row u m.group op m (matched_row u m left right) (matched_row u m right left)) (λ R. (P : List Labels) × (Q : List Labels) × W P × V Q × PairsGive b op m P Q R)
      sound_pairs op b R r w inside =
          let e = are_pairs op b w.0 w.1 R w.4 r inside in
          let L : Labels → Type 0 = λ t. Represents u (paired_row u m.group op m (matched_row u m left right) (matched_row u m right left)) t in
          subst L (sym e.5) (represents_out u p m on_known ignoring_known include_known op left right e.0 e.1 h k e.4 (sound w.0 e.0 w.2 e.2) (sound' w.1 e.1 w.3 e.3))

      abbrev Both : Op → Results
      Both op R = (P : List Labels) × (Q : List Labels) × W P × V Q × Combines op m P Q R

      pub sound_combined : (op : Op) → IsSound u (combined_row u op m left right) (Both op)
      sound_combined And = λ R r w inside.
          let e = w.4.1 r inside in
          represents_matched u p m on_known ignoring_known left right r e.1.0 h e.1.2 (sound w.0 r w.2 e.0) (sound' w.1 e.1.0 w.3 e.1.1)
      sound_combined Or = λ R r w inside. elim (w.4.2 r inside) [
        | inl e ↦ represents_join_left u p left right r h (sound w.0 r w.2 e)
        | inr e ↦ represents_join_right u p left right r h (sound' w.1 r w.3 e.0)
      ]
      sound_combined Unless = λ R r w inside. sound w.0 r w.2 (w.4.1 r inside).0
      sound_combined Add = sound_pairs Add (is_filter Add m)
      sound_combined Subtract = sound_pairs Subtract (is_filter Subtract m)
      sound_combined Multiply = sound_pairs Multiply (is_filter Multiply m)
      sound_combined Divide = sound_pairs Divide (is_filter Divide m)
      sound_combined Modulo = sound_pairs Modulo (is_filter Modulo m)
      sound_combined Power = sound_pairs Power (is_filter Power m)
      sound_combined Atan2 = sound_pairs Atan2 (is_filter Atan2 m)
      sound_combined Equal = sound_pairs Equal (is_filter Equal m)
      sound_combined NotEqual = sound_pairs NotEqual (is_filter NotEqual m)
      sound_combined LessOrEqual = sound_pairs LessOrEqual (is_filter LessOrEqual m)
      sound_combined Less = sound_pairs Less (is_filter Less m)
      sound_combined GreaterOrEqual = sound_pairs GreaterOrEqual (is_filter GreaterOrEqual m)
      sound_combined Greater = sound_pairs Greater (is_filter Greater m)

  pub shape_binary : (op : Op) (m : Matching) (a b : Bool) (left right : Sets) → HasShape u left → HasShape u right → HasShape u (binary_row u op m a b left right)
  shape_binary op m true true left right h k = shape_bare u p
  shape_binary op m false true left right h k = shape_beside (is_filter op m) left h
  shape_binary op m true false left right h k = shape_beside (is_filter op m) right k
  shape_binary op m false false left right h k = shape_combined op m left right h k

  pub sound_binary : (op : Op) (m : Matching) (a b : Bool) (left right : Sets) (W V : Results) → AllKnown u (modifier_mentions m) → HasShape u left → HasShape u right → IsSound u left W → IsSound u right V
      → IsSound u (binary_row u op m a b left right) (BinaryGives op m a b W V)
  sound_binary op m true true left right W V known h k sound sound' = λ R r w inside. sound_bare R r w inside
  sound_binary op m false true left right W V known h k sound sound' = λ R r w inside. sound_beside (is_filter op m) left W h sound R r w inside
  sound_binary op m true false left right W V known h k sound sound' = λ R r w inside. sound_beside (is_filter op m) right V k sound' R r w inside
  sound_binary op m false false left right W V known h k sound sound' = λ R r w inside. sound_combined m known left right W V h k sound sound' op R r w inside

  pub shape_sign : (minus : Bool) (row : Sets) → HasShape u row → HasShape u (sign_row u minus row)
  shape_sign true row shape = shape_nameless u p row shape
  shape_sign false row shape = shape

  pub sound_sign : (minus : Bool) (row : Sets) (W : Results) → HasShape u row → IsSound u row W → IsSound u (sign_row u minus row) (SignGives minus W)
  sound_sign true row W shape sound = sound_loses row W shape sound
  sound_sign false row W shape sound = sound
