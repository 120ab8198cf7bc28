-- Over series and recorded samples without an empty text, no expression gives an empty text.
use Rattle.std.proofs.Common.{◌≡◌, ℕ, zero, suc, Bool, true, false, List, [], ◌∷◌, Option, Some, None, inl, inr, sym, ◌∙◌, subst}
use Rattle.std.specs.List.{Contains}
use Rattle.std.specs.Cmp.Lexicographic.{slice_cmp}
use Rattle.std.specs.Ordering.{nat_cmp}
use Rattle.std.specs.FinMap.{get-empty}
use Rattle.lf_ast.specs.Functions.{Signature, aggregation, function_named}
use Rattle.lf_ast.specs.Labels.{Labels}
use Rattle.lf_ast.specs.Tree.{Tree, Trees, Number, Str, Selector, Subquery, Paren, Unary, Binary, Call, Aggregate, Nil, Next}
use Rattle.lf_ast.specs.declared.expr.Group.{Group}
use Rattle.lf_ast.specs.declared.expr.Group.TheVariants.{One, Left, Right}
use Rattle.lf_ast.specs.declared.expr.Grouping.{Grouping}
use Rattle.lf_ast.specs.declared.expr.Grouping.TheVariants.{None as Ungrouped}
use Rattle.lf_ast.specs.declared.expr.Matching.{Matching}
use Rattle.lf_ast.specs.declared.expr.Name.{Name}
use Rattle.lf_ast.specs.declared.expr.Op.{Op}
use Rattle.lf_ast.specs.declared.expr.Op.TheVariants.{Add, Subtract, Multiply, Divide, Modulo, Power, Atan2, Equal, NotEqual, LessOrEqual, Less, GreaterOrEqual, Greater, And, Or, Unless}
use Rattle.lf_ast.specs.declared.functions.LabelEffect.{LabelEffect}
use Rattle.lf_ast.specs.declared.functions.LabelEffect.TheVariants.{Maps, Keeps, Groups, CountValues, Date, Absent, LabelReplace, LabelJoin, HistogramQuantile, Bare}
use Rattle.lf_ast.specs.Arguments.{text_at, texts_of}
use Rattle.lf_semantics.specs.Evaluation.{ArePairs, ArgumentEvaluates, BesideScalar, BinaryGives, CallGives, Combines, EffectGives, Evaluates, Results, IsAbsent, IsBare, IsCounted, IsGrouped, IsJoined, IsQuantile, IsReplaced, LosesName, Made, PairsGive, SignGives, SomeMade, Stays, bare}
use Rattle.lf_semantics.specs.Grouped.{group_of, is_arithmetic, is_filter, paired, taken_from, without_name_if}
use Rattle.lf_semantics.specs.Parts.{Sought, is_scalar_part, operand_place}
use Rattle.lf_semantics.specs.Strings.{joining, replacing}
use Rattle.lf_semantics.specs.Texts.{HasTexts, value_of}
use Rattle.lf_semantics.proofs.Kept.{restricted_has_texts, with_label_has_texts}

-- no text of a member is empty
abbrev pub HaveTexts : List Labels → Type 0
HaveTexts R = (s : Labels) → Contains R s → HasTexts s

abbrev pub GivesTexts : Results → Type 0
GivesTexts gives = (R : List Labels) → gives R → HaveTexts R

-- the texts of what samples become aren't empty

pub bare_has_texts : HasTexts bare
bare_has_texts name text e = let n : None ≡ Some text = sym (get-empty (slice_cmp nat_cmp) name) ∙ e in absurd (cc)

pub taken_has_texts : (one : Labels) (names : List Name) (s : Labels) → HasTexts s → HasTexts (taken_from one names s)
taken_has_texts one [] s h = h
taken_has_texts one (n ∷ names) s h = with_label_has_texts n.text (value_of one n.text) (taken_from one names s) (taken_has_texts one names s h)

pub without_if_has_texts : (drops : Bool) (s : Labels) → HasTexts s → HasTexts (without_name_if drops s)
without_if_has_texts true s h = restricted_has_texts _ s h
without_if_has_texts false s h = h

paired_has_texts : (g : Group) (op : Op) (m : Matching) (s t : Labels) → HasTexts s → HasTexts t → HasTexts (paired g op m s t)
paired_has_texts One op m s t h k = restricted_has_texts _ s h
paired_has_texts Left op m s t h k = without_if_has_texts m.bool_mod _ (taken_has_texts t m.include _ (without_if_has_texts (is_arithmetic op) s h))
paired_has_texts Right op m s t h k = without_if_has_texts m.bool_mod _ (taken_has_texts s m.include _ (without_if_has_texts (is_arithmetic op) t k))

-- a change of samples that keeps texts from being empty
abbrev Keeps-texts : (Labels → Labels → Type 0) → Type 0
Keeps-texts becomes = (s r : Labels) → becomes s r → HasTexts s → HasTexts r

some_made : (becomes : Labels → Labels → Type 0) (W : Results) → Keeps-texts becomes → GivesTexts W → GivesTexts (SomeMade becomes W)
some_made becomes W keeps h R w r c = let e = w.2 r c in keeps e.0 r e.2 (h w.0 w.1 e.0 e.1)

all_made : (becomes : Labels → Labels → Type 0) (W : Results) → Keeps-texts becomes → GivesTexts W → GivesTexts (Made becomes W)
all_made becomes W keeps h R w r c = let e = w.2.1 r c in keeps e.0 r e.2 (h w.0 w.1 e.0 e.1)

bare_texts : GivesTexts IsBare
bare_texts R w r c = subst HasTexts (sym (w.1 r c)) bare_has_texts

loses_name : Keeps-texts LosesName
loses_name s r e h = subst HasTexts (sym e) (restricted_has_texts _ s h)

pub absent_has_texts : (sought : Option Sought) (r : Labels) → IsAbsent sought r → HasTexts r
absent_has_texts None r is = subst HasTexts (sym is) bare_has_texts
absent_has_texts (Some sought) r (inl has) = has.0
absent_has_texts (Some sought) r (inr none) = subst HasTexts (sym none.1) bare_has_texts

effect_texts : (effect : LabelEffect) (grouping : Grouping) (args : Trees) (W : Results) → GivesTexts W → GivesTexts (EffectGives effect grouping args W)
effect_texts Maps grouping args W h = some_made LosesName W loses_name h
effect_texts Keeps grouping args W h = some_made Stays W (λ s r e k. subst HasTexts (sym e) k) h
effect_texts Groups grouping args W h = all_made (IsGrouped grouping) W (λ s r e k. subst HasTexts (sym e) (restricted_has_texts _ s k)) h
effect_texts CountValues grouping args W h =
    some_made (IsCounted grouping (text_at (texts_of args) 0)) W (λ s r e k. subst HasTexts (sym e.2) (with_label_has_texts (text_at (texts_of args) 0) e.0 (group_of grouping s) (restricted_has_texts _ s k))) h
effect_texts Date grouping Nil W h = bare_texts
effect_texts Date grouping (Next x xs) W h = some_made LosesName W loses_name h
effect_texts Absent grouping args W h = λ R w r c. subst HasTexts (sym (w.2 r c)) (absent_has_texts _ w.0 w.1)
effect_texts LabelReplace grouping args W h = all_made (IsReplaced (replacing (texts_of args))) W replaced h
  where
    replaced : Keeps-texts (IsReplaced (replacing (texts_of args)))
    replaced s r (inl e) k = subst HasTexts (sym e.1) k
    replaced s r (inr e) k = subst HasTexts (sym e.3) (with_label_has_texts (replacing (texts_of args)).target e.1 s k)
effect_texts LabelJoin grouping args W h = all_made (IsJoined (joining (texts_of args))) W (λ s r e k. subst HasTexts (sym e) (with_label_has_texts _ _ s k)) h
effect_texts HistogramQuantile grouping args W h = some_made IsQuantile W (λ s r e k. subst HasTexts (sym e.1) (restricted_has_texts _ s k)) h
effect_texts Bare grouping args W h = bare_texts

beside_texts : (filters : Bool) (W : Results) → GivesTexts W → GivesTexts (BesideScalar filters W)
beside_texts true W h = some_made Stays W (λ s r e k. subst HasTexts (sym e) k) h
beside_texts false W h = all_made LosesName W loses_name h

are_pairs : (op : Op) (m : Matching) (b : Bool) (P Q R : List Labels) → PairsGive b op m P Q R → ArePairs op m P Q R
are_pairs op m true P Q R pairs = pairs
are_pairs op m false P Q R pairs = pairs.0

pair_texts : (op : Op) (m : Matching) (b : Bool) (P Q R : List Labels) → HaveTexts P → HaveTexts Q → PairsGive b op m P Q R → HaveTexts R
pair_texts op m b P Q R h k pairs r c =
    let e = are_pairs op m b P Q R pairs r c in
    subst HasTexts (sym e.5) (paired_has_texts m.group op m e.0 e.1 (h e.0 e.2) (k e.1 e.3))

combined_texts : (op : Op) (m : Matching) (P Q R : List Labels) → HaveTexts P → HaveTexts Q → Combines op m P Q R → HaveTexts R
combined_texts And m P Q R h k w = λ r c. h r (w.1 r c).0
combined_texts Or m P Q R h k w = λ r c. elim (w.2 r c) [ inl e ↦ h r e | inr e ↦ k r e.0 ]
combined_texts Unless m P Q R h k w = λ r c. h r (w.1 r c).0
combined_texts Add m P Q R h k w = pair_texts Add m (is_filter Add m) P Q R h k w
combined_texts Subtract m P Q R h k w = pair_texts Subtract m (is_filter Subtract m) P Q R h k w
combined_texts Multiply m P Q R h k w = pair_texts Multiply m (is_filter Multiply m) P Q R h k w
combined_texts Divide m P Q R h k w = pair_texts Divide m (is_filter Divide m) P Q R h k w
combined_texts Modulo m P Q R h k w = pair_texts Modulo m (is_filter Modulo m) P Q R h k w
combined_texts Power m P Q R h k w = pair_texts Power m (is_filter Power m) P Q R h k w
combined_texts Atan2 m P Q R h k w = pair_texts Atan2 m (is_filter Atan2 m) P Q R h k w
combined_texts Equal m P Q R h k w = pair_texts Equal m (is_filter Equal m) P Q R h k w
combined_texts NotEqual m P Q R h k w = pair_texts NotEqual m (is_filter NotEqual m) P Q R h k w
combined_texts LessOrEqual m P Q R h k w = pair_texts LessOrEqual m (is_filter LessOrEqual m) P Q R h k w
combined_texts Less m P Q R h k w = pair_texts Less m (is_filter Less m) P Q R h k w
combined_texts GreaterOrEqual m P Q R h k w = pair_texts GreaterOrEqual m (is_filter GreaterOrEqual m) P Q R h k w
combined_texts Greater m P Q R h k w = pair_texts Greater m (is_filter Greater m) P Q R h k w

binary_texts : (op : Op) (m : Matching) (a b : Bool) (W V : Results) → GivesTexts W → GivesTexts V → GivesTexts (BinaryGives op m a b W V)
binary_texts op m true true W V h k = λ R w r c. bare_texts R w r c
binary_texts op m false true W V h k = λ R w r c. beside_texts (is_filter op m) W h R w r c
binary_texts op m true false W V h k = λ R w r c. beside_texts (is_filter op m) V k R w r c
binary_texts op m false false W V h k = λ R w r c. combined_texts op m w.0 w.1 R (h w.0 w.2) (k w.1 w.3) w.4 r c

sign_texts : (minus : Bool) (W : Results) → GivesTexts W → GivesTexts (SignGives minus W)
sign_texts true W h = all_made LosesName W loses_name h
sign_texts false W h = h

module _ (S N : List Labels) (scraped : HaveTexts S) (recorded : HaveTexts N) where
  call_texts : (s : Option Signature) (grouping : Grouping) (args : Trees) → ((k : ℕ) → GivesTexts (ArgumentEvaluates S N args k)) → GivesTexts (CallGives s grouping args (ArgumentEvaluates S N args))
  call_texts None grouping args each = λ R w. absurd w
  call_texts (Some s) grouping args each = λ R w. effect_texts s.labels grouping args (ArgumentEvaluates S N args (operand_place s)) (each (operand_place s)) R w

  mutual
    pub evaluates_gives_texts : (e : Tree) → GivesTexts (Evaluates S N e)
    evaluates_gives_texts (Number text span) = λ R w r c. bare_texts R w r c
    evaluates_gives_texts (Str text span) = λ R w. absurd w
    evaluates_gives_texts (Selector name matchers sight span) = λ R w r c. elim ((w r c).0) [ inl a ↦ scraped r a | inr b ↦ recorded r b ]
    evaluates_gives_texts (Subquery of sight span) = λ R w r c. let e = w r c in evaluates_gives_texts of e.0 e.1 r e.2
    evaluates_gives_texts (Paren of span) = λ R w r c. evaluates_gives_texts of R w r c
    evaluates_gives_texts (Unary minus of span) = λ R w r c. sign_texts minus (Evaluates S N of) (evaluates_gives_texts of) R w r c
    evaluates_gives_texts (Binary op m left right span) = λ R w r c.
        binary_texts op m (is_scalar_part left) (is_scalar_part right) (Evaluates S N left) (Evaluates S N right) (evaluates_gives_texts left) (evaluates_gives_texts right) R w r c
    evaluates_gives_texts (Call name args span) = λ R w r c. call_texts (function_named name) Ungrouped args (argument_gives_texts args) R w r c
    evaluates_gives_texts (Aggregate op grouping args span) = λ R w r c. call_texts (Some (aggregation op)) grouping args (argument_gives_texts args) R w r c

    argument_gives_texts : (args : Trees) (k : ℕ) → GivesTexts (ArgumentEvaluates S N args k)
    argument_gives_texts Nil k = λ R w. absurd w
    argument_gives_texts (Next x xs) zero = λ R w r c. evaluates_gives_texts x R w r c
    argument_gives_texts (Next x xs) (suc k) = λ R w r c. argument_gives_texts xs k R w r c
