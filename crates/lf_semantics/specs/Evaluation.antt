-- Which finite sets of label sets an expression may give, over the scraped series and the recorded samples. No value of a sample is computed: which samples a selector
-- sees, which a comparison lets through, and when a function gives one, is free. A set is a list up to membership.
use Rattle.std.specs.Prelude.{◌≡◌, ◌≢◌, ◌⊎◌, ℕ, zero, suc, Bool, true, false, not, ◌&&◌, cond, List, [], map, Option, Some, None, codes}
use Rattle.std.specs.List.{Contains, filter}
use Rattle.std.specs.Str.{bytes_eq}
use Rattle.std.specs.FinMap as map
use Rattle.lf_ast.specs.Functions.{Signature, aggregation, function_named}
use Rattle.lf_ast.specs.Labels.{Bytes, Labels}
use Rattle.lf_ast.specs.Tree.{Tree, Trees, Number, Str, Selector, Subquery, Paren, Unary, Binary, Call, Aggregate, Nil, Next}
use Rattle.lf_base.specs.Names.{is_label_name}
use Rattle.lf_ast.specs.declared.expr.Grouping.{Grouping}
use Rattle.lf_ast.specs.declared.expr.Grouping.TheVariants.{None as Ungrouped}
use Rattle.lf_ast.specs.declared.expr.Matcher.{Matcher}
use Rattle.lf_ast.specs.declared.expr.Matching.{Matching}
use Rattle.lf_ast.specs.declared.expr.Op.{Op}
use Rattle.lf_ast.specs.declared.expr.Op.TheVariants.{And, Or, Unless}
use Rattle.lf_ast.specs.declared.functions.LabelEffect.{LabelEffect}
use Rattle.lf_ast.specs.declared.functions.LabelEffect.TheVariants.{Maps, Keeps, Groups, CountValues, Date, Absent, LabelReplace, LabelJoin, HistogramQuantile, Bare}
use Rattle.lf_ast.specs.Arguments.{text_at, texts_of}
use Rattle.lf_pattern.specs.Matching.{Matches}
use Rattle.lf_semantics.specs.Grouped.{SameSignature, group_of, is_filter, is_metric, may_be_lacked, out, without_name}
use Rattle.lf_semantics.specs.Parts.{Sought, is_scalar_part, operand_place, sought_in}
use Rattle.lf_semantics.specs.Passing.{HasName, PassesEach}
use Rattle.lf_semantics.specs.Strings.{Expands, Joining, Replacing, absent_texts, joined_by, joining, replacing}
use Rattle.lf_semantics.specs.Texts.{HasTexts, restricted, value_of, with_label}

-- the results that may be given: which sets of samples
abbrev pub Results : Type 1
Results = List Labels → Type 0

-- no label
abbrev pub bare : Labels
bare = map.empty

-- the one sample without labels
abbrev pub IsBare : Results
IsBare R = Contains R bare × ((r : Labels) → Contains R r → r ≡ bare)

-- sets made of a set, by a relation that says what a sample may become

-- each sample of Q becomes one of R or more, and R has no others
abbrev pub AreMade : (Labels → Labels → Type 0) → List Labels → List Labels → Type 0
AreMade becomes Q R =
    ((s : Labels) → Contains Q s → (r : Labels) × becomes s r × Contains R r)
    × ((r : Labels) → Contains R r → (s : Labels) × Contains Q s × becomes s r)

-- any set of what samples of Q become
abbrev pub AreSomeMade : (Labels → Labels → Type 0) → List Labels → List Labels → Type 0
AreSomeMade becomes Q R = (r : Labels) → Contains R r → (s : Labels) × Contains Q s × becomes s r

-- as it is
abbrev pub Stays : Labels → Labels → Type 0
Stays s r = r ≡ s

abbrev pub LosesName : Labels → Labels → Type 0
LosesName s r = r ≡ without_name s

-- into the sample of its group
abbrev pub IsGrouped : Grouping → Labels → Labels → Type 0
IsGrouped grouping s r = r ≡ group_of grouping s

-- into the sample of its group with the label x: a text, and none only where x may be lacked
abbrev pub IsCounted : Grouping → Bytes → Labels → Labels → Type 0
IsCounted grouping x s r = (text : Bytes) × ((text ≢ []) ⊎ (may_be_lacked grouping x ≡ true)) × (r ≡ with_label x text (group_of grouping s))

-- a source that is no label name counts as absent
abbrev pub source_value : Replacing → Labels → Bytes
source_value p s = cond (is_label_name p.source) (value_of s p.source) []

-- where the pattern matches the source, the target becomes the expanded replacement, which removes it if empty
abbrev pub IsReplaced : Replacing → Labels → Labels → Type 0
IsReplaced p s r =
    ((Matches p.pattern (source_value p s) → ⊥) × (r ≡ s))
    ⊎ (Matches p.pattern (source_value p s) × (text : Bytes) × Expands p (source_value p s) text × (r ≡ with_label p.target text s))

-- the target becomes the texts of the sources, joined; an empty one removes it
abbrev pub IsJoined : Joining → Labels → Labels → Type 0
IsJoined p s r = r ≡ with_label p.target (joined_by p.separator (map (λ source. value_of s source) p.sources)) s

-- a sample with `le`, without it and the name
abbrev pub IsQuantile : Labels → Labels → Type 0
IsQuantile s r = (value_of s (codes "le") ≢ []) × (r ≡ restricted (λ label. not (is_metric label) && not (bytes_eq label (codes "le"))) s)

-- `absent`

-- each label but the name has a text that the matchers on it let it take
abbrev pub HasSoughtTexts : List Matcher → Labels → Type 0
HasSoughtTexts matchers r =
    HasTexts r × ((label : Bytes) → is_metric label ≡ true → value_of r label ≡ [])
    × ((label : Bytes) → is_metric label ≡ false → Contains (absent_texts (filter (λ m. bytes_eq m.label label) matchers)) (value_of r label))

-- the sample where nothing was found: of a selector its texts, or none where it stands in parentheses or has an `@`; of any other argument no label
abbrev pub IsAbsent : Option Sought → Labels → Type 0
IsAbsent None r = r ≡ bare
IsAbsent (Some sought) r = HasSoughtTexts sought.matchers r ⊎ ((sought.may_be_bare ≡ true) × (r ≡ bare))

-- nothing, or one sample
abbrev pub AbsentGives : Option Sought → Results
AbsentGives sought R = (one : Labels) × IsAbsent sought one × ((r : Labels) → Contains R r → r ≡ one)

-- functions and aggregations, by the table of functions

abbrev pub Made : (Labels → Labels → Type 0) → Results → Results
Made becomes operand R = (Q : List Labels) × operand Q × AreMade becomes Q R

abbrev pub SomeMade : (Labels → Labels → Type 0) → Results → Results
SomeMade becomes operand R = (Q : List Labels) × operand Q × AreSomeMade becomes Q R

-- a function of dates maps its argument, or speaks of now
abbrev pub DateGives : Trees → Results → Results
DateGives Nil operand = IsBare
DateGives (Next x xs) operand = SomeMade LosesName operand

abbrev pub EffectGives : LabelEffect → Grouping → Trees → Results → Results
EffectGives Maps grouping args operand = SomeMade LosesName operand
EffectGives Keeps grouping args operand = SomeMade Stays operand
EffectGives Groups grouping args operand = Made (IsGrouped grouping) operand
EffectGives CountValues grouping args operand = SomeMade (IsCounted grouping (text_at (texts_of args) 0)) operand
EffectGives Date grouping args operand = DateGives args operand
EffectGives Absent grouping args operand = AbsentGives (sought_in args)
EffectGives LabelReplace grouping args operand = Made (IsReplaced (replacing (texts_of args))) operand
EffectGives LabelJoin grouping args operand = Made (IsJoined (joining (texts_of args))) operand
EffectGives HistogramQuantile grouping args operand = SomeMade IsQuantile operand
EffectGives Bare grouping args operand = IsBare

-- operators

-- arithmetic and `bool` with a scalar drop the name, and a filter lets any samples through
abbrev pub BesideScalar : Bool → Results → Results
BesideScalar true operand = SomeMade Stays operand
BesideScalar false operand = Made LosesName operand

abbrev pub HasPartner : Matching → List Labels → Labels → Type 0
HasPartner m Q s = (t : Labels) × Contains Q t × SameSignature m s t

-- R has results of pairs of equal signature, and no others
abbrev pub ArePairs : Op → Matching → List Labels → List Labels → List Labels → Type 0
ArePairs op m P Q R = (r : Labels) → Contains R r → (s : Labels) × (t : Labels) × Contains P s × Contains Q t × SameSignature m s t × (r ≡ out op m s t)

-- and it has those of all pairs
abbrev pub AreAllPairs : Op → Matching → List Labels → List Labels → List Labels → Type 0
AreAllPairs op m P Q R = ArePairs op m P Q R × ((s t : Labels) → Contains P s → Contains Q t → SameSignature m s t → Contains R (out op m s t))

abbrev pub PairsGive : Bool → Op → Matching → List Labels → List Labels → List Labels → Type 0
PairsGive true = ArePairs
PairsGive false = AreAllPairs

-- the left samples with a partner on the right
abbrev pub AreMatched : Matching → List Labels → List Labels → List Labels → Type 0
AreMatched m P Q R =
    ((s : Labels) → Contains P s → HasPartner m Q s → Contains R s)
    × ((r : Labels) → Contains R r → Contains P r × HasPartner m Q r)

-- the left samples without one
abbrev pub AreUnmatched : Matching → List Labels → List Labels → List Labels → Type 0
AreUnmatched m P Q R =
    ((s : Labels) → Contains P s → (HasPartner m Q s → ⊥) → Contains R s)
    × ((r : Labels) → Contains R r → Contains P r × (HasPartner m Q r → ⊥))

-- the left samples, and the right ones without a partner on the left
abbrev pub AreEither : Matching → List Labels → List Labels → List Labels → Type 0
AreEither m P Q R =
    ((s : Labels) → Contains P s → Contains R s)
    × ((t : Labels) → Contains Q t → (HasPartner m P t → ⊥) → Contains R t)
    × ((r : Labels) → Contains R r → Contains P r ⊎ (Contains Q r × (HasPartner m P r → ⊥)))

-- arithmetic and `bool` give all pairs, and a filter any of them
abbrev pub Combines : Op → Matching → List Labels → List Labels → List Labels → Type 0
Combines And m = AreMatched m
Combines Or m = AreEither m
Combines Unless m = AreUnmatched m
Combines op m = PairsGive (is_filter op m) op m

-- by whether the left and the right side are scalars
abbrev pub BinaryGives : Op → Matching → Bool → Bool → Results → Results → Results
BinaryGives op m true true left right R = IsBare R
BinaryGives op m false true left right R = BesideScalar (is_filter op m) left R
BinaryGives op m true false left right R = BesideScalar (is_filter op m) right R
BinaryGives op m false false left right R = (P : List Labels) × (Q : List Labels) × left P × right Q × Combines op m P Q R

abbrev pub SignGives : Bool → Results → Results
SignGives true operand = Made LosesName operand
SignGives false operand = operand

-- a call by its signature: `argument` says what each argument may give
abbrev pub CallGives : Option Signature → Grouping → Trees → (ℕ → Results) → Results
CallGives None grouping args argument R = ⊥
CallGives (Some s) grouping args argument R = EffectGives s.labels grouping args (argument (operand_place s)) R

-- expressions

module _ (S N : List Labels) where
  abbrev mutual
    -- `Evaluates S N e R`: over the scraped series S and the recorded samples N, the expression e may give the set R
    pub Evaluates : Tree → Results
    Evaluates (Number text span) R = IsBare R
    Evaluates (Str text span) R = ⊥
    -- any set of scraped series and recorded samples that pass the matchers
    Evaluates (Selector name matchers sight span) R = (s : Labels) → Contains R s → (Contains S s ⊎ Contains N s) × HasName name s × PassesEach matchers s
    -- any set of samples of several evaluations
    Evaluates (Subquery of sight span) R = (s : Labels) → Contains R s → (Q : List Labels) × Evaluates of Q × Contains Q s
    Evaluates (Paren of span) R = Evaluates of R
    Evaluates (Unary minus of span) R = SignGives minus (Evaluates of) R
    Evaluates (Binary op m left right span) R = BinaryGives op m (is_scalar_part left) (is_scalar_part right) (Evaluates left) (Evaluates right) R
    Evaluates (Call name args span) R = CallGives (function_named name) Ungrouped args (ArgumentEvaluates args) R
    Evaluates (Aggregate op grouping args span) R = CallGives (Some (aggregation op)) grouping args (ArgumentEvaluates args) R

    -- argument k, counted from 0, may give the set R
    pub ArgumentEvaluates : Trees → ℕ → Results
    ArgumentEvaluates Nil k R = ⊥
    ArgumentEvaluates (Next x xs) zero R = Evaluates x R
    ArgumentEvaluates (Next x xs) (suc k) R = ArgumentEvaluates xs k R
