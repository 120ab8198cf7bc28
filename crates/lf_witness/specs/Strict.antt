-- What an expression gives by the strict evaluation, over stored samples: one finite set of label sets, or None. Where the relational evaluation (`Evaluates`) allows any
-- part of a set, the whole is taken: a selector gives each sample that passes, and filters and functions keep them all. Where that speaks of more than parts, one is taken:
-- of `histogram_quantile` the last buckets alone, of `count_values` the text `1`, of `absent` its sample exactly where the operand has none, of a subquery a single
-- evaluation. It is None where two samples of a result would be one, where a match isn't unique on a one side, where the rules leave open what is given, and for a string.
-- A set is a list up to membership.
use Rattle.std.specs.Prelude.{◌≡◌, ◌≢◌, ◌⊎◌, ◌<◌, ℕ, zero, suc, Bool, true, false, List, [], ◌∷◌, length, Option, Some, None, codes}
use Rattle.std.specs.List.{Contains, filter}
use Rattle.std.specs.Str.{bytes_eq}
use Rattle.lf_ast.specs.Functions.{Signature, aggregation, function_named}
use Rattle.lf_ast.specs.Labels.{Bytes, Labels}
use Rattle.lf_ast.specs.Tree.{Tree, Trees, Number, Str, Selector, Subquery, Paren, Unary, Binary, Call, Aggregate, Nil, Next}
use Rattle.lf_ast.specs.declared.expr.Group.{Group}
use Rattle.lf_ast.specs.declared.expr.Group.TheVariants.{One, Left, Right}
use Rattle.lf_ast.specs.declared.expr.Grouping.{Grouping}
use Rattle.lf_ast.specs.declared.expr.Grouping.TheVariants.{None as Ungrouped}
use Rattle.lf_ast.specs.declared.expr.Matcher.{Matcher}
use Rattle.lf_ast.specs.declared.expr.Matching.{Matching}
use Rattle.lf_ast.specs.declared.expr.Op.{Op}
use Rattle.lf_ast.specs.declared.expr.Op.TheVariants.{And, Or, Unless}
use Rattle.lf_ast.specs.declared.functions.LabelEffect.{LabelEffect}
use Rattle.lf_ast.specs.declared.functions.LabelEffect.TheVariants.{Maps, Keeps, Groups, CountValues, Date, Absent, LabelReplace, LabelJoin, HistogramQuantile, Bare}
use Rattle.lf_ast.specs.Arguments.{text_at, texts_of}
use Rattle.lf_pattern.specs.Replacement.{IsPlainReplacement}
use Rattle.lf_semantics.specs.Evaluation.{AreAllPairs, AreEither, AreMade, AreMatched, AreUnmatched, IsAbsent, IsBare, IsGrouped, IsJoined, IsQuantile, IsReplaced, LosesName}
use Rattle.lf_semantics.specs.Grouped.{SameSignature, group_of, is_filter, is_metric, out}
use Rattle.lf_semantics.specs.Parts.{Sought, is_scalar_part, operand_place, sought_in}
use Rattle.lf_semantics.specs.Passing.{HasName, PassesEach}
use Rattle.lf_semantics.specs.Strings.{Replacing, joining, replacing}
use Rattle.lf_semantics.specs.Texts.{value_of, with_label}

-- what is given: a set, or None
abbrev pub Outcomes : Type 1
Outcomes = Option (List Labels) → Type 0

-- one set: the lists have the same members
abbrev pub AreSame : List Labels → List Labels → Type 0
AreSame P R = ((s : Labels) → Contains P s → Contains R s) × ((s : Labels) → Contains R s → Contains P s)

-- one outcome: one set, or None both times
abbrev pub IsSameOutcome : Option (List Labels) → Option (List Labels) → Type 0
IsSameOutcome None None = Unit {0}
IsSameOutcome None (Some R) = ⊥
IsSameOutcome (Some P) None = ⊥
IsSameOutcome (Some P) (Some R) = AreSame P R

-- one outcome at most
abbrev pub HasOneOutcome : Outcomes → Type 0
HasOneOutcome outcomes = (o p : Option (List Labels)) → outcomes o → outcomes p → IsSameOutcome o p

-- one outcome at least
abbrev pub HasOutcome : Outcomes → Type 0
HasOutcome outcomes = (o : Option (List Labels)) × outcomes o

-- nothing is given
abbrev pub IsNone : Outcomes
IsNone None = Unit {0}
IsNone (Some R) = ⊥

-- such a set is given, and never None
abbrev pub IsSet : (List Labels → Type 0) → Outcomes
IsSet sets None = ⊥
IsSet sets (Some R) = sets R

-- None where the operand is None, and else by the operand's set
abbrev pub From : Outcomes → (List Labels → Outcomes) → Outcomes
From operand by o = (operand None × IsNone o) ⊎ ((P : List Labels) × operand (Some P) × by P o)

-- sets made of a set, by a relation that says what a sample becomes

-- two samples of P become one
abbrev pub Coincide : (Labels → Labels → Type 0) → List Labels → Type 0
Coincide becomes P = (s t r : Labels) × Contains P s × Contains P t × (s ≢ t) × becomes s r × becomes t r

-- what the samples of P become, and None where two become one
abbrev pub MadeApart : (Labels → Labels → Type 0) → List Labels → Outcomes
MadeApart becomes P None = Coincide becomes P
MadeApart becomes P (Some R) = AreMade becomes P R × (Coincide becomes P → ⊥)

-- what the samples of P become, where those that become one count once
abbrev pub MadeTogether : (Labels → Labels → Type 0) → List Labels → Outcomes
MadeTogether becomes P = IsSet (AreMade becomes P)

-- into the sample of its group with the label x as `1`, which it never lacks
abbrev pub IsCountedAsOne : Grouping → Bytes → Labels → Labels → Type 0
IsCountedAsOne grouping x s r = r ≡ with_label x (codes "1") (group_of grouping s)

-- the samples of a histogram's last bucket, which has no upper bound: only they are taken
abbrev pub last_buckets : List Labels → List Labels
last_buckets P = filter (λ s. bytes_eq (value_of s (codes "le")) (codes "+Inf")) P

-- `label_replace`: None where the replacement isn't plain, whether or not a sample matches
abbrev pub Replaced : Replacing → Outcomes → Outcomes
Replaced p operand o =
    ((IsPlainReplacement p.replacement → ⊥) × IsNone o)
    ⊎ (IsPlainReplacement p.replacement × From operand (MadeApart (IsReplaced p)) o)

-- `absent`

-- the rules leave open which sample it gives: its selector stands in parentheses or has an `@`, or two of its matchers are on one label other than the name
abbrev pub IsOpenAbsent : Option Sought → Type 0
IsOpenAbsent None = ⊥
IsOpenAbsent (Some sought) =
    (sought.may_be_bare ≡ true)
    ⊎ ((label : Bytes) × (is_metric label ≡ false) × (1 < length (filter (λ m. bytes_eq m.label label) sought.matchers)))

-- the one sample exactly where the operand has none
abbrev pub IsOnlyWhereEmpty : Labels → List Labels → List Labels → Type 0
IsOnlyWhereEmpty one [] R = Contains R one × ((r : Labels) → Contains R r → r ≡ one)
IsOnlyWhereEmpty one (s ∷ P) R = R ≡ []

-- None where it is open, and else the sample of what is sought where nothing is found
abbrev pub StrictAbsent : Option Sought → Outcomes → Outcomes
StrictAbsent sought operand o =
    (IsOpenAbsent sought × IsNone o)
    ⊎ ((IsOpenAbsent sought → ⊥) × (one : Labels) × IsAbsent sought one × From operand (λ P. IsSet (IsOnlyWhereEmpty one P)) o)

-- functions and aggregations, by the table of functions

-- a function of dates maps its argument, or speaks of now
abbrev pub StrictDate : Trees → Outcomes → Outcomes
StrictDate Nil operand = IsSet IsBare
StrictDate (Next x xs) operand = From operand (MadeApart LosesName)

abbrev pub StrictEffect : LabelEffect → Grouping → Trees → Outcomes → Outcomes
StrictEffect Maps grouping args operand = From operand (MadeApart LosesName)
StrictEffect Keeps grouping args operand = operand
StrictEffect Groups grouping args operand = From operand (MadeTogether (IsGrouped grouping))
StrictEffect CountValues grouping args operand = From operand (MadeTogether (IsCountedAsOne grouping (text_at (texts_of args) 0)))
StrictEffect Date grouping args operand = StrictDate args operand
StrictEffect Absent grouping args operand = StrictAbsent (sought_in args) operand
StrictEffect LabelReplace grouping args operand = Replaced (replacing (texts_of args)) operand
StrictEffect LabelJoin grouping args operand = From operand (MadeApart (IsJoined (joining (texts_of args))))
StrictEffect HistogramQuantile grouping args operand = From operand (λ P. MadeApart IsQuantile (last_buckets P))
StrictEffect Bare grouping args operand = IsSet IsBare

-- operators

-- arithmetic and `bool` with a scalar drop the name, and a filter lets all samples through
abbrev pub StrictBesideScalar : Bool → Outcomes → Outcomes
StrictBesideScalar true operand = operand
StrictBesideScalar false operand = From operand (MadeApart LosesName)

-- two samples of P have equal signatures
abbrev pub HasTwoAlike : Matching → List Labels → Type 0
HasTwoAlike m P = (s t : Labels) × Contains P s × Contains P t × (s ≢ t) × SameSignature m s t

-- the match isn't unique on a one side: one to one both sides are one sides, and else the one that isn't the many side
abbrev pub IsAmbiguous : Group → Matching → List Labels → List Labels → Type 0
IsAmbiguous One m P Q = HasTwoAlike m P ⊎ HasTwoAlike m Q
IsAmbiguous Left m P Q = HasTwoAlike m Q
IsAmbiguous Right m P Q = HasTwoAlike m P

-- a left and a right sample of equal signature
abbrev pub IsPair : Matching → List Labels → List Labels → Labels → Labels → Type 0
IsPair m P Q s t = Contains P s × Contains Q t × SameSignature m s t

-- two pairs have one result, by what a pair gives
abbrev pub PairsCoincide : (Labels → Labels → Labels) → Matching → List Labels → List Labels → Type 0
PairsCoincide result m P Q = (s t u v : Labels) × IsPair m P Q s t × IsPair m P Q u v × ((s ≢ u) ⊎ (t ≢ v)) × (result s t ≡ result u v)

-- the results of all pairs, and None where the match isn't unique or two pairs have one result
abbrev pub StrictPairs : Op → Matching → List Labels → List Labels → Outcomes
StrictPairs op m P Q None = IsAmbiguous m.group m P Q ⊎ PairsCoincide (out op m) m P Q
StrictPairs op m P Q (Some R) = AreAllPairs op m P Q R × (IsAmbiguous m.group m P Q → ⊥) × (PairsCoincide (out op m) m P Q → ⊥)

-- arithmetic, `bool` and filters give all pairs; the operators of sets ask for no unique match
abbrev pub StrictCombines : Op → Matching → List Labels → List Labels → Outcomes
StrictCombines And m P Q = IsSet (AreMatched m P Q)
StrictCombines Or m P Q = IsSet (AreEither m P Q)
StrictCombines Unless m P Q = IsSet (AreUnmatched m P Q)
StrictCombines op m P Q = StrictPairs op m P Q

-- by whether the left and the right side are scalars, which aren't evaluated
abbrev pub StrictBinary : Op → Matching → Bool → Bool → Outcomes → Outcomes → Outcomes
StrictBinary op m true true left right = IsSet IsBare
StrictBinary op m false true left right = StrictBesideScalar (is_filter op m) left
StrictBinary op m true false left right = StrictBesideScalar (is_filter op m) right
StrictBinary op m false false left right = From left (λ P. From right (StrictCombines op m P))

abbrev pub StrictSign : Bool → Outcomes → Outcomes
StrictSign true operand = From operand (MadeApart LosesName)
StrictSign false operand = operand

-- a call by its signature: `argument` says what each argument gives, of which only the operand is evaluated
abbrev pub StrictCall : Option Signature → Grouping → Trees → (ℕ → Outcomes) → Outcomes
StrictCall None grouping args argument = IsNone
StrictCall (Some s) grouping args argument = StrictEffect s.labels grouping args (argument (operand_place s))

-- expressions

-- the samples of W that pass the matchers
abbrev pub AreSelected : List Labels → Option Bytes → List Matcher → List Labels → Type 0
AreSelected W name matchers R =
    ((s : Labels) → Contains W s → HasName name s → PassesEach matchers s → Contains R s)
    × ((s : Labels) → Contains R s → Contains W s × HasName name s × PassesEach matchers s)

-- No sample of W has an empty text (`HasTexts`): series have none by `AreScraped`. Two that differed in an empty text alone would pass the same matchers and still be two, so
-- a contract over samples that are lent to it has this as a premise; the definitions and their laws do without.
module _ (W : List Labels) where
  abbrev mutual
    -- `StrictlyEvaluates W e o`: over the stored samples W, the expression e gives o
    pub StrictlyEvaluates : Tree → Outcomes
    StrictlyEvaluates (Number text span) = IsSet IsBare
    StrictlyEvaluates (Str text span) = IsNone
    -- all stored samples that pass the matchers
    StrictlyEvaluates (Selector name matchers sight span) = IsSet (AreSelected W name matchers)
    -- one evaluation
    StrictlyEvaluates (Subquery of sight span) = StrictlyEvaluates of
    StrictlyEvaluates (Paren of span) = StrictlyEvaluates of
    StrictlyEvaluates (Unary minus of span) = StrictSign minus (StrictlyEvaluates of)
    StrictlyEvaluates (Binary op m left right span) = StrictBinary op m (is_scalar_part left) (is_scalar_part right) (StrictlyEvaluates left) (StrictlyEvaluates right)
    StrictlyEvaluates (Call name args span) = StrictCall (function_named name) Ungrouped args (ArgumentStrictlyEvaluates args)
    StrictlyEvaluates (Aggregate op grouping args span) = StrictCall (Some (aggregation op)) grouping args (ArgumentStrictlyEvaluates args)

    -- argument k, counted from 0, gives o
    pub ArgumentStrictlyEvaluates : Trees → ℕ → Outcomes
    ArgumentStrictlyEvaluates Nil k = IsNone
    ArgumentStrictlyEvaluates (Next x xs) zero = StrictlyEvaluates x
    ArgumentStrictlyEvaluates (Next x xs) (suc k) = ArgumentStrictlyEvaluates xs k
