-- No label that an expression names is `*`: each is a word of the expression's text, or a string that is a label name.
use Rattle.std.proofs.Common.{◌≡◌, ◌≢◌, ◌+◌, ℕ, zero, suc, Bool, length, true, false, List, [], ◌∷◌, ◌++◌, map, Option, Some, None, ◌==◌, codes, drop, refl, sym, ◌∙◌, ap, subst, arith, if◌then◌else◌}
use Rattle.std.specs.Prelude.{◌&&◌, cond, unwrap_or}
use Rattle.std.specs.List.{AllByRecursion, list_any}
use Rattle.std.proofs.lemmas.Bool.Decides.{nat_tests}
use Rattle.lf_base.specs.declared.place.Span.{Span}
use Rattle.lf_ast.specs.Functions.{Signature, aggregation, function_named}
use Rattle.lf_ast.specs.Labels.{Bytes}
use Rattle.lf_ast.specs.Tree.{Tree, Number, Str, Selector, Subquery, Paren, Unary, Binary, Call, Aggregate, Trees, Nil, Next, with_last}
use Rattle.lf_ast.specs.Types.{Fit, HasType, is_bad_label, names_a_label, names_at, string_of}
use Rattle.lf_base.specs.Names.{begins_label, is_label_name, is_letter}
use Rattle.std.proofs.lemmas.Bool.{not-false}
use Rattle.lf_ast.specs.declared.expr.ExprType.{ExprType}
use Rattle.lf_ast.specs.declared.expr.ExprType.TheVariants.{Vector}
use Rattle.lf_ast.specs.declared.expr.Matcher.{Matcher}
use Rattle.lf_ast.specs.declared.expr.Matching.{Matching as MatchingOf}
use Rattle.lf_ast.specs.declared.expr.Sight.{Sight}
use Rattle.lf_ast.specs.declared.expr.Name.{Name}
use Rattle.lf_ast.specs.declared.functions.LabelEffect.{LabelEffect}
use Rattle.lf_ast.specs.declared.functions.LabelEffect.TheVariants.{CountValues, LabelReplace, LabelJoin, HistogramQuantile}
use Rattle.lf_lex.specs.Lexemes.{Lexeme, Blank, Comment, Written, AreLexemes, IsToken, IsWord, behind_lexeme, lexeme_text}
use Rattle.lf_lex.specs.Bytes.{begins_word}
use Rattle.lf_lex.specs.Tokens.{Tokens, tokens_of}
use Rattle.lf_lex.specs.declared.token.Token.{Token}
use Rattle.lf_lex.specs.declared.token.TokenKind.{TokenKind}
use Rattle.lf_lex.specs.declared.token.TokenKind.TheVariants as kinds
use Rattle.lf_parse.specs.declared.class.Clause.{Clause}
use Rattle.lf_parse.specs.declared.class.Clause.TheVariants.{By, Without}
use Rattle.lf_parse.specs.declared.class.Scope.{Scope}
use Rattle.lf_parse.specs.declared.class.Scope.TheVariants.{On, Ignoring}
use Rattle.lf_parse.specs.Tokens.{Word, Metric, MarkedToken, ◌at◌, class_of, marked, word_mark}
use Rattle.lf_parse.specs.Grammar as G
use Rattle.lf_parse.specs.Grammar.{At, ArgsAt, BracesAt, LabelsAt, MatchersAt, ModAt, ModifierAt, ModsAt, NamesAt, ScopedAt, SelectAt, SomeAt, StepAt, Parses}
use Rattle.lf_ast.specs.Arguments.{text_at, texts_of}
use Rattle.lf_semantics.specs.Strings.{replacing}
use Rattle.lf_ast.specs.Selectors.{metric}
use Rattle.lf_semantics.specs.Mentions.{Mention, arguments_mentions, call_mentions, effect_mentions, group_names, grouped_mentions, matchers_mentions, mention, modifier_mentions, name_mentions, names_mentions, pattern_texts, stands_first, mentions}
use Rattle.lf_laws.proofs.Members.{all_append}

-- ---- the label that stands for every other in a report

abbrev pub star : Bytes
star = codes "*"

-- ---- tokens

-- a word that isn't `*`
abbrev pub IsFree : MarkedToken → Type 0
IsFree (Word c w at p) = w ≢ star
IsFree (m at p) = Unit {0}

abbrev pub AreFree : List MarkedToken → Type 0
AreFree = AllByRecursion IsFree

-- ---- what the grammar makes of free tokens

abbrev pub NamesFree : List Name → Type 0
NamesFree = AllByRecursion (λ n. n.text ≢ star)

abbrev pub MatchersFree : List Matcher → Type 0
MatchersFree = AllByRecursion (λ m. m.label ≢ star)

-- the labels of a signature, and those of the group modifier
abbrev pub MatchingFree : MatchingOf → Type 0
MatchingFree m = NamesFree (names_at m.on) × NamesFree (names_at m.ignoring) × NamesFree m.include

abbrev mutual
  pub TreeFree : Tree → Type 0
  TreeFree (Number x p) = Unit {0}
  TreeFree (Str x p) = Unit {0}
  TreeFree (Selector name matchers s p) = MatchersFree matchers
  TreeFree (Subquery e s p) = TreeFree e
  TreeFree (Paren e p) = TreeFree e
  TreeFree (Unary minus e p) = TreeFree e
  TreeFree (Binary o m a b p) = MatchingFree m × TreeFree a × TreeFree b
  TreeFree (Call w xs p) = TreesFree xs
  TreeFree (Aggregate a g xs p) = NamesFree (group_names g) × TreesFree xs

  pub TreesFree : Trees → Type 0
  TreesFree Nil = Unit {0}
  TreesFree (Next e es) = TreeFree e × TreesFree es

last_free : (xs : Trees) (e : Tree) → TreesFree xs → TreeFree e → TreesFree (with_last xs e)
last_free Nil e h k = (k, tt)
last_free (Next x xs) e h k = (h.0, last_free xs e h.1 k)

labels_free : {xs : List Name} {ts rest : List MarkedToken} → LabelsAt xs ts rest → AreFree ts → NamesFree xs × AreFree rest
labels_free G.one_label f = ((f.0, tt), f.1)
labels_free (G.next_label {c} {w} {xs} {p} l) f =
    let k = labels_free l f in
    (all_append (λ n. n.text ≢ star) xs (G.name w p ∷ []) k.0 (k.1.1.0, tt), k.1.1.1)

names_free : {xs : List Name} {p : Span} {ts rest : List MarkedToken} → NamesAt xs p ts rest → AreFree ts → NamesFree xs × AreFree rest
names_free G.no_names f = (tt, f.1.1)
names_free (G.names l) f = let k = labels_free l f.1 in (k.0, k.1.1)
names_free (G.names_comma l) f = let k = labels_free l f.1 in (k.0, k.1.1.1)

on_free : (k : Scope) (xs : List Name) → NamesFree xs → NamesFree (names_at (G.labels_of On k xs))
on_free On xs f = f
on_free Ignoring xs f = tt

ignoring_free : (k : Scope) (xs : List Name) → NamesFree xs → NamesFree (names_at (G.labels_of Ignoring k xs))
ignoring_free On xs f = tt
ignoring_free Ignoring xs f = f

scoped_free : {b : Bool} {f : Span} {k : Scope} {m : MatchingOf} {ts rest : List MarkedToken} → ScopedAt b f k m ts rest → AreFree ts → MatchingFree m × AreFree rest
scoped_free (G.alone {k} {xs} n) f = let i = names_free n f in ((on_free k xs i.0, ignoring_free k xs i.0, tt), i.1)
scoped_free (G.group {k} {xs} n closed) f = let i = names_free n f in ((on_free k xs i.0, ignoring_free k xs i.0, tt), i.1.1)
scoped_free (G.group_names {k} {xs} n m) f =
    let i = names_free n f in
    let j = names_free m i.1.1 in
    ((on_free k xs i.0, ignoring_free k xs i.0, j.0), j.1)

modifier_free : {o : Span} {m : MatchingOf} {ts rest : List MarkedToken} → ModifierAt o m ts rest → AreFree ts → MatchingFree m × AreFree rest
modifier_free G.no_modifier f = ((tt, tt, tt), f)
modifier_free G.bool f = ((tt, tt, tt), f.1)
modifier_free (G.scoped s) f = scoped_free s f.1
modifier_free (G.bool_scoped s) f = scoped_free s f.1.1

matchers_free : {xs : List Matcher} {ts rest : List MarkedToken} → MatchersAt xs ts rest → AreFree ts → MatchersFree xs × AreFree rest
matchers_free (G.one_matcher e) f = ((f.0, tt), f.1.1.1)
matchers_free (G.next_matcher {c} {w} {v} {s} {o} {xs} {p} {q} {r} e l) f =
    let k = matchers_free l f in
    (all_append (λ m. m.label ≢ star) xs (G.matcher (G.name w p) o v r ∷ []) k.0 (k.1.1.0, tt), k.1.1.1.1.1)

braces_free : {xs : List Matcher} {c : Span} {ts rest : List MarkedToken} → BracesAt xs c ts rest → AreFree ts → MatchersFree xs × AreFree rest
braces_free G.no_matchers f = (tt, f.1)
braces_free (G.matchers l) f = let k = matchers_free l f in (k.0, k.1.1)
braces_free (G.matchers_comma l) f = let k = matchers_free l f in (k.0, k.1.1.1)

select_free : {name : Option (List ℕ)} {xs : List Matcher} {p : Span} {ts rest : List MarkedToken} → SelectAt name xs p ts rest → AreFree ts → MatchersFree xs × AreFree rest
select_free (G.word m) f = (tt, f.1)
select_free (G.word_braces m b) f = braces_free b f.1.1
select_free (G.braces b) f = braces_free b f.1

mod_free : {x : G.Mod} {n : ℕ} {ts rest : List MarkedToken} → ModAt x n ts rest → AreFree ts → AreFree rest
mod_free G.offset f = f.1.1
mod_free G.offset_minus f = f.1.1.1
mod_free G.time f = f.1.1
mod_free G.time_plus f = f.1.1.1
mod_free G.time_minus f = f.1.1.1
mod_free G.time_edge f = f.1.1.1.1

mods_free : {s r : Sight} {n m : ℕ} {ts rest : List MarkedToken} → ModsAt s r n m ts rest → AreFree ts → AreFree rest
mods_free G.no_mods f = f
mods_free (G.mods room x more) f = mods_free more (mod_free x f)

step_free : {x : Option (List ℕ)} {ts rest : List MarkedToken} → StepAt x ts rest → AreFree ts → AreFree rest
step_free G.no_step f = f
step_free G.step f = f.1

grouping_free : (k : Clause) (xs : List Name) → NamesFree xs → NamesFree (group_names (G.grouping k xs))
grouping_free By xs f = f
grouping_free Without xs f = f

mutual
  at_free : {l n : ℕ} {e : Tree} {ts rest : List MarkedToken} → At l e n ts rest → AreFree ts → TreeFree e × AreFree rest
  at_free G.number f = (tt, f.1)
  at_free G.numeric f = (tt, f.1)
  at_free G.string f = (tt, f.1)
  at_free (G.paren a) f = let k = at_free a f.1 in (k.0, k.1.1)
  at_free (G.selector s m) f = let k = select_free s f in (k.0, mods_free m k.1)
  at_free (G.range s m) f = let k = select_free s f in (k.0, mods_free m k.1.1.1.1)
  at_free (G.subquery a x m) f = let k = at_free a f in (k.0, mods_free m (step_free x k.1.1.1.1).1)
  at_free (G.call i a) f = let k = args_free a f.1 in (k.0, k.1)
  at_free (G.aggregate a) f = let k = args_free a f.1 in ((tt, k.0), k.1)
  at_free (G.aggregate_by {l} {a} {k} {w} {v} {xs} {ys} n more) f =
      let i = names_free n f.1.1 in
      let j = args_free more i.1 in
      ((grouping_free k ys i.0, j.0), j.1)
  at_free (G.aggregate_args_by {l} {a} {k} {w} {v} {xs} {ys} more n) f =
      let j = args_free more f.1 in
      let i = names_free n j.1.1 in
      ((grouping_free k ys i.0, j.0), i.1)
  at_free (G.plus h a) f = let k = at_free a f.1 in (k.0, k.1)
  at_free (G.minus h a) f = let k = at_free a f.1 in (k.0, k.1)
  at_free (G.binary h o a m b) f =
      let i = at_free a f in
      let j = modifier_free m i.1.1 in
      let k = at_free b j.1 in
      ((j.0, i.0, k.0), k.1)

  some_free : {xs : Trees} {ts rest : List MarkedToken} → SomeAt xs ts rest → AreFree ts → TreesFree xs × AreFree rest
  some_free (G.one a) f = let k = at_free a f in ((k.0, tt), k.1)
  some_free (G.also {xs = xs} {e = e} s a) f =
      let i = some_free s f in
      let k = at_free a i.1.1 in
      (last_free xs e i.0 k.0, k.1)

  args_free : {xs : Trees} {p : Span} {ts rest : List MarkedToken} → ArgsAt xs p ts rest → AreFree ts → TreesFree xs × AreFree rest
  args_free G.no_args f = (tt, f.1.1)
  args_free (G.args s) f = let k = some_free s f.1 in (k.0, k.1.1)

-- ---- the tokens of a text are free

star_begins_none : (inside : Bool) → begins_word inside 42 ≡ true → ⊥
unfolding begins_word begins_label is_letter
star_begins_none inside e = cc

word_free : (w : Bytes) (p : Span) → w ≢ star → IsFree (word_mark w at p)
word_free w p h = by (list_any (λ b. b == 58) w)
  where
    by : (colon : Bool) → IsFree ((if colon then Metric w else Word (class_of w) w) at p)
    by true = tt
    by false = h

is_word_free : (inside : Bool) (text w : Bytes) → text ≡ w → IsWord inside text → w ≢ star
is_word_free inside text w e is star = let P : Bytes → Type 0 = IsWord inside in star_begins_none inside (subst P (e ∙ star) is).0

token_free : (inside : Bool) (kind : TokenKind) (text rest : Bytes) (p : Span) → IsToken inside kind text rest → IsFree (marked (record { kind = kind; span = p }))
token_free inside (kinds.Word w) text rest p is = word_free w p (is_word_free inside text w is.0 is.1.0)
token_free inside (kinds.Number x) text rest p is = tt
token_free inside (kinds.Duration d) text rest p is = tt
token_free inside (kinds.Str x) text rest p is = tt
token_free inside (kinds.Sign s) text rest p is = tt

lexemes_free : (from : Bytes) (start : ℕ) (inside : Bool) (lexemes : List Lexeme) (rest : Bytes) → AreLexemes inside lexemes rest → AreFree (map marked (tokens_of from start lexemes))
lexemes_free from start inside [] rest are = tt
lexemes_free from start inside (Blank b ∷ lexemes) rest are = lexemes_free from (start + length (lexeme_text (Blank b))) inside lexemes rest are.1
lexemes_free from start inside (Comment line ∷ lexemes) rest are = lexemes_free from (start + length (lexeme_text (Comment line))) inside lexemes rest are.1
lexemes_free from start inside (Written kind text ∷ lexemes) rest are = (token_free inside kind text _ _ are.0, lexemes_free from (start + length (lexeme_text (Written kind text))) (behind_lexeme (Written kind text) inside) lexemes rest are.1)

pub tokens_free : (from text : Bytes) (tokens : List Token) → Tokens from text tokens → AreFree (map marked tokens)
tokens_free from text tokens is = subst (λ ts. AreFree (map marked ts)) (sym is.tokens_are) (lexemes_free from 0 false is.lexemes [] is.are_lexemes)

-- ---- what expressions name

-- none of what is named is `*`
abbrev pub NoneStar : List Mention → Type 0
NoneStar = AllByRecursion (λ m. m.label ≢ star)

pub none_star_append : (xs ys : List Mention) → NoneStar xs → NoneStar ys → NoneStar (xs ++ ys)
none_star_append [] ys h k = k
none_star_append (x ∷ xs) ys h k = (h.0, none_star_append xs ys h.1 k)

names_starless : (xs : List Name) → NamesFree xs → NoneStar (names_mentions xs)
names_starless [] f = tt
names_starless (x ∷ xs) f = (f.0, names_starless xs f.1)

matchers_starless : (xs : List Matcher) → MatchersFree xs → NoneStar (matchers_mentions xs)
matchers_starless [] f = tt
matchers_starless (x ∷ xs) f = (f.0, matchers_starless xs f.1)

begins_star : Bytes → Bool
begins_star [] = false
begins_star (b ∷ bs) = b == 42

pub metric_differs : metric ≢ star
unfolding begins_star
metric_differs e = let h : false ≡ true = ap begins_star e in cc

bound_differs : codes "le" ≢ star
unfolding begins_star
bound_differs e = let h : false ≡ true = ap begins_star e in cc

none_differs : [] ≢ star
unfolding begins_star
none_differs e = let h : false ≡ true = ap begins_star e in cc

name_starless : (name : Option Bytes) → NoneStar (name_mentions name)
name_starless None = tt
name_starless (Some name) = (metric_differs, tt)

modifier_starless : (m : MatchingOf) → MatchingFree m → NoneStar (modifier_mentions m)
modifier_starless m f =
    none_star_append (names_mentions (names_at m.on)) _ (names_starless (names_at m.on) f.0)
    (none_star_append (names_mentions (names_at m.ignoring)) (names_mentions m.include) (names_starless (names_at m.ignoring) f.1) (names_starless m.include f.2))

-- ---- strings that name labels

pub star_is_none : is_label_name star ≡ true → ⊥
unfolding is_label_name begins_label is_letter
star_is_none e = cc

label_name_differs : (text : Bytes) → is_label_name text ≡ true → text ≢ star
label_name_differs text h e = star_is_none (subst (λ t. is_label_name t ≡ true) e h)

-- a string where a label is wanted
string_differs : (string : Option Bytes) → is_bad_label string ≡ false → unwrap_or string [] ≢ star
string_differs None e = none_differs
string_differs (Some text) e = label_name_differs text (not-false (is_label_name text) e)

wanted_differs : (wants bad : Bool) → wants ≡ true → (wants && bad) ≡ false → bad ≡ false
wanted_differs true bad e f = f
wanted_differs false bad e f = cc

-- the texts of the arguments that name labels
text_differs : (s : Signature) (k : ℕ) (args : Trees) → Fit args s k → (j : ℕ) → names_a_label s.labels (k + j) ≡ true → text_at (texts_of args) j ≢ star
text_differs s k Nil fit j wants = none_differs
text_differs s k (Next e es) fit zero wants =
    let same : k + 0 ≡ k = omega arith in
    string_differs (string_of e) (wanted_differs (names_a_label s.labels k) (is_bad_label (string_of e)) (subst (λ n. names_a_label s.labels n ≡ true) same wants) fit.0.3)
text_differs s k (Next e es) fit (suc j) wants =
    let same : k + suc j ≡ (k + 1) + j = omega arith in
    text_differs s (k + 1) es fit.1 j (subst (λ n. names_a_label s.labels n ≡ true) same wants)

sources_free : (texts : List Bytes) → ((j : ℕ) → text_at texts j ≢ star) → NoneStar (map (λ source. mention source []) texts)
sources_free [] h = tt
sources_free (x ∷ texts) h = (h 0, sources_free texts (λ j. h (suc j)))

behind_three : (texts : List Bytes) → ((j : ℕ) → text_at texts (suc (suc (suc j))) ≢ star) → NoneStar (map (λ source. mention source []) (drop 3 texts))
behind_three [] h = tt
behind_three (a ∷ []) h = tt
behind_three (a ∷ b ∷ []) h = tt
behind_three (a ∷ b ∷ c ∷ texts) h = sources_free texts h

source_free : (source pattern : Bytes) (b : Bool) → is_label_name source ≡ b → NoneStar (cond b (mention source (pattern_texts pattern) ∷ []) [])
source_free source pattern true e = (label_name_differs source e, tt)
source_free source pattern false e = tt

-- ---- calls

is_source : (j : ℕ) → names_a_label LabelJoin (suc (suc (suc j))) ≡ true
is_source j = grind (arith, nat_tests)

module _ (es : Trees) (operands : List Mention) (free : NoneStar operands) where
  abbrev Named : LabelEffect → Type 0
  Named effect = (j : ℕ) → names_a_label effect j ≡ true → text_at (texts_of es) j ≢ star

  effect_free : (effect : LabelEffect) → Named effect → NoneStar (effect_mentions effect (texts_of es) operands)
  effect_free HistogramQuantile named = (bound_differs, free)
  effect_free CountValues named = (named 0 refl, free)
  effect_free LabelReplace named =
      let p = replacing (texts_of es) in
      none_star_append operands _ free (named 1 refl, source_free p.source p.pattern (is_label_name p.source) refl)
  effect_free LabelJoin named = none_star_append operands _ free (named 1 refl, behind_three (texts_of es) (λ j. named (suc (suc (suc j))) (is_source j)))
  effect_free _ named = free

-- ---- expressions

grouped_free : (b : Bool) (grouping arguments : List Mention) → NoneStar grouping → NoneStar arguments → NoneStar (grouped_mentions b grouping arguments)
grouped_free true grouping arguments h k = none_star_append grouping arguments h k
grouped_free false grouping arguments h k = none_star_append arguments grouping k h

fits_named : (s : Signature) (args : Trees) → Fit args s 0 → (j : ℕ) → names_a_label s.labels j ≡ true → text_at (texts_of args) j ≢ star
fits_named s args fit = λ j wants. text_differs s 0 args fit j (let same : j ≡ 0 + j = omega arith in subst (λ n. names_a_label s.labels n ≡ true) same wants)

called_free : (args : Trees) (o : Option Signature) (s : Signature) → o ≡ Some s → Fit args s 0 → NoneStar (arguments_mentions args) → NoneStar (call_mentions o (texts_of args) (arguments_mentions args))
called_free args o s is fit operands =
    let P : Option Signature → Type 0 = λ x. NoneStar (call_mentions x (texts_of args) (arguments_mentions args)) in
    subst P (sym is) (effect_free args (arguments_mentions args) operands s.labels (fits_named s args fit))

mutual
  starless_tree : (e : Tree) (t : ExprType) → TreeFree e → HasType e t → NoneStar (mentions e)
  starless_tree (Number text span) t free has = tt
  starless_tree (Str text span) t free has = tt
  starless_tree (Selector name matchers sight span) t free has = none_star_append (name_mentions name) (matchers_mentions matchers) (name_starless name) (matchers_starless matchers free)
  starless_tree (Subquery of sight span) t free has = starless_tree of Vector free has.0
  starless_tree (Paren of span) t free has = starless_tree of t free has
  starless_tree (Unary minus of span) t free has = starless_tree of t free has.0
  starless_tree (Binary op m left right span) t free has =
      none_star_append (mentions left) _ (starless_tree left has.0 free.1 has.2)
      (none_star_append (modifier_mentions m) (mentions right) (modifier_starless m free.0) (starless_tree right has.1 free.2 has.3))
  starless_tree (Call name args span) t free has = called_free args (function_named name) has.0 has.1 has.2.1 (starless_trees args has.0 0 free has.2.1)
  starless_tree (Aggregate op g args span) t free has =
      grouped_free (stands_first (group_names g) args) (names_mentions (group_names g)) _ (names_starless (group_names g) free.0)
      (called_free args (Some (aggregation op)) (aggregation op) refl has.1 (starless_trees args (aggregation op) 0 free.1 has.1))

  starless_trees : (args : Trees) (s : Signature) (k : ℕ) → TreesFree args → Fit args s k → NoneStar (arguments_mentions args)
  starless_trees Nil s k free fit = tt
  starless_trees (Next e es) s k free fit = none_star_append (mentions e) (arguments_mentions es) (starless_tree e fit.0.0 free.0 fit.0.2) (starless_trees es s (k + 1) free.1 fit.1)

-- no label of an expression that was read of a text and has a type is `*`
pub starless : (from text : Bytes) (tokens : List Token) (e : Tree) (t : ExprType) → Tokens from text tokens → Parses tokens e → HasType e t → NoneStar (mentions e)
starless from text tokens e t are parses has = starless_tree e t (at_free parses.1 (tokens_free from text tokens are)).0 has
