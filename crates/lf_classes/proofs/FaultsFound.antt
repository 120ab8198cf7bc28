-- What is found in one pass over an expression is the breach that is told.
use Rattle.std.proofs.Common.{◌≡◌, ◌⊎◌, inl, inr, Bool, true, false, not, cond, ◌||◌, List, [], ◌∷◌, Option, Some, None, Err, fold, map, refl, sym, ap, subst}
use Rattle.lf_base.proofs.Answering.{Decides}
use Rattle.lf_base.specs.Faults.{fault, first}
use Rattle.lf_base.specs.declared.fault.Fault.{Fault}
use Rattle.lf_base.specs.declared.kind.Kind.TheVariants.{BadPattern, BadSelector}
use Rattle.lf_base.specs.declared.place.Span.{Span}
use Rattle.lf_ast.specs.Functions.{function_named}
use Rattle.lf_ast.specs.Labels.{Bytes}
use Rattle.lf_ast.specs.Tree.{Tree, Trees, Number, Str, Selector, Subquery, Paren, Unary, Binary, Call, Aggregate, Nil, Next, list}
use Rattle.lf_ast.specs.declared.expr.Matcher.{Matcher}
use Rattle.lf_base.proofs.Least.{Least, least_either, least_same, least_when, only_one}
use Rattle.std.proofs.lemmas.Bool.{not-true}
use Rattle.lf_laws.proofs.Members.{behind, first_or_behind, here, none_in}
use Rattle.lf_pattern.specs.Matching.{IsRead, is_read}
use Rattle.lf_semantics.specs.PatternBreaches.{AnyBreaksPatterns, BreaksPatterns, HasUnread, IsUnread, IsUnreadString, NamesNoMetric, Placed, TellsPattern, called_with, names_twice, takes_pattern}
use Rattle.lf_semantics.specs.reading.Selectors.{passes_empty}
use Rattle.lf_semantics.proofs.PatternFaults.{bad_selector_is, unread_is}
use Rattle.lf_classes.specs.Checked.{HasNoBreach}
use Rattle.lf_classes.specs.reading.Checking.{arguments_fault, matcher_fault, matchers_fault, pattern_fault, patterns_checked, selector_fault, string_fault, unless_found, unread_fault}

-- patterns

least_unread : (pattern : Bytes) (span : Span) → Least (IsUnread pattern span) (unread_fault pattern span)
least_unread pattern span = least_when (IsRead pattern → ⊥) (not (is_read pattern)) (fault BadPattern span) (λ e. (unread_is pattern).0 (not-true (is_read pattern) e)) (λ none. ap not ((unread_is pattern).1 none))

least_string : (string : Option Placed) → Least (IsUnreadString string) (string_fault string)
least_string None = λ f b. b
least_string (Some string) = least_unread string.text string.span

-- matchers

abbrev OfMatcher : Matcher → Fault → Type 0
OfMatcher m f = (takes_pattern m.op ≡ true) × IsUnread m.value m.value_span f

least_matcher : (m : Matcher) → Least (OfMatcher m) (matcher_fault m)
least_matcher m = by (takes_pattern m.op)
  where
    by : (b : Bool) → Least (λ f. (b ≡ true) × IsUnread m.value m.value_span f) (cond b (unread_fault m.value m.value_span) None)
    by true = least_same (IsUnread m.value m.value_span) (λ f. (true ≡ true) × IsUnread m.value m.value_span f) (λ f h. (refl, h)) (λ f h. h.1) (unread_fault m.value m.value_span) (least_unread m.value m.value_span)
    by false = λ f h. let clash : false ≡ true = h.0 in cc

least_matchers : (matchers : List Matcher) (P : Fault → Type 0) (so_far : Option Fault) → Least P so_far → Least (λ f. P f ⊎ HasUnread matchers f) (matchers_fault so_far matchers)
least_matchers [] P so_far least = least_same P (λ f. P f ⊎ HasUnread [] f) (λ f p. inl p) (λ f h. elim h [ inl p ↦ p | inr u ↦ absurd (none_in u.0 u.1) ]) so_far least
least_matchers (m ∷ matchers) P so_far least =
    least_same (λ f. (P f ⊎ OfMatcher m f) ⊎ HasUnread matchers f) (λ f. P f ⊎ HasUnread (m ∷ matchers) f)
    (λ f h. elim h [
      | inl front ↦ elim front [ inl p ↦ inl p | inr u ↦ inr (m, here m matchers, u.0, u.1) ]
      | inr u ↦ inr (u.0, behind m matchers u.0 u.1, u.2, u.3)
    ])
    (λ f h. elim h [
      | inl p ↦ inl (inl p)
      | inr u ↦ elim (first_or_behind m matchers u.0 u.1) [
        | inl same ↦ inl (inr (let Q : Matcher → Type 0 = λ x. OfMatcher x f in subst Q (sym same) (u.2, u.3)))
        | inr c ↦ inr (u.0, c, u.2, u.3)
      ]
    ]) _
    (least_matchers matchers (λ f. P f ⊎ OfMatcher m f) (first so_far (matcher_fault m)) (least_either P (OfMatcher m) so_far (matcher_fault m) least (least_matcher m)))

-- selectors

module _ (name : Option Bytes) (matchers : List Matcher) (span : Span) where
  abbrev IsBad : Type 0
  IsBad = NamesNoMetric name matchers ⊎ (names_twice name matchers ≡ true)

  least_selector : Least (λ f. HasUnread matchers f ⊎ (IsBad × (f ≡ fault BadSelector span))) (selector_fault name matchers span)
  least_selector =
      let unread_matchers = least_same (λ f. ⊥ ⊎ HasUnread matchers f) (HasUnread matchers) (λ f h. elim h [ inl never ↦ absurd never | inr u ↦ u ]) (λ f u. inr u) (matchers_fault None matchers)
      (least_matchers matchers (λ f. ⊥) None (λ f never. never)) in
      let bad = least_when IsBad (names_twice name matchers || passes_empty name matchers) (fault BadSelector span)
      (bad_selector_is name matchers).0 (bad_selector_is name matchers).1 in
      least_either (HasUnread matchers) (λ f. IsBad × (f ≡ fault BadSelector span)) (matchers_fault None matchers) _ unread_matchers bad

-- expressions

abbrev Good : Tree → Type 0
Good e = Least (BreaksPatterns e) (pattern_fault e)

abbrev AllGood : Trees → Type 0
AllGood Nil = Unit {0}
AllGood (Next x xs) = Good x × AllGood xs

least_arguments : (args : Trees) → AllGood args → (P : Fault → Type 0) (so_far : Option Fault) → Least P so_far → Least (λ f. P f ⊎ AnyBreaksPatterns args f) (arguments_fault args so_far)
least_arguments Nil all P so_far least = least_same P (λ f. P f ⊎ ⊥) (λ f p. inl p) (λ f h. elim h [ inl p ↦ p | inr never ↦ absurd never ]) so_far least
least_arguments (Next x xs) all P so_far least =
    least_same (λ f. (P f ⊎ BreaksPatterns x f) ⊎ AnyBreaksPatterns xs f) (λ f. P f ⊎ (BreaksPatterns x f ⊎ AnyBreaksPatterns xs f))
    (λ f h. elim h [ inl front ↦ elim front [ inl p ↦ inl p | inr b ↦ inr (inl b) ] | inr a ↦ inr (inr a) ])
    (λ f h. elim h [ inl p ↦ inl (inl p) | inr rest ↦ elim rest [ inl b ↦ inl (inr b) | inr a ↦ inr a ] ]) _
    (least_arguments xs all.1 (λ f. P f ⊎ BreaksPatterns x f) (first so_far (pattern_fault x)) (least_either P (BreaksPatterns x) so_far (pattern_fault x) least all.0))

good_call : (name : Bytes) (args : Trees) (span : Span) → AllGood args → Good (Call name args span)
good_call name args span all =
    let own : Option Placed = called_with (function_named name) args in
    least_same (λ f. IsUnreadString own f ⊎ AnyBreaksPatterns args f) (λ f. AnyBreaksPatterns args f ⊎ IsUnreadString own f)
    (λ f h. elim h [ inl u ↦ inr u | inr a ↦ inl a ]) (λ f h. elim h [ inl a ↦ inr a | inr u ↦ inl u ]) _
    (least_arguments args all (IsUnreadString own) (string_fault own) (least_string own))

good_aggregate : (args : Trees) → AllGood args → Least (AnyBreaksPatterns args) (arguments_fault args None)
good_aggregate args all =
    least_same (λ f. ⊥ ⊎ AnyBreaksPatterns args f) (AnyBreaksPatterns args) (λ f h. elim h [ inl never ↦ absurd never | inr a ↦ a ]) (λ f a. inr a) _
    (least_arguments args all (λ f. ⊥) None (λ f never. never))

mutual
  good : (e : Tree) → Good e
  good (Number text span) = λ f b. b
  good (Str text span) = λ f b. b
  good (Selector name matchers sight span) = least_selector name matchers span
  good (Subquery of sight span) = good of
  good (Paren of span) = good of
  good (Unary minus of span) = good of
  good (Binary op m left right span) = least_either (BreaksPatterns left) (BreaksPatterns right) (pattern_fault left) (pattern_fault right) (good left) (good right)
  good (Call name args span) = good_call name args span (all_good args)
  good (Aggregate op grouping args span) = good_aggregate args (all_good args)

  all_good : (args : Trees) → AllGood args
  all_good Nil = tt
  all_good (Next x xs) = (good x, all_good xs)

-- the breaches of arguments, one after the other
pub arguments_folded : (args : Trees) (own : Option Fault) → fold first own (map pattern_fault (list args)) ≡ arguments_fault args own
arguments_folded Nil own = refl
arguments_folded (Next x xs) own = arguments_folded xs (first own (pattern_fault x))

-- the answer

decided : (e : Tree) (o : Option Fault) → Least (BreaksPatterns e) o → Decides (HasNoBreach e) (TellsPattern e) (unless_found o)
decided e None least = record {
  stands = λ y is. least;
  read = λ y none. refl;
  breaks = λ f is. absurd (cc);
  told = λ f tells. absurd (least f tells.0);
}
decided e (Some g) least = record {
  stands = λ y is. absurd (cc);
  read = λ y none. absurd (none g least.0);
  breaks = λ f is. let same : g ≡ f = cc in subst (TellsPattern e) same least;
  told = λ f tells. ap (λ x. Err x) (only_one g f (tells.1 g least.0) (least.1 f tells.0));
}

-- an expression has no breach, or it tells the one that is found
pub decides : (e : Tree) → Decides (HasNoBreach e) (TellsPattern e) (patterns_checked e)
decides e = decided e (pattern_fault e) (good e)

pub passes_or_tells : (e : Tree) → ((f : Fault) → BreaksPatterns e f → ⊥) ⊎ ((f : Fault) × TellsPattern e f)
passes_or_tells e = by (pattern_fault e) (good e) where
  by : (o : Option Fault) → Least (BreaksPatterns e) o → ((f : Fault) → BreaksPatterns e f → ⊥) ⊎ ((f : Fault) × TellsPattern e f)
  by None least = inl least
  by (Some f) least = inr (f, least)
