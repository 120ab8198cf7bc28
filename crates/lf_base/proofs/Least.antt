-- The least of the breaches, in the order in which they are told.
use Rattle.std.proofs.Common.{◌≡◌, ◌≢◌, ◌⊎◌, inl, inr, ℕ, Bool, true, false, cond, List, [], ◌∷◌, Option, Some, None, refl, sym, ◌∙◌, ap, subst}
use Rattle.std.specs.Prelude.{slice_index_or}
use Rattle.std.specs.Ordering.{ordering_then, ordering_reverse, is_lt}
use Rattle.std.specs.declared.cmp.Ordering.{Ordering}
use Rattle.std.specs.declared.cmp.Ordering.TheVariants.{Less, Equal, Greater}
use Rattle.std.specs.Cmp.{IsTotalOrder}
use Rattle.std.proofs.lemmas.Cmp.{nat_cmp_total, on_total, then_total}
use Rattle.std.proofs.lemmas.Map.Lookups.{exact_unsigned}
use Rattle.lf_base.specs.declared.kind.Kind.{Kind}
use Rattle.lf_base.specs.declared.kind.Kind.TheVariants.{BadUtf8, BadChar, BadEscape, OpenQuote, BadHeader, BadIndent, LeftOut, DoubleKey, NotANode, TooDeep, WrongKind, UnknownKey, MissingKey, BothKinds, BadName, BadLimit, DoubleGroup, NotForRecord, BadByte, OpenString, BadNumber, BadDuration, Syntax, WrongType, UnknownName, WrongCount, BadModifier, BadLabel, BadPattern, BadSelector, OpenAction, BadAction}
use Rattle.lf_base.specs.declared.fault.Fault.{Fault}
use Rattle.lf_base.specs.Faults.{first, rank, told_order, when}

-- the table of kinds

table : List Kind
table =
    BadUtf8 ∷ BadChar ∷ BadEscape ∷ OpenQuote ∷ BadHeader ∷ BadIndent ∷ LeftOut ∷ DoubleKey ∷ NotANode ∷ TooDeep ∷ WrongKind ∷ UnknownKey ∷ MissingKey ∷ BothKinds ∷ BadName ∷ BadLimit
    ∷ DoubleGroup ∷ NotForRecord ∷ BadByte ∷ OpenString ∷ BadNumber ∷ BadDuration ∷ Syntax ∷ WrongType ∷ UnknownName ∷ WrongCount ∷ BadModifier ∷ BadLabel ∷ BadPattern ∷ BadSelector
    ∷ OpenAction ∷ BadAction ∷ []

ranked : (k : Kind) → slice_index_or table (rank k) BadUtf8 ≡ k
unfolding table
ranked BadUtf8 = refl
ranked BadChar = refl
ranked BadEscape = refl
ranked OpenQuote = refl
ranked BadHeader = refl
ranked BadIndent = refl
ranked LeftOut = refl
ranked DoubleKey = refl
ranked NotANode = refl
ranked TooDeep = refl
ranked WrongKind = refl
ranked UnknownKey = refl
ranked MissingKey = refl
ranked BothKinds = refl
ranked BadName = refl
ranked BadLimit = refl
ranked DoubleGroup = refl
ranked NotForRecord = refl
ranked BadByte = refl
ranked OpenString = refl
ranked BadNumber = refl
ranked BadDuration = refl
ranked Syntax = refl
ranked WrongType = refl
ranked UnknownName = refl
ranked WrongCount = refl
ranked BadModifier = refl
ranked BadLabel = refl
ranked BadPattern = refl
ranked BadSelector = refl
ranked OpenAction = refl
ranked BadAction = refl

same_kind : (k m : Kind) → rank k ≡ rank m → k ≡ m
same_kind k m e = sym (ranked k) ∙ ap (λ n. slice_index_or table n BadUtf8) e ∙ ranked m

-- the order

pub total : IsTotalOrder told_order
unfolding told_order
total = then_total (on_total (λ f. f.span.start) nat_cmp_total) (then_total (on_total (λ f. rank f.kind) nat_cmp_total) (on_total (λ f. f.span.end) nat_cmp_total))

both_equal : (a b : Ordering) → ordering_then a b ≡ Equal → (a ≡ Equal) × (b ≡ Equal)
both_equal Less b e = absurd (cc)
both_equal Equal b e = (refl, e)
both_equal Greater b e = absurd (cc)

same_fault : (f g : Fault) → told_order f g ≡ Equal → f ≡ g
unfolding told_order
same_fault f g e =
    let outer = both_equal _ _ e in
    let inner = both_equal _ _ outer.1 in
    let start : f.span.start ≡ g.span.start = exact_unsigned _ _ outer.0 in
    let kind : f.kind ≡ g.kind = same_kind f.kind g.kind (exact_unsigned _ _ inner.0) in
    let end : f.span.end ≡ g.span.end = exact_unsigned _ _ inner.1 in
    let at_start : f ≡ record { kind = f.kind; span = record { start = g.span.start; end = f.span.end } } = ap (λ (n : ℕ). record { kind = f.kind; span = record { start = n; end = f.span.end } }) start in
    let at_end : record { kind = f.kind; span = record { start = g.span.start; end = f.span.end } } ≡ record { kind = f.kind; span = g.span } = ap (λ (n : ℕ). record { kind = f.kind; span = record { start = g.span.start; end = n } }) end in
    let at_kind : record { kind = f.kind; span = g.span } ≡ g = ap (λ (k : Kind). record { kind = k; span = g.span }) kind in
    at_start ∙ at_end ∙ at_kind

-- breaches of which neither comes before the other are one
pub only_one : (f g : Fault) → told_order f g ≢ Less → told_order g f ≢ Less → f ≡ g
only_one f g h k = by (told_order f g) refl where
  by : (o : Ordering) → told_order f g ≡ o → f ≡ g
  by Less e = absurd (h e)
  by Equal e = same_fault f g e
  by Greater e = absurd (k (total.antisymm g f ∙ ap ordering_reverse e))

pub not_itself : (f g : Fault) → g ≡ f → told_order g f ≢ Less
not_itself f g same e =
    let P : Fault → Type 0 = λ x. told_order x f ≡ Less in
    let back = subst P same e in
    let turned : Less ≡ Greater = sym back ∙ total.antisymm f f ∙ ap ordering_reverse back in
    cc

-- the least

-- nothing has P, or this has it, and nothing that comes before
abbrev pub Least : (Fault → Type 0) → Option Fault → Type 0
Least P None = (f : Fault) → P f → ⊥
Least P (Some f) = P f × ((g : Fault) → P g → told_order g f ≢ Less)

pub least_same : (P Q : Fault → Type 0) → ((f : Fault) → P f → Q f) → ((f : Fault) → Q f → P f) → (o : Option Fault) → Least P o → Least Q o
least_same P Q to from None h = λ f q. h f (from f q)
least_same P Q to from (Some f) h = (to f h.0, λ g q. h.1 g (from g q))

pub least_either : (P Q : Fault → Type 0) (a b : Option Fault) → Least P a → Least Q b → Least (λ f. P f ⊎ Q f) (first a b)
least_either P Q None None h k = λ f e. elim e [ inl p ↦ h f p | inr q ↦ k f q ]
least_either P Q None (Some g) h k = (inr k.0, λ f e. elim e [ inl p ↦ absurd (h f p) | inr q ↦ k.1 f q ])
least_either P Q (Some f) None h k = (inl h.0, λ g e. elim e [ inl p ↦ h.1 g p | inr q ↦ absurd (k g q) ])
least_either P Q (Some f) (Some g) h k = by (told_order g f) refl where
  by : (o : Ordering) → told_order g f ≡ o → Least (λ x. P x ⊎ Q x) (Some (cond (is_lt o) g f))
  by Less e = (inr k.0, λ x either. elim either [ inl p ↦ λ less. h.1 x p (total.trans x g f less e) | inr q ↦ k.1 x q ])
  by Equal e = (inl h.0, λ x either. elim either [ inl p ↦ h.1 x p | inr q ↦ λ less. k.1 x q (total.antisymm x g ∙ ap ordering_reverse (total.congr g f x e) ∙ sym (total.antisymm x f) ∙ less) ])
  by Greater e = (inl h.0, λ x either. elim either [ inl p ↦ h.1 x p | inr q ↦ λ less. k.1 x q (total.trans x f g less (total.antisymm f g ∙ ap ordering_reverse e)) ])

pub least_when : (P : Type 0) (b : Bool) (f : Fault) → (b ≡ true → P) → (P → b ≡ true) → Least (λ g. P × (g ≡ f)) (when b f)
least_when P true f to from = ((to refl, refl), λ g h. not_itself f g h.1)
least_when P false f to from = λ g h. let no : false ≡ true = from h.0 in cc

pub none_of_first : (a b : Option Fault) → first a b ≡ None → (a ≡ None) × (b ≡ None)
none_of_first None b e = (refl, e)
none_of_first (Some f) None e = absurd (cc)
none_of_first (Some f) (Some g) e = absurd (cc)
