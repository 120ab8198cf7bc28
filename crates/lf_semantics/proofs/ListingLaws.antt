-- The universe of rules: its labels are distinct, and it has all that the rules name.
use Rattle.std.proofs.Common.{◌≡◌, ◌≢◌, ℕ, zero, suc, ◌+◌, ◌<◌, Bool, true, false, not, cond, List, [], ◌∷◌, ◌++◌, map, length, get_or, inl, inr, refl, sym, ◌∙◌, ap, subst, arith, length-append}
use Rattle.std.specs.List.{Contains, filter, flat_map}
use Rattle.std.specs.Str.{bytes_eq}
use Rattle.std.proofs.lemmas.List.{get_or-map, get_or_append_left, length-map}
use Rattle.std.proofs.lemmas.List.Elements.{Contains-get_or}
use Rattle.lf_ast.specs.Labels.{Bytes}
use Rattle.lf_ast.specs.Rules.{RuleTree}
use Rattle.lf_ast.specs.Selectors.{metric}
use Rattle.lf_semantics.specs.Environments.{CoversRules, IsKnown}
use Rattle.lf_semantics.specs.Listing.{AreDistinct, IsListing, Listing, StandOnce, class_of, first_seen, label_of, labels_mentioned, listing_of, named_at, other_class, place, texts_mentioned, universe_of}
use Rattle.lf_semantics.specs.Mentions.{Mention, rule_mentions, rules_mentions}
use Rattle.lf_semantics.proofs.Members.{all_of, behind, first_or_behind, here, in_filter, in_flat_map, in_map, none_in, of_filter, same_true, true_same}
use Rattle.lf_semantics.proofs.Places.{at_place}

-- texts in first-seen order

filter_distinct : (test : Bytes → Bool) (xs : List Bytes) → AreDistinct xs → AreDistinct (filter test xs)
filter_distinct test [] d = tt
filter_distinct test (x ∷ xs) d = elim (test x) as (λ b. AreDistinct (cond b (x ∷ filter test xs) (filter test xs))) [
  | true ↦ (λ c. d.0 (of_filter test xs x c).0, filter_distinct test xs d.1)
  | false ↦ filter_distinct test xs d.1
]

differs : Bytes → Bytes → Bool
differs x y = not (bytes_eq y x)

pub first_seen_distinct : (xs : List Bytes) → AreDistinct (first_seen xs)
unfolding differs
first_seen_distinct [] = tt
first_seen_distinct (x ∷ xs) = (
  λ c. let k = of_filter (λ y. not (bytes_eq y x)) (first_seen xs) x c in let e : not true ≡ true = sym (ap not (same_true x x refl)) ∙ k.1 in absurd (cc),
  filter_distinct (λ y. not (bytes_eq y x)) (first_seen xs) (first_seen_distinct xs),
)

pub of_first_seen : (xs : List Bytes) (t : Bytes) → Contains (first_seen xs) t → Contains xs t
of_first_seen [] t c = absurd (none_in t c)
of_first_seen (x ∷ xs) t c = elim (first_or_behind x _ t c) [
  | inl e ↦ let P : Bytes → Type 0 = λ z. Contains (x ∷ xs) z in subst P e (here x xs)
  | inr d ↦ behind x xs t (of_first_seen xs t (of_filter _ (first_seen xs) t d).0)
]

pub in_first_seen : (xs : List Bytes) (t : Bytes) → Contains xs t → Contains (first_seen xs) t
in_first_seen [] t c = absurd (none_in t c)
in_first_seen (x ∷ xs) t c = by (bytes_eq t x) refl (in_first_seen xs t)
  where
    by : (b : Bool) → bytes_eq t x ≡ b → (Contains xs t → Contains (first_seen xs) t) → Contains (x ∷ filter (λ y. not (bytes_eq y x)) (first_seen xs)) t
    by true e rest = let P : Bytes → Type 0 = λ z. Contains (x ∷ filter (λ y. not (bytes_eq y x)) (first_seen xs)) z in subst P (sym (true_same t x e)) (here x _)
    by false e rest = elim (first_or_behind x xs t c) [
      | inl f ↦ let g : true ≡ false = sym (same_true t x (sym f)) ∙ e in absurd (cc)
      | inr d ↦ behind x _ t (in_filter (λ y. not (bytes_eq y x)) (first_seen xs) t (rest d) (ap not e))
    ]

pub apart : (xs : List Bytes) → AreDistinct xs → StandOnce xs
apart [] d k l h b = absurd (omega arith)
apart (x ∷ xs) d k zero h b = absurd (omega arith)
apart (x ∷ xs) d zero (suc l) h b = λ e. let P : Bytes → Type 0 = λ z. Contains xs z in d.0 (subst P (sym e) (Contains-get_or xs l [] (omega arith)))
apart (x ∷ xs) d (suc k) (suc l) h b = apart xs d.1 k l (omega arith) (omega arith)

-- a text that is in a list has a place there
pub place_within : (xs : List Bytes) (t : Bytes) → Contains xs t → place xs t < length xs
place_within [] t c = absurd (none_in t c)
place_within (x ∷ xs) t c = by (bytes_eq x t) refl (place_within xs t)
  where
    by : (b : Bool) → bytes_eq x t ≡ b → (Contains xs t → place xs t < length xs) → cond (not b) (1 + place xs t) 0 < suc (length xs)
    by true e rest = omega arith
    by false e rest = elim (first_or_behind x xs t c) [
      | inl f ↦ let g : true ≡ false = sym (same_true x t f) ∙ e in absurd (cc)
      | inr d ↦ omega (arith, rest d)
    ]

-- the universe of what is named

module _ (items : List Mention) where
  abbrev u : Listing
  u = listing_of items

  -- the texts of a label are distinct, and none is empty
  abbrev AreGood : List Bytes → Type 0
  AreGood texts = AreDistinct texts × ((text : Bytes) → Contains texts text → text ≢ [])

  good_texts : (label : Bytes) → AreGood (texts_mentioned items label)
  good_texts label =
      let all : List Bytes = flat_map (λ (m : Mention). m.texts) (filter (λ (m : Mention). bytes_eq m.label label) items) in (
        first_seen_distinct (filter (λ t. not (bytes_eq t [])) all),
        λ text c e.
            let k = of_filter (λ t. not (bytes_eq t [])) all text (of_first_seen (filter (λ t. not (bytes_eq t [])) all) text c) in
            let f : not true ≡ true = sym (ap not (same_true text [] e)) ∙ k.1 in
            absurd (cc),
      )

  none_good : AreGood []
  none_good = (tt, λ text c. absurd (none_in text c))

  good_at : (names : List Bytes) (k : ℕ) → AreGood (get_or (map (texts_mentioned items) names ++ [] ∷ []) k [])
  good_at [] zero = none_good
  good_at [] (suc k) = none_good
  good_at (name ∷ names) zero = good_texts name
  good_at (name ∷ names) (suc k) = good_at names k

  other_at : (names : List Bytes) → get_or (map (texts_mentioned items) names ++ [] ∷ []) (length names) [] ≡ []
  other_at [] = refl
  other_at (name ∷ names) = other_at names

  pub is_listing : IsListing (listing_of items)
  is_listing = record {
    some = omega arith;
    first = refl;
    distinct = apart (labels_mentioned items) (first_seen_distinct (metric ∷ map (λ m. m.label) items));
    count = length-append (map (texts_mentioned items) (labels_mentioned items)) ([] ∷ []) ∙ ap (λ n. n + 1) (length-map (labels_mentioned items) (texts_mentioned items));
    texts_distinct = λ label. apart (named_at (listing_of items) label) (good_at (labels_mentioned items) label).0;
    texts_some = λ label text c. (good_at (labels_mentioned items) label).1 text c;
    other_none = other_at (labels_mentioned items);
  }

  -- the texts of a label that is named are those that are named with it
  pub texts_at : (label : Bytes) → label_of (listing_of items) label < length (labels_mentioned items) → named_at (listing_of items) (label_of (listing_of items) label) ≡ texts_mentioned items label
  texts_at label h =
      let k = label_of u label in
      get_or_append_left (map (texts_mentioned items) (labels_mentioned items)) ([] ∷ []) [] k (omega (arith, h, length-map (labels_mentioned items) (texts_mentioned items)))
      ∙ get_or-map (texts_mentioned items) (labels_mentioned items) k [] [] h ∙ ap (texts_mentioned items) (at_place (labels_mentioned items) label h)

  label_known : (m : Mention) → Contains items m → label_of (listing_of items) m.label < length (labels_mentioned items)
  label_known m c = place_within (labels_mentioned items) m.label (in_first_seen (metric ∷ map (λ m. m.label) items) m.label (behind metric _ m.label (in_map (λ (x : Mention). x.label) items m c)))

  text_known : (m : Mention) → Contains items m → (text : Bytes) → Contains m.texts text → class_of (listing_of items) (label_of (listing_of items) m.label) text < other_class (listing_of items) (label_of (listing_of items) m.label)
  text_known m c text d = by (bytes_eq text []) refl
    where
      l : ℕ
      l = label_of (listing_of items) m.label

      by : (b : Bool) → bytes_eq text [] ≡ b → class_of (listing_of items) (label_of (listing_of items) m.label) text < other_class (listing_of items) (label_of (listing_of items) m.label)
      by true e =
          let P : Bytes → Type 0 = λ t. class_of (listing_of items) (label_of (listing_of items) m.label) t < other_class (listing_of items) (label_of (listing_of items) m.label) in
          subst P (sym (true_same text [] e)) (omega arith)
      by false e =
          let seen : Contains (texts_mentioned items m.label) text =
          in_first_seen _ text (in_filter (λ t. not (bytes_eq t [])) _ text (in_flat_map (λ (x : Mention). x.texts) _ m text (in_filter (λ (x : Mention). bytes_eq x.label m.label) items m c (same_true m.label m.label refl)) d) (ap not e)) in
          let P : List Bytes → Type 0 = λ named. place ([] ∷ named) text < length named + 1 in
          subst P (sym (texts_at m.label (label_known m c))) (let w = place_within ([] ∷ texts_mentioned items m.label) text (behind [] _ text seen) in omega (arith, w))

  pub all_known : (m : Mention) → Contains items m → IsKnown (listing_of items) m
  all_known m c = (label_known m c, all_of _ m.texts (text_known m c))

-- the universe of rules has all that they name
pub universe_is_listing : (rules : List RuleTree) → IsListing (universe_of rules)
universe_is_listing rules = is_listing (rules_mentions rules)

pub universe_covers : (rules : List RuleTree) → CoversRules (universe_of rules) rules
universe_covers rules r c = all_of _ (rule_mentions r) (λ m d. all_known (rules_mentions rules) m (in_flat_map rule_mentions rules r m c d))
