-- What was mentioned, label by label, is the universe of what is mentioned.
use Rattle.std.proofs.Common.{◌≡◌, ◌≢◌, ◌<◌, ℕ, ◌+◌, ltb, eqb, Bool, true, false, not, cond, List, [], ◌∷◌, ◌++◌, get_or, set, map, length, refl, sym, ap, subst, ◌∙◌, append-nil, append_assoc, length-append, arith}
use Rattle.std.specs.Prelude.{fold}
use Rattle.std.specs.List.{filter, flat_map}
use Rattle.std.specs.Str.{bytes_eq}
use Rattle.std.proofs.lemmas.Grind.{flat_map-append}
use Rattle.std.proofs.lemmas.List.{ext_get_or, get_or-append-add, get_or_append_left, get_or-map, get_or_past, get_or-set_other, get_or-set_same, length-map, length-set, map-append}
use Rattle.std.proofs.lemmas.List.Elements.{filter-append}
use Rattle.std.proofs.lemmas.List.Folds.{position_or_len_push}
use Rattle.std.proofs.lemmas.Bool.{ltb-false, ltb-true}
use Rattle.lf_ast.specs.Labels.{Bytes}
use Rattle.lf_semantics.specs.Listing.{Listing, first_seen, label_of, labels_mentioned, listing_of, named_at, place, texts_mentioned}
use Rattle.lf_ast.specs.Selectors.{metric}
use Rattle.lf_semantics.specs.Mentions.{Mention}
use Rattle.lf_semantics.proofs.ListingLaws.{is_listing}
use Rattle.lf_semantics.proofs.Members.{same_true, true_same}
use Rattle.lf_semantics.proofs.Places.{place_at, place_le, same_text}
use Rattle.lf_classes.specs.views.Mentioned.{mentioned_all, nothing_mentioned, with_label, with_mentioned, with_star, with_text_of}
use Rattle.lf_classes.specs.views.TextSets.{with_text}
use Rattle.lf_classes.proofs.Seen.{first_seen-more, first_seen-push, some_texts, with_some}

-- the listing has what these items mention
record Lists (items : List Mention) (seen : Listing) : Type 0 where
  pub names : seen.names ≡ labels_mentioned items
  pub count : length seen.named ≡ length seen.names
  pub texts : (label : Bytes) → named_at seen (label_of seen label) ≡ texts_mentioned items label

-- texts of a label

module _ (k : ℕ) where
  texts_names : (s : Listing) (ts : List Bytes) → (fold (with_text_of k) s ts).names ≡ s.names
  texts_names s [] = refl
  texts_names s (t ∷ ts) = texts_names (with_text_of k s t) ts

  one_length : (s : Listing) (t : Bytes) → length (with_text_of k s t).named ≡ length s.named
  one_length s t = elim (bytes_eq t []) as (λ b. length (cond b s.named (set s.named k (with_text (named_at s k) t))) ≡ length s.named) [ true ↦ refl | false ↦ length-set s.named k (with_text (named_at s k) t) ]

  texts_length : (s : Listing) (ts : List Bytes) → length (fold (with_text_of k) s ts).named ≡ length s.named
  texts_length s [] = refl
  texts_length s (t ∷ ts) = texts_length (with_text_of k s t) ts ∙ one_length s t

  one_same : (s : Listing) (t : Bytes) → k < length s.named → named_at (with_text_of k s t) k ≡ with_some (named_at s k) t
  one_same s t h =
      elim (bytes_eq t []) as (λ b. get_or (cond b s.named (set s.named k (with_text (named_at s k) t))) k [] ≡ cond b (named_at s k) (with_text (named_at s k) t)) [
        | true ↦ refl
        | false ↦ get_or-set_same s.named k (with_text (named_at s k) t) [] h
      ]

  texts_same : (s : Listing) (ts : List Bytes) → k < length s.named → named_at (fold (with_text_of k) s ts) k ≡ fold with_some (named_at s k) ts
  texts_same s [] h = refl
  texts_same s (t ∷ ts) h =
      let long = one_length s t in
      texts_same (with_text_of k s t) ts (omega (arith, h, long)) ∙ ap (λ xs. fold with_some xs ts) (one_same s t h)

  one_other : (s : Listing) (t : Bytes) (j : ℕ) → j ≢ k → named_at (with_text_of k s t) j ≡ named_at s j
  one_other s t j h =
      elim (bytes_eq t []) as (λ b. get_or (cond b s.named (set s.named k (with_text (named_at s k) t))) j [] ≡ named_at s j) [
        | true ↦ refl
        | false ↦ get_or-set_other s.named k j (with_text (named_at s k) t) [] h
      ]

  texts_other : (s : Listing) (ts : List Bytes) (j : ℕ) → j ≢ k → named_at (fold (with_text_of k) s ts) j ≡ named_at s j
  texts_other s [] j h = refl
  texts_other s (t ∷ ts) j h = texts_other (with_text_of k s t) ts j h ∙ one_other s t j h

-- a label that is put behind the others

module _ (s : Listing) (label : Bytes) (count : length s.named ≡ length s.names) where
  label_length : length (with_label s label).named ≡ length (with_label s label).names
  label_length =
      elim (ltb (label_of s label) (length s.names)) as (λ b. length (cond b s.named (s.named ++ [] ∷ [])) ≡ length (cond b s.names (s.names ++ label ∷ []))) [
        | true ↦ count
        | false ↦ length-append s.named ([] ∷ []) ∙ ap (λ n. n + 1) count ∙ sym (length-append s.names (label ∷ []))
      ]

  behind_at : (l : Bytes) (b : Bool) → eqb (place s.names l) (length s.names) ≡ b
      → get_or (s.named ++ [] ∷ []) (cond b (length s.names + cond (bytes_eq label l) 0 1) (place s.names l)) [] ≡ named_at s (place s.names l)
  behind_at l true e =
      let at : place s.names l ≡ length s.names = grind arith in
      let none = get_or_past s.named (place s.names l) [] (omega (arith, at, count)) in
      ap (λ n. get_or (s.named ++ [] ∷ []) (n + cond (bytes_eq label l) 0 1) []) (sym count)
      ∙ get_or-append-add s.named ([] ∷ []) (cond (bytes_eq label l) 0 1) []
      ∙ elim (bytes_eq label l) as (λ b. get_or {A = List Bytes} ([] ∷ []) (cond b 0 1) [] ≡ []) [ true ↦ refl | false ↦ refl ] ∙ sym none
  behind_at l false e =
      let most = place_le s.names l in
      let under : place s.names l < length s.names = grind (arith, most) in
      get_or_append_left s.named ([] ∷ []) [] (place s.names l) (omega (arith, under, count))

  label_texts : (l : Bytes) → named_at (with_label s label) (label_of (with_label s label) l) ≡ named_at s (label_of s l)
  label_texts l =
      elim (ltb (label_of s label) (length s.names)) as (λ b. get_or (cond b s.named (s.named ++ [] ∷ [])) (place (cond b s.names (s.names ++ label ∷ [])) l) [] ≡ named_at s (label_of s l)) [
        | true ↦ refl
        | false ↦ ap (λ n. get_or (s.named ++ [] ∷ []) n []) (position_or_len_push (λ x. bytes_eq x l) s.names label) ∙ behind_at l (eqb (place s.names l) (length s.names)) refl
      ]

  own_place : (b : Bool) → ltb (label_of s label) (length s.names) ≡ b → place (cond b s.names (s.names ++ label ∷ [])) label ≡ label_of s label
  own_place true e = refl
  own_place false e =
      let most = place_le s.names label in
      let least = ltb-false (label_of s label) (length s.names) e in
      let at : eqb (place s.names label) (length s.names) ≡ true = grind (arith, most, least) in
      position_or_len_push (λ x. bytes_eq x label) s.names label
      ∙ ap (λ b. cond b (length s.names + cond (bytes_eq label label) 0 1) (place s.names label)) at
      ∙ ap (λ b. length s.names + cond b 0 1) (same_true label label refl) ∙ omega (arith, most, least)

  label_same : label_of (with_label s label) label ≡ label_of s label
  label_same = own_place (ltb (label_of s label) (length s.names)) refl

  own_within : (b : Bool) → ltb (label_of s label) (length s.names) ≡ b → label_of s label < length (cond b s.names (s.names ++ label ∷ []))
  own_within true e = ltb-true (label_of s label) (length s.names) e
  own_within false e = let most = place_le s.names label in let long = length-append s.names (label ∷ []) in omega (arith, most, long)

  label_within : label_of s label < length (with_label s label).names
  label_within = own_within (ltb (label_of s label) (length s.names)) refl

-- one more item

module _ (items : List Mention) (m : Mention) where
  abbrev before : Bytes → List Bytes
  before label = some_texts (flat_map (λ (x : Mention). x.texts) (filter (λ (x : Mention). bytes_eq x.label label) items))

  -- a single label and its texts
  abbrev own : Bool → List Bytes
  own same = flat_map (λ (x : Mention). x.texts) (cond same (m ∷ []) [])

  texts_more : (label : Bytes) → texts_mentioned (items ++ m ∷ []) label ≡ first_seen (before label ++ some_texts (own (bytes_eq m.label label)))
  texts_more label =
      let test : Mention → Bool = λ x. bytes_eq x.label label in
      ap (λ ms. first_seen (some_texts (flat_map (λ (x : Mention). x.texts) ms))) (filter-append test items (m ∷ []))
      ∙ ap (λ ts. first_seen (some_texts ts)) (flat_map-append (λ (x : Mention). x.texts) (filter test items) (cond (bytes_eq m.label label) (m ∷ []) []))
      ∙ ap first_seen (filter-append (λ t. not (bytes_eq t [])) (flat_map (λ (x : Mention). x.texts) (filter test items)) (own (bytes_eq m.label label)))

  texts_of_own : (label : Bytes) → bytes_eq m.label label ≡ true → texts_mentioned (items ++ m ∷ []) label ≡ fold with_some (texts_mentioned items label) m.texts
  texts_of_own label e =
      texts_more label ∙ ap (λ b. first_seen (before label ++ some_texts (own b))) e ∙ ap (λ ts. first_seen (before label ++ some_texts ts)) (append-nil m.texts)
      ∙ first_seen-more (before label) m.texts

  texts_of_other : (label : Bytes) → bytes_eq m.label label ≡ false → texts_mentioned (items ++ m ∷ []) label ≡ texts_mentioned items label
  texts_of_other label e = texts_more label ∙ ap (λ b. first_seen (before label ++ some_texts (own b))) e ∙ ap first_seen (append-nil (before label))

  module _ (s : Listing) (lists : Lists items s) where
    abbrev k : ℕ
    k = label_of s m.label

    abbrev s1 : Listing
    s1 = with_label s m.label

    names_of : (with_mentioned s m).names ≡ s1.names
    names_of = texts_names k s1 m.texts

    within : k < length s1.named
    within = let a = label_within s m.label lists.count in let b = label_length s m.label lists.count in omega (arith, a, b)

    texts_by : (label : Bytes) (b : Bool) → bytes_eq m.label label ≡ b → named_at (with_mentioned s m) (place s1.names label) ≡ texts_mentioned (items ++ m ∷ []) label
    texts_by label true e =
        let is : m.label ≡ label = true_same m.label label e in
        let at : place s1.names label ≡ k = ap (place s1.names) (sym is) ∙ label_same s m.label lists.count in
        let had : named_at s1 k ≡ texts_mentioned items label =
        ap (named_at s1) (sym (label_same s m.label lists.count)) ∙ label_texts s m.label lists.count m.label ∙ lists.texts m.label ∙ ap (texts_mentioned items) is in
        ap (named_at (with_mentioned s m)) at ∙ texts_same k s1 m.texts within ∙ ap (λ ts. fold with_some ts m.texts) had ∙ sym (texts_of_own label e)
    texts_by label false e =
        let apart : place s1.names label ≢ k = λ same.
        let there : place s1.names m.label < length s1.names = let a = label_within s m.label lists.count in let b = label_same s m.label lists.count in omega (arith, a, b) in
        let f : true ≡ false = sym (same_true m.label label (same_text s1.names m.label label there (label_same s m.label lists.count ∙ sym same))) ∙ e in absurd (cc) in
        texts_other k s1 m.texts (place s1.names label) apart ∙ label_texts s m.label lists.count label ∙ lists.texts label ∙ sym (texts_of_other label e)

    lists_more : Lists (items ++ m ∷ []) (with_mentioned s m)
    lists_more = record {
      names =
          names_of ∙ ap (λ names. with_text names m.label) lists.names ∙ sym (first_seen-push (metric ∷ map (λ (x : Mention). x.label) items) m.label)
          ∙ ap (λ labels. first_seen (metric ∷ labels)) (sym (map-append (λ (x : Mention). x.label) items (m ∷ [])));
      count = texts_length k s1 m.texts ∙ label_length s m.label lists.count ∙ ap length (sym names_of);
      texts = λ label. ap (λ names. named_at (with_mentioned s m) (place names label)) names_of ∙ texts_by label (bytes_eq m.label label) refl;
    }

lists_none : Lists [] nothing_mentioned
lists_none = record {
  names = refl;
  count = refl;
  texts = λ label. elim (bytes_eq metric label) as (λ b. get_or {A = List Bytes} ([] ∷ []) (cond (not b) 1 0) [] ≡ []) [ true ↦ refl | false ↦ refl ];
}

lists_behind : (front items : List Mention) (s : Listing) → Lists front s → Lists (front ++ items) (mentioned_all s items)
lists_behind front [] s lists = let P : List Mention → Type 0 = λ ms. Lists ms s in subst P (sym (append-nil front)) lists
lists_behind front (m ∷ items) s lists =
    let P : List Mention → Type 0 = λ ms. Lists ms (mentioned_all s (m ∷ items)) in
    subst P (append_assoc front (m ∷ []) items) (lists_behind (front ++ m ∷ []) items (with_mentioned s m) (lists_more front m s lists))

lists_all : (items : List Mention) → Lists items (mentioned_all nothing_mentioned items)
lists_all items = lists_behind [] items nothing_mentioned lists_none

same_listing : (names names' : List Bytes) (named named' : List (List Bytes)) → names ≡ names' → named ≡ named' → ◌≡◌ {A = Listing} (record { names = names; named = named }) (record { names = names'; named = named' })
same_listing names names' named named' e f =
    let by_names : List Bytes → Listing = λ ns. record { names = ns; named = named } in
    let by_named : List (List Bytes) → Listing = λ ts. record { names = names'; named = ts } in
    ap by_names e ∙ ap by_named f

-- all that was mentioned, and `*`
pub met_listing : (items : List Mention) → with_star (mentioned_all nothing_mentioned items) ≡ listing_of items
met_listing items =
    let s : Listing = mentioned_all nothing_mentioned items in
    let lists : Lists items s = lists_all items in
    let long : length s.named ≡ length (map (texts_mentioned items) (labels_mentioned items)) = lists.count ∙ ap length lists.names ∙ sym (length-map (labels_mentioned items) (texts_mentioned items)) in
    let each : (k : ℕ) → k < length s.named → get_or s.named k [] ≡ get_or (map (texts_mentioned items) (labels_mentioned items)) k [] = λ k h.
    let under : k < length (labels_mentioned items) = omega (arith, h, lists.count, ap length lists.names) in
    let at : label_of s (get_or (labels_mentioned items) k []) ≡ k = ap (λ names. place names (get_or (labels_mentioned items) k [])) lists.names ∙ place_at (labels_mentioned items) k under (λ j below. (is_listing items).distinct j k below under) in
    ap (named_at s) (sym at) ∙ lists.texts (get_or (labels_mentioned items) k []) ∙ sym (get_or-map (texts_mentioned items) (labels_mentioned items) k [] [] under) in
    same_listing s.names (labels_mentioned items) (s.named ++ [] ∷ []) (map (texts_mentioned items) (labels_mentioned items) ++ [] ∷ []) lists.names (ap (λ ts. ts ++ [] ∷ []) (ext_get_or [] s.named (map (texts_mentioned items) (labels_mentioned items)) long each))
