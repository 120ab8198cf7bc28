-- Entries of label sets: what a look-up finds in them, and what they are after one is put in or taken out.
use Rattle.std.proofs.Common.{◌≡◌, ◌≢◌, ◌<◌, ℕ, zero, suc, ◌+◌, Bool, true, false, cond, not, List, [], ◌∷◌, ◌++◌, take, drop, get_or, length, set, Option, Some, None, refl, sym, ap, ◌∙◌, subst, add-one, arith}
use Rattle.std.specs.Prelude.{IfSome, IsTrue}
use Rattle.std.specs.List.{filter}
use Rattle.std.specs.Option.{option_copied}
use Rattle.std.specs.declared.cmp.Ordering.{Ordering}
use Rattle.std.specs.declared.cmp.Ordering.TheVariants.{Less, Equal, Greater}
use Rattle.std.specs.Ordering.{nat_cmp, eq_by_cmp}
use Rattle.std.specs.Cmp.{eq_by_cmp_equiv}
use Rattle.std.specs.Cmp.Lexicographic.{nat_list_cmp_total, slice_cmp}
use Rattle.std.specs.FinMap.{empty, empty_of_len, entries, entries-from_sorted, entries-insert, find, from_sorted, get, get-from_sorted, get-remove, get-retain_keys, insert, is_sorted, len-entries, nat_cmp-IsAntisymmetric, put, remove, retain_keys, same_entries_map, same_map, slice_cmp-IsAntisymmetric}
use Rattle.std.specs.FinMap.Entries.{by_order, find-where_key, is_sorted-put, is_sorted-where_key}
use Rattle.std.proofs.lemmas.List.{drop_more, get_or_default, set_split}
use Rattle.std.specs.Str.{bytes_eq}
use denote.Ref.{Bor}
use lib.Dec.{T}
use Rattle.lf_ast.specs.Labels.{Bytes, HasNoEmptyText}

-- the text that is found isn't empty
pub found_is_not_empty : (q : Bytes) (es : List (Bytes × Bytes)) → HasNoEmptyText es → (t : Bytes) → Some t ≡ find (slice_cmp nat_cmp) q es → t ≢ []
found_is_not_empty q [] h t e = cc
found_is_not_empty q (x ∷ es) h t e = by (found_is_not_empty q es h.1) (eq_by_cmp (slice_cmp nat_cmp) q x.0) e where
  by : ((u : Bytes) → Some u ≡ find (slice_cmp nat_cmp) q es → u ≢ []) → (b : Bool) → Some t ≡ cond b (Some x.1) (find (slice_cmp nat_cmp) q es) → t ≢ []
  by later true f = λ g. h.0 (let same : t ≡ x.1 = cc in cc)
  by later false f = later t f

-- the same of a text behind a reference
pub shown_is_not_empty : (q : Bytes) (es : List (Bytes × Bytes)) → HasNoEmptyText es → (r : Option (Bor Bytes)) → option_copied r ≡ find (slice_cmp nat_cmp) q es → IfSome r (λ text. text.now ≢ [])
shown_is_not_empty q es h None e = tt
shown_is_not_empty q es h (Some x) e = found_is_not_empty q es h x.now e

-- the text at a place isn't empty
pub text_at_place : (es : List (Bytes × Bytes)) (k : ℕ) (e : Bytes × Bytes) → HasNoEmptyText es → k < length es → e ≡ get_or es k e → e.1 ≢ []
text_at_place [] k e h lt is = absurd (omega (arith, lt))
text_at_place (x ∷ es) zero e h lt is = subst (λ (z : Bytes × Bytes). z.1 ≢ []) (sym is) h.0
text_at_place (x ∷ es) (suc k) e h lt is = text_at_place es k e h.1 (omega (arith, lt)) is

-- entries in order, and the label set that they are

truth : (b : Bool) → T b → IsTrue b
truth true t = refl
truth false t = absurd t

test : (b : Bool) → IsTrue b → T b
test b e = subst T (sym e) tt

abbrev pub AreSortedByName : List (Bytes × Bytes) → Type 0
AreSortedByName es = IsTrue (is_sorted (slice_cmp nat_cmp) es)

pub entries_are : (es : List (Bytes × Bytes)) → AreSortedByName es → entries (from_sorted {R = slice_cmp nat_cmp} es) ≡ es
entries_are es h = entries-from_sorted (slice_cmp nat_cmp) es (test _ h)

pub none_is_empty : from_sorted {X = Bytes} {R = slice_cmp nat_cmp} [] ≡ empty
none_is_empty = empty_of_len (from_sorted []) (len-entries (from_sorted []) ∙ ap length (entries_are [] refl))

-- what a look-up finds in them
pub found_there : (q : Bytes) (es : List (Bytes × Bytes)) → AreSortedByName es → get (from_sorted {R = slice_cmp nat_cmp} es) q ≡ find (slice_cmp nat_cmp) q es
found_there q es h = get-from_sorted (slice_cmp nat_cmp) es q (test _ h)

-- an entry that is put in

pub put_in_order : (n t : Bytes) (es : List (Bytes × Bytes)) → AreSortedByName es → AreSortedByName (put (slice_cmp nat_cmp) n t es)
put_in_order n t es h = truth _ (is_sorted-put (slice_cmp nat_cmp) nat_list_cmp_total n t es (test _ h))

pub put_inserts : (n t : Bytes) (es : List (Bytes × Bytes)) → AreSortedByName es → from_sorted {R = slice_cmp nat_cmp} (put (slice_cmp nat_cmp) n t es) ≡ insert (from_sorted es) n t
put_inserts n t es h = same_entries_map _ _ (entries_are (put (slice_cmp nat_cmp) n t es) (put_in_order n t es h)
    ∙ sym (entries-insert nat_list_cmp_total (from_sorted es) n t ∙ ap (put (slice_cmp nat_cmp) n t) (entries_are es h)))

pub put_has_texts : (n t : Bytes) (es : List (Bytes × Bytes)) → t ≢ [] → HasNoEmptyText es → HasNoEmptyText (put (slice_cmp nat_cmp) n t es)
put_has_texts n t [] full h = (full, tt)
put_has_texts n t (e ∷ es) full h = by (slice_cmp nat_cmp n e.0) (put_has_texts n t es full h.1)
  where
    by : (o : Ordering) → HasNoEmptyText (put (slice_cmp nat_cmp) n t es) → HasNoEmptyText (by_order o ((n, t) ∷ e ∷ es) ((e.0, t) ∷ es) (e ∷ put (slice_cmp nat_cmp) n t es))
    by Less later = (full, h)
    by Equal later = (full, h.1)
    by Greater later = (h.0, later)

-- entries that are taken out

abbrev pub differs : Bytes → Bytes × Bytes → Bool
differs n e = not (eq_by_cmp (slice_cmp nat_cmp) n e.0)

pub rest_in_order : (n : Bytes) (es : List (Bytes × Bytes)) → AreSortedByName es → AreSortedByName (filter (differs n) es)
rest_in_order n es h = truth _ (is_sorted-where_key (slice_cmp nat_cmp) (λ x. not (eq_by_cmp (slice_cmp nat_cmp) n x)) es (test _ h))

pub chosen_in_order : (p : Bytes → Bool) (es : List (Bytes × Bytes)) → AreSortedByName es → AreSortedByName (filter (λ entry. p entry.0) es)
chosen_in_order p es h = truth _ (is_sorted-where_key (slice_cmp nat_cmp) p es (test _ h))

pub chosen_retains : (p : Bytes → Bool) (es : List (Bytes × Bytes)) → AreSortedByName es → from_sorted {R = slice_cmp nat_cmp} (filter (λ entry. p entry.0) es) ≡ retain_keys (from_sorted es) p
chosen_retains p es h = same_map nat_list_cmp_total (slice_cmp-IsAntisymmetric nat_cmp-IsAntisymmetric) _ _ (λ q.
    get-from_sorted (slice_cmp nat_cmp) (filter (λ entry. p entry.0) es) q (test _ (chosen_in_order p es h))
    ∙ find-where_key (slice_cmp nat_cmp) p q (λ x tied. ap p (sym (slice_cmp-IsAntisymmetric nat_cmp-IsAntisymmetric q x tied))) es
    ∙ sym (get-retain_keys (from_sorted es) p q (λ x tied. ap p (sym (slice_cmp-IsAntisymmetric nat_cmp-IsAntisymmetric q x tied))) ∙ ap (λ o. cond (p q) o None) (get-from_sorted (slice_cmp nat_cmp) es q (test _ h))))

turned : {A : Type 0} (b : Bool) (x y : A) → cond (not b) x y ≡ cond b y x
turned true x y = refl
turned false x y = refl

pub rest_removes : (n : Bytes) (es : List (Bytes × Bytes)) → AreSortedByName es → from_sorted {R = slice_cmp nat_cmp} (filter (differs n) es) ≡ remove (from_sorted es) n
rest_removes n es h = same_map nat_list_cmp_total (slice_cmp-IsAntisymmetric nat_cmp-IsAntisymmetric) _ _ (λ q.
    get-from_sorted (slice_cmp nat_cmp) (filter (differs n) es) q (test _ (rest_in_order n es h))
    ∙ find-where_key (slice_cmp nat_cmp) (λ x. not (eq_by_cmp (slice_cmp nat_cmp) n x)) q (λ x tied. ap (λ (z : Bytes). not (eq_by_cmp (slice_cmp nat_cmp) n z)) (sym (slice_cmp-IsAntisymmetric nat_cmp-IsAntisymmetric q x tied))) es
    ∙ turned (eq_by_cmp (slice_cmp nat_cmp) n q) (find (slice_cmp nat_cmp) q es) None
    ∙ ap (λ b. cond b None (find (slice_cmp nat_cmp) q es)) ((eq_by_cmp_equiv nat_list_cmp_total).symm n q)
    ∙ sym (get-remove nat_list_cmp_total (from_sorted es) n q ∙ ap (cond (eq_by_cmp (slice_cmp nat_cmp) q n) None) (get-from_sorted (slice_cmp nat_cmp) es q (test _ h))))

pub rest_has_texts : (p : Bytes × Bytes → Bool) (es : List (Bytes × Bytes)) → HasNoEmptyText es → HasNoEmptyText (filter p es)
rest_has_texts p [] h = tt
rest_has_texts p (e ∷ es) h = by (p e) (rest_has_texts p es h.1)
  where
    by : (b : Bool) → HasNoEmptyText (filter p es) → HasNoEmptyText (cond b (e ∷ filter p es) (filter p es))
    by true later = (h.0, later)
    by false later = later

-- where an entry is put

module _ (n : Bytes) (es : List (Bytes × Bytes)) (k : ℕ) where
  -- what was passed over stays in front
  abbrev pub IsPassed : Type 0
  IsPassed = (t : Bytes) → put (slice_cmp nat_cmp) n t es ≡ take k es ++ put (slice_cmp nat_cmp) n t (drop k es)

  pub put_here : (e : Bytes × Bytes) → k < length es → e ≡ get_or es k e → IsPassed → (t : Bytes)
      → put (slice_cmp nat_cmp) n t es ≡ take k es ++ by_order (slice_cmp nat_cmp n e.0) ((n, t) ∷ e ∷ drop (k + 1) es) ((e.0, t) ∷ drop (k + 1) es) (e ∷ put (slice_cmp nat_cmp) n t (drop (k + 1) es))
  put_here e lt is passed t = passed t ∙ ap (λ rest. take k es ++ put (slice_cmp nat_cmp) n t rest) (drop_more es k e lt ∙ ap (λ x. x ∷ drop (k + 1) es) (sym is))

  pub put_at : (e : Bytes × Bytes) → k < length es → e ≡ get_or es k e → slice_cmp nat_cmp n e.0 ≡ Equal → IsPassed → (t : Bytes) (d : Bytes × Bytes)
      → put (slice_cmp nat_cmp) n t es ≡ set es k ((get_or es k d).0, t)
  put_at e lt is equal passed t d =
      put_here e lt is passed t
      ∙ ap (λ o. take k es ++ by_order o ((n, t) ∷ e ∷ drop (k + 1) es) ((e.0, t) ∷ drop (k + 1) es) (e ∷ put (slice_cmp nat_cmp) n t (drop (k + 1) es))) equal
      ∙ sym (set_split es k (e.0, t) lt ∙ ap (λ j. take k es ++ (e.0, t) ∷ drop j es) (sym (add-one k)))
      ∙ ap (λ (x : Bytes × Bytes). set es k (x.0, t)) (is ∙ get_or_default es k e d lt)

-- texts that are empty or not

pub full_text : (t : Bytes) → (length t ≡ 0 → ⊥) → t ≢ []
full_text t some e = some (ap length e)

pub tells_full : (t : Bytes) → (length t ≡ 0 → ⊥) → bytes_eq t [] ≡ false
tells_full [] some = absurd (some refl)
tells_full (c ∷ t) some = refl
