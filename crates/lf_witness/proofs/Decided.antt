-- What can be decided: of members of lists, of label sets, and of signatures.
use Rattle.std.proofs.Common.{◌≡◌, ◌≢◌, ◌⊎◌, inl, inr, Bool, true, false, List, [], ◌∷◌, ◌++◌, map, Option, Some, None, cond, refl, sym, ap, ◌∙◌, subst, true≢false}
use Rattle.std.proofs.lemmas.Cmp.{lists_total, tied_itself}
use Rattle.std.proofs.lemmas.List.Elements.{Contains-append_left, Contains-append_right}
use Rattle.std.proofs.lemmas.Map.Text.{is_eq-slice_cmp}
use Rattle.std.specs.declared.cmp.Ordering.{Ordering}
use Rattle.std.specs.declared.cmp.Ordering.TheVariants.{Less, Equal, Greater}
use Rattle.std.specs.Ordering.{eq_by_cmp, is_eq, nat_cmp}
use Rattle.std.specs.Cmp.Lexicographic.{slice_cmp, nat_list_cmp_total}
use Rattle.std.specs.FinMap.{entries, find, get, get-entries, nat_cmp-IsAntisymmetric, same_entries_map, slice_cmp-IsAntisymmetric}
use Rattle.std.specs.List.{AllByRecursion, Contains}
use Rattle.std.specs.Option.{unwrap_or}
use Rattle.std.specs.Str.{bytes_eq}
use Rattle.lf_laws.proofs.Ascending.{tied}
use Rattle.lf_laws.proofs.Members.{behind, first_or_behind, here, none_in, same_true, true_same}
use Rattle.lf_ast.specs.Labels.{Bytes, Labels}
use Rattle.lf_ast.specs.declared.expr.Matching.{Matching}
use Rattle.lf_semantics.specs.Grouped.{SameSignature, signs}
use Rattle.lf_semantics.specs.Texts.{value_of}
use Rattle.lf_witness.specs.Ascending.{labels_cmp, pairs_of}

abbrev pub Decided : Type 0 → Type 0
Decided P = P ⊎ (P → ⊥)

pub by_test : (P : Type 0) (b : Bool) → (b ≡ true → P) → (P → b ≡ true) → Decided P
by_test P true holds test = inl (holds refl)
by_test P false holds test = inr (λ p. true≢false (sym (test p)))

pub decided_map : (P Q : Type 0) → (P → Q) → (Q → P) → Decided P → Decided Q
decided_map P Q to back (inl p) = inl (to p)
decided_map P Q to back (inr not) = inr (λ q. not (back q))

pub decided_both : (P Q : Type 0) → Decided P → Decided Q → Decided (P × Q)
decided_both P Q (inl p) (inl q) = inl (p, q)
decided_both P Q (inl p) (inr not) = inr (λ b. not b.1)
decided_both P Q (inr not) q = inr (λ b. not b.0)

pub decided_either : (P Q : Type 0) → Decided P → Decided Q → Decided (P ⊎ Q)
decided_either P Q (inl p) q = inl (inl p)
decided_either P Q (inr not) (inl q) = inl (inr q)
decided_either P Q (inr not) (inr nor) = inr (λ e. elim e [ inl p ↦ not p | inr q ↦ nor q ])

pub decided_not : (P : Type 0) → Decided P → Decided (P → ⊥)
decided_not P (inl p) = inr (λ not. not p)
decided_not P (inr not) = inl not

-- a member of which it holds
pub some_member : {X : Type 0} (P : X → Type 0) (xs : List X) → ((x : X) → Decided (P x)) → Decided ((x : X) × Contains xs x × P x)
some_member P [] decided = inr (λ found. none_in found.0 found.1)
some_member P (x ∷ xs) decided = elim (decided x) [
  | inl p ↦ inl (x, here x xs, p)
  | inr not ↦ elim (some_member P xs decided) [
    | inl found ↦ inl (found.0, behind x xs found.0 found.1, found.2)
    | inr none ↦ inr (λ found. elim (first_or_behind x xs found.0 found.1) [
      | inl e ↦ not (subst P (sym e) found.2)
      | inr later ↦ none (found.0, later, found.2)
    ])
  ]
]

-- it holds of each
pub each_decided : {X : Type 0} (P : X → Type 0) (xs : List X) → ((x : X) → Decided (P x)) → Decided (AllByRecursion P xs)
each_decided P [] decided = inl tt
each_decided P (x ∷ xs) decided = decided_both (P x) (AllByRecursion P xs) (decided x) (each_decided P xs decided)

-- the members of which it holds
pub kept : {X : Type 0} (P : X → Type 0) (xs : List X) → ((x : X) → Decided (P x)) → (ys : List X) × ((x : X) → Contains xs x → P x → Contains ys x) × ((x : X) → Contains ys x → Contains xs x × P x)
kept P [] decided = ([], λ x c p. absurd (none_in x c), λ x c. absurd (none_in x c))
kept {X = X} P (y ∷ xs) decided = by (decided y) (kept P xs decided)
  where
    by : Decided (P y) → (ys : List X) × ((x : X) → Contains xs x → P x → Contains ys x) × ((x : X) → Contains ys x → Contains xs x × P x)
        → (ys : List X) × ((x : X) → Contains (y ∷ xs) x → P x → Contains ys x) × ((x : X) → Contains ys x → Contains (y ∷ xs) x × P x)
    by (inl p) rest = (
      y ∷ rest.0,
      λ x c q. elim (first_or_behind y xs x c) [
        | inl e ↦ subst (Contains (y ∷ rest.0)) e (here y rest.0)
        | inr later ↦ behind y rest.0 x (rest.1 x later q)
      ],
      λ x c. elim (first_or_behind y rest.0 x c) [
        | inl e ↦ subst (λ z. Contains (y ∷ xs) z × P z) e (here y xs, p)
        | inr later ↦ (let old = rest.2 x later in (behind y xs x old.0, old.1))
      ],
    )
    by (inr not) rest = (
      rest.0,
      λ x c q. elim (first_or_behind y xs x c) [
        | inl e ↦ absurd (not (subst P (sym e) q))
        | inr later ↦ rest.1 x later q
      ],
      λ x c. let old = rest.2 x c in (behind y xs x old.0, old.1),
    )

-- texts and label sets

pub same_text : (x y : Bytes) → Decided (x ≡ y)
same_text x y = by_test (x ≡ y) (bytes_eq x y) (true_same x y) (same_true x y)

abbrev unpaired : List (List Bytes) → List (Bytes × Bytes)
unpaired [] = []
unpaired ([] ∷ ps) = unpaired ps
unpaired ((x ∷ []) ∷ ps) = unpaired ps
unpaired ((x ∷ y ∷ rest) ∷ ps) = (x, y) ∷ unpaired ps

unpaired_pairs : (es : List (Bytes × Bytes)) → unpaired (map (λ entry. entry.0 ∷ entry.1 ∷ []) es) ≡ es
unpaired_pairs [] = refl
unpaired_pairs (e ∷ es) = ap (λ (l : List (Bytes × Bytes)). e ∷ l) (unpaired_pairs es)

-- label sets that are neither before nor behind one another are one
pub equal_same : (s t : Labels) → labels_cmp s t ≡ Equal → s ≡ t
equal_same s t e =
    let pairs = slice_cmp-IsAntisymmetric (slice_cmp-IsAntisymmetric (slice_cmp-IsAntisymmetric nat_cmp-IsAntisymmetric)) (pairs_of s) (pairs_of t) e in
    same_entries_map s t (sym (unpaired_pairs (entries s)) ∙ ap unpaired pairs ∙ unpaired_pairs (entries t))

pub equal_itself : (s : Labels) → labels_cmp s s ≡ Equal
equal_itself s = tied_itself (lists_total (lists_total nat_list_cmp_total)) (pairs_of s)

-- so the test of the order tells which label sets are one
pub told_same : (s t : Labels) → eq_by_cmp labels_cmp s t ≡ true → s ≡ t
told_same s t e = equal_same s t (tied (labels_cmp s t) e)

pub same_told : (s t : Labels) → s ≡ t → eq_by_cmp labels_cmp s t ≡ true
same_told s t e = subst (λ z. eq_by_cmp labels_cmp s z ≡ true) e (ap is_eq (equal_itself s))

pub same_labels : (s t : Labels) → Decided (s ≡ t)
same_labels s t = by (labels_cmp s t) refl
  where
    apart : (o : Ordering) → labels_cmp s t ≡ o → (o ≡ Equal → ⊥) → s ≡ t → ⊥
    apart o e other same = other (sym e ∙ sym (ap (labels_cmp s) same) ∙ equal_itself s)

    by : (o : Ordering) → labels_cmp s t ≡ o → Decided (s ≡ t)
    by Less e = inr (apart Less e (λ same. cc))
    by Equal e = inl (equal_same s t e)
    by Greater e = inr (apart Greater e (λ same. cc))

-- signatures

abbrev names_of : Labels → List Bytes
names_of s = map (λ entry. entry.0) (entries s)

found_name : (q : Bytes) (es : List (Bytes × Bytes)) (v : Bytes) → find (slice_cmp nat_cmp) q es ≡ Some v → Contains (map (λ entry. entry.0) es) q
found_name q [] v e = absurd (cc)
found_name q (x ∷ es) v e = by (eq_by_cmp (slice_cmp nat_cmp) q x.0) refl (found_name q es v) e
  where
    by : (b : Bool) → eq_by_cmp (slice_cmp nat_cmp) q x.0 ≡ b → (find (slice_cmp nat_cmp) q es ≡ Some v → Contains (map (λ entry. entry.0) es) q)
        → cond b (Some x.1) (find (slice_cmp nat_cmp) q es) ≡ Some v → Contains (map (λ entry. entry.0) (x ∷ es)) q
    by true tied _ _ = subst (Contains (x.0 ∷ map (λ entry. entry.0) es)) (sym (true_same q x.0 (sym (is_eq-slice_cmp q x.0) ∙ tied))) (here x.0 (map (λ entry. entry.0) es))
    by false _ rest found = behind x.0 (map (λ entry. entry.0) es) q (rest found)

-- a label that is not named has no text
named : (s : Labels) (label : Bytes) → Contains (names_of s) label ⊎ (value_of s label ≡ [])
named s label = by (get s label) refl
  where
    by : (o : Option Bytes) → get s label ≡ o → Contains (names_of s) label ⊎ (value_of s label ≡ [])
    by None e = inr (ap (λ (o : Option Bytes). unwrap_or o []) e)
    by (Some v) e = inl (found_name label (entries s) v (sym (get-entries s label) ∙ e))

pub same_signature : (m : Matching) (s t : Labels) → Decided (SameSignature m s t)
same_signature m s t = elim (some_member Differs (names_of s ++ names_of t) (λ label. decided_both (signs m label ≡ true) (value_of s label ≢ value_of t label) (signed label) (decided_not _ (same_text (value_of s label) (value_of t label))))) [
  | inl found ↦ inr (λ same. found.2.1 (same found.0 found.2.0))
  | inr none ↦ inl (λ label holds. elim (same_text (value_of s label) (value_of t label)) [
    | inl same ↦ same
    | inr other ↦ elim (named s label) [
      | inl there ↦ absurd (none (label, Contains-append_left (names_of s) (names_of t) label there, (holds, other)))
      | inr empty ↦ elim (named t label) [
        | inl there ↦ absurd (none (label, Contains-append_right (names_of s) (names_of t) label there, (holds, other)))
        | inr too ↦ empty ∙ sym too
      ]
    ]
  ])
]
  where
    Differs : Bytes → Type 0
    Differs label = (signs m label ≡ true) × (value_of s label ≢ value_of t label)

    signed : (label : Bytes) → Decided (signs m label ≡ true)
    signed label = by_test (signs m label ≡ true) (signs m label) (λ e. e) (λ e. e)
