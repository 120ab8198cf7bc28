-- Samples that are put among others in ascending order.
use Rattle.std.proofs.Common.{◌≡◌, ◌⊎◌, inl, inr, ◌++◌, List, [], ◌∷◌, refl, sym, subst}
use Rattle.std.specs.BTreeSet.{insert_key}
use Rattle.std.specs.List.{Contains}
use Rattle.std.specs.Ordering.{match_ordering}
use Rattle.std.specs.declared.cmp.Ordering.{Ordering}
use Rattle.std.specs.declared.cmp.Ordering.TheVariants.{Less, Equal, Greater}
use Rattle.std.proofs.lemmas.List.Elements.{Contains-append_cases, Contains-append_left, Contains-append_right, Contains-push_cases}
use Rattle.lf_laws.proofs.Members.{behind, first_or_behind, here, none_in}
use Rattle.lf_ast.specs.Labels.{Labels}
use Rattle.lf_witness.specs.Ascending.{labels_cmp}
use Rattle.lf_witness.specs.Strict.{AreSame}
use Rattle.lf_witness.proofs.Decided.{equal_same}
use Rattle.lf_witness.proofs.SameSets.{same_itself}

-- R has the members of P, and s
abbrev pub IsWith : Labels → List Labels → List Labels → Type 0
IsWith s P R = ((t : Labels) → Contains R t → (s ≡ t) ⊎ Contains P t) × ((t : Labels) → Contains P t → Contains R t) × Contains R s

pub with_pushed : (s : Labels) (P R : List Labels) → AreSame (P ++ s ∷ []) R → IsWith s P R
with_pushed s P R same = (
  λ t c. elim (Contains-push_cases P s t (same.1 t c)) [
    | inl old ↦ inr old
    | inr new ↦ inl new
  ],
  λ t c. same.0 t (Contains-append_left P (s ∷ []) t c),
  same.0 s (Contains-append_right P (s ∷ []) s (here s [])),
)

pub pushed_with : (s : Labels) (P R : List Labels) → IsWith s P R → AreSame (P ++ s ∷ []) R
pushed_with s P R is = (
  λ t c. elim (Contains-push_cases P s t c) [
    | inl old ↦ is.1 t old
    | inr new ↦ subst (Contains R) new is.2
  ],
  λ t c. elim (is.0 t c) [
    | inl new ↦ subst (Contains (P ++ s ∷ [])) new (Contains-append_right P (s ∷ []) s (here s []))
    | inr old ↦ Contains-append_left P (s ∷ []) t old
  ],
)

-- with a list before or behind

pub with_left : (s : Labels) (P R S : List Labels) → IsWith s P R → IsWith s (P ++ S) (R ++ S)
with_left s P R S is = (
  λ t c. elim (Contains-append_cases R S t c) [
    | inl left ↦ elim (is.0 t left) [
      | inl new ↦ inl new
      | inr old ↦ inr (Contains-append_left P S t old)
    ]
    | inr right ↦ inr (Contains-append_right P S t right)
  ],
  λ t c. elim (Contains-append_cases P S t c) [
    | inl left ↦ Contains-append_left R S t (is.1 t left)
    | inr right ↦ Contains-append_right R S t right
  ],
  Contains-append_left R S s is.2,
)

pub with_right : (s : Labels) (P R S : List Labels) → IsWith s P R → IsWith s (S ++ P) (S ++ R)
with_right s P R S is = (
  λ t c. elim (Contains-append_cases S R t c) [
    | inl left ↦ inr (Contains-append_left S P t left)
    | inr right ↦ elim (is.0 t right) [
      | inl new ↦ inl new
      | inr old ↦ inr (Contains-append_right S P t old)
    ]
  ],
  λ t c. elim (Contains-append_cases S P t c) [
    | inl left ↦ Contains-append_left S R t left
    | inr right ↦ Contains-append_right S R t (is.1 t right)
  ],
  Contains-append_right S R s is.2,
)

-- in front of the samples S
pub with_front : (s : Labels) (w S : List Labels) → IsWith s [] w → IsWith s S (w ++ S)
with_front s w S is = (
  λ t c. elim (Contains-append_cases w S t c) [
    | inl left ↦ elim (is.0 t left) [
      | inl new ↦ inl new
      | inr old ↦ absurd (none_in t old)
    ]
    | inr right ↦ inr right
  ],
  λ t c. Contains-append_right w S t c,
  Contains-append_left w S s is.2,
)

-- put at its place, unless it is there
pub with_key : (s : Labels) (R : List Labels) → IsWith s R (insert_key labels_cmp R s)
with_key s [] = (λ t c. first_or_behind s [] t c, λ t c. absurd (none_in t c), here s [])
with_key s (x ∷ R) = by (labels_cmp s x) refl (with_key s R)
  where
    by : (o : Ordering) → labels_cmp s x ≡ o → IsWith s R (insert_key labels_cmp R s) → IsWith s (x ∷ R) (match_ordering o (s ∷ x ∷ R) (x ∷ R) (x ∷ insert_key labels_cmp R s))
    by Less is _ = (λ t c. first_or_behind s (x ∷ R) t c, λ t c. behind s (x ∷ R) t c, here s (x ∷ R))
    by Equal is _ = (λ t c. inr c, λ t c. c, subst (Contains (x ∷ R)) (sym (equal_same s x is)) (here x R))
    by Greater is rest = (
      λ t c. elim (first_or_behind x (insert_key labels_cmp R s) t c) [
        | inl first ↦ inr (subst (Contains (x ∷ R)) first (here x R))
        | inr later ↦ elim (rest.0 t later) [
          | inl new ↦ inl new
          | inr old ↦ inr (behind x R t old)
        ]
      ],
      λ t c. elim (first_or_behind x R t c) [
        | inl first ↦ subst (Contains (x ∷ insert_key labels_cmp R s)) first (here x (insert_key labels_cmp R s))
        | inr later ↦ behind x (insert_key labels_cmp R s) t (rest.1 t later)
      ],
      behind x (insert_key labels_cmp R s) s rest.2,
    )

-- a sample more among those that are looked through, or among the others
pub few_more : (s : Labels) (few others : List Labels) → AreSame ((few ++ others) ++ s ∷ []) ((few ++ s ∷ []) ++ others)
few_more s few others =
    pushed_with s (few ++ others) ((few ++ s ∷ []) ++ others) (with_left s few (few ++ s ∷ []) others (with_pushed s few (few ++ s ∷ []) (same_itself (few ++ s ∷ []))))

pub others_more : (s : Labels) (few old new : List Labels) → AreSame (old ++ s ∷ []) new → AreSame ((few ++ old) ++ s ∷ []) (few ++ new)
others_more s few old new same = pushed_with s (few ++ old) (few ++ new) (with_right s old new few (with_pushed s old new same))

-- the last of some samples is put among others, and the rest is still to be put
pub taken_over : (old new samples front : List Labels) (x : Labels) → samples ≡ front ++ x ∷ [] → AreSame (old ++ x ∷ []) new → AreSame (old ++ samples) (new ++ front)
taken_over old new samples front x taken put = subst (λ (l : List Labels). AreSame (old ++ l) (new ++ front)) (sym taken) (forth, back)
  where
    forth : (s : Labels) → Contains (old ++ (front ++ x ∷ [])) s → Contains (new ++ front) s
    forth s c = elim (Contains-append_cases old (front ++ x ∷ []) s c) [
      | inl before ↦ Contains-append_left new front s (put.0 s (Contains-append_left old (x ∷ []) s before))
      | inr more ↦ elim (Contains-append_cases front (x ∷ []) s more) [
        | inl left ↦ Contains-append_right new front s left
        | inr last ↦ Contains-append_left new front s (put.0 s (Contains-append_right old (x ∷ []) s last))
      ]
    ]

    back : (s : Labels) → Contains (new ++ front) s → Contains (old ++ (front ++ x ∷ [])) s
    back s c = elim (Contains-append_cases new front s c) [
      | inl made ↦ elim (Contains-append_cases old (x ∷ []) s (put.1 s made)) [
        | inl before ↦ Contains-append_left old (front ++ x ∷ []) s before
        | inr last ↦ Contains-append_right old (front ++ x ∷ []) s (Contains-append_right front (x ∷ []) s last)
      ]
      | inr left ↦ Contains-append_right old (front ++ x ∷ []) s (Contains-append_left front (x ∷ []) s left)
    ]
