-- What is given and held by a row, and how it is completed.
use Rattle.std.proofs.Common.{◌≡◌, ◌<◌, ◌^◌, inl, inr, ℕ, ◌+◌, Bool, true, false, cond, List, [], ◌∷◌, length, get_or, Option, Some, None, is_some, refl, sym, ◌∙◌, ap, subst, arith}
use Rattle.std.specs.List.{Contains, list_all}
use Rattle.std.specs.Option.{option_map_or, option_or}
use Rattle.std.proofs.lemmas.List.{get_or-map}
use Rattle.lf_laws.proofs.Booleans.{and_left, and_right}
use Rattle.lf_laws.proofs.Members.{behind, first_or_behind, here, none_in}
use Rattle.std.proofs.lemmas.Option.{same_Some}
use Rattle.lf_ast.specs.Labels.{Bytes}
use Rattle.lf_semantics.specs.ClassRows.{HasShape, HoldsText, Sets, is_live}
use Rattle.lf_semantics.specs.Listing.{IsListing, Listing, label_of, named_at}
use Rattle.lf_semantics.proofs.RowLaws.{in_range}
use Rattle.lf_semantics.proofs.RowSets.{live_at}
use Rattle.lf_trials.specs.Candidates.{candidates_in, first, in_row, labels_in}
use Rattle.lf_trials.specs.Given.{Given, completed, completed_by, holds_text, holds_texts, losing}
use Rattle.lf_shown.proofs.Rows.{Held}
use Rattle.lf_shown.proofs.Texts.{first_member, of_candidates, some_candidate}

-- ---- tests of lists

pub all_true : {X : Type 0} (test : X → Bool) (xs : List X) → ((x : X) → Contains xs x → test x ≡ true) → list_all test xs ≡ true
all_true test [] h = refl
all_true test (x ∷ xs) h = rw (h x (here x xs), all_true test xs (λ y c. h y (behind x xs y c))) refl

pub true_at : {X : Type 0} (test : X → Bool) (xs : List X) (x : X) → list_all test xs ≡ true → Contains xs x → test x ≡ true
true_at test [] x e c = absurd (none_in x c)
true_at test (y ∷ xs) x e c = elim (first_or_behind y xs x c) [
  | inl q ↦ subst (λ z. test z ≡ true) q (and_left (test y) (list_all test xs) e)
  | inr d ↦ true_at test xs x (and_right (test y) (list_all test xs) e) d
]

-- ---- what is given

-- the counts of texts are below what numbers in texts can be
abbrev pub IsSmall : Listing → Type 0
IsSmall u = (label : ℕ) → length (named_at u label) < 2 ^ 63

-- the text of a label is given
abbrev pub Gave : Given → Bytes → Bytes → Type 0
Gave D name text = D name ≡ Some text

module _ (u : Listing) where
  -- a label of the universe, or the one that stands for `*`
  abbrev pub In : Bytes → Type 0
  In name = Contains (labels_in u) name

  -- the row isn't empty and holds what is given
  pub record HoldsGiven (row : Sets) (D : Given) : Type 0 where
    pub live : is_live row ≡ true
    pub held : (name text : Bytes) → In name → Gave D name text → HoldsText u row name text

  -- each label has a text
  abbrev pub IsTotal : Given → Type 0
  IsTotal D = (name : Bytes) → In name → (text : Bytes) × Gave D name text

  -- at most one label has a text
  abbrev pub AtMostOne : Given → Type 0
  AtMostOne D = (label : Bytes) × ((name text : Bytes) → In name → Gave D name text → name ≡ label)

  pub holds_by_test : (row : Sets) (D : Given) → holds_texts u row D ≡ true → HoldsGiven row D
  holds_by_test row D e =
      let all = and_right (is_live row) _ e in
      record {
        live = and_left (is_live row) _ e;
        held = λ name text there given. sym (ap (λ (o : Option Bytes). option_map_or (holds_text u row name) o true) given) ∙ true_at (λ name. option_map_or (holds_text u row name) (D name) true) (labels_in u) name all there;
      }

  pub test_by_holds : (row : Sets) (D : Given) → HoldsGiven row D → holds_texts u row D ≡ true
  test_by_holds row D h =
      rw (h.live) (all_true (λ name. option_map_or (holds_text u row name) (D name) true) (labels_in u) (λ name there. by name there (D name) refl))
    where
      by : (name : Bytes) → In name → (o : Option Bytes) → D name ≡ o → option_map_or (holds_text u row name) o true ≡ true
      by name there None e = refl
      by name there (Some text) e = h.held name text there e

  pub few_lost : (lost : Bytes → Bool) (D : Given) → AtMostOne D → AtMostOne (losing lost D)
  few_lost lost D few = (few.0, λ name text there given. few.1 name text there (by name text (lost name) given))
    where
      by : (name text : Bytes) (b : Bool) → cond b None (D name) ≡ Some text → Gave D name text
      by name text true e = absurd (cc)
      by name text false e = e

  -- what is left is what was given and isn't lost
  pub of_losing : (lost : Bytes → Bool) (D : Given) (name text : Bytes) → Gave (losing lost D) name text → (lost name ≡ false) × Gave D name text
  of_losing lost D name text e = by (lost name) refl e
    where
      by : (b : Bool) → lost name ≡ b → cond b None (D name) ≡ Some text → (lost name ≡ false) × Gave D name text
      by true is e = absurd (cc)
      by false is e = (is, e)

  pub kept_given : (lost : Bytes → Bool) (D : Given) (name text : Bytes) → lost name ≡ false → Gave D name text → Gave (losing lost D) name text
  kept_given lost D name text is e = ap (λ b. cond b None (D name)) is ∙ e

  -- ---- completed

  module _ (p : IsListing u) (small : IsSmall u) where
    -- a live row has a class of each label
    pub class_at : (row : Sets) (name : Bytes) → HasShape u row → is_live row ≡ true → (c : ℕ) × (c < length (named_at u (label_of u name)) + 2) × Held row (label_of u name) c
    class_at row name shape live =
        let r = in_range u p row name [] shape in
        let found = live_at row (label_of u name) live r.0 in
        let n : length (get_or row (label_of u name) []) ≡ length (named_at u (label_of u name)) + 2 =
        sym (get_or-map length row (label_of u name) [] 0 r.0) ∙ ap (λ counts. get_or counts (label_of u name) 0) shape ∙ Rattle.lf_semantics.proofs.Places.count_at u p name in
        (found.0, (let h = found.1 in omega (arith, h, n)), found.2)

    pub candidate_at : (row : Sets) (name : Bytes) → HasShape u row → is_live row ≡ true → (text : Bytes) × (first (candidates_in u row name) ≡ Some text) × HoldsText u row name text
    candidate_at row name shape live =
        let c = class_at row name shape live in
        let t = some_candidate u p name (small (label_of u name)) (in_row u row name) c.0 c.1 c.2 in
        (t.0, t.1, of_candidates u p name (small (label_of u name)) (in_row u row name) t.0 (first_member (candidates_in u row name) t.0 t.1))

    module _ (row : Sets) (shape : HasShape u row) (D : Given) (h : HoldsGiven row D) where
      pub by_row : (name : Bytes) → In name → (text : Bytes) × (completed_by u row D name ≡ Some text) × HoldsText u row name text
      by_row name there = by (D name) refl
        where
          by : (o : Option Bytes) → D name ≡ o → (text : Bytes) × (option_or o (first (candidates_in u row name)) ≡ Some text) × HoldsText u row name text
          by None e = candidate_at row name shape h.live
          by (Some text) e = (text, refl, h.held name text there e)

      -- what is held is completed, and holds still
      pub completed_is : completed u row D ≡ Some (completed_by u row D)
      completed_is =
          rw (h.live, all_true (λ name. is_some (completed_by u row D name)) (labels_in u) (λ name there. let t = by_row name there in ap is_some t.1)) refl

      pub completed_total : IsTotal (completed_by u row D)
      completed_total name there = let t = by_row name there in (t.0, t.1)

      pub completed_holds : HoldsGiven row (completed_by u row D)
      completed_holds = record { live = h.live; held = λ name text there given. let t = by_row name there in let q : t.0 ≡ text = same_Some (t.0) text (sym t.1 ∙ given) in subst (λ x. HoldsText u row name x) q t.2 }

    -- and what was given is given
    pub completed_keeps : (row : Sets) (D : Given) (name text : Bytes) → Gave D name text → Gave (completed_by u row D) name text
    completed_keeps row D name text e = ap (λ (o : Option Bytes). option_or o (first (candidates_in u row name))) e
