-- Classes stand for the texts that are given of labels.
use Rattle.std.proofs.Common.{inl, inr, ◌⊎◌, ◌≡◌, ◌≢◌, ◌<◌, ◌≤◌, ℕ, zero, suc, ◌+◌, Bool, true, false, ◌&&◌, cond, List, [], ◌∷◌, get_or, set, drop, drop-cons, add-one, codes, length, Option, Some, None, refl, sym, ◌∙◌, ap, subst, arith, length-append, true≢false, below_more}
use Rattle.std.specs.Prelude.{is_some, option_map}
use Rattle.std.specs.List.{Contains, list_all}
use Rattle.std.specs.Option.{option_map_or, option_or}
use Rattle.std.specs.Str.{bytes_eq}
use Rattle.std.proofs.lemmas.Bool.{cases_eq, cases_lt}
use Rattle.std.proofs.lemmas.List.{get_or_append_left, get_or_default, get_or-set_other, get_or-set_same, length-set}
use Rattle.std.proofs.lemmas.List.Elements.{Contains-get_or}
use Rattle.std.proofs.Math.Bool.{and-false}
use Rattle.lf_laws.proofs.Members.{first_or_behind, other_false, same_true}
use Rattle.lf_ast.specs.Labels.{Bytes, Labels}
use Rattle.lf_semantics.specs.ClassRows.{Sets, holds}
use Rattle.lf_semantics.specs.Listing.{IsCandidate, Listing, class_of, class_texts, label_of, named_at, other_class, place}
use Rattle.lf_semantics.proofs.Places.{at_place, eqb-other, place_at, place_le, text_at_class}
use Rattle.lf_classes.specs.Limits.{IsWithin}
use Rattle.lf_trials.specs.Candidates.{candidates_in, first, labels_in, other_name}
use Rattle.lf_trials.specs.Given.{Given, completed_by, giving, holds_text, label_set, losing, with_text}
use Rattle.lf_candidates.specs.views.ClassTexts.{IsClass, Stands, StandsAt, StandsBefore, class_at, name_at, text_at}
use Rattle.lf_candidates.proofs.FirstClass.{candidate_at, is_empty_class}
use Rattle.lf_candidates.proofs.Labelled.{label_at, one_first_free}

-- how many labels there are
pub label_count : (u : Listing) → IsWithin u → length (labels_in u) ≡ length u.named
label_count u within = let more = length-append u.names (other_name u ∷ []) in let count = within.listing.count in omega (arith, more, count)

module _ (u : Listing) (D : Given) (before : List (Option ℕ)) where
  -- at first none is before the next, and at the end all are
  pub none_yet : StandsBefore u before 0 before D
  none_yet = record { count = refl; done = λ label h. absurd (omega (arith, h)); left = λ label h. refl }

  pub one_stands : (next : ℕ) (classes : List (Option ℕ)) (class : Option ℕ) → next < length classes → StandsBefore u before next classes D → StandsAt u next class D → StandsBefore u before (next + 1) (set classes next class) D
  one_stands next classes class less is stands = record {
    count = length-set classes next class ∙ is.count;
    done = below_more (λ label. StandsAt u label (class_at (set classes next class) label) D) next
        (λ label h. subst (λ o. StandsAt u label o D) (sym (get_or-set_other classes next label class None (λ e. absurd (omega (arith, e, h))))) (is.done label h))
        (subst (λ o. StandsAt u next o D) (sym (get_or-set_same classes next class None less)) stands);
    left = λ label h. get_or-set_other classes next label class None (λ e. absurd (omega (arith, e, h))) ∙ is.left label (omega (arith, h));
  }

  pub all_stand : (next : ℕ) (classes : List (Option ℕ)) → length before ≡ length u.named → length u.named ≤ next → StandsBefore u before next classes D → Stands u classes D
  all_stand next classes count most is = record { count = is.count ∙ count; each = λ label h. is.done label (omega (arith, h, most)) }

module _ (u : Listing) (within : IsWithin u) where
  -- labels are told apart by their names
  apart : (k l : ℕ) → k < length u.named → l < length u.named → k ≢ l → bytes_eq (name_at u k) (name_at u l) ≡ false
  apart k l h g other = other_false (name_at u k) (name_at u l) (λ e. other (sym (label_at u within k h) ∙ ap (label_of u) e ∙ label_at u within l g))

  pub gives : (D : Given) (classes : List (Option ℕ)) (label class : ℕ) → label < length classes → IsClass u label (Some class) → Stands u classes D → Stands u (set classes label (Some class)) (giving (name_at u label) (text_at u label class) D)
  gives D classes label class less is stands = record { count = length-set classes label (Some class) ∙ stands.count; each = each }
    where
      E : Given
      E = giving (name_at u label) (text_at u label class) D

      each : (k : ℕ) → k < length u.named → StandsAt u k (class_at (set classes label (Some class)) k) E
      each k h = elim (cases_eq k label) [
        | inl same ↦ subst (λ l. StandsAt u l (class_at (set classes label (Some class)) l) E) (sym same)
            (subst (λ o. StandsAt u label o E) (sym (get_or-set_same classes label (Some class) None less))
            (is, ap (λ (b : Bool). cond b (Some (text_at u label class)) (D (name_at u label))) (same_true (name_at u label) (name_at u label) refl)))
        | inr other ↦
            let old = stands.each k h in
            subst (λ o. StandsAt u k o E) (sym (get_or-set_other classes label k (Some class) None other))
            (old.0, ap (λ (b : Bool). cond b (Some (text_at u label class)) (D (name_at u k))) (apart k label h (omega (arith, less, stands.count)) other) ∙ old.1)
      ]

  -- what is lost
  pub loses : (lost : Bytes → Bool) (D : Given) (label : ℕ) (class : Option ℕ) → StandsAt u label class D → StandsAt u label (cond (lost (name_at u label)) None class) (losing lost D)
  loses lost D label class stands = by (lost (name_at u label)) refl
    where
      by : (b : Bool) → lost (name_at u label) ≡ b → StandsAt u label (cond b None class) (losing lost D)
      by true is = (tt, ap (λ (b : Bool). cond b None (D (name_at u label))) is)
      by false is = (stands.0, ap (λ (b : Bool). cond b None (D (name_at u label))) is ∙ stands.1)

  -- what is completed
  module _ (row : Sets) (D : Given) (label : ℕ) where
    pub said : (class : ℕ) → StandsAt u label (Some class) D → StandsAt u label (Some class) (completed_by u row D)
    said class stands = (stands.0, ap (λ (o : Option Bytes). option_or o (first (candidates_in u row (name_at u label)))) stands.1)

    pub unsaid : (found : Option ℕ) → StandsAt u label None D → IsClass u label found → option_map (text_at u label) found ≡ first (candidates_in u row (name_at u label)) → StandsAt u label found (completed_by u row D)
    unsaid found stands is e = (is, ap (λ (o : Option Bytes). option_or o (first (candidates_in u row (name_at u label)))) stands.1 ∙ sym e)

  -- the class of a class's text is that class
  module _ (label : ℕ) (h : label < length u.named) where
    abbrev texts : List Bytes
    texts = class_texts u label

    texts_apart : (k l : ℕ) → k < l → l < length texts → get_or texts k [] ≢ get_or texts l []
    texts_apart k zero less many e = absurd (omega (arith, less))
    texts_apart zero (suc l) less many e = within.listing.texts_some label (get_or (named_at u label) l []) (Contains-get_or (named_at u label) l [] (omega (arith, many))) (sym e)
    texts_apart (suc k) (suc l) less many e = within.listing.texts_distinct label k l (omega (arith, less)) (omega (arith, many)) e

    pub class_of_text : (class : ℕ) → IsClass u label (Some class) → class_of u label (text_at u label class) ≡ class
    class_of_text class is = elim (cases_lt class (length texts)) [
      | inl own ↦ ap (place texts) ((candidate_at u within label h class).own (omega (arith, own))) ∙ place_at texts class own (λ k before. texts_apart k class before own)
      | inr least ↦
          let last : class ≡ length (named_at u label) + 1 = omega (arith, is, least) in
          let free = (candidate_at u within label h class).other last in
          other_place (text_at u label class) free.2 (λ e. let f : bytes_eq (text_at u label class) [] ≡ true = same_true (text_at u label class) [] e in absurd (not_first class is (omega (arith, last)) f)) ∙ (omega (arith, last))
    ]
      where
        not_first : (class : ℕ) → IsClass u label (Some class) → 0 < class → bytes_eq (text_at u label class) [] ≡ true → ⊥
        not_first (suc k) is more e = absurd (true≢false (sym e ∙ is_empty_class u within label h (suc k) is ∙ eqb-other (suc k) 0 (λ f. absurd (omega (arith, f)))))
        not_first zero is more e = absurd (omega (arith, more))

        other_place : (text : Bytes) → (Contains (named_at u label) text → ⊥) → text ≢ [] → place texts text ≡ length (named_at u label) + 1
        other_place text none some = elim (cases_lt (place texts text) (length texts)) [
          | inl less ↦ absurd (there (first_or_behind [] (named_at u label) text (subst (Contains texts) (at_place texts text less) (Contains-get_or texts (place texts text) [] less))))
          | inr least ↦ let most = place_le texts text in omega (arith, least, most)
        ]
          where
            there : ([] ≡ text) ⊎ Contains (named_at u label) text → ⊥
            there (inl e) = some (sym e)
            there (inr c) = none c

    -- so a row holds the text where it has the class
    pub holds_class : (row : Sets) (D : Given) (class : ℕ) → StandsAt u label (Some class) D → holds row label class ≡ option_map_or (holds_text u row (name_at u label)) (D (name_at u label)) true
    holds_class row D class stands =
        let text : Bytes = text_at u label class in
        let at : holds_text u row (name_at u label) text ≡ holds row label class =
        ap (λ l. holds row l (class_of u l text)) (label_at u within label h) ∙ ap (holds row label) (class_of_text class stands.0) in
        sym (ap (λ (o : Option Bytes). option_map_or (holds_text u row (name_at u label)) o true) stands.1 ∙ at)

-- lists, element by element

same_all : {X Y : Type 0} (p : X → Bool) (q : Y → Bool) (xs : List X) (ys : List Y) (x : X) (y : Y) → length xs ≡ length ys → ((k : ℕ) → k < length xs → p (get_or xs k x) ≡ q (get_or ys k y)) → list_all p xs ≡ list_all q ys
same_all p q [] [] x y count same = refl
same_all p q [] (b ∷ ys) x y count same = absurd (omega (arith, count))
same_all p q (a ∷ xs) [] x y count same = absurd (omega (arith, count))
same_all p q (a ∷ xs) (b ∷ ys) x y count same =
    ap (λ (z : Bool). z && list_all p xs) (same 0 (omega arith)) ∙ ap (λ (z : Bool). q b && z) (same_all p q xs ys x y (omega (arith, count)) (λ k h. same (suc k) (omega (arith, h))))

pub fails_at : {X : Type 0} (p : X → Bool) (xs : List X) (x : X) (k : ℕ) → k < length xs → p (get_or xs k x) ≡ false → list_all p xs ≡ false
fails_at p [] x k h fails = absurd (omega (arith, h))
fails_at p (a ∷ xs) x zero h fails = ap (λ (z : Bool). z && list_all p xs) fails
fails_at p (a ∷ xs) x (suc k) h fails = ap (λ (z : Bool). p a && z) (fails_at p xs x k (omega (arith, h)) fails) ∙ and-false (p a)

module _ (u : Listing) (within : IsWithin u) where
  same_some : (label : ℕ) (class : Option ℕ) → is_some class ≡ is_some (option_map (text_at u label) class)
  same_some label None = refl
  same_some label (Some class) = refl

  -- all classes are there where all texts are
  pub all_said : (D : Given) (classes : List (Option ℕ)) → Stands u classes D → list_all is_some classes ≡ list_all (λ name. is_some (D name)) (labels_in u)
  all_said D classes stands =
      same_all is_some (λ name. is_some (D name)) classes (labels_in u) None [] (stands.count ∙ sym (label_count u within))
      (λ label h. same_some label (class_at classes label) ∙ ap is_some (sym (stands.each label (omega (arith, h, stands.count))).1))

  -- one label more
  pub next_stands : (D E : Given) (before classes : List (Option ℕ)) (next : ℕ) (class now : Option ℕ) → next < length u.named → Stands u before D → StandsBefore u before next classes E → class ≡ class_at classes next
      → (StandsAt u next class D → StandsAt u next now E) → StandsBefore u before (next + 1) (set classes next now) E
  next_stands D E before classes next class now less stands is at step =
      one_stands u E before next classes now (omega (arith, less, is.count, stands.count)) is
      (step (subst (λ o. StandsAt u next o D) (sym (at ∙ is.left next (omega arith))) (stands.each next less)))

-- the label set of the labels from one on
next_name : (names : List Bytes) (D : Given) (label : ℕ) → label < length names → label_set (drop label names) D ≡ option_map_or (λ text. with_text (get_or names label []) text (label_set (drop (label + 1) names) D)) (D (get_or names label [])) (label_set (drop (label + 1) names) D)
next_name names D label h = rw (add-one, drop-cons names label [] h) refl

pub next_label : (u : Listing) (D : Given) (label next : ℕ) (name : Bytes) (rest : Labels) → label < length (labels_in u) → next ≡ label + 1 → name ≡ name_at u label → rest ≡ label_set (drop next (labels_in u)) D
    → option_map_or (λ text. with_text name text rest) (D name) rest ≡ label_set (drop label (labels_in u)) D
next_label u D label next name rest less after is made =
    let later : rest ≡ label_set (drop (label + 1) (labels_in u)) D = made ∙ ap (λ k. label_set (drop k (labels_in u)) D) after in
    ap (λ n. option_map_or (λ text. with_text n text rest) (D n) rest) is
    ∙ ap (λ (r : Labels). option_map_or (λ text. with_text (name_at u label) text r) (D (name_at u label)) r) later
    ∙ sym (next_name (labels_in u) D label less)

-- the name that is read at a place
pub name_read : (u : Listing) (names : List Bytes) (label : ℕ) (name : Bytes) → names ≡ labels_in u → label < length names → name ≡ get_or names label name → name ≡ name_at u label
name_read u names label name are less is = is ∙ get_or_default names label name [] less ∙ ap (λ xs. get_or xs label []) are

-- what stands for a class is its text
pub candidate_text : (u : Listing) (within : IsWithin u) (label : ℕ) → label < length u.named → (class : ℕ) (text : Bytes) → IsClass u label (Some class) → IsCandidate u label class text → text ≡ text_at u label class
candidate_text u within label h class text is stands = elim (cases_lt class (length (named_at u label) + 1)) [
  | inl own ↦ stands.own own ∙ sym ((candidate_at u within label h class).own own)
  | inr least ↦ let last : class ≡ length (named_at u label) + 1 = omega (arith, least, is) in one_first_free (codes "v") (named_at u label) text (text_at u label class) (stands.other last) ((candidate_at u within label h class).other last)
]

-- a label and a text that the universe has

pub known_name : (u : Listing) (name : Bytes) → label_of u name < length u.names → name_at u (label_of u name) ≡ name
known_name u name h = get_or_append_left u.names (other_name u ∷ []) [] (label_of u name) h ∙ at_place u.names name h

pub known_text : (u : Listing) (within : IsWithin u) (label : ℕ) → label < length u.named → (text : Bytes) → class_of u label text < other_class u label → text_at u label (class_of u label text) ≡ text
known_text u within label h text less = (candidate_at u within label h (class_of u label text)).own less ∙ text_at_class u label text less
