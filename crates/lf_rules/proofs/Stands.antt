-- A part without faults stands by the definition, and a part that stands has no fault.
use Rattle.std.proofs.Common.{◌≡◌, ◌≢◌, Bool, true, false, not, ◌&&◌, cond, List, [], ◌∷◌, ◌++◌, map, Option, Some, None, ◌⊎◌, inl, inr, refl, sym, subst, true≢false, ap, ◌∙◌}
use Rattle.std.specs.List.{Contains, flat_map, list_any, AllZip, AllByRecursion}
use Rattle.std.specs.Str.{bytes_eq}
use Rattle.lf_base.specs.declared.kind.Kind.{Kind}
use Rattle.lf_base.specs.declared.kind.Kind.TheVariants.{UnknownKey, BadName}
use Rattle.lf_scalar.specs.Cells.{Value}
use Rattle.lf_base.specs.declared.fault.Fault.{Fault}
use Rattle.lf_yaml.specs.Tree.{Tree, leaf, sequence, mapping}
use Rattle.lf_base.specs.Names.{Bytes, is_label_name, metric}
use Rattle.lf_rules.specs.Mappings.{Pairing, pairs}
use Rattle.lf_rules.specs.Sources.{Setting}
use Rattle.lf_rules.specs.Rules.{HasOnly, IsText, SetsText, AreSettings, NoneSetsName}
use Rattle.lf_base.specs.Faults.{fault}
use Rattle.lf_rules.specs.reading.Files.{joined, text_faults, scalar_faults, unknown_faults, value_faults, is_setting_name, setting_faults, settings_faults, settings_of, leaf_of, text_of}
use Rattle.lf_laws.proofs.Members.{here, behind, none_in, first_or_behind, any_in, any_out, same_true, true_same}
use Rattle.lf_laws.proofs.Booleans.{and_left, and_right}
use Rattle.lf_rules.proofs.Parts.{Decides}

-- ---- lists

pub both_empty : {X : Type 0} (xs ys : List X) → (xs ++ ys) ≡ [] → (xs ≡ []) × (ys ≡ [])
both_empty [] ys e = (refl, e)
both_empty (x ∷ xs) ys e = absurd (cc)

pub empty_both : {X : Type 0} (xs ys : List X) → xs ≡ [] → ys ≡ [] → (xs ++ ys) ≡ []
empty_both xs ys e h = rw (e, h) refl

pub part_is_empty : (parts : List (List Fault)) (part : List Fault) → joined parts ≡ [] → Contains parts part → part ≡ []
part_is_empty [] part e c = absurd (none_in part c)
part_is_empty (p ∷ parts) part e c = by (both_empty p (joined parts) e) (first_or_behind p parts part c) (part_is_empty parts part)
  where
    by : (p ≡ []) × (joined parts ≡ []) → (p ≡ part) ⊎ Contains parts part → (joined parts ≡ [] → Contains parts part → part ≡ []) → part ≡ []
    by b (inl h) later = sym h ∙ b.0
    by b (inr m) later = later b.1 m

pub parts_are_empty : (parts : List (List Fault)) → AllByRecursion (λ p. p ≡ []) parts → joined parts ≡ []
parts_are_empty [] all = refl
parts_are_empty (p ∷ parts) all = empty_both p (joined parts) all.0 (parts_are_empty parts all.1)

-- ---- texts and scalars

pub text_stands : (is : Bytes → Bool) (P : Bytes → Type 0) (kind : Kind) (g : Option Tree) → Decides is P → text_faults is kind g ≡ [] → IsText P g
text_stands is P kind None d e = tt
text_stands is P kind (Some (leaf v)) d e = by (is v.text) refl e
  where
    by : (b : Bool) → is v.text ≡ b → cond b [] (fault kind v.span ∷ []) ≡ [] → P v.text
    by true h f = d.0 v.text h
    by false h f = absurd (cc)
text_stands is P kind (Some (sequence items s)) d e = absurd (cc)
text_stands is P kind (Some (mapping es s)) d e = absurd (cc)

pub text_clean : (is : Bytes → Bool) (P : Bytes → Type 0) (kind : Kind) (g : Option Tree) → Decides is P → IsText P g → text_faults is kind g ≡ []
text_clean is P kind None d p = refl
text_clean is P kind (Some (leaf v)) d p = rw (d.1 v.text p) refl
text_clean is P kind (Some (sequence items s)) d p = absurd p
text_clean is P kind (Some (mapping es s)) d p = absurd p

pub text_is_scalar : (is : Bytes → Bool) (kind : Kind) (g : Option Tree) → text_faults is kind g ≡ [] → g ≢ None → g ≡ Some (leaf (text_of g))
text_is_scalar is kind None e n = absurd (n refl)
text_is_scalar is kind (Some (leaf v)) e n = refl
text_is_scalar is kind (Some (sequence items s)) e n = absurd (cc)
text_is_scalar is kind (Some (mapping es s)) e n = absurd (cc)

pub scalar_stands : (g : Option Tree) → scalar_faults g ≡ [] → g ≢ None → g ≡ Some (leaf (text_of g))
scalar_stands None e n = absurd (n refl)
scalar_stands (Some (leaf v)) e n = refl
scalar_stands (Some (sequence items s)) e n = absurd (cc)
scalar_stands (Some (mapping es s)) e n = absurd (cc)

pub scalar_clean : (g : Option Tree) (v : Value) → g ≡ Some (leaf v) → scalar_faults g ≡ []
scalar_clean g v e = subst (λ x. scalar_faults x ≡ []) (sym e) refl

pub text_of_leaf : (g : Option Tree) (v : Value) → g ≡ Some (leaf v) → v ≡ text_of g
text_of_leaf g v e = sym (ap text_of e)

-- ---- keys

pub keys_stand : (keys : List Bytes) (es : List Pairing) → flat_map (unknown_faults keys) es ≡ [] → HasOnly keys es
keys_stand keys [] e x c = absurd (none_in x c)
keys_stand keys (y ∷ es) e x c = by (both_empty (unknown_faults keys y) (flat_map (unknown_faults keys) es) e) (first_or_behind y es x c) (keys_stand keys es)
  where
    known : (b : Bool) → list_any (bytes_eq y.0.text) keys ≡ b → cond b [] (fault UnknownKey y.0.span ∷ []) ≡ [] → Contains keys y.0.text
    known true h f = any_out y.0.text keys h
    known false h f = absurd (cc)

    by : (unknown_faults keys y ≡ []) × (flat_map (unknown_faults keys) es ≡ []) → (y ≡ x) ⊎ Contains es x → (flat_map (unknown_faults keys) es ≡ [] → HasOnly keys es) → Contains keys x.0.text
    by b (inl h) later = subst (λ z. Contains keys z.0.text) h (known (list_any (bytes_eq y.0.text) keys) refl b.0)
    by b (inr m) later = later b.1 x m

pub keys_clean : (keys : List Bytes) (es : List Pairing) → HasOnly keys es → flat_map (unknown_faults keys) es ≡ []
keys_clean keys [] only = refl
keys_clean keys (y ∷ es) only =
    empty_both (unknown_faults keys y) (flat_map (unknown_faults keys) es) (rw (any_in y.0.text keys (only y (here y es))) refl) (keys_clean keys es (λ x c. only x (behind y es x c)))

-- ---- labels and annotations

value_stands : (t : Tree) → value_faults t ≡ [] → t ≡ leaf (leaf_of t)
value_stands (leaf v) e = refl
value_stands (sequence items s) e = absurd (cc)
value_stands (mapping es s) e = absurd (cc)

name_stands : (e : Pairing) (b : Bool) → cond b [] (fault BadName e.0.span ∷ []) ≡ [] → b ≡ true
name_stands e true h = refl
name_stands e false h = absurd (cc)

one_stands : (is_labels : Bool) (e : Pairing) → setting_faults is_labels e ≡ [] → SetsText e (e.0, leaf_of e.1) × (is_labels ≡ true → e.0.text ≢ metric)
one_stands is_labels e h =
    let parts : (cond (is_setting_name is_labels e.0.text) [] (fault BadName e.0.span ∷ []) ≡ []) × (value_faults e.1 ≡ []) = both_empty (cond (is_setting_name is_labels e.0.text) [] (fault BadName e.0.span ∷ [])) (value_faults e.1) h in
    let named : is_setting_name is_labels e.0.text ≡ true = name_stands e (is_setting_name is_labels e.0.text) parts.0 in (
      (refl, value_stands e.1 parts.1, and_left (is_label_name e.0.text) (not (is_labels && bytes_eq e.0.text metric)) named),
      (λ l m. by is_labels (bytes_eq e.0.text metric) l (same_true e.0.text metric m) (and_right (is_label_name e.0.text) (not (is_labels && bytes_eq e.0.text metric)) named)),
    )
  where
    by : (a b : Bool) → a ≡ true → b ≡ true → not (a && b) ≡ true → ⊥
    by true true l m n = absurd (true≢false (sym n))
    by true false l m n = true≢false (sym m)
    by false b l m n = true≢false (sym l)

pub list_stands : (is_labels : Bool) (es : List Pairing) → flat_map (setting_faults is_labels) es ≡ [] → AllZip SetsText es (map (λ e. (e.0, leaf_of e.1)) es) × (is_labels ≡ true → NoneSetsName (map (λ e. (e.0, leaf_of e.1)) es))
list_stands is_labels [] h = (tt, (λ l s c. absurd (none_in s c)))
list_stands is_labels (e ∷ es) h =
    let parts : (setting_faults is_labels e ≡ []) × (flat_map (setting_faults is_labels) es ≡ []) = both_empty (setting_faults is_labels e) (flat_map (setting_faults is_labels) es) h in
    let first : SetsText e (e.0, leaf_of e.1) × (is_labels ≡ true → e.0.text ≢ metric) = one_stands is_labels e parts.0 in
    let later : AllZip SetsText es (map (λ e. (e.0, leaf_of e.1)) es) × (is_labels ≡ true → NoneSetsName (map (λ e. (e.0, leaf_of e.1)) es)) = list_stands is_labels es parts.1 in
    ((first.0, later.0), (λ l s c. by l s (first_or_behind (e.0, leaf_of e.1) (map (λ e. (e.0, leaf_of e.1)) es) s c) first.1 later.1))
  where
    by : is_labels ≡ true → (s : Setting) → ((e.0, leaf_of e.1) ≡ s) ⊎ Contains (map (λ e. (e.0, leaf_of e.1)) es) s → (is_labels ≡ true → e.0.text ≢ metric) → (is_labels ≡ true → NoneSetsName (map (λ e. (e.0, leaf_of e.1)) es)) → s.0.text ≢ metric
    by l s (inl h) first later = subst (λ x. x.0.text ≢ metric) h (first l)
    by l s (inr m) first later = later l s m

one_clean : (is_labels : Bool) (e : Pairing) (s : Setting) → SetsText e s → (is_labels ≡ true → s.0.text ≢ metric) → (setting_faults is_labels e ≡ []) × (s ≡ (e.0, leaf_of e.1))
one_clean is_labels e s sets n = (
  empty_both (cond (is_setting_name is_labels e.0.text) [] (fault BadName e.0.span ∷ [])) (value_faults e.1) (rw (name is_labels (bytes_eq e.0.text metric) refl (λ l m. n l (ap (λ v. v.text) sets.0 ∙ true_same e.0.text metric m)) sets.2) refl) (subst (λ t. value_faults t ≡ []) (sym sets.1) refl),
  by s sets.0 (sym (ap leaf_of sets.1)),
)
  where
    name : (a b : Bool) → bytes_eq e.0.text metric ≡ b → (a ≡ true → b ≡ true → ⊥) → is_label_name e.0.text ≡ true → (is_label_name e.0.text && not (a && b)) ≡ true
    name true true is never l = absurd (never refl refl)
    name true false is never l = rw l refl
    name false b is never l = rw l refl

    by : (s : Setting) → s.0 ≡ e.0 → s.1 ≡ leaf_of e.1 → s ≡ (e.0, leaf_of e.1)
    by (k, v) h i = rw (h, i) refl

pub list_clean : (is_labels : Bool) (es : List Pairing) (ss : List Setting) → AllZip SetsText es ss → (is_labels ≡ true → NoneSetsName ss) → (flat_map (setting_faults is_labels) es ≡ []) × (ss ≡ map (λ e. (e.0, leaf_of e.1)) es)
list_clean is_labels [] [] z n = (refl, refl)
list_clean is_labels [] (s ∷ ss) z n = absurd z
list_clean is_labels (e ∷ es) [] z n = absurd z
list_clean is_labels (e ∷ es) (s ∷ ss) z n =
    let first : (setting_faults is_labels e ≡ []) × (s ≡ (e.0, leaf_of e.1)) = one_clean is_labels e s z.0 (λ l. n l s (here s ss)) in
    let later : (flat_map (setting_faults is_labels) es ≡ []) × (ss ≡ map (λ e. (e.0, leaf_of e.1)) es) = list_clean is_labels es ss z.1 (λ l x c. n l x (behind s ss x c)) in
    (empty_both (setting_faults is_labels e) (flat_map (setting_faults is_labels) es) first.0 later.0, rw (first.1, later.1) refl)

pub settings_stand : (is_labels : Bool) (g : Option Tree) → settings_faults is_labels g ≡ [] → AreSettings g (settings_of g) × (is_labels ≡ true → NoneSetsName (settings_of g))
settings_stand is_labels None h = (refl, (λ l s c. absurd (none_in s c)))
settings_stand is_labels (Some (leaf v)) h = absurd (cc)
settings_stand is_labels (Some (sequence items s)) h = absurd (cc)
settings_stand is_labels (Some (mapping es s)) h = list_stands is_labels (pairs es) h

pub settings_clean : (is_labels : Bool) (g : Option Tree) (ss : List Setting) → AreSettings g ss → (is_labels ≡ true → NoneSetsName ss) → (settings_faults is_labels g ≡ []) × (ss ≡ settings_of g)
settings_clean is_labels None ss a n = (refl, a)
settings_clean is_labels (Some (leaf v)) ss a n = absurd a
settings_clean is_labels (Some (sequence items s)) ss a n = absurd a
settings_clean is_labels (Some (mapping es s)) ss a n = list_clean is_labels (pairs es) ss a n
