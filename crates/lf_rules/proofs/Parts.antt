-- The faults of one key are those of the definition.
use Rattle.std.proofs.Common.{◌≡◌, Bool, true, false, not, ◌&&◌, cond, List, [], ◌∷◌, ◌++◌, Option, Some, None, ◌⊎◌, inl, inr, refl, sym, subst, true≢false, ap, ◌∙◌}
use Rattle.std.specs.List.{Contains, flat_map, list_any}
use Rattle.std.specs.Str.{bytes_eq}
use Rattle.lf_base.specs.declared.kind.Kind.{Kind}
use Rattle.lf_base.specs.declared.kind.Kind.TheVariants.{WrongKind, UnknownKey, BadName}
use Rattle.lf_base.specs.declared.place.Span.{Span}
use Rattle.lf_scalar.specs.Cells.{Value}
use Rattle.lf_base.specs.declared.fault.Fault.{Fault}
use Rattle.lf_yaml.specs.Tree.{Tree, leaf, sequence, mapping, Items, Entries}
use Rattle.lf_base.specs.Names.{Bytes, is_label_name, metric}
use Rattle.lf_rules.specs.Mappings.{Pairing, pairs, place, given}
use Rattle.lf_rules.specs.Breaches.{IsNoScalar, IsNoMapping, NoScalarAt, WrongTextAt, UnknownIn, SettingsBreak, settings_are_no_mapping, key_is_no_label, label_sets_the_name, setting_is_no_scalar}
use Rattle.lf_base.specs.Faults.{fault}
use Rattle.lf_rules.specs.reading.Files.{scalar_faults, text_faults, unknown_faults, value_faults, is_setting_name, setting_faults, settings_faults}
use Rattle.lf_laws.proofs.Members.{here, none_in, only_one, in_flat_map, of_flat_map, any_in, any_out, same_true, true_same}
use Rattle.std.proofs.lemmas.Bool.{false_from_ne_true}
use Rattle.std.proofs.lemmas.List.Elements.{Contains-append_left, Contains-append_right, Contains-append_cases}

-- ---- nodes of a kind

-- the shapes apart
abbrev is_leaf : Tree → Bool
is_leaf (leaf v) = true
is_leaf (sequence items s) = false
is_leaf (mapping es s) = false

abbrev is_mapping : Tree → Bool
is_mapping (leaf v) = false
is_mapping (sequence items s) = false
is_mapping (mapping es s) = true

pub list_is_no_scalar : (items : Items) (s : Span) → IsNoScalar (sequence items s)
list_is_no_scalar items s v e = true≢false (sym (ap is_leaf e))

pub mapping_is_no_scalar : (es : Entries) (s : Span) → IsNoScalar (mapping es s)
mapping_is_no_scalar es s v e = true≢false (sym (ap is_leaf e))

pub scalar_is_no_mapping : (v : Value) → IsNoMapping (leaf v)
scalar_is_no_mapping v es s e = true≢false (sym (ap is_mapping e))

pub list_is_no_mapping : (items : Items) (p : Span) → IsNoMapping (sequence items p)
list_is_no_mapping items p es s e = true≢false (sym (ap is_mapping e))

-- ---- where a scalar is wanted

pub scalar_out : (key : Bytes) (es : List Pairing) (g : Option Tree) (f : Fault) → given key es ≡ g → Contains (scalar_faults g) f → NoScalarAt key es f
scalar_out key es None f e c = absurd (none_in f c)
scalar_out key es (Some (leaf v)) f e c = absurd (none_in f c)
scalar_out key es (Some (sequence items s)) f e c = (sequence items s, e, list_is_no_scalar items s, sym (only_one (fault WrongKind s) f c))
scalar_out key es (Some (mapping ms s)) f e c = (mapping ms s, e, mapping_is_no_scalar ms s, sym (only_one (fault WrongKind s) f c))

pub scalar_told : (t : Tree) → IsNoScalar t → Contains (scalar_faults (Some t)) (fault WrongKind (place t))
scalar_told (leaf v) bare = absurd (bare v refl)
scalar_told (sequence items s) bare = here (fault WrongKind s) []
scalar_told (mapping es s) bare = here (fault WrongKind s) []

pub scalar_in : (key : Bytes) (es : List Pairing) (f : Fault) → NoScalarAt key es f → Contains (scalar_faults (given key es)) f
scalar_in key es f n = subst (λ g. Contains (scalar_faults g) f) (sym n.1) (subst (Contains (scalar_faults (Some n.0))) (sym n.3) (scalar_told n.0 n.2))

-- ---- where a text is wanted

abbrev pub Decides : (Bytes → Bool) → (Bytes → Type 0) → Type 0
Decides is P = ((t : Bytes) → is t ≡ true → P t) × ((t : Bytes) → P t → is t ≡ true)

wrong_out : (is : Bytes → Bool) (P : Bytes → Type 0) (kind : Kind) (v : Value) (b : Bool) (f : Fault) → is v.text ≡ b → Decides is P → Contains (cond b [] (fault kind v.span ∷ [])) f → (P v.text → ⊥) × (f ≡ fault kind v.span)
wrong_out is P kind v true f e d c = absurd (none_in f c)
wrong_out is P kind v false f e d c = ((λ p. true≢false (sym (d.1 v.text p) ∙ e)), sym (only_one (fault kind v.span) f c))

pub text_out : (is : Bytes → Bool) (P : Bytes → Type 0) (kind : Kind) (key : Bytes) (es : List Pairing) (g : Option Tree) (f : Fault) → Decides is P → given key es ≡ g → Contains (text_faults is kind g) f → NoScalarAt key es f ⊎ WrongTextAt key P kind es f
text_out is P kind key es None f d e c = absurd (none_in f c)
text_out is P kind key es (Some (leaf v)) f d e c = let w : (P v.text → ⊥) × (f ≡ fault kind v.span) = wrong_out is P kind v (is v.text) f refl d c in inr (v, e, w.0, w.1)
text_out is P kind key es (Some (sequence items s)) f d e c = inl (sequence items s, e, list_is_no_scalar items s, sym (only_one (fault WrongKind s) f c))
text_out is P kind key es (Some (mapping ms s)) f d e c = inl (mapping ms s, e, mapping_is_no_scalar ms s, sym (only_one (fault WrongKind s) f c))

pub text_told : (is : Bytes → Bool) (kind : Kind) (t : Tree) → IsNoScalar t → Contains (text_faults is kind (Some t)) (fault WrongKind (place t))
text_told is kind (leaf v) bare = absurd (bare v refl)
text_told is kind (sequence items s) bare = here (fault WrongKind s) []
text_told is kind (mapping es s) bare = here (fault WrongKind s) []

pub text_in_kind : (is : Bytes → Bool) (kind : Kind) (key : Bytes) (es : List Pairing) (f : Fault) → NoScalarAt key es f → Contains (text_faults is kind (given key es)) f
text_in_kind is kind key es f n = subst (λ g. Contains (text_faults is kind g) f) (sym n.1) (subst (Contains (text_faults is kind (Some n.0))) (sym n.3) (text_told is kind n.0 n.2))

pub text_in_text : (is : Bytes → Bool) (P : Bytes → Type 0) (kind : Kind) (key : Bytes) (es : List Pairing) (f : Fault) → Decides is P → WrongTextAt key P kind es f → Contains (text_faults is kind (given key es)) f
text_in_text is P kind key es f d w =
    let wrong : is w.0.text ≡ false = false_from_ne_true (is w.0.text) (λ h. w.2 (d.0 w.0.text h)) in
    subst (λ g. Contains (text_faults is kind g) f) (sym w.1) (subst (Contains (text_faults is kind (Some (leaf w.0)))) (sym w.3) (rw wrong (here (fault kind w.0.span) [])))

-- ---- keys

pub unknown_out : (keys : List Bytes) (es : List Pairing) (f : Fault) → Contains (flat_map (unknown_faults keys) es) f → UnknownIn keys es f
unknown_out keys es f c = let m : (e : Pairing) × Contains es e × Contains (unknown_faults keys e) f = of_flat_map (unknown_faults keys) es f c in by m.0 m.1 (list_any (bytes_eq m.0.0.text) keys) refl m.2
  where
    by : (e : Pairing) → Contains es e → (b : Bool) → list_any (bytes_eq e.0.text) keys ≡ b → Contains (cond b [] (fault UnknownKey e.0.span ∷ [])) f → UnknownIn keys es f
    by e m true is d = absurd (none_in f d)
    by e m false is d = (e.0, e.1, m, (λ known. true≢false (sym (any_in e.0.text keys known) ∙ is)), sym (only_one (fault UnknownKey e.0.span) f d))

pub unknown_in : (keys : List Bytes) (es : List Pairing) (f : Fault) → UnknownIn keys es f → Contains (flat_map (unknown_faults keys) es) f
unknown_in keys es f u =
    let known : list_any (bytes_eq u.0.text) keys ≡ false = false_from_ne_true (list_any (bytes_eq u.0.text) keys) (λ h. u.3 (any_out u.0.text keys h)) in
    in_flat_map (unknown_faults keys) es (u.0, u.1) f u.2 (rw known (subst (Contains (fault UnknownKey u.0.span ∷ [])) (sym u.4) (here (fault UnknownKey u.0.span) [])))

-- ---- labels and annotations

pub value_out : (t : Tree) (f : Fault) → Contains (value_faults t) f → IsNoScalar t × (f ≡ fault WrongKind (place t))
value_out (leaf v) f c = absurd (none_in f c)
value_out (sequence items s) f c = (list_is_no_scalar items s, sym (only_one (fault WrongKind s) f c))
value_out (mapping es s) f c = (mapping_is_no_scalar es s, sym (only_one (fault WrongKind s) f c))

pub value_in : (t : Tree) → IsNoScalar t → Contains (value_faults t) (fault WrongKind (place t))
value_in (leaf v) bare = absurd (bare v refl)
value_in (sequence items s) bare = here (fault WrongKind s) []
value_in (mapping es s) bare = here (fault WrongKind s) []

name_out : (is_labels : Bool) (es : Entries) (s : Span) (e : Pairing) (f : Fault) (a b : Bool) → Contains (pairs es) e → is_label_name e.0.text ≡ a → bytes_eq e.0.text metric ≡ b
    → Contains (cond (a && not (is_labels && b)) [] (fault BadName e.0.span ∷ [])) f → SettingsBreak is_labels (mapping es s) f
name_out is_labels es s e f false b m is n c = subst (SettingsBreak is_labels (mapping es s)) (only_one (fault BadName e.0.span) f c) (key_is_no_label m is)
name_out true es s e f true true m is n c = subst (SettingsBreak true (mapping es s)) (only_one (fault BadName e.0.span) f c) (label_sets_the_name m (true_same e.0.text metric n))
name_out true es s e f true false m is n c = absurd (none_in f c)
name_out false es s e f true b m is n c = absurd (none_in f c)

pub settings_out : (is_labels : Bool) (t : Tree) (f : Fault) → Contains (settings_faults is_labels (Some t)) f → SettingsBreak is_labels t f
settings_out is_labels (leaf v) f c = subst (SettingsBreak is_labels (leaf v)) (only_one (fault WrongKind v.span) f c) (settings_are_no_mapping (scalar_is_no_mapping v))
settings_out is_labels (sequence items s) f c = subst (SettingsBreak is_labels (sequence items s)) (only_one (fault WrongKind s) f c) (settings_are_no_mapping (list_is_no_mapping items s))
settings_out is_labels (mapping es s) f c =
    let m : (e : Pairing) × Contains (pairs es) e × Contains (setting_faults is_labels e) f = of_flat_map (setting_faults is_labels) (pairs es) f c in
    by m.0 m.1 (Contains-append_cases (cond (is_setting_name is_labels m.0.0.text) [] (fault BadName m.0.0.span ∷ [])) (value_faults m.0.1) f m.2)
  where
    by : (e : Pairing) → Contains (pairs es) e → Contains (cond (is_setting_name is_labels e.0.text) [] (fault BadName e.0.span ∷ [])) f ⊎ Contains (value_faults e.1) f → SettingsBreak is_labels (mapping es s) f
    by e m (inl d) = name_out is_labels es s e f (is_label_name e.0.text) (bytes_eq e.0.text metric) m refl refl d
    by e m (inr d) = let v : IsNoScalar e.1 × (f ≡ fault WrongKind (place e.1)) = value_out e.1 f d in subst (SettingsBreak is_labels (mapping es s)) (sym v.1) (setting_is_no_scalar m v.0)

pub settings_in : (is_labels : Bool) (t : Tree) (f : Fault) → SettingsBreak is_labels t f → Contains (settings_faults is_labels (Some t)) f
settings_in is_labels t f (settings_are_no_mapping bare) = wrong t bare
  where
    wrong : (u : Tree) → IsNoMapping u → Contains (settings_faults is_labels (Some u)) (fault WrongKind (place u))
    wrong (leaf v) bare = here (fault WrongKind v.span) []
    wrong (sequence items s) bare = here (fault WrongKind s) []
    wrong (mapping es s) bare = absurd (bare es s refl)
settings_in is_labels t f (key_is_no_label {es = es} {k = k} {t = u} m is) =
    in_flat_map (setting_faults is_labels) (pairs es) (k, u) (fault BadName k.span) m
    (Contains-append_left (cond (is_setting_name is_labels k.text) [] (fault BadName k.span ∷ [])) (value_faults u) (fault BadName k.span) (rw is (here (fault BadName k.span) [])))
settings_in is_labels t f (label_sets_the_name {es = es} {k = k} {t = u} m is) =
    in_flat_map (setting_faults true) (pairs es) (k, u) (fault BadName k.span) m
    (Contains-append_left (cond (is_setting_name true k.text) [] (fault BadName k.span ∷ [])) (value_faults u) (fault BadName k.span) (by (is_label_name k.text) (bytes_eq k.text metric) (same_true k.text metric is)))
  where
    by : (a b : Bool) → b ≡ true → Contains (cond (a && not (true && b)) [] (fault BadName k.span ∷ [])) (fault BadName k.span)
    by a false e = absurd (true≢false (sym e))
    by true true e = here (fault BadName k.span) []
    by false true e = here (fault BadName k.span) []
settings_in is_labels t f (setting_is_no_scalar {es = es} {k = k} {t = u} m bare) =
    in_flat_map (setting_faults is_labels) (pairs es) (k, u) (fault WrongKind (place u)) m
    (Contains-append_right (cond (is_setting_name is_labels k.text) [] (fault BadName k.span ∷ [])) (value_faults u) (fault WrongKind (place u)) (value_in u bare))

-- ---- parts behind one another

pub either : {X : Type 0} (P : Type 0) (xs ys : List X) (x : X) → (Contains xs x → P) → (Contains ys x → P) → Contains (xs ++ ys) x → P
either {X = X} P xs ys x first later c = by (Contains-append_cases xs ys x c)
  where
    by : Contains xs x ⊎ Contains ys x → P
    by (inl d) = first d
    by (inr d) = later d
