-- A group's name that stands before is found, by the names before.
use Rattle.std.proofs.Common.{◌≡◌, ℕ, zero, suc, ◌<◌, Bool, true, false, cond, List, [], ◌∷◌, Option, Some, None, ◌⊎◌, inl, inr, refl, sym, subst, codes, ap, ◌∙◌, arith, slice_get}
use Rattle.std.specs.List.{Contains, list_any}
use Rattle.std.specs.Str.{bytes_eq}
use Rattle.std.proofs.lemmas.List.Elements.{Contains-append_left, Contains-append_right, Contains-append_cases}
use Rattle.lf_base.specs.declared.kind.Kind.TheVariants.{DoubleGroup}
use Rattle.lf_scalar.specs.Cells.{Value}
use Rattle.lf_base.specs.declared.fault.Fault.{Fault}
use Rattle.lf_yaml.specs.Tree.{Tree, leaf, sequence, mapping}
use Rattle.lf_base.specs.Names.{Bytes}
use Rattle.lf_rules.specs.Mappings.{pairs, given}
use Rattle.lf_rules.specs.Breaches.{GroupNamed, SecondName}
use Rattle.lf_base.specs.Faults.{fault}
use Rattle.lf_rules.specs.reading.Files.{scalar_of, name_of, again_faults, with_name, names_faults}
use Rattle.lf_laws.proofs.Members.{here, none_in, only_one, any_out, any_in}

named_out : (t : Tree) (v : Value) → name_of t ≡ Some v → GroupNamed t v
named_out (leaf w) v e = absurd (cc)
named_out (sequence items s) v e = absurd (cc)
named_out (mapping es s) v e = by (given (codes "name") (pairs es)) refl e
  where
    by : (g : Option Tree) → given (codes "name") (pairs es) ≡ g → scalar_of g ≡ Some v → GroupNamed (mapping es s) v
    by None is h = absurd (cc)
    by (Some (leaf w)) is h = (es, s, refl, is ∙ ap (λ x. Some (leaf x)) (some_is w v h))
      where
        some_is : (a b : Value) → Some a ≡ Some b → a ≡ b
        some_is a b h = cc
    by (Some (sequence items p)) is h = absurd (cc)
    by (Some (mapping ms p)) is h = absurd (cc)

named_in : (t : Tree) (v : Value) → GroupNamed t v → name_of t ≡ Some v
named_in t v n = subst (λ u. name_of u ≡ Some v) (sym n.2) (ap scalar_of n.3)

-- a group whose name is among these, or stands before it
abbrev pub Again : List Bytes → List Tree → Fault → Type 0
Again names ts f =
    (j : ℕ) × (u : Tree) × (w : Value) × (slice_get ts j ≡ Some u) × GroupNamed u w
    × (Contains names w.text ⊎ ((i : ℕ) × (t : Tree) × (v : Value) × (i < j) × (slice_get ts i ≡ Some t) × GroupNamed t v × (v.text ≡ w.text))) × (f ≡ fault DoubleGroup w.span)

first_again : (names : List Bytes) (t : Tree) (ts : List Tree) (f : Fault) (found : Option Value) → name_of t ≡ found → Contains (again_faults names found) f → Again names (t ∷ ts) f
first_again names t ts f None e c = absurd (none_in f c)
first_again names t ts f (Some v) e c = by (list_any (bytes_eq v.text) names) refl c
  where
    by : (b : Bool) → list_any (bytes_eq v.text) names ≡ b → Contains (cond b (fault DoubleGroup v.span ∷ []) []) f → Again names (t ∷ ts) f
    by true is d = (0, t, v, refl, named_out t v e, inl (any_out v.text names is), sym (only_one (fault DoubleGroup v.span) f d))
    by false is d = absurd (none_in f d)

later_again : (names : List Bytes) (t : Tree) (ts : List Tree) (f : Fault) (found : Option Value) → name_of t ≡ found → Again (with_name names found) ts f → Again names (t ∷ ts) f
later_again names t ts f found e a = (suc a.0, a.1, a.2, a.3, a.4, by found e a.5, a.6)
  where
    by : (found : Option Value) → name_of t ≡ found
        → Contains (with_name names found) a.2.text ⊎ ((i : ℕ) × (u : Tree) × (v : Value) × (i < a.0) × (slice_get ts i ≡ Some u) × GroupNamed u v × (v.text ≡ a.2.text))
        → Contains names a.2.text ⊎ ((i : ℕ) × (u : Tree) × (v : Value) × (i < suc a.0) × (slice_get (t ∷ ts) i ≡ Some u) × GroupNamed u v × (v.text ≡ a.2.text))
    by found e (inr m) = inr (suc m.0, m.1, m.2, omega (arith, m.3), m.4, m.5, m.6)
    by None e (inl c) = inl c
    by (Some v) e (inl c) = pick (Contains-append_cases names (v.text ∷ []) a.2.text c)
      where
        pick : Contains names a.2.text ⊎ Contains (v.text ∷ []) a.2.text → Contains names a.2.text ⊎ ((i : ℕ) × (u : Tree) × (x : Value) × (i < suc a.0) × (slice_get (t ∷ ts) i ≡ Some u) × GroupNamed u x × (x.text ≡ a.2.text))
        pick (inl d) = inl d
        pick (inr d) = inr (0, t, v, omega arith, refl, named_out t v e, only_one v.text a.2.text d)

pub names_out : (names : List Bytes) (ts : List Tree) (f : Fault) → Contains (names_faults names ts) f → Again names ts f
unfolding names_faults
names_out names [] f c = absurd (none_in f c)
names_out names (t ∷ ts) f c = by (Contains-append_cases (again_faults names (name_of t)) (names_faults (with_name names (name_of t)) ts) f c) (names_out (with_name names (name_of t)) ts f)
  where
    by : Contains (again_faults names (name_of t)) f ⊎ Contains (names_faults (with_name names (name_of t)) ts) f → (Contains (names_faults (with_name names (name_of t)) ts) f → Again (with_name names (name_of t)) ts f) → Again names (t ∷ ts) f
    by (inl d) later = first_again names t ts f (name_of t) refl d
    by (inr d) later = later_again names t ts f (name_of t) refl (later d)

same_node : (t u : Tree) → Some t ≡ Some u → t ≡ u
same_node t u e = cc

told_here : (names : List Bytes) (found : Option Value) (w : Value) → found ≡ Some w → Contains names w.text → Contains (again_faults names found) (fault DoubleGroup w.span)
told_here names found w e c = subst (λ x. Contains (again_faults names x) (fault DoubleGroup w.span)) (sym e) (rw (any_in w.text names c) (here (fault DoubleGroup w.span) []))

kept_names : (names : List Bytes) (found : Option Value) (name : Bytes) → Contains names name → Contains (with_name names found) name
kept_names names None name c = c
kept_names names (Some v) name c = Contains-append_left names (v.text ∷ []) name c

new_name : (names : List Bytes) (found : Option Value) (v : Value) (name : Bytes) → found ≡ Some v → v.text ≡ name → Contains (with_name names found) name
new_name names found v name e is = subst (λ x. Contains (with_name names x) name) (sym e) (Contains-append_right names (v.text ∷ []) name (subst (λ x. Contains (v.text ∷ []) x) is (here v.text [])))

pub names_in : (names : List Bytes) (ts : List Tree) (f : Fault) → Again names ts f → Contains (names_faults names ts) f
unfolding names_faults
names_in names [] f a = absurd (cc (a.3))
names_in names (t ∷ ts) f a = by a.0 a.3 a.5 (names_in (with_name names (name_of t)) ts f)
  where
    found : Contains (again_faults names (name_of t)) (fault DoubleGroup a.2.span) → Contains (names_faults names (t ∷ ts)) f
    found c = subst (Contains (names_faults names (t ∷ ts))) (sym a.6) (Contains-append_left (again_faults names (name_of t)) (names_faults (with_name names (name_of t)) ts) (fault DoubleGroup a.2.span) c)

    later : Contains (names_faults (with_name names (name_of t)) ts) f → Contains (names_faults names (t ∷ ts)) f
    later c = Contains-append_right (again_faults names (name_of t)) (names_faults (with_name names (name_of t)) ts) f c

    by : (j : ℕ) → slice_get (t ∷ ts) j ≡ Some a.1
        → Contains names a.2.text ⊎ ((i : ℕ) × (u : Tree) × (v : Value) × (i < j) × (slice_get (t ∷ ts) i ≡ Some u) × GroupNamed u v × (v.text ≡ a.2.text))
        → (Again (with_name names (name_of t)) ts f → Contains (names_faults (with_name names (name_of t)) ts) f) → Contains (names_faults names (t ∷ ts)) f
    by zero is (inl c) rest = found (told_here names (name_of t) a.2 (subst (λ u. name_of u ≡ Some a.2) (sym (same_node t a.1 is)) (named_in a.1 a.2 a.4)) c)
    by zero is (inr m) rest = absurd (omega (arith, m.3))
    by (suc j) is (inl c) rest = later (rest (j, a.1, a.2, is, a.4, inl (kept_names names (name_of t) a.2.text c), a.6))
    by (suc j) is (inr m) rest = pick m.0 m.3 m.4
      where
        pick : (i : ℕ) → i < suc j → slice_get (t ∷ ts) i ≡ Some m.1 → Contains (names_faults names (t ∷ ts)) f
        pick zero b s = later (rest (j, a.1, a.2, is, a.4, inl (new_name names (name_of t) m.2 a.2.text (subst (λ u. name_of u ≡ Some m.2) (sym (same_node t m.1 s)) (named_in m.1 m.2 m.5)) m.6), a.6))
        pick (suc i) b s = later (rest (j, a.1, a.2, is, a.4, inr (i, m.1, m.2, omega (arith, b), s, m.5, m.6), a.6))

pub second_out : (ts : List Tree) (f : Fault) → Contains (names_faults [] ts) f → SecondName ts f
second_out ts f c = by (names_out [] ts f c)
  where
    by : Again [] ts f → SecondName ts f
    by a = pick a.5
      where
        pick : Contains [] a.2.text ⊎ ((i : ℕ) × (t : Tree) × (v : Value) × (i < a.0) × (slice_get ts i ≡ Some t) × GroupNamed t v × (v.text ≡ a.2.text)) → SecondName ts f
        pick (inl c) = absurd (none_in a.2.text c)
        pick (inr m) = (m.0, a.0, m.3, m.1, a.1, m.2, a.2, m.4, a.3, m.5, a.4, m.6, a.6)

pub second_in : (ts : List Tree) (f : Fault) → SecondName ts f → Contains (names_faults [] ts) f
second_in ts f s = names_in [] ts f (s.1, s.4, s.6, s.8, s.10, inr (s.0, s.3, s.5, s.2, s.7, s.9, s.11), s.12)
