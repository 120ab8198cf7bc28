-- The list of faults is exactly what breaks a file, and the first of them is the first breach.
use Rattle.std.proofs.Common.{◌≡◌, Bool, true, false, cond, List, [], ◌∷◌, Option, Some, None, ◌⊎◌, inl, inr, refl, sym, subst, codes, arith}
use Rattle.std.specs.List.{Contains, flat_map}
use Rattle.std.specs.Str.{bytes_eq}
use Rattle.std.proofs.lemmas.List.Elements.{Contains-append_left, Contains-append_right}
use Rattle.lf_base.specs.declared.kind.Kind.TheVariants.{WrongKind, MissingKey}
use Rattle.lf_base.specs.declared.place.Span.{Span}
use Rattle.lf_scalar.specs.Cells.{Value}
use Rattle.lf_base.specs.declared.fault.Fault.{Fault}
use Rattle.lf_yaml.specs.Tree.{Tree, leaf, sequence, mapping, Entries}
use Rattle.lf_rules.specs.Texts.{IsTime, IsLimit}
use Rattle.lf_rules.specs.Mappings.{pairs, trees, place, given, entry_at, is_empty}
use Rattle.lf_rules.specs.Rules.{file_keys}
use Rattle.lf_rules.specs.Breaches as breach
use Rattle.lf_rules.specs.Breaches.{at_start, Breaks, IsNoMapping, IsNoList}
use Rattle.lf_base.specs.Faults.{fault}
use Rattle.lf_rules.specs.reading.Files.{is_time, is_limit, unknown_faults, missing_faults, group_tree_faults, names_faults, groups_faults, file_parts, faults, lesser, least_from}
use Rattle.lf_base.proofs.Least.{Least, least_same, least_either, not_itself}
use Rattle.lf_laws.proofs.Members.{here, behind, none_in, only_one, first_or_behind, in_flat_map, of_flat_map, each_member}
use Rattle.lf_rules.proofs.Parts.{Decides, either, unknown_out, unknown_in, scalar_is_no_mapping, list_is_no_mapping}
use Rattle.lf_rules.proofs.RuleParts.{missing_out}
use Rattle.lf_rules.proofs.FileParts.{group_tree_out, group_tree_in, scalar_is_no_list, mapping_is_no_list}
use Rattle.lf_rules.proofs.Names.{second_out, second_in}

module _ (time : Decides is_time IsTime) (limit : Decides is_limit IsLimit) where
  groups_out : (es : Entries) (s : Span) (f : Fault) (g : Option Tree) → given (codes "groups") (pairs es) ≡ g → Contains (groups_faults g) f → Breaks (mapping es s) f
  groups_out es s f None e c = absurd (none_in f c)
  groups_out es s f (Some (leaf v)) e c = subst (Breaks (mapping es s)) (only_one (fault WrongKind v.span) f c) (breach.groups_are_no_list e (scalar_is_no_list v))
  groups_out es s f (Some (mapping ms p)) e c = subst (Breaks (mapping es s)) (only_one (fault WrongKind p) f c) (breach.groups_are_no_list e (mapping_is_no_list ms p))
  groups_out es s f (Some (sequence items p)) e c =
      either (Breaks (mapping es s) f) (flat_map group_tree_faults (trees items)) (names_faults [] (trees items)) f
      (λ d. let m : (t : Tree) × Contains (trees items) t × Contains (group_tree_faults t) f = of_flat_map group_tree_faults (trees items) f d in breach.some_group_breaks e m.1 (group_tree_out time limit m.0 f m.2))
      (λ d. breach.second_name e (second_out (trees items) f d)) c

  empty_or_wrong : (v : Value) (f : Fault) (b : Bool) → bytes_eq v.text [] ≡ b → Contains (cond b [] (fault WrongKind v.span ∷ [])) f → Breaks (leaf v) f
  empty_or_wrong v f true e c = absurd (none_in f c)
  empty_or_wrong v f false e c = subst (Breaks (leaf v)) (only_one (fault WrongKind v.span) f c) (breach.file_is_no_mapping (scalar_is_no_mapping v) e)

  pub breaks_out : (t : Tree) (f : Fault) → Contains (faults t) f → Breaks t f
  breaks_out (leaf v) f c = empty_or_wrong v f (bytes_eq v.text []) refl c
  breaks_out (sequence items s) f c = subst (Breaks (sequence items s)) (only_one (fault WrongKind s) f c) (breach.file_is_no_mapping (list_is_no_mapping items s) refl)
  breaks_out (mapping es s) f c =
      let found : (part : List Fault) × Contains (file_parts s (pairs es)) part × Contains part f = of_flat_map (λ part. part) (file_parts s (pairs es)) f c in
      each_member (λ part. Contains part f → Breaks (mapping es s) f) (file_parts s (pairs es)) found.0 (
        (λ d. breach.file_has_unknown_key (unknown_out file_keys (pairs es) f d)),
        (
          (λ d. let m : (entry_at (codes "groups") (pairs es) ≡ None) × (f ≡ at_start MissingKey s) = missing_out s (entry_at (codes "groups") (pairs es)) f d in subst (Breaks (mapping es s)) (sym m.1) (breach.file_has_no_groups m.0)),
          (
            groups_out es s f (given (codes "groups") (pairs es)) refl,
            tt,
          ),
        ),
      ) found.1 found.2

  of_part : (es : Entries) (s : Span) (f : Fault) (part : List Fault) → Contains (file_parts s (pairs es)) part → Contains part f → Contains (faults (mapping es s)) f
  of_part es s f part m c = in_flat_map (λ p. p) (file_parts s (pairs es)) part f m c

  no_mapping_in : (t : Tree) → IsNoMapping t → is_empty t ≡ false → Contains (faults t) (fault WrongKind (place t))
  no_mapping_in (leaf v) bare e = rw e (here (fault WrongKind v.span) [])
  no_mapping_in (sequence items s) bare e = here (fault WrongKind s) []
  no_mapping_in (mapping es s) bare e = absurd (bare es s refl)

  no_list_in : (t : Tree) → IsNoList t → Contains (groups_faults (Some t)) (fault WrongKind (place t))
  no_list_in (leaf v) bare = here (fault WrongKind v.span) []
  no_list_in (sequence items s) bare = absurd (bare items s refl)
  no_list_in (mapping es s) bare = here (fault WrongKind s) []

  groups_place : (es : Entries) (s : Span) (t : Tree) (f : Fault) → given (codes "groups") (pairs es) ≡ Some t → Contains (groups_faults (Some t)) f → Contains (faults (mapping es s)) f
  groups_place es s t f g c = of_part es s f (groups_faults (given (codes "groups") (pairs es))) (2, omega arith, refl) (subst (λ found. Contains (groups_faults found) f) (sym g) c)

  pub breaks_in : (t : Tree) (f : Fault) → Breaks t f → Contains (faults t) f
  breaks_in t f (breach.file_is_no_mapping bare e) = no_mapping_in t bare e
  breaks_in t f (breach.file_has_unknown_key {es = es} {s = s} u) = of_part es s f (flat_map (unknown_faults file_keys) (pairs es)) (0, omega arith, refl) (unknown_in file_keys (pairs es) f u)
  breaks_in t f (breach.file_has_no_groups {es = es} {s = s} n) =
      of_part es s (at_start MissingKey s) (missing_faults s (entry_at (codes "groups") (pairs es))) (1, omega arith, refl) (rw n (here (at_start MissingKey s) []))
  breaks_in t f (breach.groups_are_no_list {es = es} {s = s} {t = u} g bare) = groups_place es s u (fault WrongKind (place u)) g (no_list_in u bare)
  breaks_in t f (breach.some_group_breaks {es = es} {s = s} {p = p} {items = items} {t = u} g m b) =
      groups_place es s (sequence items p) f g (Contains-append_left (flat_map group_tree_faults (trees items)) (names_faults [] (trees items)) f (in_flat_map group_tree_faults (trees items) u f m (group_tree_in time limit u f b)))
  breaks_in t f (breach.second_name {es = es} {s = s} {p = p} {items = items} g b) =
      groups_place es s (sequence items p) f g (Contains-append_right (flat_map group_tree_faults (trees items)) (names_faults [] (trees items)) f (second_in (trees items) f b))

-- ---- the fault that is told

-- of what holds P and of a list the least is told
least_is : (P : Fault → Type 0) (first : Option Fault) (fs : List Fault) → Least P first → Least (λ f. P f ⊎ Contains fs f) (least_from first fs)
unfolding least_from
least_is P first [] h = least_same P (λ f. P f ⊎ Contains [] f) (λ f p. inl p) only first h
  where
    only : (f : Fault) → P f ⊎ Contains [] f → P f
    only f (inl p) = p
    only f (inr c) = absurd (none_in f c)
least_is P first (x ∷ fs) h =
    let one : Least (λ f. f ≡ x) (Some x) = (refl, λ f e. not_itself x f e) in
    least_same (λ f. (P f ⊎ (f ≡ x)) ⊎ Contains fs f) (λ f. P f ⊎ Contains (x ∷ fs) f) out back (least_from (lesser first x) fs) (least_is (λ f. P f ⊎ (f ≡ x)) (lesser first x) fs (least_either P (λ f. f ≡ x) first (Some x) h one))
  where
    out : (f : Fault) → (P f ⊎ (f ≡ x)) ⊎ Contains fs f → P f ⊎ Contains (x ∷ fs) f
    out f (inl (inl p)) = inl p
    out f (inl (inr e)) = inr (subst (Contains (x ∷ fs)) (sym e) (here x fs))
    out f (inr c) = inr (behind x fs f c)

    member : (f : Fault) → (x ≡ f) ⊎ Contains fs f → (P f ⊎ (f ≡ x)) ⊎ Contains fs f
    member f (inl e) = inl (inr (sym e))
    member f (inr c) = inr c

    back : (f : Fault) → P f ⊎ Contains (x ∷ fs) f → (P f ⊎ (f ≡ x)) ⊎ Contains fs f
    back f (inl p) = inl (inl p)
    back f (inr c) = member f (first_or_behind x fs f c)

module _ (time : Decides is_time IsTime) (limit : Decides is_limit IsLimit) where
  pub told_is : (t : Tree) → Least (Breaks t) (least_from None (faults t))
  told_is t = least_same (λ f. ⊥ ⊎ Contains (faults t) f) (Breaks t) out (λ f b. inr (breaks_in time limit t f b)) (least_from None (faults t)) (least_is (λ f. ⊥) None (faults t) (λ f e. e))
    where
      out : (f : Fault) → ⊥ ⊎ Contains (faults t) f → Breaks t f
      out f (inl e) = absurd e
      out f (inr c) = breaks_out time limit t f c
