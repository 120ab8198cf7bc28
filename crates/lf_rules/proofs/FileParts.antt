-- The faults of groups and of a file are those of the definition.
use Rattle.std.proofs.Common.{◌≡◌, Bool, true, false, List, [], Option, Some, None, ◌⊎◌, inl, inr, refl, sym, subst, true≢false, codes, ap, arith}
use Rattle.std.specs.List.{Contains, flat_map}
use Rattle.lf_base.specs.declared.kind.Kind.TheVariants.{WrongKind, MissingKey, BadLimit, BadDuration}
use Rattle.lf_base.specs.declared.place.Span.{Span}
use Rattle.lf_scalar.specs.Cells.{Value}
use Rattle.lf_base.specs.declared.fault.Fault.{Fault}
use Rattle.lf_yaml.specs.Tree.{Tree, leaf, sequence, mapping, Entries}
use Rattle.lf_rules.specs.Texts.{IsTime, IsLimit}
use Rattle.lf_base.specs.Names.{Bytes}
use Rattle.lf_rules.specs.Mappings.{Pairing, pairs, trees, place, given, given_entry}
use Rattle.lf_rules.specs.Rules.{group_keys}
use Rattle.lf_rules.specs.Breaches as breach
use Rattle.lf_rules.specs.Breaches.{at_start, GroupBreaks, GroupTreeBreaks, group_scalar_keys, group_time_keys, IsNoMapping, IsNoList}
use Rattle.lf_base.specs.Faults.{fault}
use Rattle.lf_rules.specs.reading.Files.{is_time, is_limit, text_faults, scalar_faults, missing_faults, unknown_faults, rules_faults, rule_tree_faults, group_parts, group_faults, group_tree_faults}
use Rattle.lf_laws.proofs.Members.{here, none_in, only_one, any_out, in_flat_map, of_flat_map, each_member}
use Rattle.lf_rules.proofs.Parts.{Decides, scalar_out, scalar_in, text_out, text_in_kind, text_in_text, unknown_out, unknown_in, scalar_is_no_mapping, list_is_no_mapping}
use Rattle.lf_rules.proofs.RuleParts.{missing_out, not_given, none_given, rule_tree_out, rule_tree_in}

-- ---- which nodes are lists

abbrev is_list : Tree → Bool
is_list (leaf v) = false
is_list (sequence items s) = true
is_list (mapping es s) = false

pub scalar_is_no_list : (v : Value) → IsNoList (leaf v)
scalar_is_no_list v items s e = true≢false (sym (ap is_list e))

pub mapping_is_no_list : (es : Entries) (p : Span) → IsNoList (mapping es p)
mapping_is_no_list es p items s e = true≢false (sym (ap is_list e))

-- ---- a group

module _ (time : Decides is_time IsTime) (limit : Decides is_limit IsLimit) where
  rules_out : (s : Span) (es : List Pairing) (f : Fault) (g : Option Tree) → given (codes "rules") es ≡ g → Contains (rules_faults g) f → GroupBreaks s es f
  rules_out s es f None e c = absurd (none_in f c)
  rules_out s es f (Some (leaf v)) e c = subst (GroupBreaks s es) (only_one (fault WrongKind v.span) f c) (breach.rules_are_no_list e (scalar_is_no_list v))
  rules_out s es f (Some (mapping ms p)) e c = subst (GroupBreaks s es) (only_one (fault WrongKind p) f c) (breach.rules_are_no_list e (mapping_is_no_list ms p))
  rules_out s es f (Some (sequence items p)) e c =
      let m : (t : Tree) × Contains (trees items) t × Contains (rule_tree_faults t) f = of_flat_map rule_tree_faults (trees items) f c in
      breach.some_rule_breaks e m.1 (rule_tree_out time m.0 f m.2)

  group_text_out : (P : Bytes → Type 0) (is : Bytes → Bool) (kind : _) (s : Span) (es : List Pairing) (f : Fault) (key : Bytes) → Decides is P → Contains group_scalar_keys key
      → (breach.WrongTextAt key P kind es f → GroupBreaks s es f) → Contains (text_faults is kind (given key es)) f → GroupBreaks s es f
  group_text_out P is kind s es f key d k wrong c = by (text_out is P kind key es (given key es) f d refl c)
    where
      by : breach.NoScalarAt key es f ⊎ breach.WrongTextAt key P kind es f → GroupBreaks s es f
      by (inl n) = breach.group_wants_a_scalar k n
      by (inr w) = wrong w

  pub group_out : (s : Span) (es : List Pairing) (f : Fault) → Contains (group_faults s es) f → GroupBreaks s es f
  group_out s es f c =
      let found : (part : List Fault) × Contains (group_parts s es) part × Contains part f = of_flat_map (λ part. part) (group_parts s es) f c in
      each_member (λ part. Contains part f → GroupBreaks s es f) (group_parts s es) found.0 (
        (λ d. breach.group_has_unknown_key (unknown_out group_keys es f d)),
        (
          (λ d. let m : (given_entry (codes "name") es ≡ None) × (f ≡ at_start MissingKey s) = missing_out s (given_entry (codes "name") es) f d in subst (GroupBreaks s es) (sym m.1) (breach.group_has_no_name (not_given (codes "name") es m.0))),
          (
            (λ d. breach.group_wants_a_scalar (any_out (codes "name") group_scalar_keys refl) (scalar_out (codes "name") es (given (codes "name") es) f refl d)),
            (
              group_text_out IsTime is_time BadDuration s es f (codes "interval") time (any_out (codes "interval") group_scalar_keys refl) (breach.group_wants_a_time (any_out (codes "interval") group_time_keys refl)),
              (
                group_text_out IsLimit is_limit BadLimit s es f (codes "limit") limit (any_out (codes "limit") group_scalar_keys refl) breach.group_wants_a_limit,
                (
                  group_text_out IsTime is_time BadDuration s es f (codes "query_offset") time (any_out (codes "query_offset") group_scalar_keys refl) (breach.group_wants_a_time (any_out (codes "query_offset") group_time_keys refl)),
                  (
                    rules_out s es f (given (codes "rules") es) refl,
                    tt,
                  ),
                ),
              ),
            ),
          ),
        ),
      ) found.1 found.2

  of_part : (s : Span) (es : List Pairing) (f : Fault) (part : List Fault) → Contains (group_parts s es) part → Contains part f → Contains (group_faults s es) f
  of_part s es f part m c = in_flat_map (λ p. p) (group_parts s es) part f m c

  group_scalar_place : (s : Span) (es : List Pairing) (key : Bytes) (f : Fault) → Contains group_scalar_keys key → breach.NoScalarAt key es f → Contains (group_faults s es) f
  group_scalar_place s es key f k n =
      each_member (λ wanted. breach.NoScalarAt wanted es f → Contains (group_faults s es) f) group_scalar_keys key (
        (λ m. of_part s es f (scalar_faults (given (codes "name") es)) (2, omega arith, refl) (scalar_in (codes "name") es f m)),
        (
          (λ m. of_part s es f (text_faults is_time BadDuration (given (codes "interval") es)) (3, omega arith, refl) (text_in_kind is_time BadDuration (codes "interval") es f m)),
          (
            (λ m. of_part s es f (text_faults is_limit BadLimit (given (codes "limit") es)) (4, omega arith, refl) (text_in_kind is_limit BadLimit (codes "limit") es f m)),
            (
              (λ m. of_part s es f (text_faults is_time BadDuration (given (codes "query_offset") es)) (5, omega arith, refl) (text_in_kind is_time BadDuration (codes "query_offset") es f m)),
              tt,
            ),
          ),
        ),
      ) k n

  group_time_place : (s : Span) (es : List Pairing) (key : Bytes) (f : Fault) → Contains group_time_keys key → breach.WrongTextAt key IsTime BadDuration es f → Contains (group_faults s es) f
  group_time_place s es key f k w =
      each_member (λ wanted. breach.WrongTextAt wanted IsTime BadDuration es f → Contains (group_faults s es) f) group_time_keys key (
        (λ m. of_part s es f (text_faults is_time BadDuration (given (codes "interval") es)) (3, omega arith, refl) (text_in_text is_time IsTime BadDuration (codes "interval") es f time m)),
        (
          (λ m. of_part s es f (text_faults is_time BadDuration (given (codes "query_offset") es)) (5, omega arith, refl) (text_in_text is_time IsTime BadDuration (codes "query_offset") es f time m)),
          tt,
        ),
      ) k w

  no_list_in : (t : Tree) → IsNoList t → Contains (rules_faults (Some t)) (fault WrongKind (place t))
  no_list_in (leaf v) bare = here (fault WrongKind v.span) []
  no_list_in (sequence items s) bare = absurd (bare items s refl)
  no_list_in (mapping es s) bare = here (fault WrongKind s) []

  rules_place : (es : List Pairing) (t : Tree) (f : Fault) → given (codes "rules") es ≡ Some t → Contains (rules_faults (Some t)) f → Contains (rules_faults (given (codes "rules") es)) f
  rules_place es t f g c = subst (λ found. Contains (rules_faults found) f) (sym g) c

  pub group_in : (s : Span) (es : List Pairing) (f : Fault) → GroupBreaks s es f → Contains (group_faults s es) f
  group_in s es f (breach.group_has_unknown_key u) = of_part s es f (flat_map (unknown_faults group_keys) es) (0, omega arith, refl) (unknown_in group_keys es f u)
  group_in s es f (breach.group_has_no_name n) =
      of_part s es (at_start MissingKey s) (missing_faults s (given_entry (codes "name") es)) (1, omega arith, refl) (rw (none_given (given_entry (codes "name") es) n) (here (at_start MissingKey s) []))
  group_in s es f (breach.group_wants_a_scalar {key = key} k n) = group_scalar_place s es key f k n
  group_in s es f (breach.group_wants_a_time {key = key} k w) = group_time_place s es key f k w
  group_in s es f (breach.group_wants_a_limit w) = of_part s es f (text_faults is_limit BadLimit (given (codes "limit") es)) (4, omega arith, refl) (text_in_text is_limit IsLimit BadLimit (codes "limit") es f limit w)
  group_in s es f (breach.rules_are_no_list {t = t} g bare) = of_part s es (fault WrongKind (place t)) (rules_faults (given (codes "rules") es)) (6, omega arith, refl) (rules_place es t (fault WrongKind (place t)) g (no_list_in t bare))
  group_in s es f (breach.some_rule_breaks {items = items} {p = p} {t = t} g m b) =
      of_part s es f (rules_faults (given (codes "rules") es)) (6, omega arith, refl) (rules_place es (sequence items p) f g (in_flat_map rule_tree_faults (trees items) t f m (rule_tree_in time t f b)))

  pub group_tree_out : (t : Tree) (f : Fault) → Contains (group_tree_faults t) f → GroupTreeBreaks t f
  group_tree_out (leaf v) f c = subst (GroupTreeBreaks (leaf v)) (only_one (fault WrongKind v.span) f c) (breach.group_is_no_mapping (scalar_is_no_mapping v))
  group_tree_out (sequence items s) f c = subst (GroupTreeBreaks (sequence items s)) (only_one (fault WrongKind s) f c) (breach.group_is_no_mapping (list_is_no_mapping items s))
  group_tree_out (mapping es s) f c = breach.group_breaks (group_out s (pairs es) f c)

  no_mapping_in : (t : Tree) → IsNoMapping t → Contains (group_tree_faults t) (fault WrongKind (place t))
  no_mapping_in (leaf v) bare = here (fault WrongKind v.span) []
  no_mapping_in (sequence items s) bare = here (fault WrongKind s) []
  no_mapping_in (mapping es s) bare = absurd (bare es s refl)

  pub group_tree_in : (t : Tree) (f : Fault) → GroupTreeBreaks t f → Contains (group_tree_faults t) f
  group_tree_in t f (breach.group_is_no_mapping bare) = no_mapping_in t bare
  group_tree_in t f (breach.group_breaks {es = es} {s = s} b) = group_in s (pairs es) f b
