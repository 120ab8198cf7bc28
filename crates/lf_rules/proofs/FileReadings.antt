-- The same of groups and of a file.
use Rattle.std.proofs.Common.{◌≡◌, ◌≢◌, ℕ, suc, Bool, true, false, cond, List, [], ◌∷◌, ◌++◌, map, Option, Some, None, refl, sym, subst, true≢false, ap, ◌∙◌, codes, arith}
use Rattle.std.specs.List.{Contains, flat_map, list_any, AllZip, AllByRecursion, IsDistinct}
use Rattle.std.specs.Str.{bytes_eq}
use Rattle.lf_base.specs.declared.kind.Kind.TheVariants.{WrongKind, BadLimit, BadDuration, DoubleGroup}
use Rattle.lf_base.specs.declared.place.Span.{Span}
use Rattle.lf_scalar.specs.Cells.{Value}
use Rattle.lf_base.specs.declared.fault.Fault.{Fault}
use Rattle.lf_yaml.specs.Tree.{Tree, leaf, sequence, mapping}
use Rattle.lf_rules.specs.Texts.{IsTime, IsLimit}
use Rattle.lf_base.specs.Names.{Bytes}
use Rattle.lf_rules.specs.Mappings.{Pairing, pairs, trees, given, given_entry, entry_at}
use Rattle.lf_rules.specs.Sources.{Source}
use Rattle.lf_rules.specs.Rules.{IsRuleTree, AreRules, IsGroup, IsGroupTree, AreGroups, AreFileGroups, IsRules, group_keys, file_keys}
use Rattle.lf_base.specs.Faults.{fault}
use Rattle.lf_rules.specs.reading.Files.{is_time, is_limit, text_faults, scalar_faults, unknown_faults, missing_faults, rule_tree_faults, rules_faults, group_parts, group_faults, group_tree_faults, scalar_of, name_of, again_faults, with_name, names_faults, groups_faults, file_parts, faults, text_of, rule_source, entries_of, items_of, group_sources, groups_sources, sources}
use Rattle.lf_laws.proofs.Members.{same_true, true_same}
use Rattle.std.proofs.lemmas.Bool.{or_parts, false_from_ne_true}
use Rattle.lf_rules.proofs.Parts.{Decides}
use Rattle.lf_rules.proofs.Stands.{both_empty, empty_both, part_is_empty, parts_are_empty, text_stands, text_clean, scalar_stands, scalar_clean, keys_stand, keys_clean}
use Rattle.lf_rules.proofs.Readings.{rule_stands, rule_clean, not_missing, leaf_there}

-- ---- names that are distinct

-- each group has a name with this text
abbrev pub AreNamed : List Tree → List Bytes → Type 0
AreNamed ts ns = AllZip (λ t n. (v : Value) × (name_of t ≡ Some v) × (v.text ≡ n)) ts ns

-- no name is among these
abbrev pub AreNew : List Bytes → List Bytes → Type 0
AreNew seen ns = AllByRecursion (λ n. list_any (bytes_eq n) seen ≡ false) ns

not_any_both : (n m : Bytes) (seen : List Bytes) → list_any (bytes_eq n) (seen ++ m ∷ []) ≡ false → (list_any (bytes_eq n) seen ≡ false) × (bytes_eq m n ≡ false)
not_any_both n m [] e = (refl, false_from_ne_true (bytes_eq m n) (λ h. true≢false (sym (same_true n m (sym (true_same m n h))) ∙ (or_parts (bytes_eq n m) false e).0)))
not_any_both n m (s ∷ seen) e =
    let later : (list_any (bytes_eq n) seen ≡ false) × (bytes_eq m n ≡ false) = not_any_both n m seen ((or_parts (bytes_eq n s) (list_any (bytes_eq n) (seen ++ m ∷ [])) e).1) in
    (rw ((or_parts (bytes_eq n s) (list_any (bytes_eq n) (seen ++ m ∷ [])) e).0, later.0) refl, later.1)

any_both : (n m : Bytes) (seen : List Bytes) → list_any (bytes_eq n) seen ≡ false → bytes_eq m n ≡ false → list_any (bytes_eq n) (seen ++ m ∷ []) ≡ false
any_both n m [] e h = rw (false_from_ne_true (bytes_eq n m) (λ t. true≢false (sym (same_true m n (sym (true_same n m t))) ∙ h))) refl
any_both n m (s ∷ seen) e h = rw ((or_parts (bytes_eq n s) (list_any (bytes_eq n) seen) e).0, any_both n m seen ((or_parts (bytes_eq n s) (list_any (bytes_eq n) seen) e).1) h) refl

new_both : (m : Bytes) (seen ns : List Bytes) → AreNew (seen ++ m ∷ []) ns → AreNew seen ns × AllByRecursion (λ y. bytes_eq m y ≡ false) ns
new_both m seen [] a = (tt, tt)
new_both m seen (n ∷ ns) a =
    let first : (list_any (bytes_eq n) seen ≡ false) × (bytes_eq m n ≡ false) = not_any_both n m seen a.0 in
    let later : AreNew seen ns × AllByRecursion (λ y. bytes_eq m y ≡ false) ns = new_both m seen ns a.1 in
    ((first.0, later.0), (first.1, later.1))

both_new : (m : Bytes) (seen ns : List Bytes) → AreNew seen ns → AllByRecursion (λ y. bytes_eq m y ≡ false) ns → AreNew (seen ++ m ∷ []) ns
both_new m seen [] a d = tt
both_new m seen (n ∷ ns) a d = (any_both n m seen a.0 d.0, both_new m seen ns a.1 d.1)

again_stands : (seen : List Bytes) (v : Value) (n : Bytes) (b : Bool) → list_any (bytes_eq v.text) seen ≡ b → v.text ≡ n → cond b (fault DoubleGroup v.span ∷ []) [] ≡ [] → list_any (bytes_eq n) seen ≡ false
again_stands seen v n true e h f = absurd (cc)
again_stands seen v n false e h f = subst (λ x. list_any (bytes_eq x) seen ≡ false) h e

pub names_stand : (seen : List Bytes) (ts : List Tree) (ns : List Bytes) → AreNamed ts ns → names_faults seen ts ≡ [] → AreNew seen ns × IsDistinct bytes_eq ns
unfolding names_faults IsDistinct
names_stand seen [] [] z e = (tt, tt)
names_stand seen [] (n ∷ ns) z e = absurd z
names_stand seen (t ∷ ts) [] z e = absurd z
names_stand seen (t ∷ ts) (n ∷ ns) z e = by (subst (λ found. (again_faults seen found ++ names_faults (with_name seen found) ts) ≡ []) z.0.1 e) (names_stand (seen ++ z.0.0.text ∷ []) ts ns z.1)
  where
    by : (again_faults seen (Some z.0.0) ++ names_faults (seen ++ z.0.0.text ∷ []) ts) ≡ [] → (names_faults (seen ++ z.0.0.text ∷ []) ts ≡ [] → AreNew (seen ++ z.0.0.text ∷ []) ns × IsDistinct bytes_eq ns)
        → AreNew seen (n ∷ ns) × (AllByRecursion (λ y. bytes_eq n y ≡ false) ns × IsDistinct bytes_eq ns)
    by e later =
        let parts : (again_faults seen (Some z.0.0) ≡ []) × (names_faults (seen ++ z.0.0.text ∷ []) ts ≡ []) = both_empty (again_faults seen (Some z.0.0)) (names_faults (seen ++ z.0.0.text ∷ []) ts) e in
        let rest : AreNew (seen ++ z.0.0.text ∷ []) ns × IsDistinct bytes_eq ns = later parts.1 in
        let split : AreNew seen ns × AllByRecursion (λ y. bytes_eq z.0.0.text y ≡ false) ns = new_both z.0.0.text seen ns rest.0 in
        ((again_stands seen z.0.0 n (list_any (bytes_eq z.0.0.text) seen) refl z.0.2 parts.0, split.0), (subst (λ x. AllByRecursion (λ y. bytes_eq x y ≡ false) ns) z.0.2 split.1, rest.1))

pub names_clean : (seen : List Bytes) (ts : List Tree) (ns : List Bytes) → AreNamed ts ns → AreNew seen ns → IsDistinct bytes_eq ns → names_faults seen ts ≡ []
unfolding names_faults IsDistinct
names_clean seen [] [] z a d = refl
names_clean seen [] (n ∷ ns) z a d = absurd z
names_clean seen (t ∷ ts) [] z a d = absurd z
names_clean seen (t ∷ ts) (n ∷ ns) z a d =
    subst (λ found. (again_faults seen found ++ names_faults (with_name seen found) ts) ≡ []) (sym z.0.1)
    (empty_both (again_faults seen (Some z.0.0)) (names_faults (seen ++ z.0.0.text ∷ []) ts) (subst (λ b. cond b (fault DoubleGroup z.0.0.span ∷ []) [] ≡ []) (sym (subst (λ x. list_any (bytes_eq x) seen ≡ false) (sym z.0.2) a.0)) refl)
    (names_clean (seen ++ z.0.0.text ∷ []) ts ns z.1 (both_new z.0.0.text seen ns a.1 (subst (λ x. AllByRecursion (λ y. bytes_eq x y ≡ false) ns) (sym z.0.2) d.0)) d.1))

-- no name is among none
pub new_of_none : (ns : List Bytes) → AreNew [] ns
new_of_none [] = tt
new_of_none (n ∷ ns) = (refl, new_of_none ns)

module _ (time : Decides is_time IsTime) (limit : Decides is_limit IsLimit) where
  -- ---- the rules of a group

  rule_tree_stands : (number : ℕ) (t : Tree) → rule_tree_faults t ≡ [] → IsRuleTree number t (rule_source number (entries_of t))
  rule_tree_stands number (leaf v) e = absurd (cc)
  rule_tree_stands number (sequence items s) e = absurd (cc)
  rule_tree_stands number (mapping es s) e = rule_stands time s (pairs es) number e

  rule_tree_clean : (number : ℕ) (t : Tree) (r : Source) → IsRuleTree number t r → (rule_tree_faults t ≡ []) × (r ≡ rule_source number (entries_of t))
  rule_tree_clean number (leaf v) r i = absurd i
  rule_tree_clean number (sequence items s) r i = absurd i
  rule_tree_clean number (mapping es s) r i = rule_clean time s (pairs es) number r i

  rule_list_stands : (number : ℕ) (ts : List Tree) → flat_map rule_tree_faults ts ≡ [] → AllZip (IsRuleTree number) ts (map (λ r. rule_source number (entries_of r)) ts)
  rule_list_stands number [] e = tt
  rule_list_stands number (t ∷ ts) e =
      let parts : (rule_tree_faults t ≡ []) × (flat_map rule_tree_faults ts ≡ []) = both_empty (rule_tree_faults t) (flat_map rule_tree_faults ts) e in
      (rule_tree_stands number t parts.0, rule_list_stands number ts parts.1)

  rule_list_clean : (number : ℕ) (ts : List Tree) (rs : List Source) → AllZip (IsRuleTree number) ts rs → (flat_map rule_tree_faults ts ≡ []) × (rs ≡ map (λ r. rule_source number (entries_of r)) ts)
  rule_list_clean number [] [] z = (refl, refl)
  rule_list_clean number [] (r ∷ rs) z = absurd z
  rule_list_clean number (t ∷ ts) [] z = absurd z
  rule_list_clean number (t ∷ ts) (r ∷ rs) z =
      let first : (rule_tree_faults t ≡ []) × (r ≡ rule_source number (entries_of t)) = rule_tree_clean number t r z.0 in
      let later : (flat_map rule_tree_faults ts ≡ []) × (rs ≡ map (λ r. rule_source number (entries_of r)) ts) = rule_list_clean number ts rs z.1 in
      (empty_both (rule_tree_faults t) (flat_map rule_tree_faults ts) first.0 later.0, rw (first.1, later.1) refl)

  rules_stand : (number : ℕ) (g : Option Tree) → rules_faults g ≡ [] → AreRules number g (map (λ r. rule_source number (entries_of r)) (items_of g))
  rules_stand number None e = refl
  rules_stand number (Some (leaf v)) e = absurd (cc)
  rules_stand number (Some (sequence items s)) e = rule_list_stands number (trees items) e
  rules_stand number (Some (mapping es s)) e = absurd (cc)

  rules_clean : (number : ℕ) (g : Option Tree) (rs : List Source) → AreRules number g rs → (rules_faults g ≡ []) × (rs ≡ map (λ r. rule_source number (entries_of r)) (items_of g))
  rules_clean number None rs a = (refl, a)
  rules_clean number (Some (leaf v)) rs a = absurd a
  rules_clean number (Some (sequence items s)) rs a = rule_list_clean number (trees items) rs a
  rules_clean number (Some (mapping es s)) rs a = absurd a

  -- ---- groups

  name_is : (es : List Pairing) (v : Value) → given (codes "name") es ≡ Some (leaf v) → scalar_of (given (codes "name") es) ≡ Some v
  name_is es v g = ap scalar_of g

  group_stands : (number : ℕ) (s : Span) (es : List Pairing) → group_faults s es ≡ [] → IsGroup number es (text_of (given (codes "name") es)).text (map (λ r. rule_source number (entries_of r)) (items_of (given (codes "rules") es)))
  group_stands number s es h =
      let part : (p : List Fault) → Contains (group_parts s es) p → p ≡ [] = λ p c. part_is_empty (group_parts s es) p h c in
      record {
        keys = keys_stand group_keys es (part (flat_map (unknown_faults group_keys) es) (0, omega arith, refl));
        named = (text_of (given (codes "name") es), scalar_stands (given (codes "name") es) (part (scalar_faults (given (codes "name") es)) (2, omega arith, refl)) (not_missing s es (codes "name") (given_entry (codes "name") es) refl (part (missing_faults s (given_entry (codes "name") es)) (1, omega arith, refl))), refl);
        interval = text_stands is_time IsTime BadDuration (given (codes "interval") es) time (part (text_faults is_time BadDuration (given (codes "interval") es)) (3, omega arith, refl));
        offset = text_stands is_time IsTime BadDuration (given (codes "query_offset") es) time (part (text_faults is_time BadDuration (given (codes "query_offset") es)) (5, omega arith, refl));
        limit = text_stands is_limit IsLimit BadLimit (given (codes "limit") es) limit (part (text_faults is_limit BadLimit (given (codes "limit") es)) (4, omega arith, refl));
        rules = rules_stand number (given (codes "rules") es) (part (rules_faults (given (codes "rules") es)) (6, omega arith, refl));
      }

  group_clean : (number : ℕ) (s : Span) (es : List Pairing) (name : Bytes) (rs : List Source) → IsGroup number es name rs → (group_faults s es ≡ []) × (rs ≡ map (λ r. rule_source number (entries_of r)) (items_of (given (codes "rules") es)))
  group_clean number s es name rs i =
      let there : (e : Pairing) × (given_entry (codes "name") es ≡ Some e) = leaf_there time (codes "name") es i.named.0 i.named.1 in
      let rules : (rules_faults (given (codes "rules") es) ≡ []) × (rs ≡ map (λ r. rule_source number (entries_of r)) (items_of (given (codes "rules") es))) = rules_clean number (given (codes "rules") es) rs i.rules in (
        parts_are_empty (group_parts s es) ((
          keys_clean group_keys es i.keys,
          (
            subst (λ x. missing_faults s x ≡ []) (sym there.1) refl,
            (
              scalar_clean (given (codes "name") es) i.named.0 i.named.1,
              (
                text_clean is_time IsTime BadDuration (given (codes "interval") es) time i.interval,
                (
                  text_clean is_limit IsLimit BadLimit (given (codes "limit") es) limit i.limit,
                  (text_clean is_time IsTime BadDuration (given (codes "query_offset") es) time i.offset, (rules.0, tt)),
                ),
              ),
            ),
          ),
        )),
        rules.1,
      )

  -- a group's tree, with its name
  abbrev GroupStands : ℕ → Tree → Type 0
  GroupStands number t = (v : Value) × (name_of t ≡ Some v) × IsGroupTree number t v.text (group_sources number t)

  group_tree_stands : (number : ℕ) (t : Tree) → group_tree_faults t ≡ [] → GroupStands number t
  group_tree_stands number (leaf v) e = absurd (cc)
  group_tree_stands number (sequence items s) e = absurd (cc)
  group_tree_stands number (mapping es s) e =
      let stands : IsGroup number (pairs es) (text_of (given (codes "name") (pairs es))).text (map (λ r. rule_source number (entries_of r)) (items_of (given (codes "rules") (pairs es)))) = group_stands number s (pairs es) e in
      (stands.named.0, name_is (pairs es) stands.named.0 stands.named.1, subst (λ n. IsGroup number (pairs es) n (group_sources number (mapping es s))) (sym stands.named.2) stands)

  group_tree_clean : (number : ℕ) (t : Tree) (name : Bytes) (rs : List Source) → IsGroupTree number t name rs → (group_tree_faults t ≡ []) × (rs ≡ group_sources number t) × ((v : Value) × (name_of t ≡ Some v) × (v.text ≡ name))
  group_tree_clean number (leaf v) name rs i = absurd i
  group_tree_clean number (sequence items s) name rs i = absurd i
  group_tree_clean number (mapping es s) name rs i =
      let c : (group_faults s (pairs es) ≡ []) × (rs ≡ group_sources number (mapping es s)) = group_clean number s (pairs es) name rs i in
      (c.0, c.1, (i.named.0, name_is (pairs es) i.named.0 i.named.1, i.named.2))

  groups_stand : (number : ℕ) (ts : List Tree) → flat_map group_tree_faults ts ≡ [] → (ns : List Bytes) × AreNamed ts ns × AreGroups number ts ns (groups_sources number ts)
  unfolding groups_sources
  groups_stand number [] e = ([], tt, (refl, refl))
  groups_stand number (t ∷ ts) e =
      let parts : (group_tree_faults t ≡ []) × (flat_map group_tree_faults ts ≡ []) = both_empty (group_tree_faults t) (flat_map group_tree_faults ts) e in
      let first : GroupStands number t = group_tree_stands number t parts.0 in
      let later : (ns : List Bytes) × AreNamed ts ns × AreGroups (suc number) ts ns (groups_sources (suc number) ts) = groups_stand (suc number) ts parts.1 in
      (first.0.text ∷ later.0, ((first.0, first.1, refl), later.1), (first.0.text, later.0, group_sources number t, groups_sources (suc number) ts, refl, refl, first.2, later.2))

  groups_clean : (number : ℕ) (ts : List Tree) (ns : List Bytes) (rs : List Source) → AreGroups number ts ns rs → (flat_map group_tree_faults ts ≡ []) × (rs ≡ groups_sources number ts) × AreNamed ts ns
  unfolding groups_sources
  groups_clean number [] ns rs a = (refl, a.1, subst (AreNamed []) (sym a.0) tt)
  groups_clean number (t ∷ ts) ns rs a =
      let first : (group_tree_faults t ≡ []) × (a.2 ≡ group_sources number t) × ((v : Value) × (name_of t ≡ Some v) × (v.text ≡ a.0)) = group_tree_clean number t a.0 a.2 a.6 in
      let later : (flat_map group_tree_faults ts ≡ []) × (a.3 ≡ groups_sources (suc number) ts) × AreNamed ts a.1 = groups_clean (suc number) ts a.1 a.3 a.7 in
      (empty_both (group_tree_faults t) (flat_map group_tree_faults ts) first.0 later.0, a.5 ∙ by a.2 (group_sources number t) a.3 (groups_sources (suc number) ts) first.1 later.1, subst (AreNamed (t ∷ ts)) (sym a.4) (first.2, later.2))
    where
      by : (p q u v : List Source) → p ≡ q → u ≡ v → (p ++ u) ≡ (q ++ v)
      by p q u v h i = rw (h, i) refl

  -- ---- a file

  file_groups_stand : (g : Option Tree) → groups_faults g ≡ [] → AreFileGroups g (groups_sources 0 (items_of g))
  unfolding groups_sources
  file_groups_stand None e = refl
  file_groups_stand (Some (leaf v)) e = absurd (cc)
  file_groups_stand (Some (mapping es s)) e = absurd (cc)
  file_groups_stand (Some (sequence items s)) e =
      let parts : (flat_map group_tree_faults (trees items) ≡ []) × (names_faults [] (trees items) ≡ []) = both_empty (flat_map group_tree_faults (trees items)) (names_faults [] (trees items)) e in
      let stand : (ns : List Bytes) × AreNamed (trees items) ns × AreGroups 0 (trees items) ns (groups_sources 0 (trees items)) = groups_stand 0 (trees items) parts.0 in
      (stand.0, stand.2, (names_stand [] (trees items) stand.0 stand.1 parts.1).1)

  file_groups_clean : (g : Option Tree) (rs : List Source) → AreFileGroups g rs → (groups_faults g ≡ []) × (rs ≡ groups_sources 0 (items_of g))
  unfolding groups_sources
  file_groups_clean None rs a = (refl, a)
  file_groups_clean (Some (leaf v)) rs a = absurd a
  file_groups_clean (Some (mapping es s)) rs a = absurd a
  file_groups_clean (Some (sequence items s)) rs a =
      let clean : (flat_map group_tree_faults (trees items) ≡ []) × (rs ≡ groups_sources 0 (trees items)) × AreNamed (trees items) a.0 = groups_clean 0 (trees items) a.0 rs a.1 in
      (empty_both (flat_map group_tree_faults (trees items)) (names_faults [] (trees items)) clean.0 (names_clean [] (trees items) a.0 clean.2 (new_of_none a.0) a.2), clean.1)

  -- without a fault a tree says the rules that the reading gives
  pub file_stands : (t : Tree) → faults t ≡ [] → IsRules t (sources t)
  unfolding groups_sources entry_at
  file_stands (leaf v) e = (by (bytes_eq v.text []) refl e, refl)
    where
      by : (b : Bool) → bytes_eq v.text [] ≡ b → cond b [] (fault WrongKind v.span ∷ []) ≡ [] → v.text ≡ []
      by true h f = true_same v.text [] h
      by false h f = absurd (cc)
  file_stands (sequence items s) e = absurd (cc)
  file_stands (mapping es s) e =
      let part : (p : List Fault) → Contains (file_parts s (pairs es)) p → p ≡ []
      = λ p c. part_is_empty (file_parts s (pairs es)) p e c in (
        keys_stand file_keys (pairs es) (part (flat_map (unknown_faults file_keys) (pairs es)) (0, omega arith, refl)),
        there (entry_at (codes "groups") (pairs es)) (part (missing_faults s (entry_at (codes "groups") (pairs es))) (1, omega arith, refl)),
        file_groups_stand (given (codes "groups") (pairs es)) (part (groups_faults (given (codes "groups") (pairs es))) (2, omega arith, refl)),
      )
    where
      there : (found : Option Pairing) → missing_faults s found ≡ [] → found ≢ None
      there None h n = absurd (cc (h))
      there (Some x) h n = absurd (cc (n))

  -- and a tree that says rules has no fault, and says these
  pub file_clean : (t : Tree) (rs : List Source) → IsRules t rs → (faults t ≡ []) × (rs ≡ sources t)
  unfolding groups_sources entry_at
  file_clean (leaf v) rs i = (rw (same_true v.text [] i.0) refl, i.1)
  file_clean (sequence items s) rs i = absurd i
  file_clean (mapping es s) rs i =
      let groups : (groups_faults (given (codes "groups") (pairs es)) ≡ []) × (rs ≡ groups_sources 0 (items_of (given (codes "groups") (pairs es)))) = file_groups_clean (given (codes "groups") (pairs es)) rs i.2 in (
        parts_are_empty (file_parts s (pairs es))
            (keys_clean file_keys (pairs es) i.0, (there (entry_at (codes "groups") (pairs es)) i.1, (groups.0, tt))),
        groups.1,
      )
    where
      there : (found : Option Pairing) → found ≢ None → missing_faults s found ≡ []
      there None n = absurd (n refl)
      there (Some x) n = refl
