-- The first fault of lists put together.
use Rattle.std.proofs.Common.{◌≡◌, List, [], ◌∷◌, ◌++◌, Option, refl, sym, ◌∙◌, ap}
use Rattle.std.specs.List.{flat_map}
use Rattle.lf_base.specs.declared.fault.Fault.{Fault}
use Rattle.lf_base.specs.declared.place.Span.{Span}
use Rattle.lf_rules.specs.reading.Files.{lesser, least_from, least_each, joined, rule_parts, rule_faults, group_parts, group_faults, file_parts, file_faults}
use Rattle.lf_rules.specs.Mappings.{Pairing, pairs, trees}
use Rattle.lf_yaml.specs.Tree.{Tree, entries_of, items_of}

pub least_both : (first : Option Fault) (fs gs : List Fault) → least_from first (fs ++ gs) ≡ least_from (least_from first fs) gs
unfolding least_from
least_both first [] gs = refl
least_both first (f ∷ fs) gs = least_both (lesser first f) fs gs

pub least_flat : {X : Type 0} (F : X → List Fault) (first : Option Fault) (x : X) (xs : List X) → least_from first (flat_map F (x ∷ xs)) ≡ least_from (least_from first (F x)) (flat_map F xs)
least_flat F first x xs = least_both first (F x) (flat_map F xs)

-- the entries and items of a node as lists
pub pairs_back : (ps : List Pairing) → pairs (entries_of ps) ≡ ps
pairs_back [] = refl
pairs_back (p ∷ ps) = ap (λ l. p ∷ l) (pairs_back ps)

pub trees_back : (ts : List Tree) → trees (items_of ts) ≡ ts
trees_back [] = refl
trees_back (t ∷ ts) = ap (λ l. t ∷ l) (trees_back ts)

-- ---- parts one after another

pub least_parts : (first : Option Fault) (parts : List (List Fault)) → least_from first (joined parts) ≡ least_each first parts
unfolding least_from
least_parts first [] = refl
least_parts first (part ∷ parts) = least_both first part (joined parts) ∙ least_parts (least_from first part) parts

pub least_rule : (first : Option Fault) (s : Span) (es : List Pairing) → least_from first (rule_faults s es) ≡ least_each first (rule_parts s es)
least_rule first s es = least_parts first (rule_parts s es)

pub least_group : (first : Option Fault) (s : Span) (es : List Pairing) → least_from first (group_faults s es) ≡ least_each first (group_parts s es)
least_group first s es = least_parts first (group_parts s es)

pub least_file : (first : Option Fault) (s : Span) (es : List Pairing) → least_from first (file_faults s es) ≡ least_each first (file_parts s es)
least_file first s es = least_parts first (file_parts s es)

-- the three keys of alerts
pub least_three : (first : Option Fault) (a b c : List Fault) → least_from first (a ++ (b ++ c)) ≡ least_from (least_from (least_from first a) b) c
least_three first a b c = least_both first a (b ++ c) ∙ least_both (least_from first a) b c

-- ---- one call after another

-- the same of what the argument of a call is
pub told : {X : Type 0} (F : X → List Fault) (first next : Option Fault) (found wanted : X) → next ≡ least_from first (F found) → found ≡ wanted → next ≡ least_from first (F wanted)
told F first next found wanted e h = e ∙ ap (λ x. least_from first (F x)) h

-- one part more
pub one_more : (first next last : Option Fault) (part : List Fault) (parts : List (List Fault)) → next ≡ least_from first part → last ≡ least_each next parts → last ≡ least_each first (part ∷ parts)
one_more first next last part parts e h = h ∙ ap (λ w. least_each w parts) e

pub three_parts : (first one two last : Option Fault) (a b c : List Fault) → one ≡ least_from first a → two ≡ least_from one b → last ≡ least_from two c → last ≡ least_each first (a ∷ b ∷ c ∷ [])
three_parts first one two last a b c e f g = one_more first one last a (b ∷ c ∷ []) e (one_more one two last b (c ∷ []) f g)

pub four_parts : (first one two three last : Option Fault) (a b c d : List Fault) → one ≡ least_from first a → two ≡ least_from one b → three ≡ least_from two c → last ≡ least_from three d → last ≡ least_each first (a ∷ b ∷ c ∷ d ∷ [])
four_parts first one two three last a b c d e f g h = one_more first one last a (b ∷ c ∷ d ∷ []) e (three_parts one two three last b c d f g h)

pub three : (first one two last : Option Fault) (a b c : List Fault) → one ≡ least_from first a → two ≡ least_from one b → last ≡ least_from two c → last ≡ least_from first (a ++ (b ++ c))
three first one two last a b c e f g = three_parts first one two last a b c e f g ∙ sym (least_three first a b c)

pub least_each_both : (first : Option Fault) (ps qs : List (List Fault)) → least_each first (ps ++ qs) ≡ least_each (least_each first ps) qs
least_each_both first [] qs = refl
least_each_both first (p ∷ ps) qs = least_each_both (least_from first p) ps qs

pub told_of_two : {X Y : Type 0} (F : X → Y → List Fault) (first next : Option Fault) (a wanted : X) (b other : Y) → next ≡ least_from first (F a b) → a ≡ wanted → b ≡ other → next ≡ least_from first (F wanted other)
told_of_two F first next a wanted b other e h i = e ∙ ap (λ x. least_from first (F x b)) h ∙ ap (λ y. least_from first (F wanted y)) i

pub told_of_three : {X Y Z : Type 0} (F : X → Y → Z → List Fault) (first next : Option Fault) (a wanted : X) (b other : Y) (c third : Z) → next ≡ least_from first (F a b c) → a ≡ wanted → b ≡ other → c ≡ third → next ≡ least_from first (F wanted other third)
told_of_three F first next a wanted b other c third e h i k = told_of_two (F wanted) first next b other c third (e ∙ ap (λ x. least_from first (F x b c)) h) i k

-- groups of parts, one after another
pub two_groups : (first one last : Option Fault) (ps qs : List (List Fault)) → one ≡ least_each first ps → last ≡ least_each one qs → last ≡ least_each first (ps ++ qs)
two_groups first one last ps qs e f = f ∙ ap (λ w. least_each w qs) e ∙ sym (least_each_both first ps qs)

pub three_groups : (first one two last : Option Fault) (ps qs rs : List (List Fault)) → one ≡ least_each first ps → two ≡ least_each one qs → last ≡ least_each two rs → last ≡ least_each first (ps ++ (qs ++ rs))
three_groups first one two last ps qs rs e f g = two_groups first one last ps (qs ++ rs) e (two_groups one two last qs rs f g)
