-- Files and rules of the code at their places.
use Rattle.std.proofs.Common.{◌≡◌, ℕ, ◌<◌, List, ◌++◌, [], ◌∷◌, length, map, get_or, Option, Some, refl, sym, ap, ◌∙◌, append-nil, append_assoc, arith, reverse}
use Rattle.std.specs.Prelude.{slice_get}
use Rattle.std.specs.Option.{option_map}
use Rattle.std.proofs.lemmas.List.{length-map, reverse-append, reverse-reverse}
use Rattle.std.proofs.lemmas.Option.{get_or_from_slice_get, slice_get-get_or, slice_get-map, slice_get_within}
use Rattle.lf_deps.proofs.RuleTrees.{tree_at}
use Rattle.lf_ast.specs.Rules.{rule_tree, rule_trees}
use Rattle.lf_ast.specs.declared.rule.Rule.{Rule}
use Rattle.lf_checks.specs.Files.{StandIn}
use Rattle.lf_judge.specs.Judged.{file_of, files_of}
use Rattle.lf_judge.specs.declared.source.Source.{Source}

pub map_twice : {A B D : Type 0} (g : B → D) (f : A → B) (xs : List A) → map g (map f xs) ≡ map (λ x. g (f x)) xs
map_twice g f [] = refl
map_twice g f (x ∷ xs) = ap (λ l. g (f x) ∷ l) (map_twice g f xs)

-- a file at its place
pub file_at : (files : List Source) (k : ℕ) (s : Source) → slice_get files k ≡ Some s → slice_get (files_of files) k ≡ Some (file_of s)
file_at files k s e = slice_get-map file_of files k ∙ ap (λ (o : Option Source). option_map file_of o) e

-- what is read at a place
pub read_at : {X : Type 0} (xs : List X) (k : ℕ) (x : X) → k < length xs → x ≡ get_or xs k x → slice_get xs k ≡ Some x
read_at xs k x h e = slice_get-get_or xs k x h ∙ ap Some (sym e)

-- the file of a rule is there
pub stands_in : (files : List Source) (rules : List Rule) (k : ℕ) (r : Rule) → StandIn (files_of files) (rule_trees rules) → slice_get rules k ≡ Some r → r.file < length files
stands_in files rules k r stand at =
    let there = tree_at rules k r at in
    let file = stand (rule_tree r) (k, slice_get_within (rule_trees rules) k (rule_tree r) there, get_or_from_slice_get (rule_trees rules) k (rule_tree r) (rule_tree r) there) in
    omega (arith, slice_get_within (files_of files) r.file file.0 file.1, length-map files file_of)

-- ---- elements that are taken out from behind and put in their order

module _ {A B : Type 0} (f : A → B) where
  pub moved_more : (told pushed whole : List B) (old new : List A) (x : A) (one : B) → old ≡ new ++ x ∷ [] → one ≡ f x → pushed ≡ told ++ one ∷ [] → told ++ map f (reverse old) ≡ whole
      → pushed ++ map f (reverse new) ≡ whole
  moved_more told pushed whole old new x one e is pushes before =
      ap (λ (l : List B). l ++ map f (reverse new)) (pushes ∙ ap (λ y. told ++ y ∷ []) is) ∙ append_assoc told (f x ∷ []) (map f (reverse new))
      ∙ ap (λ l. told ++ map f l) (sym (reverse-append new (x ∷ []))) ∙ ap (λ l. told ++ map f (reverse l)) (sym e) ∙ before

  pub moved_all : (told : List B) (left taken whole : List A) → left ≡ [] → taken ≡ reverse whole → told ++ map f (reverse left) ≡ map f (reverse taken) → told ≡ map f whole
  moved_all told left taken whole none is e =
      sym (append-nil told) ∙ ap (λ l. told ++ map f (reverse l)) (sym none) ∙ e ∙ ap (λ l. map f (reverse l)) is ∙ ap (map f) (reverse-reverse whole)
