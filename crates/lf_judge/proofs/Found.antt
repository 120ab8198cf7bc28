-- What was found in each of the files is what stands in them, and it is put together in their order.
use Rattle.std.proofs.Common.{◌≡◌, ◌≤◌, ◌<◌, ◌+◌, ℕ, List, [], ◌∷◌, ◌++◌, length, map, take, get_or, arith, Option, Some, reverse, sym, ap, subst, ◌∙◌}
use Rattle.std.specs.List.{flat_map, sum_by}
use Rattle.std.specs.Prelude.{slice_get}
use Rattle.std.proofs.lemmas.List.{append-nil, append_assoc, length-map, reverse-append, reverse-reverse}
use Rattle.std.proofs.lemmas.List.Folds.{flat_map-map}
use Rattle.std.proofs.lemmas.List.Sums.{sum-map, sum_by_more, sum_by-take-le}
use Rattle.lf_laws.proofs.Slices.{of_map_at}
use Rattle.lf_accept.specs.Taken.{FileTakes}
use Rattle.lf_checks.specs.Files.{File}
use Rattle.lf_ast.specs.Rules.{RuleTree}
use Rattle.lf_report.specs.declared.report.Refused.{Refused as Refusal}
use Rattle.lf_judge.specs.Allowance.{AreAllowed, AreTaken, most_in_all}
use Rattle.lf_judge.specs.Founds.{AreContents, HasContent, accepted, rules_in}
use Rattle.lf_judge.specs.declared.accepting.Counted.{Counted}
use Rattle.lf_judge.specs.views.Accepting.{IsFoundIn, content_in, refusal_in, taken_in}
use Rattle.lf_judge.proofs.Pieces.{side_by_side}
use Rattle.lf_judge.proofs.Places.{map_twice, moved_all}

pub all_found : (files : List File) (found : List Counted) → length found ≡ length files → ((i : ℕ) (x : Counted) → slice_get found i ≡ Some x → IsFoundIn files i x) → AreContents files (map content_in found)
all_found files found n each = record {
  count = length-map found content_in ∙ n;
  each = λ k file content there at. (let x = of_map_at content_in found k content at in subst (HasContent k file) x.2 (each k x.0 x.1 file there).0);
}

pub all_taken : (files : List File) (found : List Counted) → length found ≡ length files → ((i : ℕ) (x : Counted) → slice_get found i ≡ Some x → IsFoundIn files i x) → AreTaken files (map taken_in found)
all_taken files found n each =
    side_by_side (λ file n. FileTakes file.bytes n) files (map taken_in found) (length-map found taken_in ∙ n)
    (λ k file taken there at. (let x = of_map_at taken_in found k taken at in subst (FileTakes file.bytes) x.2 (each k x.0 x.1 file there).1))

-- what was taken for one more file, and what is left then
module _ (found : List Counted) (i : ℕ) (x : Counted) (left : ℕ) where
  pub taken_more : (less : ℕ) → i < length found → x ≡ get_or found i x → most_in_all ≡ sum_by taken_in (take i found) + left → left ≡ less + x.taken → most_in_all ≡ sum_by taken_in (take (i + 1) found) + less
  taken_more less inside is before e =
      let more = sum_by_more taken_in found i x inside in
      let one : x.taken ≡ taken_in (get_or found i x) = ap taken_in is in
      omega (arith, more, one, before, e)

  -- more than is left
  pub over_so : i < length found → x ≡ get_or found i x → most_in_all ≡ sum_by taken_in (take i found) + left → left < x.taken → most_in_all < sum_by taken_in found
  over_so inside is before e =
      let more = sum_by_more taken_in found i x inside in
      let all = sum_by-take-le taken_in found (i + 1) in
      let one : x.taken ≡ taken_in (get_or found i x) = ap taken_in is in
      omega (arith, more, all, one, before, e)

-- what was taken for all files is no more than may be
pub all_allowed : (files : List File) (found : List Counted) → AreTaken files (map taken_in found) → sum_by taken_in found ≤ most_in_all → AreAllowed files
all_allowed files found taken most = (map taken_in found, taken, subst (λ n. n ≤ most_in_all) (sym (sum-map taken_in found)) most)

abbrev pub refusal_of : Counted → Option Refusal
refusal_of x = refusal_in (content_in x)

abbrev pub rules_of : Counted → List RuleTree
rules_of x = rules_in (content_in x)

-- the rules of one more file
pub moved_rules : (told pushed whole : List RuleTree) (old new : List Counted) (x : Counted) → old ≡ new ++ x ∷ [] → pushed ≡ told ++ rules_of x → told ++ flat_map rules_of (reverse old) ≡ whole
    → pushed ++ flat_map rules_of (reverse new) ≡ whole
moved_rules told pushed whole old new x e pushes before =
    ap (λ (l : List RuleTree). l ++ flat_map rules_of (reverse new)) pushes ∙ append_assoc told (rules_of x) (flat_map rules_of (reverse new))
    ∙ ap (λ l. told ++ flat_map rules_of l) (sym (reverse-append new (x ∷ []))) ∙ ap (λ l. told ++ flat_map rules_of (reverse l)) (sym e) ∙ before

module _ (left taken whole : List Counted) (none : left ≡ []) (is : taken ≡ reverse whole) where
  -- why each file is refused
  pub all_refusals : (refusals : List (Option Refusal)) → refusals ++ map refusal_of (reverse left) ≡ map refusal_of (reverse taken) → refusals ≡ map refusal_in (map content_in whole)
  all_refusals refusals e = moved_all refusal_of refusals left taken whole none is e ∙ sym (map_twice refusal_in content_in whole)

  -- the rules of all files
  pub all_rules : (rules : List RuleTree) → rules ++ flat_map rules_of (reverse left) ≡ flat_map rules_of (reverse taken) → rules ≡ accepted (map content_in whole)
  all_rules rules e =
      sym (append-nil rules) ∙ ap (λ l. rules ++ flat_map rules_of (reverse l)) (sym none) ∙ e ∙ ap (λ l. flat_map rules_of (reverse l)) is
      ∙ ap (flat_map rules_of) (reverse-reverse whole) ∙ sym (flat_map-map rules_in content_in whole)
