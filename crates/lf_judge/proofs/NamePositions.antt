-- The positions of the names of rules in their files, and the places that findings tell by them.
use Rattle.std.proofs.Common.{◌≡◌, ℕ, ◌+◌, ◌<◌, List, [], ◌∷◌, ◌++◌, length, take, get_or, Some, codes, sym, ap, subst, ◌∙◌}
use Rattle.std.specs.Prelude.{slice_get}
use Rattle.std.specs.Fmt.{decimal}
use Rattle.std.specs.Option.{option_map_or}
use Rattle.std.proofs.lemmas.List.{map_more}
use Rattle.std.proofs.lemmas.Slice.Zip.{AllZip-long}
use Rattle.std.proofs.lemmas.Option.{same_Some}
use Rattle.lf_base.specs.Places.{line_at}
use Rattle.lf_ast.specs.Rules.{RuleTree, rule_tree, rule_trees}
use Rattle.lf_ast.specs.declared.rule.Rule.{Rule}
use Rattle.lf_checks.specs.Files.{File, place_in}
use Rattle.lf_checks.specs.views.Shown.{name_place, place_of}
use Rattle.lf_report.specs.declared.line_index.Position.{Position}
use Rattle.lf_report.specs.views.LineIndex.{IsPositionOf}
use Rattle.lf_laws.proofs.Slices.{zip_push}
use Rattle.lf_report.proofs.Zips.{zip_at}
use Rattle.lf_judge.specs.views.NamePositions.{AreNamePositions, IsNamePosition}

module _ (files : List File) where
  -- one more rule
  pub positions_more : (rules : List Rule) (k : ℕ) (r : Rule) (positions new : List Position) (at : Position) → k < length rules → r ≡ get_or rules k r → AreNamePositions files (rule_trees (take k rules)) positions
      → IsNamePosition files (rule_tree r) at → new ≡ positions ++ at ∷ [] → AreNamePositions files (rule_trees (take (k + 1) rules)) new
  positions_more rules k r positions new at inside is before here pushed =
      let trees : rule_trees (take k rules) ++ rule_tree r ∷ [] ≡ rule_trees (take (k + 1) rules) =
      ap (λ (x : Rule). rule_trees (take k rules) ++ rule_tree x ∷ []) is ∙ sym (map_more rule_tree rules k r inside) in
      let P : List RuleTree → Type 0 = λ rs. AreNamePositions files rs new in
      let Q : List Position → Type 0 = λ l. AreNamePositions files (rule_trees (take k rules) ++ rule_tree r ∷ []) l in
      subst P trees (subst Q (sym pushed) (zip_push (IsNamePosition files) (rule_trees (take k rules)) positions (rule_tree r) at before here))

  module _ (rules : List RuleTree) (names : List Position) (are : AreNamePositions files rules names) where
    -- a rule that is there
    pub place_found : (k : ℕ) (r : RuleTree) (file : File) (position : Position) → slice_get rules k ≡ Some r → slice_get files r.file ≡ Some file → k < length names → position ≡ get_or names k position
        → file.name ++ codes ":" ++ decimal position.line ++ codes ":" ++ decimal position.column ≡ place_of files rules (Some k)
    place_found k r file position at stands inside is =
        let found = zip_at (IsNamePosition files) rules names k position are inside in
        let same : found.0 ≡ r = same_Some found.0 r (sym found.1 ∙ at) in
        let those : IsNamePosition files r (get_or names k position) = subst (λ (x : RuleTree). IsNamePosition files x (get_or names k position)) same found.2 in
        let here : IsPositionOf file.bytes r.name_span.start position = subst (λ (s : Position). IsPositionOf file.bytes r.name_span.start s) (sym is) (those file stands) in
        ap (λ n. file.name ++ codes ":" ++ decimal n ++ codes ":" ++ decimal position.column) here.line_is
        ∙ ap (λ n. file.name ++ codes ":" ++ decimal (line_at file.bytes r.name_span.start) ++ codes ":" ++ decimal n) here.column_is
        ∙ sym (ap (λ o. option_map_or (λ f. place_in f r.name_span.start) o []) stands)
        ∙ sym (ap (λ o. option_map_or (name_place files rules) o []) at)

    -- as many as there are rules
    pub position_count : length rules ≡ length names
    position_count = sym (AllZip-long (IsNamePosition files) rules names are)
