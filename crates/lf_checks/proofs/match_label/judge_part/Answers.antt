use Rattle.std.proofs.Common.{◌≡◌, ◌∙◌, List, [], None, get_or, map, sym, ap, subst}
use Rattle.std.specs.Prelude.{slice_get}
use Rattle.lf_laws.proofs.Slices.{of_map_at}
use Rattle.lf_ast.specs.Tree.{parts_of, tree}
use Rattle.lf_ast.specs.declared.expr.Expr.{Expr}
use Rattle.lf_semantics.specs.ClassRows.{HasShape, Sets}
use Rattle.lf_semantics.specs.RowTable.{row_of}
use Rattle.lf_semantics.proofs.NormalizedRows.{row_is}
use Rattle.lf_checks.specs.views.Adding.{Adds}
use Rattle.lf_checks.specs.views.Conditions.{condition_of}
use Rattle.lf_checks.specs.views.Sought.{IsOfMatch, IsOfPart, IsOfRow, labels_by}
use Rattle.std.proofs.lemmas.Result.{on_ok_weaker}
use Rattle.lf_checks.proofs.SoughtLaws.{none_of_map, of_grouping, of_match, of_no_operand}
use Rattle.lf_checks.proofs.match_label.judge_part.Goals as goal

pub judge_operand-requires : goal.judge_operand-requires
judge_operand-requires c =
    let u = c.args.universe.now in
    let (env, ok, are) = c.requires.rows in
    let place = c.operand_place.result in
    let row = c.in-Some.row.now in
    let x = of_map_at (row_of u env) (parts_of (tree c.args.part.now)) place row (ap (λ (l : List Sets). slice_get l place) (sym are) ∙ c.in-Some.ensures.some) in
    subst (HasShape u) x.2 (row_is u c.requires.listing env ok x.0).0

pub returns-in-Some : goal.returns-in-Some
returns-in-Some c = λ env are.
    let u = c.args.universe.now in
    let old = c.args.found.now.items in
    let new = c.judge_operand.new.found.items in
    let grouping = c.in-Aggregate.grouping in
    let place = c.operand_place.result in
    let row = c.in-Some.row.now in
    let x = of_map_at (row_of u env) (parts_of (tree c.args.part.now)) place row (ap (λ (l : List Sets). slice_get l place) (sym are) ∙ c.in-Some.ensures.some) in
    on_ok_weaker c.judge_operand.result
    (λ a. of_grouping u env (tree c.args.part.now) c.in-Aggregate.op grouping _ c.in-Aggregate.span x.0 place old new (ap tree c.in-Aggregate.is) c.operand_place.ensures x.1
    (subst (λ (r : Sets). Adds (IsOfRow u r (labels_by grouping) []) old new) (sym x.2) (subst (λ names. Adds (IsOfRow u row names []) old new) c.labels_by.ensures a)))
    c.judge_operand.ensures

pub returns-in-None : goal.returns-in-None
returns-in-None c = λ env are.
    let u = c.args.universe.now in
    let t = tree c.args.part.now in
    let place = c.operand_place.result in
    let none = none_of_map (row_of u env) (parts_of t) place (ap (λ (l : List Sets). slice_get l place) (sym are) ∙ c.in-None.ensures.none) in
    of_no_operand u env t c.in-Aggregate.op c.in-Aggregate.grouping _ c.in-Aggregate.span c.args.found.now.items (ap tree c.in-Aggregate.is)
    (subst (λ k. slice_get (parts_of t) k ≡ None) c.operand_place.ensures none)

pub judge_match-requires-clause-left : goal.judge_match-requires-clause-left
judge_match-requires-clause-left c =
    let u = c.args.universe.now in
    let (env, ok, are) = c.requires.rows in
    let row = c.index-rows-0.result in
    let sides = are ∙ ap (λ (e : Expr). map (row_of u env) (parts_of (tree e))) c.in-Binary.is in
    subst (HasShape u) (sym (c.index-rows-0.is ∙ ap (λ (l : List Sets). get_or l 0 row) sides)) (row_is u c.requires.listing env ok (tree c.in-Binary.left.value)).0

pub judge_match-requires-clause-right : goal.judge_match-requires-clause-right
judge_match-requires-clause-right c =
    let u = c.args.universe.now in
    let (env, ok, are) = c.requires.rows in
    let row = c.index-rows-1.result in
    let sides = are ∙ ap (λ (e : Expr). map (row_of u env) (parts_of (tree e))) c.in-Binary.is in
    subst (HasShape u) (sym (c.index-rows-1.is ∙ ap (λ (l : List Sets). get_or l 1 row) sides)) (row_is u c.requires.listing env ok (tree c.in-Binary.right.value)).0

pub returns-in-Binary : goal.returns-in-Binary
returns-in-Binary c = λ env are.
    let u = c.args.universe.now in
    let m = c.in-Binary.modifier in
    let left = tree c.in-Binary.left.value in
    let right = tree c.in-Binary.right.value in
    let old = c.args.found.now.items in
    let new = c.judge_match.new.found.items in
    let vectors = c.are_vectors-vectors.result in
    let one = c.index-rows-0.result in
    let other = c.index-rows-1.result in
    let sides = are ∙ ap (λ (e : Expr). map (row_of u env) (parts_of (tree e))) c.in-Binary.is in
    let forms = c.requires.conditions ∙ ap (λ (e : Expr). map condition_of (parts_of (tree e))) c.in-Binary.is in
    let one_is = c.index-rows-0.is ∙ ap (λ (l : List Sets). get_or l 0 one) sides in
    let other_is = c.index-rows-1.is ∙ ap (λ (l : List Sets). get_or l 1 other) sides in
    on_ok_weaker c.judge_match.result
    (λ a. subst (λ e. Adds (IsOfPart u env (tree e)) old new) (sym c.in-Binary.is)
    (of_match u env c.in-Binary.op m left right c.in-Binary.span vectors old new (c.are_vectors-vectors.ensures left right forms)
    (subst (λ (r : Sets). Adds (IsOfMatch u vectors m r (row_of u env right)) old new) one_is
    (subst (λ (r : Sets). Adds (IsOfMatch u vectors m one r) old new) other_is a))))
    c.judge_match.ensures
