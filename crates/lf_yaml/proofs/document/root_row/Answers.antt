use Rattle.std.proofs.Common.{◌≡◌, ◌∷◌, ◌∙◌, [], List, sym, subst}
use Rattle.std.specs.Prelude.{MatchOption}
use Rattle.std.specs.Str.{IsCharBoundary}
use Rattle.std.proofs.lemmas.Str.{IsUtf8-had}
use Rattle.lf_yaml.specs.Rows.{ContentRow}
use Rattle.lf_yaml.specs.views.Shown.{shown}
use Rattle.lf_yaml.specs.views.Cursor.{rows_after}
use Rattle.lf_yaml.proofs.Edges.{mark-start, behind-opening, no-opening, no-rows}
use Rattle.lf_yaml.proofs.document.root_row.Goals as goal

pub first_row-requires : goal.first_row-requires
first_row-requires c = record { start = subst (IsCharBoundary c.args.source.bytes.now) (sym c.mark_length.ensures) (mark-start c.args.source.bytes.now (IsUtf8-had c.args.source.bytes.now c.args.source.utf8)) }

pub returns-then-is_opening-clause-rows : goal.returns-then-is_opening-clause-rows
returns-then-is_opening-clause-rows c =
    subst (λ (rs : List ContentRow). MatchOption c.first_row-then-is_opening.result (rs ≡ []) (λ x. rs ≡ shown x.0 ∷ rows_after c.args.source.bytes.now x.1))
    (sym (behind-opening c.args.source.bytes.now c.mark_length.result c.in-Some.behind (shown c.in-Some.row) c.mark_length.ensures c.in-Some.ensures.rows (sym c.is_opening.ensures ∙ c.if-is_opening.true))) c.first_row-then-is_opening.ensures.rows

pub returns-else-is_opening-clause-rows : goal.returns-else-is_opening-clause-rows
returns-else-is_opening-clause-rows c = no-opening c.args.source.bytes.now c.mark_length.result c.in-Some.behind (shown c.in-Some.row) c.mark_length.ensures c.in-Some.ensures.rows (sym c.is_opening.ensures ∙ c.if-is_opening.false)

pub returns-in-None-clause-rows : goal.returns-in-None-clause-rows
returns-in-None-clause-rows c = no-rows c.args.source.bytes.now c.mark_length.result c.mark_length.ensures c.in-None.ensures.rows
