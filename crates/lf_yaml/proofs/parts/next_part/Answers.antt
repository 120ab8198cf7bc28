use Rattle.std.proofs.Common.{◌∙◌, ◌≡◌, ◌≢◌, ◌≤◌, ◌⊎◌, ap, sym, subst, arith, length, ℕ, get_or, inl, inr, List}
use Rattle.lf_yaml.specs.views.Parts.{IsNext}
use Rattle.lf_yaml.specs.views.Cursor.{rows_after}
use Rattle.lf_yaml.proofs.Cuts.{blanks-cut}
use Rattle.lf_yaml.proofs.FlowPlaces.{next-at, in-behind}
use Rattle.std.specs.Str.{IsCharBoundary}
use Rattle.lf_yaml.proofs.FlowOn.{part-on}
use Rattle.lf_yaml.proofs.NextParts.{next-empty, next-comment, next-here}
use Rattle.lf_yaml.proofs.parts.next_part.Goals as goal
use Rattle.lf_yaml.proofs.parts.next_part.Goals.{else-skipped-gt0-via-then-skipped-gt0+else-first-eq35, else-skipped-gt0-via-else-skipped-gt0}

pub returns-then-first-eq35-clause-next : goal.returns-then-first-eq35-clause-next
returns-then-first-eq35-clause-next c =
    subst (IsNext c.on_line-then-first-eq35.result)
    (sym (next-at c.args.source.bytes.now c.args.place.text.now c.args.place.at c.args.place.next c.requires.place ∙ next-comment (length c.args.source.bytes.now) c.args.place.at c.blanks-skipped.result c.args.place.text.now c.past.result.now (rows_after c.args.source.bytes.now c.args.place.next) c.blanks-skipped.ensures.within (c.blanks-skipped.ensures.after c.args.place.at) c.past.ensures
    c.in-len1-up.len_at_least c.if-skipped-gt0.true c.if-first-eq35.true))
    c.on_line-then-first-eq35.ensures.next

pub returns-in-empty-clause-next : goal.returns-in-empty-clause-next
returns-in-empty-clause-next c =
    subst (IsNext c.on_line.result)
    (sym (next-at c.args.source.bytes.now c.args.place.text.now c.args.place.at c.args.place.next c.requires.place ∙ next-empty (length c.args.source.bytes.now) c.args.place.at c.blanks-skipped.result c.args.place.text.now c.past.result.now (rows_after c.args.source.bytes.now c.args.place.next) c.blanks-skipped.ensures.within (c.blanks-skipped.ensures.after c.args.place.at) c.past.ensures
    c.in-empty.len_below))
    c.on_line.ensures.next

pub returns-else-skipped-gt0-clause-next : goal.returns-else-skipped-gt0-clause-next
returns-else-skipped-gt0-clause-next c =
    let same : c.past.result.now ≡ c.past-in-len1-up.result.now = c.past.ensures ∙ sym c.past-in-len1-up.ensures in
    let h : (c.blanks-skipped.result ≤ 0) ⊎ (get_or c.past-in-len1-up.result.now 0 0 ≢ 35) =
    elim c.else-skipped-gt0.branch [
      | else-skipped-gt0-via-then-skipped-gt0+else-first-eq35 w ↦ inr (λ e. w.if-first-eq35.false (ap (λ (xs : List ℕ). get_or xs 0 0) same ∙ e))
      | else-skipped-gt0-via-else-skipped-gt0 w ↦ inl (omega (arith, w.if-skipped-gt0.false))
    ] in
    next-at c.args.source.bytes.now c.args.place.text.now c.args.place.at c.args.place.next c.requires.place ∙ next-here (length c.args.source.bytes.now) c.args.place.at c.blanks-skipped.result c.args.place.text.now c.past-in-len1-up.result.now (rows_after c.args.source.bytes.now c.args.place.next) c.blanks-skipped.ensures.within (c.blanks-skipped.ensures.after c.args.place.at) c.past-in-len1-up.ensures
    (omega (arith, c.in-len1-up.len_at_least, ap length same)) h

pub returns-else-skipped-gt0-clause-part : goal.returns-else-skipped-gt0-clause-part
returns-else-skipped-gt0-clause-part c =
    let cut : IsCharBoundary c.args.place.text.now c.blanks-skipped.result = blanks-cut c.args.place.at c.blanks-skipped.result c.args.place.text.now c.blanks-skipped.ensures.within c.requires.place.utf8 (c.blanks-skipped.ensures.after c.args.place.at) in
    in-behind c.args.source.bytes.now c.args.place.text.now c.past-in-len1-up.result.now c.args.place.at c.args.place.next c.blanks-skipped.result c.requires.place c.blanks-skipped.ensures.within c.past-in-len1-up.ensures cut

pub returns-then-first-eq35-clause-further : goal.returns-then-first-eq35-clause-further
returns-then-first-eq35-clause-further c = part-on c.args.source.bytes.now c.args.place.at c.on_line-then-first-eq35.result (returns-then-first-eq35-clause-next c)

pub returns-in-empty-clause-further : goal.returns-in-empty-clause-further
returns-in-empty-clause-further c = part-on c.args.source.bytes.now c.args.place.at c.on_line.result (returns-in-empty-clause-next c)
