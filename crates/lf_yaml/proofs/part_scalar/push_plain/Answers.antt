use Rattle.std.proofs.Common.{◌≡◌, ◌+◌, ◌∙◌, true, false, Option, length, length-drop, ap, sym, subst, arith, List, ℕ}
use Rattle.lf_scalar.specs.Cells.{Fails}
use Rattle.lf_scalar.specs.Lines.{Line, lines_at}
use Rattle.lf_yaml.specs.Flow.{line_on, lines_below, is_bare, left_on}
use Rattle.lf_yaml.specs.reading.Trees.{plain_line, before_text, plain_behind}
use Rattle.lf_yaml.specs.reading.FlowLines.{IsLeft, FoldsAs}
use Rattle.lf_yaml.proofs.LinesOn.{line-break, lines-below-at}
use Rattle.lf_yaml.proofs.PlainLines.{line-is, first-last, first-more, first-wrong, folds-behind}
use Rattle.lf_yaml.proofs.part_scalar.push_plain.Goals as goal

pub returns-in-Ok-Some : goal.returns-in-Ok-Some
returns-in-Ok-Some c =
    let l = line_on c.args.source.bytes.now c.args.part.at in
    let same = line-is c.args.source.bytes.now c.args.part.at c.args.part.text.now c.requires.rest in
    let t = c.in-Ok-Some.ensures.text l.break in
    let left : (is_bare l ≡ false) × (left_on l ≡ c.in-Ok-Some.after) =
    subst (λ (o : Option ℕ). IsLeft l o) c.in-Ok-Some.field-0-is (subst (λ (m : Line). IsLeft m c.in-Ok-Some.field-0) same (c.in-Ok-Some.ensures.left l.break)) in
    (t.0, first-last l (lines_below c.args.source.bytes.now c.args.part.at) t.0 c.in-Ok-Some.after (ap plain_line (sym same) ∙ t.1) left, t.2)

pub returns-in-Ok-None : goal.returns-in-Ok-None
returns-in-Ok-None c =
    let l = line_on c.args.source.bytes.now c.args.part.at in
    let ls = lines_below c.args.source.bytes.now c.args.part.at in
    let same = line-is c.args.source.bytes.now c.args.part.at c.args.part.text.now c.requires.rest in
    let t = c.in-Ok-None.ensures.text l.break in
    let bare : is_bare l ≡ true = subst (λ (o : Option ℕ). IsLeft l o) c.in-Ok-None.field-0-is (subst (λ (m : Line). IsLeft m c.in-Ok-None.field-0) same (c.in-Ok-None.ensures.left l.break)) in
    let first = c.line_end-end.ensures.first c.args.part.at (omega (arith, c.requires.within, ap length c.past-rest.ensures, length-drop c.args.part.at c.args.source.bytes.now)) in
    let z : c.args.part.at + (c.line_end-end.result.feed + 1) ≡ c.args.part.at + c.line_end-end.result.feed + 1 = omega arith in
    let below : ls ≡ lines_at (c.args.part.at + c.line_end-end.result.feed + 1) c.past.result.now =
    lines-below-at c.args.source.bytes.now c.args.part.at c.line_end-end.result.text c.line_end-end.result.feed c.past-rest.result.now c.requires.within c.past-rest.ensures first
    ∙ ap (λ (xs : List ℕ). lines_at (c.args.part.at + (c.line_end-end.result.feed + 1)) xs) (sym c.past.ensures) ∙ ap (λ (n : ℕ). lines_at n c.past.result.now) z in
    let break : l.break ≡ c.args.part.at + c.line_end-end.result.feed =
    line-break c.args.source.bytes.now c.args.part.at c.line_end-end.result.text c.line_end-end.result.feed c.past-rest.result.now c.requires.within c.past-rest.ensures first in
    subst (FoldsAs c.push_behind.result c.args.builder.now c.push_behind.new.builder)
    (sym (first-more l ls t.0 (ap plain_line (sym same) ∙ t.1) bare ∙ ap (λ (n : ℕ). before_text t.0 (plain_behind n 0 ls)) break ∙ ap (λ (ms : List Line). before_text t.0 (plain_behind (c.args.part.at + c.line_end-end.result.feed) 0 ms)) below))
    (folds-behind c.push_behind.result c.args.builder.now c.push_line.new.builder c.push_behind.new.builder t.0 _ t.2 c.push_behind.ensures)

pub returns-in-Err : goal.returns-in-Err
returns-in-Err c =
    let l = line_on c.args.source.bytes.now c.args.part.at in
    let same = line-is c.args.source.bytes.now c.args.part.at c.args.part.text.now c.requires.rest in
    first-wrong l (lines_below c.args.source.bytes.now c.args.part.at) c.in-Err.refusal (subst (λ (m : Line). Fails c.in-Err.refusal (plain_line m)) same (c.in-Err.ensures.text l.break))
