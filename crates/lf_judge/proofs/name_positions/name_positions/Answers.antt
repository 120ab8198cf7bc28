use Rattle.std.proofs.Common.{◌≡◌, ◌∙◌, ap, arith, get_or, length, sym, subst}
use Rattle.std.proofs.lemmas.Option.{same_Some}
use Rattle.lf_ast.specs.Labels.{Bytes}
use Rattle.lf_checks.specs.Files.{File}
use Rattle.lf_report.specs.views.LineIndex.{IsPosition, IsPositionOf}
use Rattle.lf_judge.specs.Judged.{file_of, files_of}
use Rattle.lf_judge.proofs.NamePositions.{positions_more}
use Rattle.lf_judge.proofs.Places.{file_at, read_at, stands_in}
use Rattle.lf_judge.proofs.name_positions.name_positions.Goals as goal

pub get-requires : goal.get-requires
get-requires c =
    let rules = c.args.rules.now in
    let k = c.loop-rule.rule-index in
    let rule = c.rule-item.result in
    stands_in c.args.files.now rules k rule c.requires
    (read_at rules k rule (omega (arith, c.loop-rule-test.true, ap length c.as_slice-rule-items.ensures)) (c.rule-item.is ∙ ap (λ l. get_or l k rule) c.as_slice-rule-items.ensures))

pub position_from-at-requires : goal.position_from-at-requires
position_from-at-requires c =
    let files = c.args.files.now in
    let P : Bytes → Type 0 = λ bytes. IsPosition bytes c.kept_in-at.result in
    subst P (sym c.as_slice.ensures)
    (c.kept_in-at.ensures (files_of files) c.loop-rule.invariant.position (file_of c.get.result.now) (file_at files c.rule-item.result.file c.get.result.now c.get.ensures.value))

pub loop-rule-preserved : goal.loop-rule-preserved
loop-rule-preserved c =
    let files = c.args.files.now in
    let rule = c.rule-item.result in
    let own = file_at files rule.file c.get.result.now c.get.ensures.value in
    let position = c.position_from-at.result in
    record {
      position = λ file e.
          let same : c.as_slice.result.now ≡ file.bytes = c.as_slice.ensures ∙ ap (λ (f : File). f.bytes) (same_Some (file_of c.get.result.now) file (sym own ∙ e)) in
          subst (λ (bytes : Bytes). IsPosition bytes position) same c.position_from-at.ensures.position;
      positions_are =
          positions_more (files_of files) c.args.rules.now c.loop-rule.rule-index rule c.loop-rule.positions.items _ position (omega (arith, c.loop-rule-test.true, ap length c.as_slice-rule-items.ensures))
          (c.rule-item.is ∙ ap (λ l. get_or l c.loop-rule.rule-index rule) c.as_slice-rule-items.ensures) c.loop-rule.invariant.positions_are
          (λ file e.
          let same : c.as_slice.result.now ≡ file.bytes = c.as_slice.ensures ∙ ap (λ (f : File). f.bytes) (same_Some (file_of c.get.result.now) file (sym own ∙ e)) in
          subst (λ (bytes : Bytes). IsPositionOf bytes rule.name_span.start position) same c.position_from-at.ensures.of)
          c.in_ok-push.ensures.items;
    }
