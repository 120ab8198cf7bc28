use Rattle.std.proofs.Common.{◌≡◌, ◌+◌, ◌*◌, ◌-◌, ◌<◌, ℕ, List, length, refl, ap, sym, ◌∙◌, subst, arith, take, drop}
use Rattle.std.proofs.lemmas.List.{length-map}
use Rattle.lf_ast.specs.Labels.{Bytes}
use Rattle.lf_classes.specs.RowWords.{row_of_words, word_count}
use Rattle.lf_classes.proofs.RowWordOrder.{shape_of_words}
use Rattle.lf_flow.specs.Reads.{names_of, with_row}
use Rattle.lf_semantics.specs.ClassRows.{Sets}
use Rattle.lf_semantics.specs.Environments.{IsEnvironment}
use Rattle.lf_semantics.specs.RowTable.{Environment}
use Rattle.lf_rounds.specs.views.Working.{IsMade}
use Rattle.lf_rounds.proofs.Environments.{some_label}
use Rattle.lf_rounds.proofs.Looping.{all_made, none_made, one_made, put_within}
use Rattle.lf_rounds.proofs.Reading.{rows_put_are}
use Rattle.lf_rounds.proofs.solving.environment.Goals as goal

pub loop-name-init : goal.loop-name-init
loop-name-init c = record {
  made = none_made c.args.universe.now c.args.words.now c.args.env;
  env = c.requires.env;
  room = omega (arith, c.in_ok-own.own.ok.0, c.in_ok-own.ensures.len, c.words-width.ensures);
}

pub take_row-requires-clause-number : goal.take_row-requires-clause-number
take_row-requires-clause-number c =
    let ns = names_of c.args.env in
    put_within c.args.universe.now ns c.args.words.now c.loop-name.name c.loop-name.env (omega (arith, c.loop-name-test.true, c.names-name-end.ensures, length-map c.args.env (λ (entry : Bytes × Sets). entry.0))) c.loop-name.invariant.made

pub loop-name-preserved : goal.loop-name-preserved
loop-name-preserved c =
    let u = c.args.universe.now in
    let ns = names_of c.args.env in
    let words = c.args.words.now in
    let k = c.loop-name.name in
    let w = word_count u in
    let env : Environment = c.loop-name.env in
    let row : Sets = row_of_words u (take w (drop (k * w) words)) in
    let P : Environment → Type 0 = λ x. IsMade u ns words (k + 1) x in
    let E : Environment → Type 0 = λ x. IsEnvironment u x in
    let within : k < length ns = omega (arith, c.loop-name-test.true, c.names-name-end.ensures, length-map c.args.env (λ (entry : Bytes × Sets). entry.0)) in
    let there = put_within u ns words k env within c.loop-name.invariant.made in
    let wide = c.words-width.result in
    let at : ℕ = k * wide in
    let cut : at + wide - at ≡ w = omega (arith, c.words-width.ensures) in
    let taken : c.take_row.new.env ≡ with_row k row env = c.in_ok-take_row.ensures.taken ∙ ap (λ (x : ℕ × ℕ × List ℕ). with_row k (row_of_words u (take x.0 (drop (k * x.1) x.2))) env) (λ i. (cut i, c.words-width.ensures i, c.row_words.ensures i)) in
    record {
      made = subst P (sym taken) (one_made u ns words k env within c.loop-name.invariant.made row refl);
      env = subst E (sym taken) (rows_put_are env k row there u c.loop-name.invariant.env (shape_of_words u (some_label u c.labels-labels.ensures.within.listing) (take w (drop (k * w) words))));
      room = c.take_row.ensures.room ∙ c.loop-name.invariant.room;
    }

pub returns : goal.returns
returns c =
    let ns = names_of c.args.env in
    all_made c.args.universe.now ns c.args.words.now c.loop-name.env c.loop-name.name (omega (arith, c.loop-name-test.false, c.loop-name.auto.name-end, c.names-name-end.ensures, length-map c.args.env (λ (entry : Bytes × Sets). entry.0))) c.loop-name.invariant.made
