use Rattle.std.proofs.Common.{◌≡◌, ◌++◌, List, [], ◌∷◌, append-nil, append_assoc, reverse, sym, ap, ◌∙◌, subst}
use Rattle.std.specs.List.{AllZip}
use Rattle.std.proofs.lemmas.List.{reverse-append}
use Rattle.lf_ast.specs.Labels.{Labels}
use Rattle.lf_strict.proofs.becoming.each_made.Goals as goal

pub loop-sample-init : goal.loop-sample-init
loop-sample-init g c =
    let becomes = g.B.Becoming.becomes c.args.how.now in
    ([], sym (append-nil c.args.samples), subst (λ (l : List Labels). AllZip becomes [] (reverse l)) (sym c.in_ok-made.ensures.items) tt)

pub loop-sample-preserved : goal.loop-sample-preserved
loop-sample-preserved g c =
    let becomes = g.B.Becoming.becomes c.args.how.now in
    let done : List Labels = c.loop-sample.invariant.0 in
    let sample : Labels = c.in-Some.sample in
    let front : List Labels = c.pop.new.self in
    let made : List Labels = c.loop-sample.made.items in
    let turned : reverse c.push.new.self.items ≡ c.in_ok-of.field-0 ∷ reverse made = ap reverse c.in_ok-push.ensures.items ∙ reverse-append made (c.in_ok-of.field-0 ∷ []) in (
      sample ∷ done,
      c.loop-sample.invariant.1 ∙ ap (λ (l : List Labels). l ++ done) c.in-Some.ensures.some ∙ append_assoc front (sample ∷ []) done,
      subst (AllZip becomes (sample ∷ done)) (sym turned) (c.in_ok-of.ensures, c.loop-sample.invariant.2),
    )

pub returns : goal.returns
returns g c =
    let becomes = g.B.Becoming.becomes c.args.how.now in
    let done : List Labels = c.loop-sample.invariant.0 in
    let all : c.args.samples ≡ done = c.loop-sample.invariant.1 ∙ ap (λ (l : List Labels). l ++ done) c.in_default.ensures.none.0 in
    subst (AllZip becomes c.args.samples) (sym c.reverse.ensures.items) (subst (λ (l : List Labels). AllZip becomes l (reverse c.loop-sample.made.items)) (sym all) c.loop-sample.invariant.2)
