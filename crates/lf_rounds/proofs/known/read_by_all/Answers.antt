use Rattle.std.proofs.Common.{◌≡◌, ◌+◌, ◌∷◌, [], ℕ, List, Option, length, get_or, ap, sym, ◌∙◌, subst, arith, length-append}
use Rattle.lf_ast.specs.Labels.{Bytes}
use Rattle.lf_flow.specs.views.Reading.{AreSelected}
use Rattle.lf_rounds.proofs.ReadLists.{selected_more}
use Rattle.lf_rounds.proofs.known.read_by_all.Goals as goal

pub loop-k-preserved : goal.loop-k-preserved
loop-k-preserved c =
    let names = c.args.sources.now.names in
    let selected = c.args.sources.now.selected in
    let all : List (List ℕ) = c.loop-k.all in
    let numbers : List ℕ = c.in_ok-numbers.numbers in
    let k = c.loop-k.k in
    let inv = c.loop-k.invariant in
    let A : List Bytes × List (Option Bytes) → Type 0 = λ x. AreSelected x.0 x.1 numbers in
    let is = subst A (λ i. (c.recorded.ensures i, c.selected_by.ensures i)) c.in_ok-numbers.ensures in
    record {
      count = ap length c.in_ok-push.ensures.ok ∙ length-append all (numbers ∷ []) ∙ ap (λ n. n + 1) inv.count;
      each = λ number less.
          (let P : List (List ℕ) → Type 0 = λ l. AreSelected names (get_or selected number []) (get_or l number []) in
          subst P (sym c.in_ok-push.ensures.ok) (selected_more names selected all k numbers inv.count is inv.each number less));
    }

pub returns : goal.returns
returns c =
    let inv = c.loop-k.invariant in
    let end : c.loop-k.k ≡ length c.args.sources.now.selected = omega (arith, c.loop-k-test.false, c.loop-k.auto.k-end, c.rule_count-k-end.ensures) in
    record { count = inv.count ∙ end; each = λ number h. inv.each number (omega (arith, h, end)) }
