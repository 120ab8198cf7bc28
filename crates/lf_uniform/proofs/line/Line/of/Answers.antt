use Rattle.std.proofs.Common.{◌≡◌, ℕ, List, length, sym, ap, subst, arith, inl, inr}
use Rattle.std.specs.List.{Contains}
use Rattle.lf_ast.specs.Rules.{rule_trees}
use Rattle.lf_uniform.specs.views.Lines.{IsRound}
use Rattle.lf_uniform.proofs.Rounds.{each_later, last_round, no_entries, turned, turned_back}
use Rattle.lf_uniform.proofs.line.Line.of.Goals as goal

pub loop-left-init : goal.loop-left-init
loop-left-init c = record {
  entries = no_entries (rule_trees c.args.rules.now) (record { numbers = c.new.result.items; names = c.new-2.result }) (ap length c.new.ensures.items) (ap length c.new-2.ensures);
  each = λ k there. inl (subst (λ (xs : List ℕ). Contains xs k) (sym c.in_ok-left.ensures.items) there);
  below = λ k there. c.requires.numbers k (subst (λ (xs : List ℕ). Contains xs k) c.in_ok-left.ensures.items there);
}

pub round-requires-clause-numbers : goal.round-requires-clause-numbers
round-requires-clause-numbers c = λ k there. c.loop-left.invariant.below k (subst (λ (xs : List ℕ). Contains xs k) c.as_slice.ensures.value there)

pub returns-then-len : goal.returns-then-len
returns-then-len c =
    let rules = rule_trees c.args.rules.now in
    let left : List ℕ = c.loop-left.left.items in
    let later : List ℕ = c.in_ok-later.later.items in
    let round = subst (λ (xs : List ℕ). IsRound rules c.loop-left.line xs c.round.new.self later) c.as_slice.ensures.value c.in_ok-later.ensures in
    let same : length later ≡ length left = omega (arith, c.if-len.true, c.len.ensures, c.len-in-loop-left.ensures, c.in_ok-later.later.ok, c.loop-left.left.ok) in
    last_round rules c.args.numbers.now left later c.loop-left.line c.round.new.self round c.loop-left.invariant.each c.loop-left.invariant.entries same

pub loop-left-preserved : goal.loop-left-preserved
loop-left-preserved c =
    let rules = rule_trees c.args.rules.now in
    let left : List ℕ = c.loop-left.left.items in
    let later : List ℕ = c.in_ok-later.later.items in
    let round = subst (λ (xs : List ℕ). IsRound rules c.loop-left.line xs c.round.new.self later) c.as_slice.ensures.value c.in_ok-later.ensures in
    let stay = each_later rules c.args.numbers.now left later c.loop-left.line c.round.new.self round c.loop-left.invariant.each in
    record {
      entries = round.entries c.loop-left.invariant.entries;
      each = λ k there. elim (stay k there) [ inl waits ↦ inl (subst (λ (xs : List ℕ). Contains xs k) (sym c.reverse.ensures.items) (turned later k waits)) | inr settled ↦ inr settled ];
      below = λ k there. c.loop-left.invariant.below k (round.among k (turned_back later k (subst (λ (xs : List ℕ). Contains xs k) c.reverse.ensures.items there)));
    }
