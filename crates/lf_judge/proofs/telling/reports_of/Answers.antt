use Rattle.std.proofs.Common.{◌≡◌, ℕ, [], length, reverse, true, sym, ◌∙◌, ap, subst, arith}
use Rattle.std.proofs.lemmas.List.{length-map, length-reverse}
use Rattle.lf_ast.specs.Rules.{rule_tree}
use Rattle.lf_open.specs.OpenList.{IsFirstOpen}
use Rattle.lf_judge.specs.views.AtHand.{TellsRuleAt, files_at, rules_of_hand}
use Rattle.lf_judge.specs.views.RulesFound.{IsFoundAt, first_at}
use Rattle.lf_judge.proofs.Numbered.{EachFrom, count_more, length_more, next_left, none_yet, one_more, still_left}
use Rattle.lf_judge.proofs.Told.{all_told}
use Rattle.lf_judge.proofs.Waiting.{Waits, all_wait}
use Rattle.lf_judge.proofs.telling.reports_of.Goals as goal

pub rule_with_labels-requires-clause-rule : goal.rule_with_labels-requires-clause-rule
rule_with_labels-requires-clause-rule c =
    let less = count_more c.loop-next.told c.loop-next.taken c.pop.new.self c.in-Some.next (length c.args.hand.now.rules.now) c.in-Some.ensures.some c.loop-next.invariant.count in
    omega (arith, less.1, c.len-number.ensures)

pub rule_with_labels-requires-clause-found : goal.rule_with_labels-requires-clause-found
rule_with_labels-requires-clause-found c =
    let hand = c.args.hand.now in
    let firsts = c.args.firsts.now in
    let waits : Waits hand firsts (length c.loop-next.told) c.in-Some.next =
    next_left (Waits hand firsts) (length c.loop-next.told) c.loop-next.taken c.pop.new.self c.in-Some.next c.in-Some.ensures.some c.loop-next.invariant.left in
    subst (λ (n : ℕ). IsFoundAt hand n c.in-Some.next) (sym c.len-number.ensures) waits.is

pub rule_with_labels-requires-clause-first : goal.rule_with_labels-requires-clause-first
rule_with_labels-requires-clause-first c = λ some.
    let hand = c.args.hand.now in
    let firsts = c.args.firsts.now in
    let waits : Waits hand firsts (length c.loop-next.told) c.in-Some.next =
    next_left (Waits hand firsts) (length c.loop-next.told) c.loop-next.taken c.pop.new.self c.in-Some.next c.in-Some.ensures.some c.loop-next.invariant.left in
    let is : IsFirstOpen (rules_of_hand hand) c.len-number.result (first_at firsts c.len-number.result) =
    subst (λ (n : ℕ). IsFirstOpen (rules_of_hand hand) n (first_at firsts n)) (sym c.len-number.ensures) (waits.first some) in
    subst (IsFirstOpen (rules_of_hand hand) c.len-number.result) (sym c.first_at-first.ensures) is

pub loop-next-init : goal.loop-next-init
loop-next-init c =
    let hand = c.args.hand.now in
    let firsts = c.args.firsts.now in
    let none : c.in_ok-told.told ≡ [] = c.in_ok-told.ensures in
    let taken = c.in_ok-taken.taken in
    record {
      count = omega (arith, ap length none, ap length c.in_ok-taken.ensures, length-reverse c.args.found, c.requires.found.count);
      told = subst (EachFrom (TellsRuleAt hand true) 0) (sym none) (none_yet (TellsRuleAt hand true));
      left = subst (λ (n : ℕ). EachFrom (Waits hand firsts) n (reverse taken)) (sym (ap length none)) (all_wait hand firsts c.args.found taken c.requires.found c.requires.firsts c.in_ok-taken.ensures);
    }

pub loop-next-preserved : goal.loop-next-preserved
loop-next-preserved c =
    let hand = c.args.hand.now in
    let firsts = c.args.firsts.now in
    let told = c.loop-next.told in
    let new = c.pop.new.self in
    let less = count_more told c.loop-next.taken new c.in-Some.next (length hand.rules.now) c.in-Some.ensures.some c.loop-next.invariant.count in
    let pushed = length_more told c.push.new.self c.in_ok-report.report c.in_ok-push.ensures.ok in
    let made : TellsRuleAt hand true (length told) c.in_ok-report.report = subst (λ (n : ℕ). TellsRuleAt hand true n c.in_ok-report.report) c.len-number.ensures c.in_ok-report.ensures in
    record {
      count = omega (arith, less.0, pushed);
      told = subst (EachFrom (TellsRuleAt hand true) 0) (sym c.in_ok-push.ensures.ok) (one_more (TellsRuleAt hand true) 0 (length told) told c.in_ok-report.report (omega arith) c.loop-next.invariant.told made);
      left =
          subst (λ (n : ℕ). EachFrom (Waits hand firsts) n (reverse new)) (sym pushed)
          (still_left (Waits hand firsts) (length told) c.loop-next.taken new c.in-Some.next c.in-Some.ensures.some c.loop-next.invariant.left);
    }

pub returns : goal.returns
returns c =
    let hand = c.args.hand.now in
    let none = ap length c.in_default.ensures.none.0 in
    all_told (files_at hand) (rules_of_hand hand) hand.env.now true c.loop-next.told (omega (arith, none, c.loop-next.invariant.count, length-map hand.rules.now rule_tree))
    (λ i x at. c.loop-next.invariant.told i i x (omega arith) at)
