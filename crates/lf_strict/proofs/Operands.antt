-- What is kept of the parts of an expression is what they give.
use Rattle.std.proofs.Common.{◌≡◌, ◌≤◌, ℕ, zero, suc, List, [], length, map, take, drop, Option, None, Some, Result, Ok, Err, refl, sym, ap₂, subst, arith}
use Rattle.std.specs.Prelude.{IfOk}
use Rattle.std.proofs.lemmas.Result.{IfOk-weaker}
use Rattle.std.proofs.lemmas.List.{length-map}
use Rattle.lf_laws.proofs.Slices.{one_taken}
use Rattle.lf_ast.specs.Functions.{Signature}
use Rattle.lf_ast.specs.Labels.{Labels}
use Rattle.lf_ast.specs.Tree.{Tree, Trees, Str, Nil, Next, list}
use Rattle.lf_ast.specs.views.Walks.{chosen}
use Rattle.lf_ast.specs.declared.expr.Grouping.{Grouping}
use Rattle.lf_ast.specs.declared.expr.ExprType.{ExprType}
use Rattle.lf_semantics.specs.Parts.{operand_place, type_by_form}
use Rattle.lf_witness.specs.Strict.{ArgumentStrictlyEvaluates, Outcomes, StrictCall, StrictEffect, StrictlyEvaluates}
use Rattle.lf_witness.specs.StrictRuns.{InOrder, IsStrictAnswer}
use Rattle.lf_strict.specs.declared.evaluated.Evaluated.{Evaluated}
use Rattle.lf_strict.specs.views.Evaluated.{evaluated, operand_of}
use Rattle.lf_nodes.specs.views.Needed.{operand_part}
use Rattle.lf_strict.proofs.Answered.{answers, is_answer}

-- a string stands for an argument that isn't there: it is None too
abbrev argument_tree : Trees → ℕ → Tree
argument_tree Nil k = Str [] (record { start = 0; end = 0 })
argument_tree (Next x xs) zero = x
argument_tree (Next x xs) (suc k) = argument_tree xs k

pub both_ok : {X E : Type 0} {P Q C : X → Type 0} (r : Result X E) → ((x : X) → P x → Q x → C x) → IfOk r P → IfOk r Q → IfOk r C
both_ok (Ok x) f p q = f x p q
both_ok (Err e) f p q = tt

module _ (W : List Labels) where
  -- an argument gives what its expression gives
  same_argument : (args : Trees) (k : ℕ) → ArgumentStrictlyEvaluates W args k ≡ StrictlyEvaluates W (argument_tree args k)
  same_argument Nil k = refl
  same_argument (Next x xs) zero = refl
  same_argument (Next x xs) (suc k) = same_argument xs k

  pub kept_answer : (e : Tree) (kept : Evaluated) → kept ≡ evaluated W e → IsStrictAnswer W e kept.answer
  kept_answer e kept is = subst (λ (k : Evaluated). IsStrictAnswer W e k.answer) (sym is) (answers W e)

  -- the parts of an expression

  -- the operand among arguments

  abbrev operands : Trees → ℕ → List Evaluated
  operands args k = map (evaluated W) (take 1 (drop k (list args)))

  operand_answer : (args : Trees) (k : ℕ) → IsStrictAnswer W (argument_tree args k) (operand_of (operands args k))
  operand_answer Nil zero = tt
  operand_answer Nil (suc k) = tt
  operand_answer (Next x xs) zero = answers W x
  operand_answer (Next x xs) (suc k) = operand_answer xs k

  -- what is kept of the parts of a call

  abbrev pub of_call : Option Signature → Trees → List Evaluated
  of_call o args = map (evaluated W) (chosen (operand_part o) (list args))

  pub one_of_call : (o : Option Signature) (args : Trees) → length (of_call o args) ≤ 1
  one_of_call None args = omega arith
  one_of_call (Some s) args =
      let few = drop (operand_place s) (list args) in
      let same = length-map (take 1 few) (evaluated W) in
      let one = one_taken few in
      omega (arith, same, one)

  -- the expression of a call's operand
  abbrev pub operand_tree : Option Signature → Trees → Tree
  operand_tree None args = Str [] (record { start = 0; end = 0 })
  operand_tree (Some s) args = argument_tree args (operand_place s)

  pub operand_is : (o : Option Signature) (args : Trees) → IsStrictAnswer W (operand_tree o args) (operand_of (of_call o args))
  operand_is None args = tt
  operand_is (Some s) args = operand_answer args (operand_place s)

  pub call_is : (o : Option Signature) (grouping : Grouping) (args : Trees) (given : Option (List Labels)) → InOrder (StrictCall o grouping args (λ place. StrictlyEvaluates W (operand_tree o args))) given
      → InOrder (StrictCall o grouping args (ArgumentStrictlyEvaluates W args)) given
  call_is None grouping args given is = is
  call_is (Some s) grouping args given is = subst (λ (operand : Outcomes). InOrder (StrictEffect s.labels grouping args operand) given) (sym (same_argument args (operand_place s))) is

  -- the answer of a call, by that for its operand
  pub call_answer : {E : Type 0} (o p : Option Signature) (grouping : Grouping) (args : Trees) (r : Result Evaluated E) → o ≡ p
      → IfOk r (λ made. InOrder (StrictCall o grouping args (λ place. StrictlyEvaluates W (operand_tree o args))) made.answer)
      → IfOk r (λ made. InOrder (StrictCall p grouping args (ArgumentStrictlyEvaluates W args)) made.answer)
  call_answer o p grouping args r same given =
      subst (λ (q : Option Signature). IfOk r (λ made. InOrder (StrictCall q grouping args (ArgumentStrictlyEvaluates W args)) made.answer)) same
      (IfOk-weaker r _ _ (λ made is. call_is o grouping args made.answer is) given)

  abbrev kept : Option (List Labels) → ExprType → Evaluated
  kept a f = record { answer = a; form = f }

  -- what is made is what is kept
  pub is_evaluated : (e : Tree) (made : Evaluated) → IsStrictAnswer W e made.answer → made.form ≡ type_by_form e → made ≡ evaluated W e
  is_evaluated e made answered form = ap₂ kept (is_answer W e made.answer answered) form
