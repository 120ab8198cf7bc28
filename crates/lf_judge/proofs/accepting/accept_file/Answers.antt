use Rattle.std.proofs.Common.{Result, subst}
use Rattle.lf_ast.specs.Labels.{Bytes}
use Rattle.lf_ast.specs.Rules.{rule_trees}
use Rattle.lf_ast.specs.declared.rule.Rule.{Rule}
use Rattle.lf_accept.specs.Accepted.{IsAccepted, RefusesFile}
use Rattle.lf_accept.specs.Taken.{FileTakes, IfTold}
use Rattle.lf_base.specs.Answers.{Found, IfAt, Refused}
use Rattle.lf_base.specs.Faults.{fault}
use Rattle.lf_base.specs.declared.refusal.Refusal.{Refusal}
use Rattle.std.specs.Prelude.{List}
use Rattle.lf_judge.proofs.accepting.accept_file.Goals as goal

abbrev Answer : Type 0
Answer = Result (List Rule) Refusal

pub returns-in-Ok-clause-found : goal.returns-in-Ok-clause-found
returns-in-Ok-clause-found c =
    let P : Bytes → Type 0 = λ bytes. IsAccepted bytes c.args.number (rule_trees c.in-Ok.of) in
    let Q : Answer → Type 0 = λ answer. Found rule_trees (IsAccepted c.as_slice.result.now c.args.number) answer in
    subst P c.as_slice.ensures (subst Q c.in-Ok.is c.accept_counted-answer.ensures.found)

pub returns-in-Ok-clause-taken : goal.returns-in-Ok-clause-taken
returns-in-Ok-clause-taken c =
    let P : Bytes → Type 0 = λ bytes. FileTakes bytes c.accept_counted-answer.result.taken in
    let Q : Answer → Type 0 = λ answer. IfTold answer (FileTakes c.as_slice.result.now c.accept_counted-answer.result.taken) in
    subst P c.as_slice.ensures (subst Q c.in-Ok.is c.accept_counted-answer.ensures.taken)

pub returns-in_ok-why-in-Err-clause-found : goal.returns-in_ok-why-in-Err-clause-found
returns-in_ok-why-in-Err-clause-found c =
    let why = c.in_ok-why-in-Err.why in
    let P : Refusal → Type 0 = λ refusal. IfAt refusal (RefusesFile c.as_slice.result.now) in
    let Q : Bytes → Type 0 = λ bytes. RefusesFile bytes (fault why.kind why.span) in
    let R : Answer → Type 0 = λ answer. Refused (RefusesFile c.as_slice.result.now) answer in
    subst Q c.as_slice.ensures (subst P c.in_ok-why-in-Err.ensures (subst R c.in-Err.is c.accept_counted-answer.ensures.refused))

pub returns-in_ok-why-in-Err-clause-taken : goal.returns-in_ok-why-in-Err-clause-taken
returns-in_ok-why-in-Err-clause-taken c =
    let taken = c.accept_counted-answer.result.taken in
    let P : Refusal → Type 0 = λ refusal. IfAt refusal (λ f. FileTakes c.as_slice.result.now taken) in
    let Q : Bytes → Type 0 = λ bytes. FileTakes bytes taken in
    let R : Answer → Type 0 = λ answer. IfTold answer (FileTakes c.as_slice.result.now taken) in
    subst Q c.as_slice.ensures (subst P c.in_ok-why-in-Err.ensures (subst R c.in-Err.is c.accept_counted-answer.ensures.taken))
