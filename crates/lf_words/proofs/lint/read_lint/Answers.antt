use Rattle.std.proofs.Common.{ℕ, List, Option, subst, sym, rules}
use Rattle.std.proofs.lemmas.Result.{err_from_is_err_and}
use Rattle.lf_words.specs.Grammar.{IsWorkers, IsFormat}
use Rattle.lf_words.specs.views.Arguments.{arguments_of}
use Rattle.lf_words.proofs.Asked.{found_lint, made_lint}
use Rattle.lf_words.proofs.lint.read_lint.Goals.{in_default-via-in-Some+in_default, in_default-via-in_default}
use Rattle.lf_words.proofs.lint.read_lint.Goals as goal

pub returns-in_err-found-clause-refused : goal.returns-in_err-found-clause-refused
returns-in_err-found-clause-refused c =
    let p = err_from_is_err_and c.from_residual.result c.from_residual.ensures.1 in
    rw (p.1, p.2) (λ e options asks. c.in_err-found.ensures.refused e (found_lint asks c.requires).taken)

pub returns-in-Some-Some-clause-asked : goal.returns-in-Some-Some-clause-asked
returns-in-Some-Some-clause-asked c =
    let f = c.in_ok-found.ensures in
    made_lint c.args.words.now c.requires f.taken (arguments_of c.in_ok-found.found) f.workers f.format f.labels f.files c.in-Some-Some.ensures.some c.in-Some-Some.ensures'.some

pub returns-in_default-clause-refused : goal.returns-in_default-clause-refused
returns-in_default-clause-refused c = λ e options asks.
    let f = c.in_ok-found.ensures in
    let found = found_lint asks c.requires in
    let P : Option (List ℕ) → Type 0 = λ o. IsWorkers o found.workers in
    let Q : Option (List ℕ) → Type 0 = λ o. IsFormat o found.json in
    elim c.in_default.branch [
      | in_default-via-in-Some+in_default w ↦ w.in_default.ensures'.none found.json (subst Q (sym f.format) found.is_format)
      | in_default-via-in_default w ↦
          let none : (n : ℕ) → IsWorkers (arguments_of c.in_ok-found.found).workers n → ⊥ = search rules in none found.workers (subst P (sym f.workers) found.are_workers)
    ]
