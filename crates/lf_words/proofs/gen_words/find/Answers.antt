use Rattle.std.proofs.Common.{ap, sym, ◌∙◌, codes}
use Rattle.clap.specs.Words.{App, fault_of, is_simple, is_simple_and_free, matches_of, first_of, found_of}
use Rattle.clap.proofs.WalkLemmas.{first_value-rows}
use Rattle.lf_words.specs.views.Commands.{texts_of}
use Rattle.lf_words.proofs.Simple.{gen_simple, gen_free, refused_by}
use Rattle.lf_words.proofs.gen_words.find.Goals as goal

pub returns-in-Ok-clause-taken : goal.returns-in-Ok-clause-taken
returns-in-Ok-clause-taken c =
    let app = c.in_ok-gen_command.ensures in
    ap (λ (a : App). fault_of a (texts_of c.args.words.now)) (sym app) ∙ c.in-Ok.ensures.kinds (ap is_simple_and_free app ∙ gen_free)

pub returns-in-Ok-clause-found : goal.returns-in-Ok-clause-found
returns-in-Ok-clause-found c =
    let app = c.in_ok-gen_command.ensures in
    let rows = (c.in-Ok.ensures.matches (ap is_simple app ∙ gen_simple)).0 ∙ ap (λ (a : App). matches_of a (texts_of c.args.words.now)) app in
    c.get_str.ensures ∙ first_value-rows (found_of c.in-Ok.matches) (codes "n") ∙ ap (first_of (codes "n")) rows

pub returns-in-Err-clause-refused : goal.returns-in-Err-clause-refused
returns-in-Err-clause-refused c =
    let app = c.in_ok-gen_command.ensures in
    λ refused none. refused_by c.in-Err.error (ap (λ (a : App). fault_of a (texts_of c.args.words.now)) app ∙ none) (c.in-Err.ensures.kinds (ap is_simple_and_free app ∙ gen_free)) (c.word_fault.ensures refused)
