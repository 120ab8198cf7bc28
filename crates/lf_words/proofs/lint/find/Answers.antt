use Rattle.std.proofs.Common.{rules, ap, sym, refl, ◌≡◌, ◌∙◌, codes, List, [], Option, None, Some, map, option_map, unwrap_or}
use Rattle.std.specs.Borrow.{Bor}
use Rattle.clap.specs.Words.{App, Text, fault_of, is_simple, is_simple_and_free, matches_of, first_of, all_of, found_of}
use Rattle.clap.proofs.WalkLemmas.{first_value-rows, raw_values-rows}
use Rattle.lf_words.specs.views.Commands.{texts_of, says_true}
use Rattle.lf_words.proofs.Simple.{lint_simple, lint_free}
use Rattle.lf_words.proofs.lint.find.Goals as goal

values_or_none : (o : Option (Bor (List (Bor Text)))) (d : Bor (List (Bor Text))) → d.now ≡ [] →
    map (λ (v : Bor Text). v.now) (unwrap_or o d).now ≡ unwrap_or (option_map (λ (s : Bor (List (Bor Text))). map (λ (v : Bor Text). v.now) s.now) o) []
values_or_none None d e = ap (map (λ (v : Bor Text). v.now)) e
values_or_none (Some s) d e = refl

pub returns-in_ok-copies-in-Ok-clause-taken : goal.returns-in_ok-copies-in-Ok-clause-taken
returns-in_ok-copies-in-Ok-clause-taken c =
    let app = c.in_ok-lint_command.ensures in
    ap (λ (a : App). fault_of a (texts_of c.args.words.now)) (sym app) ∙ c.in-Ok.ensures.kinds (ap is_simple_and_free app ∙ lint_free)

pub returns-in_ok-copies-in-Ok-clause-workers : goal.returns-in_ok-copies-in-Ok-clause-workers
returns-in_ok-copies-in-Ok-clause-workers c =
    let app = c.in_ok-lint_command.ensures in
    let rows = (c.in-Ok.ensures.matches (ap is_simple app ∙ lint_simple)).0 ∙ ap (λ (a : App). matches_of a (texts_of c.args.words.now)) app in
    c.get_str-workers.ensures ∙ first_value-rows (found_of c.in-Ok.matches) (codes "workers") ∙ ap (first_of (codes "workers")) rows

pub returns-in_ok-copies-in-Ok-clause-format : goal.returns-in_ok-copies-in-Ok-clause-format
returns-in_ok-copies-in-Ok-clause-format c =
    let app = c.in_ok-lint_command.ensures in
    let rows = (c.in-Ok.ensures.matches (ap is_simple app ∙ lint_simple)).0 ∙ ap (λ (a : App). matches_of a (texts_of c.args.words.now)) app in
    c.get_str-format.ensures ∙ first_value-rows (found_of c.in-Ok.matches) (codes "format") ∙ ap (first_of (codes "format")) rows

pub returns-in_ok-copies-in-Ok-clause-labels : goal.returns-in_ok-copies-in-Ok-clause-labels
returns-in_ok-copies-in-Ok-clause-labels c =
    let app = c.in_ok-lint_command.ensures in
    let rows = (c.in-Ok.ensures.matches (ap is_simple app ∙ lint_simple)).0 ∙ ap (λ (a : App). matches_of a (texts_of c.args.words.now)) app in
    c.is_true-labels.ensures ∙ ap says_true (c.get_str.ensures ∙ first_value-rows (found_of c.in-Ok.matches) (codes "labels") ∙ ap (first_of (codes "labels")) rows)

pub returns-in_ok-copies-in-Ok-clause-files : goal.returns-in_ok-copies-in-Ok-clause-files
returns-in_ok-copies-in-Ok-clause-files c =
    let app = c.in_ok-lint_command.ensures in
    let rows = (c.in-Ok.ensures.matches (ap is_simple app ∙ lint_simple)).0 ∙ ap (λ (a : App). matches_of a (texts_of c.args.words.now)) app in
    let said = c.get_raw.ensures ∙ raw_values-rows (found_of c.in-Ok.matches) (codes "files") ∙ ap (all_of (codes "files")) rows in
    c.in_ok-copies-in-Ok.ensures ∙ ap (λ (s : Bor (List (Bor Text))). map (λ (v : Bor Text). v.now) s.now) c.unwrap_or-files.ensures
    ∙ values_or_none c.get_raw.result _ (search rules) ∙ ap (λ (o : Option (List Text)). unwrap_or o []) said
