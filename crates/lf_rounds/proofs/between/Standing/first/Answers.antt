use Rattle.std.proofs.Common.{ℕ, List, Option, None, ◌*◌, inl, length, ap, sym, ◌∙◌, subst}
use Rattle.std.specs.List.{Contains}
use Rattle.std.proofs.lemmas.List.{length-map, length-replicate}
use Rattle.lf_ast.specs.Rules.{rule_tree, rule_trees}
use Rattle.lf_classes.specs.RowWords.{word_count}
use Rattle.lf_rounds.specs.Tasks.{AreRecording}
use Rattle.lf_rounds.proofs.Looping.{zeros_are, zeros_below}
use Rattle.lf_rounds.proofs.Pieces.{pieces_all, pieces_recording}
use Rattle.lf_rounds.proofs.Standings.{none_kept}
use Rattle.lf_rounds.proofs.between.Standing.first.Goals as goal

pub returns : goal.returns
returns c =
    let u = c.args.universe.now in
    let rules = rule_trees c.args.rules.now in
    let words : List ℕ = c.in_ok-words.words in
    let count : ℕ = c.len.result * word_count u in
    let are = zeros_are words count c.in_ok-words.ensures in
    let R : List ℕ → Type 0 = λ due. AreRecording rules due in
    record {
      known = c.in_ok-known.ensures;
      long = are.0 ∙ ap (λ (n : ℕ). n * word_count u) (c.len.ensures.count ∙ ap length (c.recorded.ensures ∙ c.requires.sources.names));
      fit = are.1;
      below = zeros_below u rules words count c.in_ok-words.ensures;
      sums = none_kept u rules c.in_ok-known.known.reads words c.in_ok-sums.sums.items c.len-2.result c.in_ok-sums.ensures;
      count = ap length c.in_ok-sums.ensures ∙ length-replicate {A = Option ℕ} c.len-2.result None ∙ c.len-2.ensures ∙ sym (length-map c.args.rules.now rule_tree);
      recording = subst R (sym c.in_ok-due.ensures) (pieces_recording rules c.args.all.now c.requires.all);
      others = λ number r at e. inl (let P : List ℕ → Type 0 = λ due. Contains due number in subst P (sym c.in_ok-due.ensures) (pieces_all rules c.args.all.now c.requires.all number r at e));
    }
