use Rattle.std.proofs.Common.{◌≡◌, ◌≢◌, [], ℕ, Option, List, subst}
use Rattle.std.proofs.lemmas.Bool.{MatchBool-at_true, MatchBool-at_false}
use Rattle.lf_words.specs.Grammar.{IsWorkers, IsFormat}
use Rattle.lf_words.proofs.Onward.{whole, no_file}
use Rattle.lf_words.proofs.seen.is_whole.Goals as goal

pub returns-in_default-Some-Some : goal.returns-in_default-Some-Some
returns-in_default-Some-Some c =
    let b = c.in_default-Some-Some in
    record {
      yes = λ some given k.
          let P : Option (List ℕ) → Type 0 = λ o. IsWorkers o b.field-0-1 in
          let Q : Option (List ℕ) → Type 0 = λ o. IsFormat o b.field-0-2 in
          whole b.field-0-1 b.field-0-2 b.not-Value-0 k (MatchBool-at_true (given.files ≢ []) (given.files ≡ []) some k.file) (subst P k.workers b.ensures.some) (subst Q k.format b.ensures'.some);
      no = λ none given k. no_file c.args.seen (MatchBool-at_false (given.files ≢ []) (given.files ≡ []) none k.file);
    }
