use Rattle.std.proofs.Common.{◌≡◌, string_bytes, codes, rules}
use Rattle.lf_words.proofs.Asked.{first_is}
use Rattle.lf_words.proofs.words.read.Goals as goal

pub read_lint-requires : goal.read_lint-requires
read_lint-requires c =
    let is : string_bytes c.in-Some.first.now ≡ codes "lint" = search rules in
    first_is c.args.words.now c.in-Some.first.now (codes "lint") c.in-Some.ensures.value is

pub read_gen-requires : goal.read_gen-requires
read_gen-requires c =
    let is : string_bytes c.in-Some-2.first.now ≡ codes "gen" = search rules in
    first_is c.args.words.now c.in-Some-2.first.now (codes "gen") c.in-Some-2.ensures.value is
