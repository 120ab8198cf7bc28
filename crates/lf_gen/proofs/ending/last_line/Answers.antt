use Rattle.std.proofs.Common.{subst, arith}
use Rattle.std.proofs.lemmas.Str.{IsCharBoundary-start}
use Rattle.std.proofs.lemmas.Str.Pattern.{rfind_char}
use Rattle.lf_base.specs.Names.{Bytes}
use Rattle.lf_gen.proofs.LineLaws.{IsLastFeed, begins_at_start, begins_behind_last_feed}
use Rattle.lf_gen.proofs.ending.last_line.Goals as goal

pub returns-in-Some-clause-line : goal.returns-in-Some-clause-line
returns-in-Some-clause-line c =
    let body : Bytes = c.without_feed.result.now in
    begins_behind_last_feed c.args.text.now body c.in-Some.feed c.without_feed.ensures (subst (IsLastFeed body) c.in-Some.is (rfind_char 10 body c.rfind.result c.rfind.ensures.cases (omega arith)))

pub returns-in-None-clause-boundary : goal.returns-in-None-clause-boundary
returns-in-None-clause-boundary c = IsCharBoundary-start c.args.text.now c.utf8.text

pub returns-in-None-clause-line : goal.returns-in-None-clause-line
returns-in-None-clause-line c =
    let body : Bytes = c.without_feed.result.now in
    begins_at_start c.args.text.now body c.without_feed.ensures (subst (IsLastFeed body) c.in-None.is (rfind_char 10 body c.rfind.result c.rfind.ensures.cases (omega arith)))
