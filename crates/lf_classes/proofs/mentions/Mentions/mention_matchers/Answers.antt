use Rattle.lf_ast.specs.declared.expr.Matcher.{Matcher}
use Rattle.lf_semantics.specs.Mentions.{matcher_texts, mention}
use Rattle.lf_classes.proofs.Walks.{mentioned_more}
use Rattle.lf_classes.proofs.mentions.Mentions.mention_matchers.Goals as goal

pub loop-matcher-preserved : goal.loop-matcher-preserved
loop-matcher-preserved c =
    mentioned_more (λ (m : Matcher). mention m.label (matcher_texts m.op m.value)) c.args.matchers.now c.loop-matcher.matcher-index c.matcher-item.result c.args.self.now c.loop-matcher.self c.mention_matcher.new.self
    c.loop-matcher-test.true c.matcher-item.is c.loop-matcher.invariant c.in_ok-mention_matcher.ensures
