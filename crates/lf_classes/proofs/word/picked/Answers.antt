use Rattle.lf_classes.proofs.WordBits.{in_picked, out_picked}
use Rattle.lf_classes.proofs.word.picked.Goals as goal

pub returns-clause-inside : goal.returns-clause-inside
returns-clause-inside c = λ i h on. in_picked c.without.result c.args.other c.args.mask i (c.without.ensures.cleared i h on) on

pub returns-clause-outside : goal.returns-clause-outside
returns-clause-outside c = λ i h off. out_picked c.args.word c.without.result c.args.other c.args.mask i (c.without.ensures.kept i h off) off
