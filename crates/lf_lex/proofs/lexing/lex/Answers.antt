use Rattle.lf_base.proofs.Answering.{found, only, refused, breach}
use Rattle.lf_lex.specs.Tokens.{Tokens, Breaks}
use Rattle.lf_lex.proofs.TokenLaws.{reading, decides, gives}
use Rattle.lf_lex.proofs.Spans.{found_inside, refused_inside}
use Rattle.lf_lex.proofs.lexing.lex.Goals as goal

pub returns : goal.returns
returns c =
    let from = c.args.from.now in
    let text = c.args.text.now in
    let answer = c.read.result in
    let g = gives from text answer (rw (c.as_slice.ensures, c.as_str.ensures) at c.read.ensures.found) (rw (c.as_slice.ensures, c.as_str.ensures) at c.read.ensures.refused) in
    let d = decides from text in
    let f = found (λ x. x) (Tokens from text) (Breaks from text) (reading from text).0 d answer g in
    let r = refused (λ x. x) (Tokens from text) (Breaks from text) (reading from text).0 d answer g in
    record {
      found = f;
      only = only (λ x. x) (Tokens from text) (Breaks from text) (reading from text).0 d answer g;
      refused = r;
      breach = breach (λ x. x) (Tokens from text) (Breaks from text) (reading from text).0 d answer g;
      inside = found_inside from text c.requires.from c.requires.rises answer f;
      refused_inside = refused_inside from text c.requires.from c.requires.rises answer r;
      ordered = c.read.ensures.ordered;
    }
