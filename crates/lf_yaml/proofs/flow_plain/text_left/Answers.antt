use Rattle.std.proofs.Common.{◌≡◌, ◌∙◌, Bool, true, cond, length, length-drop, ap, sym, subst, arith}
use Rattle.lf_scalar.specs.Lines.{Line, line, start_of}
use Rattle.lf_yaml.specs.Flow.{line_on, line_left, is_bare}
use Rattle.lf_yaml.proofs.LinesOn.{line-break}
use Rattle.lf_yaml.proofs.PlainLines.{line-is}
use Rattle.lf_yaml.proofs.flow_plain.text_left.Goals as goal

pub returns-in-None-clause-after : goal.returns-in-None-clause-after
returns-in-None-clause-after c =
    let l = line_on c.args.bytes.now c.args.part.at in
    let same = line-is c.args.bytes.now c.args.part.at c.args.part.text.now c.requires.rest in
    let bare : is_bare l ≡ true = subst (λ (m : Line). is_bare m ≡ true) same (c.in-None.ensures.left l.break) in
    let first = c.line_end.ensures.first c.args.part.at (omega (arith, c.requires.within, ap length c.past.ensures, length-drop c.args.part.at c.args.bytes.now)) in
    sym (ap (λ (b : Bool). cond b l.break (start_of (line (line_left l) l.break))) bare
    ∙ line-break c.args.bytes.now c.args.part.at c.line_end.result.text c.line_end.result.feed c.past.result.now c.requires.within c.past.ensures first)
