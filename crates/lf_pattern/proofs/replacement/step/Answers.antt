use Rattle.std.proofs.Common.{◌≡◌, ℕ, List, ◌∷◌, ◌++◌, [], ap, sym, ◌∙◌, IfOk, subst, append_assoc, nat_lt, false, arith}
use Rattle.std.specs.Char.{digit_value}
use Rattle.std.proofs.lemmas.Bool.Decides.{nat_tests}
use Rattle.lf_pattern.specs.declared.replacement.ReplacementPiece.{ReplacementPiece}
use Rattle.lf_pattern.specs.declared.replacement.ReplacementPiece.TheVariants.{Group}
use Rattle.lf_pattern.specs.declared.replacement.ReplacementMode.{ReplacementMode}
use Rattle.lf_pattern.specs.declared.replacement.ReplacementMode.TheVariants.{Text, Number}
use Rattle.lf_pattern.specs.reading.Replacement.{pieces_of}
use Rattle.lf_pattern.proofs.PieceLaws.{number-apart, number-digit}
use Rattle.lf_pattern.proofs.replacement.step.Goals as goal

pub returns-in-Some : goal.returns-in-Some
returns-in-Some c = λ cs.
    let n = c.in-Number.n in
    let value = c.in-Some.ensures.value in
    ap (λ (l : List ReplacementPiece). c.args.pieces.now ++ l)
    (ap (λ (m : ReplacementMode). pieces_of m (c.args.c ∷ cs)) c.in-Number.is
    ∙ number-digit n c.args.c cs value.0
    ∙ ap (λ (k : ℕ). pieces_of (Number k) cs) (sym (c.with_digit.ensures c.args.c value.1)))

pub returns-in_ok-push-in-None : goal.returns-in_ok-push-in-None
returns-in_ok-push-in-None c = λ cs.
    let n = c.in-Number.n in
    let pieces = c.args.pieces.now in
    let none = c.in-None.ensures.value in
    let apart : nat_lt (digit_value c.args.c) 10 ≡ false = grind (arith, nat_tests, none) in
    let P : List ReplacementPiece → Type 0 = λ l. IfOk c.text-in-None.result (λ m. l ≡ c.text-in-None.new.pieces ++ pieces_of m cs) in
    let e : pieces ++ pieces_of c.args.mode (c.args.c ∷ cs) ≡ c.push.new.self ++ pieces_of Text (c.args.c ∷ cs) =
    ap (λ (m : ReplacementMode). pieces ++ pieces_of m (c.args.c ∷ cs)) c.in-Number.is
    ∙ ap (λ (l : List ReplacementPiece). pieces ++ l) (number-apart n c.args.c cs apart)
    ∙ sym (append_assoc pieces (Group n ∷ []) (pieces_of Text (c.args.c ∷ cs)))
    ∙ ap (λ (l : List ReplacementPiece). l ++ pieces_of Text (c.args.c ∷ cs)) (sym c.in_ok-push-in-None.ensures.ok)
    in
    subst P (sym e) (c.text-in-None.ensures cs)
