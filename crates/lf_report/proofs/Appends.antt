-- What a text is after several pieces were appended in turn.
use Rattle.std.proofs.Common.{◌≡◌, ℕ, List, [], ◌∷◌, ◌++◌, codes, ap, ◌∙◌, append_assoc, sym}
use Rattle.std.proofs.lemmas.List.Concat.{flat_map-append}
use Rattle.lf_ast.specs.Labels.{Bytes}
use Rattle.lf_base.specs.Lines.{lines_text}

-- two pieces
pub appended_two : (start one two : List ℕ) {first second : List ℕ} → first ≡ start ++ one → second ≡ first ++ two → second ≡ start ++ (one ++ two)
appended_two start one two e f = f ∙ ap (λ l. l ++ two) e ∙ append_assoc start one two

-- two pieces that were appended as one, and one more
pub appended_pair : (start one two three : List ℕ) {first second : List ℕ} → first ≡ start ++ (one ++ two) → second ≡ first ++ three → second ≡ start ++ (one ++ (two ++ three))
appended_pair start one two three e f = appended_two start (one ++ two) three e f ∙ ap (λ l. start ++ l) (append_assoc one two three)

-- two groups of lines
pub appended_lines : (start : Bytes) (one two : List Bytes) {first second : Bytes} → first ≡ start ++ lines_text one → second ≡ first ++ lines_text two → second ≡ start ++ lines_text (one ++ two)
appended_lines start one two e f =
    appended_two start (lines_text one) (lines_text two) e f ∙ ap (λ l. start ++ l) (sym (flat_map-append (λ line. line ++ 10 ∷ []) one two))

-- the line of a finding, whose parts were joined from the right
pub finding_joined : (place severity check said : Bytes) → place ++ (codes ": " ++ (severity ++ (codes " [" ++ (check ++ (codes "] " ++ (said ++ 10 ∷ []))))))
    ≡ lines_text ((place ++ codes ": " ++ severity ++ codes " [" ++ check ++ codes "] " ++ said) ∷ [])
finding_joined place severity check said = simp append_assoc

-- five pieces
pub appended_five : (start a b c d e : Bytes) {t1 t2 t3 t4 t5 : Bytes} → t1 ≡ start ++ a → t2 ≡ t1 ++ b → t3 ≡ t2 ++ c → t4 ≡ t3 ++ d → t5 ≡ t4 ++ e → t5 ≡ start ++ (a ++ (b ++ (c ++ (d ++ e))))
appended_five start a b c d e {t1} {t2} {t3} p q r s t =
    appended_two start a (b ++ (c ++ (d ++ e))) p (appended_two t1 b (c ++ (d ++ e)) q (appended_two t2 c (d ++ e) r (appended_two t3 d e s t)))
