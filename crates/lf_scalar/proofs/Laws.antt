-- Reading a scalar of any style is the definition, in both directions, and its fault is the breach.
use Rattle.std.proofs.Common.{◌≡◌, ℕ, true, false, List, [], ◌∷◌, Result, Ok, Err, refl, ap, ◌∙◌, subst}
use Rattle.lf_scalar.specs.declared.scalar.Style.{Style}
use Rattle.lf_scalar.specs.declared.scalar.Style.TheVariants as style
use Rattle.lf_base.specs.declared.fault.Fault.{Fault}
use Rattle.lf_base.proofs.Answering.{Decides}
use Rattle.lf_scalar.specs.Cells.{Cell, Value}
use Rattle.lf_scalar.specs.Lines.{Line, lines, first_text}
use Rattle.lf_scalar.specs.Plain.{Begun}
use Rattle.lf_scalar.specs.Quoted.{Quotes, Single, Double}
use Rattle.lf_scalar.specs.Block.{Headed, AreJoinedLines, IsFolded, joined}
use Rattle.lf_scalar.specs.reading.Block.{folded_of}
use Rattle.lf_scalar.specs.Scalars.{begins, IsQuotedAt, BreaksQuotedAt, IsOfStyle, BreaksStyle}
use Rattle.lf_scalar.specs.reading.Styles.{quoted_at, reading}
use Rattle.lf_scalar.proofs.LineSteps.{lines-nil}
use Rattle.lf_scalar.proofs.Tails.{true-false}
use Rattle.lf_scalar.proofs.QuotedWhole as quoted
use Rattle.lf_scalar.proofs.PlainLaws as plain
use Rattle.lf_scalar.proofs.BlockBody.{joining, folding}
use Rattle.lf_scalar.proofs.BlockLaws as block

quoted-read : (kind : Quotes) (end : ℕ) (src : List Cell) (v : Value) → IsQuotedAt kind end src v → quoted_at kind end src ≡ Ok v
quoted-read kind end [] v h = absurd h
quoted-read kind end (c ∷ src) v h = quoted.quoted-again kind end c src v h

quoted-refused : (kind : Quotes) (end : ℕ) (src : List Cell) (f : Fault) → BreaksQuotedAt kind end src f → quoted_at kind end src ≡ Err f
quoted-refused kind end [] f h = absurd h
quoted-refused kind end (c ∷ src) f h = quoted.quoted-breaks kind end c src f h

-- what the definition has is read
pub is_read : (s : Style) (above end : ℕ) (src : List Cell) (v : Value) → IsOfStyle s above end src v → reading s above end src ≡ Ok v
is_read style.Plain above end src v h = plain.plain-read above end src v h
is_read style.Single above end src v h = quoted-read Single end src v h
is_read style.Double above end src v h = quoted-read Double end src v h
is_read style.Literal above end src v h = block.block-read AreJoinedLines joined joining above end src v h
is_read style.Folded above end src v h = block.block-read IsFolded folded_of folding above end src v h

-- a breach is answered
pub is_refused : (s : Style) (above end : ℕ) (src : List Cell) (f : Fault) → BreaksStyle s above end src f → reading s above end src ≡ Err f
is_refused style.Plain above end src f h = plain.plain-refused above end src f h
is_refused style.Single above end src f h = quoted-refused Single end src f h
is_refused style.Double above end src f h = quoted-refused Double end src f h
is_refused style.Literal above end src f h = block.block-refused AreJoinedLines joined joining above end src f h
is_refused style.Folded above end src f h = block.block-refused IsFolded folded_of folding above end src f h

abbrev pub Told : Style → ℕ → ℕ → List Cell → Result Value Fault → Type 0
Told s above end src (Ok v) = IsOfStyle s above end src v
Told s above end src (Err f) = BreaksStyle s above end src f

pub begins-nothing : (s : Style) → begins s [] ≡ false
begins-nothing style.Plain = refl
begins-nothing style.Single = refl
begins-nothing style.Double = refl
begins-nothing style.Literal = refl
begins-nothing style.Folded = refl

-- a source with a scalar has a first cell on its first line
begun : (s : Style) (end : ℕ) (src : List Cell) → begins s (first_text (lines end src)) ≡ true → Begun end src
begun s end src h = by (lines end src) refl h
  where
    text : (l : Line) (ls : List Line) (cs : List Cell) → lines end src ≡ l ∷ ls → l.text ≡ cs → begins s cs ≡ true → Begun end src
    text l ls [] e f h = true-false (begins s []) h (begins-nothing s)
    text l ls (c ∷ cs) e f h = record { first = l; following = ls; opening = c; rest = cs; source = e; text = f }

    by : (ls : List Line) → lines end src ≡ ls → begins s (first_text ls) ≡ true → Begun end src
    by [] e h = true-false (begins s []) h (begins-nothing s)
    by (l ∷ ls) e h = text l ls l.text e refl h

headed : (end : ℕ) (src : List Cell) → Begun end src → Headed end src
headed end src b = record { sign = b.opening; header = b.rest; break = b.first.break; following = b.following; source = b.source ∙ ap (λ (cs : List Cell). record { text = cs; break = b.first.break } ∷ b.following) b.text }

plain-again : (above end : ℕ) (src : List Cell) (r : Result Value Fault) → plain.Told above end src r → Told style.Plain above end src r
plain-again above end src (Ok v) h = h
plain-again above end src (Err f) h = h

quoted-told : (kind : Quotes) (s : Style) (above end : ℕ) (c : Cell) (src : List Cell) (r : Result Value Fault)
    → ((v : Value) → IsQuotedAt kind end (c ∷ src) v → IsOfStyle s above end (c ∷ src) v) → ((f : Fault) → BreaksQuotedAt kind end (c ∷ src) f → BreaksStyle s above end (c ∷ src) f)
    → quoted.Told kind end c src r → Told s above end (c ∷ src) r
quoted-told kind s above end c src (Ok v) is breaks h = is v h
quoted-told kind s above end c src (Err f) is breaks h = breaks f h

joined-told : (above end : ℕ) (src : List Cell) (r : Result Value Fault) → block.Told AreJoinedLines joined joining above end src r → Told style.Literal above end src r
joined-told above end src (Ok v) h = h
joined-told above end src (Err f) h = h

folded-told : (above end : ℕ) (src : List Cell) (r : Result Value Fault) → block.Told IsFolded folded_of folding above end src r → Told style.Folded above end src r
folded-told above end src (Ok v) h = h
folded-told above end src (Err f) h = h

nothing-begins : (s : Style) (end : ℕ) → begins s (first_text (lines end [])) ≡ false
nothing-begins s end = ap (λ (ls : List Line). begins s (first_text ls)) (lines-nil end) ∙ begins-nothing s

-- what is read is in the definition, and a fault is a breach
pub tells : (s : Style) (above end : ℕ) (src : List Cell) → begins s (first_text (lines end src)) ≡ true → Told s above end src (reading s above end src)
tells style.Plain above end src h = plain-again above end src (reading style.Plain above end src) (plain.plain-told above end src (begun style.Plain end src h))
tells style.Single above end [] h = true-false _ h (nothing-begins style.Single end)
tells style.Single above end (c ∷ src) h = quoted-told Single style.Single above end c src (reading style.Single above end (c ∷ src)) (λ v i. i) (λ f i. i) (quoted.quoted-tells Single end c src)
tells style.Double above end [] h = true-false _ h (nothing-begins style.Double end)
tells style.Double above end (c ∷ src) h = quoted-told Double style.Double above end c src (reading style.Double above end (c ∷ src)) (λ v i. i) (λ f i. i) (quoted.quoted-tells Double end c src)
tells style.Literal above end src h = joined-told above end src (reading style.Literal above end src) (block.block-told AreJoinedLines joined joining above end src (headed end src (begun style.Literal end src h)))
tells style.Folded above end src h = folded-told above end src (reading style.Folded above end src) (block.block-told IsFolded folded_of folding above end src (headed end src (begun style.Folded end src h)))

-- so it decides what stands where a scalar begins
pub decides : (s : Style) (above end : ℕ) (src : List Cell) → begins s (first_text (lines end src)) ≡ true → Decides (IsOfStyle s above end src) (BreaksStyle s above end src) (reading s above end src)
decides s above end src h = record {
  stands = λ v e. subst (Told s above end src) e (tells s above end src h);
  read = λ v h. is_read s above end src v h;
  breaks = λ f e. subst (Told s above end src) e (tells s above end src h);
  told = λ f h. is_refused s above end src f h;
}
