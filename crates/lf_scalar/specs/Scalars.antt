-- A scalar of each style at a place of a file, and what breaks one.
use Rattle.std.specs.Prelude.{◌≡◌, ℕ, suc, List, [], ◌∷◌, length, drop, Bool, true, ℤ, pos, negsuc}
use Rattle.std.specs.Str.{IsCharBoundary}
use Rattle.lf_scalar.specs.declared.scalar.Scalar.{Scalar}
use Rattle.lf_scalar.specs.declared.scalar.Style.{Style}
use Rattle.lf_scalar.specs.declared.scalar.Style.TheVariants as style
use Rattle.lf_base.specs.declared.fault.Fault.{Fault}
use Rattle.lf_scalar.specs.Cells.{Cell, cells, Value}
use Rattle.lf_scalar.specs.Lines.{lines, first_text, begins_with}
use Rattle.lf_scalar.specs.Plain.{IsPlainScalar, BreaksPlain, begins_plain}
use Rattle.lf_scalar.specs.Quoted.{Quotes, Single, Double, IsQuoted, BreaksQuoted}
use Rattle.lf_scalar.specs.Block.{IsBlock, BreaksBlock, AreJoinedLines, IsFolded}

-- a scalar without where it lies in memory
abbrev pub value : Scalar → Value
value s = record { text = s.text; from = s.from; span = s.span }

-- how many spaces an indent above this one has at least; -1 stands for the indent of what is above the root, and so does any indent below it
abbrev pub least_above : ℤ → ℕ
least_above (pos n) = suc n
least_above (negsuc n) = 0

-- how a scalar of a style begins
abbrev pub begins : Style → List Cell → Bool
begins style.Plain text = begins_plain text
begins style.Single text = begins_with 39 text
begins style.Double text = begins_with 34 text
begins style.Literal text = begins_with 124 text
begins style.Folded text = begins_with 62 text

-- a scalar between quotes, the first of which a source begins with
abbrev pub IsQuotedAt : Quotes → ℕ → List Cell → Value → Type 0
IsQuotedAt kind end [] v = ⊥
IsQuotedAt kind end (opening ∷ src) v = IsQuoted kind end opening src v

abbrev pub BreaksQuotedAt : Quotes → ℕ → List Cell → Fault → Type 0
BreaksQuotedAt kind end [] f = ⊥
BreaksQuotedAt kind end (opening ∷ src) f = BreaksQuoted kind end opening src f

-- a source that ends at an offset begins with this scalar
abbrev pub IsOfStyle : Style → ℕ → ℕ → List Cell → Value → Type 0
IsOfStyle style.Plain above end src v = IsPlainScalar above end src v
IsOfStyle style.Single above end src v = IsQuotedAt Single end src v
IsOfStyle style.Double above end src v = IsQuotedAt Double end src v
IsOfStyle style.Literal above end src v = IsBlock AreJoinedLines above end src v
IsOfStyle style.Folded above end src v = IsBlock IsFolded above end src v

abbrev pub BreaksStyle : Style → ℕ → ℕ → List Cell → Fault → Type 0
BreaksStyle style.Plain above end src f = BreaksPlain above end src f
BreaksStyle style.Single above end src f = BreaksQuotedAt Single end src f
BreaksStyle style.Double above end src f = BreaksQuotedAt Double end src f
BreaksStyle style.Literal above end src f = BreaksBlock above end src f
BreaksStyle style.Folded above end src f = BreaksBlock above end src f

-- the bytes of a file from an offset on
abbrev pub source_at : List ℕ → ℕ → List Cell
source_at bytes at = cells at (drop at bytes)

-- A scalar of this style begins at an offset of a file: a character begins there, and it is one that such a scalar begins with. Whoever asks for the scalar at an offset
-- knows this.
abbrev pub BeginsAt : List ℕ → ℕ → Style → Type 0
BeginsAt bytes at s = IsCharBoundary bytes at × (begins s (first_text (lines (length bytes) (source_at bytes at))) ≡ true)

-- The scalar of a style at an offset of a file, as a value with a parent indent. It means a scalar only where `BeginsAt` holds: where no scalar begins, what stands there
-- has no meaning.
abbrev pub IsScalarAt : List ℕ → ℕ → ℤ → Style → Value → Type 0
IsScalarAt bytes at indent s v = IsOfStyle s (least_above indent) (length bytes) (source_at bytes at) v

-- What breaks a scalar of a style there, likewise. It is the first breach: each rule of the definitions below tells the same place only behind lines, marks or pieces that
-- stand. So there is one breach or one scalar, and never both (proofs/OneAnswer).
abbrev pub BreaksAt : List ℕ → ℕ → ℤ → Style → Fault → Type 0
BreaksAt bytes at indent s f = BreaksStyle s (least_above indent) (length bytes) (source_at bytes at) f
