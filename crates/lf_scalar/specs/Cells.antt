-- A source as a list of bytes with their offsets, and what a scalar is made of.
use Rattle.std.specs.Prelude.{◌≡◌, ℕ, suc, ◌+◌, List, [], ◌∷◌, ◌++◌, map, Result, Ok, Err}
use Rattle.std.specs.Str.{continuation_len}
use Rattle.lf_base.specs.declared.kind.Kind.{Kind}
use Rattle.lf_base.specs.declared.place.Span.{Span}
use Rattle.lf_base.specs.declared.refusal.Refusal.{Refusal}
use Rattle.lf_base.specs.declared.fault.Fault.{Fault}
use Rattle.lf_base.specs.Answers.{IfAt}
use Rattle.lf_base.specs.Faults.{span, fault}

-- a byte, and the source offset of what gave it
pub record Cell : Type 0 where
  pub byte : ℕ
  pub at : ℕ

abbrev pub cell : ℕ → ℕ → Cell
cell byte at = record { byte = byte; at = at }

-- the bytes of a source, each with its own offset, the first of them at an offset
abbrev pub cells : ℕ → List ℕ → List Cell
cells at [] = []
cells at (b ∷ bs) = cell b at ∷ cells (suc at) bs

abbrev pub bytes_of : List Cell → List ℕ
bytes_of cs = map (λ c. c.byte) cs

abbrev pub offsets_of : List Cell → List ℕ
offsets_of cs = map (λ c. c.at) cs

-- bytes and offsets side by side
abbrev pub zipped : List ℕ → List ℕ → List Cell
zipped [] offsets = []
zipped (b ∷ bytes) [] = []
zipped (b ∷ bytes) (at ∷ offsets) = cell b at ∷ zipped bytes offsets

-- A scalar without where it lies in memory. It doesn't say which lines it took: a reader of the lines behind it finds them from its place and, for a block scalar, whose
-- place ends with its text, from the body that specs/Block defines.
pub record Value : Type 0 where
  pub text : List ℕ
  pub from : List ℕ
  pub span : Span

-- the scalar whose text has these cells, its end given by what stands at an offset: text and offsets come from one list
abbrev pub made : List Cell → ℕ → Span → Value
made text end place = record { text = bytes_of text; from = offsets_of text ++ end ∷ []; span = place }

-- where the source of the last of some cells ends, or an offset where there is none
abbrev pub end_of : ℕ → List Cell → ℕ
end_of none [] = none
end_of none (c ∷ cs) = end_of (suc c.at) cs

-- the breach of a kind whose span is one byte
abbrev pub byte_fault : Kind → ℕ → Fault
byte_fault kind at = fault kind (span at (at + 1))

-- the breach of a kind whose span is the character that begins with a cell
abbrev pub character_fault : Kind → Cell → Fault
character_fault kind c = fault kind (span c.at (c.at + 1 + continuation_len c.byte))

infixl 10 ◌>>=◌
abbrev pub ◌>>=◌ : {A B : Type 0} → Result A Fault → (A → Result B Fault) → Result B Fault
(Ok x) >>= f = f x
(Err e) >>= f = Err e

-- some cells before what is read
abbrev pub front : List Cell → Result (List Cell) Fault → Result (List Cell) Fault
front cs read = read >>= λ more. Ok (cs ++ more)

-- unless memory ran out, what was refused is the breach that is answered
abbrev pub Fails : {Y : Type 0} → Refusal → Result Y Fault → Type 0
Fails refusal answer = IfAt refusal (λ f. answer ≡ Err f)
