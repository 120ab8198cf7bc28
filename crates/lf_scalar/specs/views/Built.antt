-- What the readers of the styles return. It defines nothing of scalars: what was built as a value, a fault as a refusal, and what a reader appends.
use Rattle.std.specs.Prelude.{◌≡◌, List, ◌++◌, Result, Ok, Err}
use Rattle.lf_base.specs.declared.refusal.Refusal.{Refusal}
use Rattle.lf_base.specs.declared.refusal.Refusal.TheVariants as refusal_of
use Rattle.lf_scalar.specs.declared.raw_scalar.RawScalar.{RawScalar}
use Rattle.lf_base.specs.declared.fault.Fault.{Fault}
use Rattle.lf_scalar.specs.Cells.{Cell, Value, made, Fails}

abbrev pub built : RawScalar → Value
built d = made d.builder d.end d.span

-- the refusal that tells a fault
abbrev pub refused : Fault → Refusal
refused f = refusal_of.At f.kind f.span

-- what a function that appends to a text returned, and what it did to the text, is what a reader gives, unless memory ran out
abbrev pub TextAnswers : {X : Type 0} → Result X Refusal → List Cell → List Cell → Result (List Cell) Fault → Type 0
TextAnswers (Ok x) old now read = (part : List Cell) × (read ≡ Ok part) × (now ≡ old ++ part)
TextAnswers (Err e) old now read = Fails e read
