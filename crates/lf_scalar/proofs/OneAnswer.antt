-- At each place where a scalar begins there is one scalar or one breach, and never both.
use Rattle.std.proofs.Common.{◌≡◌, ℕ, List, Result, Ok, Err, length, sym, ◌∙◌, ◌⊎◌}
use Rattle.std.specs.Prelude.{ℤ}
use Rattle.lf_base.specs.declared.fault.Fault.{Fault}
use Rattle.lf_base.proofs.Answering as answering
use Rattle.lf_scalar.specs.declared.scalar.Style.{Style}
use Rattle.lf_scalar.specs.Cells.{Value}
use Rattle.lf_scalar.specs.Scalars.{least_above, source_at, BeginsAt, IsScalarAt, BreaksAt}
use Rattle.lf_scalar.specs.reading.Styles.{reading}
use Rattle.lf_scalar.proofs.Laws.{is_read, is_refused, decides}

abbrev read : Value → Result Value Fault
read v = Ok v

abbrev refused : Fault → Result Value Fault
refused f = Err f

same-read : (v w : Value) → read v ≡ read w → v ≡ w
same-read v w e = cc

same-refused : (f g : Fault) → refused f ≡ refused g → f ≡ g
same-refused f g e = cc

apart : (v : Value) (f : Fault) → read v ≡ refused f → ⊥
apart v f e = cc

module _ (bytes : List ℕ) (at : ℕ) (indent : ℤ) (s : Style) where
  reads : (v : Value) → IsScalarAt bytes at indent s v → reading s (least_above indent) (length bytes) (source_at bytes at) ≡ read v
  reads v h = is_read s (least_above indent) (length bytes) (source_at bytes at) v h

  refuses : (f : Fault) → BreaksAt bytes at indent s f → reading s (least_above indent) (length bytes) (source_at bytes at) ≡ refused f
  refuses f h = is_refused s (least_above indent) (length bytes) (source_at bytes at) f h

  pub one-scalar : (v w : Value) → IsScalarAt bytes at indent s v → IsScalarAt bytes at indent s w → v ≡ w
  one-scalar v w h k = same-read v w (sym (reads v h) ∙ reads w k)

  pub one-breach : (f g : Fault) → BreaksAt bytes at indent s f → BreaksAt bytes at indent s g → f ≡ g
  one-breach f g h k = same-refused f g (sym (refuses f h) ∙ refuses g k)

  pub never-both : (v : Value) (f : Fault) → IsScalarAt bytes at indent s v → BreaksAt bytes at indent s f → ⊥
  never-both v f h k = apart v f (sym (reads v h) ∙ refuses f k)

  pub some-answer : BeginsAt bytes at s → ((v : Value) × IsScalarAt bytes at indent s v) ⊎ ((f : Fault) × BreaksAt bytes at indent s f)
  some-answer b =
      (answering.one_answer (IsScalarAt bytes at indent s) (BreaksAt bytes at indent s) (reading s (least_above indent) (length bytes) (source_at bytes at))
      (decides s (least_above indent) (length bytes) (source_at bytes at) b.1)).some
