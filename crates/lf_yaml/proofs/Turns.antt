-- What one turn over rows tells: a part that begins, that no more stand, or a breach.
use Rattle.std.proofs.Common.{◌≡◌, Option, Some, None, Result, Ok, Err}
use Rattle.lf_base.specs.declared.fault.Fault.{Fault}

abbrev pub Turn : Type 0 → Type 0
Turn X = Result (Option X) Fault

module _ {X : Type 0} where
  abbrev pub some : X → Turn X
  some x = Ok (Some x)

  abbrev pub over : Turn X
  over = Ok None

  abbrev pub wrong : Fault → Turn X
  wrong f = Err f

  pub over-some : (x : X) → over ≡ some x → ⊥
  over-some x e = cc

  pub wrong-some : (f : Fault) (x : X) → wrong f ≡ some x → ⊥
  wrong-some f x e = cc

  pub over-wrong : (f : Fault) → over ≡ wrong f → ⊥
  over-wrong f e = cc

  pub some-wrong : (f : Fault) (x : X) → some x ≡ wrong f → ⊥
  some-wrong f x e = cc

  pub wrong-over : (f : Fault) → wrong f ≡ over → ⊥
  wrong-over f e = cc

  pub some-over : (x : X) → some x ≡ over → ⊥
  some-over x e = cc

  pub same-some : (x y : X) → some x ≡ some y → x ≡ y
  same-some x y e = cc

  pub same-wrong : (f g : Fault) → wrong f ≡ wrong g → f ≡ g
  same-wrong f g e = cc
