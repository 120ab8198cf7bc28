-- The texts of a label set of which some labels are kept.
use Rattle.std.proofs.Common.{◌≡◌, Bool, true, false, cond, [], Option, None, refl, sym, ◌∙◌, ap}
use Rattle.std.specs.Option.{unwrap_or}
use Rattle.std.specs.FinMap.{get, get-retain_keys, slice_cmp-IsAntisymmetric, nat_cmp-IsAntisymmetric}
use Rattle.lf_ast.specs.Labels.{Bytes, Labels}
use Rattle.lf_semantics.specs.Texts.{restricted, value_of}

after_cond : (b : Bool) (o : Option Bytes) → unwrap_or (cond b o None) [] ≡ cond b (unwrap_or o []) []
after_cond true o = refl
after_cond false o = refl

pub value-restricted : (keeps : Bytes → Bool) (s : Labels) (name : Bytes) → value_of (restricted keeps s) name ≡ cond (keeps name) (value_of s name) []
value-restricted keeps s name =
    ap (λ o. unwrap_or o []) (get-retain_keys s keeps name (λ x e. ap keeps (sym (slice_cmp-IsAntisymmetric nat_cmp-IsAntisymmetric name x e))))
    ∙ after_cond (keeps name) (get s name)
