use Rattle.std.proofs.Common.{◌≡◌, ℕ, List, true, Option, Some, None, nat_eq, option_copied, sym, ◌∙◌, ap}
use Rattle.std.specs.Prelude.{slice_get}
use Rattle.std.specs.Borrow.{Bor}
use Rattle.std.specs.Option.{option_eq}
use Rattle.std.proofs.lemmas.Bool.Decides.{Decides-eqb}
use Rattle.std.proofs.lemmas.Option.{same_Some}
use Rattle.lf_deps.specs.views.Index.{makers_of}
use Rattle.lf_uniform.proofs.FirstNumbers.{first_from, first_to}
use Rattle.lf_uniform.proofs.line.is_first.Goals as goal

same_to : (o : Option (Bor ℕ)) (b : Bor ℕ) → option_eq (λ x y. nat_eq x.now y.now) o (Some b) ≡ true → option_copied o ≡ Some b.now
same_to None b e = absurd (cc)
same_to (Some a) b e = ap (λ (n : ℕ). Some n) ((Decides-eqb a.now b.now).0 e)

same_from : (o : Option (Bor ℕ)) (b : Bor ℕ) → option_copied o ≡ Some b.now → option_eq (λ x y. nat_eq x.now y.now) o (Some b) ≡ true
same_from None b e = absurd (cc)
same_from (Some a) b e = (Decides-eqb a.now b.now).1 (same_Some a.now b.now e)

pub returns : goal.returns
returns c = λ rules is r at named.
    let makers : List ℕ = c.makers_of.result.now in
    let found : slice_get makers 0 ≡ slice_get (makers_of c.args.sources.now r.name) 0 =
    ap (λ (l : List ℕ). slice_get l 0) (c.makers_of.ensures ∙ ap (makers_of c.args.sources.now) (sym named)) in (
      λ same. first_from rules c.args.sources.now is c.args.number r at (sym found ∙ sym c.first.ensures.value ∙ same_to c.first.result _ (sym c.eq.ensures ∙ same)),
      λ first. c.eq.ensures ∙ same_from c.first.result _ (c.first.ensures.value ∙ found ∙ first_to rules c.args.sources.now is c.args.number r first),
    )
