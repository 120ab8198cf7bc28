-- Parts of flow collections, as the code tells them.
use Rattle.std.proofs.Common.{◌≡◌, Bool, true, false, cond, eqb, not, List, refl, ap, ◌∙◌, ◌&&◌, ◌||◌}
use Rattle.lf_base.specs.declared.kind.Kind.{Kind}
use Rattle.lf_base.specs.declared.kind.Kind.TheVariants.{LeftOut, NotANode}
use Rattle.lf_scalar.specs.Cells.{Cell, character_fault}
use Rattle.lf_scalar.specs.views.Built.{refused}
use Rattle.lf_scalar.specs.Plain.{is_plain_byte, before_blank}
use Rattle.lf_scalar.proofs.Tails.{true-false}
use Rattle.lf_yaml.specs.Flow.{begins_flow}

pub fault-is : (c : Cell) (b v : Bool) (k : Kind) → k ≡ cond b LeftOut NotANode → b ≡ v → refused (character_fault k c) ≡ refused (cond v (character_fault LeftOut c) (character_fault NotANode c))
fault-is c b v k e h = ap (λ (x : Kind). refused (character_fault x c)) e ∙ by b ∙ ap (λ (x : Bool). refused (cond x (character_fault LeftOut c) (character_fault NotANode c))) h
  where
    by : (b : Bool) → refused (character_fault (cond b LeftOut NotANode) c) ≡ refused (cond b (character_fault LeftOut c) (character_fault NotANode c))
    by true = refl
    by false = refl

pub flow-by : (c : Cell) (cs : List Cell) (p s d : Bool) → is_plain_byte c ≡ p → eqb c.byte 45 ≡ s → before_blank cs ≡ d → begins_flow c cs ≡ (p || (s && not d))
flow-by c cs p s d e f g =
    ap (λ (q : Bool). q || (eqb c.byte 45 && not (before_blank cs))) e ∙ ap (λ (q : Bool). p || (q && not (before_blank cs))) f ∙ ap (λ (q : Bool). p || (s && not q)) g

pub or-first : (result v x : Bool) → result ≡ v → result ≡ true → result ≡ (v || x)
or-first result true x e t = e
or-first result false x e t = true-false result t e

pub or-second : (b r v x : Bool) → b ≡ v → b ≡ false → r ≡ x → r ≡ (v || x)
or-second b r true x e f h = true-false b e f
or-second b r false x e f h = h
