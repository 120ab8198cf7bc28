-- How a row begins as a scalar, by its first byte.
use Rattle.std.proofs.Common.{◌≡◌, ◌≢◌, ◌<◌, Bool, length, get_or, refl, ap, sym, ◌∙◌}
use Rattle.std.proofs.lemmas.Bool.{ne_eqb}
use Rattle.lf_scalar.specs.declared.scalar.Style.{Style}
use Rattle.lf_scalar.specs.declared.scalar.Style.TheVariants as style
use Rattle.lf_scalar.specs.Cells.{Cell, cells}
use Rattle.lf_scalar.specs.Plain.{begins_plain}
use Rattle.lf_scalar.specs.Scalars.{begins}
use Rattle.lf_yaml.specs.Rows.{text_of}
use Rattle.lf_yaml.specs.Heads.{style_of}
use Rattle.lf_yaml.specs.views.Shown.{shown}
use Rattle.lf_yaml.specs.declared.row.ContentLine.{ContentLine}
use Rattle.lf_yaml.proofs.RowCode.{text-shown}

plain-style : (c : Cell) → c.byte ≢ 124 → c.byte ≢ 62 → c.byte ≢ 39 → c.byte ≢ 34 → style_of c ≡ style.Plain
plain-style c p q s t = rw (ne_eqb c.byte 124 p, ne_eqb c.byte 62 q, ne_eqb c.byte 39 s, ne_eqb c.byte 34 t) refl

pub styled-plain : (r : ContentLine) (result : Bool) → 0 < length r.text.now → get_or r.text.now 0 0 ≢ 124 → get_or r.text.now 0 0 ≢ 62 → get_or r.text.now 0 0 ≢ 39 → get_or r.text.now 0 0 ≢ 34
    → result ≡ begins_plain (cells r.at r.text.now) → result ≡ begins (style_of (shown r).first) (text_of (shown r))
styled-plain r result lt p q s t h =
    h ∙ ap begins_plain (sym (text-shown r lt)) ∙ ap (λ (x : Style). begins x (text_of (shown r))) (sym (plain-style (shown r).first p q s t))
