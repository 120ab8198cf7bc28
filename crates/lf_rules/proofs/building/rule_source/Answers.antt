use Rattle.std.proofs.Common.{◌≡◌, ℕ, Bool, List, refl, sym, ap, ◌∙◌, subst}
use Rattle.lf_scalar.specs.Cells.{Value}
use Rattle.lf_rules.specs.Sources.{Source, Setting}
use Rattle.lf_rules.specs.reading.Files.{SetsLeaves, settings_of}
use Rattle.lf_rules.proofs.building.rule_source.Goals as goal

abbrev made : Bool → Value → Value → List Setting → List Setting → ℕ → Source
made alert name expr labels annotations group = record { alert = alert; name = name; expr = expr; labels = labels; annotations = annotations; group = group }

same : (a b : Bool) (n m x y : Value) (l k i j : List Setting) (g : ℕ) → a ≡ b → n ≡ m → x ≡ y → l ≡ k → i ≡ j → made a n x l i g ≡ made b m y k j g
same a b n m x y l k i j g e f h o p = rw (e, f, h, o, p) refl

pub settings-requires : goal.settings-requires
settings-requires c = subst SetsLeaves (sym c.given.ensures) c.requires.labels

pub settings-requires-2 : goal.settings-requires-2
settings-requires-2 c = subst SetsLeaves (sym c.given-2.ensures) c.requires.annotations

pub returns : goal.returns
returns c =
    same _ _ _ _ _ _ _ _ _ _ c.args.group c.is_alert.ensures c.rule_name.ensures c.scalar_at.ensures
    (c.in_ok-labels.ensures ∙ ap settings_of c.given.ensures) (c.in_ok-annotations.ensures ∙ ap settings_of c.given-2.ensures)
