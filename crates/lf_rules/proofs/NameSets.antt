-- A set that holds some names, and one more.
use Rattle.std.proofs.Common.{◌≡◌, Bool, true, false, not, cond, List, [], ◌∷◌, Some, None, Option, refl, sym, ap, ◌∙◌}
use Rattle.std.specs.List.{list_any}
use Rattle.std.specs.Str.{bytes_eq}
use Rattle.lf_base.specs.declared.kind.Kind.TheVariants.{DoubleGroup}
use Rattle.lf_scalar.specs.Cells.{Value}
use Rattle.lf_base.specs.declared.fault.Fault.{Fault}
use Rattle.lf_base.specs.declared.name_set.NameSet.{NameSet}
use Rattle.lf_base.specs.Names.{Bytes}
use Rattle.lf_base.specs.Faults.{fault}
use Rattle.lf_base.specs.views.NameSets.{has, HasNames}
use Rattle.lf_yaml.specs.Tree.{Tree}
use Rattle.lf_rules.specs.reading.Files.{name_of, with_name, names_faults, again_faults, least_from, lesser}
use Rattle.lf_rules.proofs.Folded.{least_both}

-- the fault of a name that was added, by whether it was new
again_if : (old : NameSet) (names : List Bytes) (v : Value) (b : Bool) → HasNames old names → b ≡ not (has old v.text) → again_faults names (Some v) ≡ cond b [] (fault DoubleGroup v.span ∷ [])
again_if old names v b h e = by (list_any (bytes_eq v.text) names) (e ∙ ap not (h v.text))
  where
    by : (a : Bool) → b ≡ not a → cond a (fault DoubleGroup v.span ∷ []) [] ≡ cond b [] (fault DoubleGroup v.span ∷ [])
    by true e = ap (λ x. cond x [] (fault DoubleGroup v.span ∷ [])) (sym e)
    by false e = ap (λ x. cond x [] (fault DoubleGroup v.span ∷ [])) (sym e)

pub again_noted : (old : NameSet) (names : List Bytes) (v : Value) (g : Option Value) (b : Bool) (first now : Option Fault) → Some v ≡ g → HasNames old names → b ≡ not (has old v.text) → b ≡ false → now ≡ lesser first (fault DoubleGroup v.span) → now ≡ least_from first (again_faults names g)
unfolding least_from
again_noted old names v g b first now i h e f n = n ∙ ap (λ x. least_from first (cond x [] (fault DoubleGroup v.span ∷ []))) (sym f) ∙ ap (least_from first) (sym (again_if old names v b h e)) ∙ ap (λ x. least_from first (again_faults names x)) i

pub again_new : (old : NameSet) (names : List Bytes) (v : Value) (g : Option Value) (b : Bool) (first : Option Fault) → Some v ≡ g → HasNames old names → b ≡ not (has old v.text) → b ≡ true → first ≡ least_from first (again_faults names g)
unfolding least_from
again_new old names v g b first i h e f = ap (λ x. least_from first (cond x [] (fault DoubleGroup v.span ∷ []))) (sym f) ∙ ap (least_from first) (sym (again_if old names v b h e)) ∙ ap (λ x. least_from first (again_faults names x)) i

pub again_none : (names : List Bytes) (g : Option Value) (first : Option Fault) → None ≡ g → first ≡ least_from first (again_faults names g)
unfolding least_from
again_none names g first i = ap (λ x. least_from first (again_faults names x)) i

-- the names behind it
pub names_step : (names : List Bytes) (t : Tree) (ts : List Tree) (first now whole : Option Fault) → now ≡ least_from first (again_faults names (name_of t)) → least_from first (names_faults names (t ∷ ts)) ≡ whole → least_from now (names_faults (with_name names (name_of t)) ts) ≡ whole
unfolding names_faults
names_step names t ts first now whole e h =
    ap (λ w. least_from w (names_faults (with_name names (name_of t)) ts)) e ∙ sym (least_both first (again_faults names (name_of t)) (names_faults (with_name names (name_of t)) ts)) ∙ h

pub names_ended : (names : List Bytes) (first : Option Fault) → least_from first (names_faults names []) ≡ first
unfolding names_faults least_from
names_ended names first = refl
