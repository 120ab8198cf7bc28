-- A sample without its metric name, as that label is taken out.
use Rattle.std.proofs.Common.{◌≡◌, Bool, true, false, cond, not, Option, None, refl, sym, ap, ◌∙◌}
use Rattle.std.specs.Cmp.Lexicographic.{nat_list_cmp_total}
use Rattle.std.specs.FinMap.{get, get-remove, get-retain_keys, nat_cmp-IsAntisymmetric, remove, same_map, slice_cmp-IsAntisymmetric}
use Rattle.std.proofs.lemmas.Map.Text.{is_eq-slice_cmp}
use Rattle.lf_ast.specs.Labels.{Bytes, Labels}
use Rattle.lf_ast.specs.Selectors.{metric}
use Rattle.lf_semantics.specs.Grouped.{is_metric, without_name}

turned : (b : Bool) (o : Option Bytes) → cond (not b) o None ≡ cond b None o
turned true o = refl
turned false o = refl

pub name_taken_out : (s : Labels) → remove s metric ≡ without_name s
name_taken_out s = same_map nat_list_cmp_total (slice_cmp-IsAntisymmetric nat_cmp-IsAntisymmetric) _ _ (λ q.
    get-remove nat_list_cmp_total s metric q
    ∙ ap (λ b. cond b None (get s q)) (is_eq-slice_cmp q metric)
    ∙ sym (get-retain_keys s (λ label. not (is_metric label)) q (λ x tied. ap (λ (label : Bytes). not (is_metric label)) (sym (slice_cmp-IsAntisymmetric nat_cmp-IsAntisymmetric q x tied))) ∙ turned (is_metric q) (get s q)))
