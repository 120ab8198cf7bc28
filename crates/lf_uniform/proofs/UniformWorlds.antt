-- What is shared, and the texts with the presence, make the uniform world, or show that there is none.
use Rattle.std.proofs.Common.{◌≡◌, ◌≢◌, ◌<◌, ◌≤◌, inl, inr, ℕ, Bool, true, false, not, ◌||◌, List, length, Option, Some, None, refl, sym, ◌∙◌, ap, subst, true≢false, arith, get_or-set_other, get_or-set_same}
use Rattle.std.proofs.Math.ListN.{length-set, set}
use Rattle.std.proofs.Math.Path.{fun_ext}
use Rattle.std.specs.Prelude.{slice_get, option_map}
use Rattle.std.specs.List.{find}
use Rattle.std.specs.Option.{option_map_or}
use Rattle.std.specs.Str.{bytes_eq}
use Rattle.std.proofs.lemmas.Bool.{cases_eq}
use Rattle.lf_laws.proofs.Options.{same_option}
use Rattle.lf_laws.proofs.Members.{other_false, same_true}
use Rattle.lf_ast.specs.Labels.{Bytes, Labels}
use Rattle.lf_ast.specs.Rules.{RuleTree}
use Rattle.lf_classes.specs.Limits.{IsWithin}
use Rattle.lf_semantics.specs.Listing.{Listing, label_of}
use Rattle.lf_candidates.specs.views.ClassTexts.{IsClass, Stands, StandsAt, class_at, name_at, text_at}
use Rattle.lf_candidates.proofs.Labelled.{label_at}
use Rattle.lf_trials.specs.Candidates.{candidates, has_presence}
use Rattle.lf_trials.specs.Follow.{Followed, follow_from}
use Rattle.lf_trials.specs.Given.{Given}
use Rattle.lf_trials.specs.Reached.{IsReach, Trial, with_reach}
use Rattle.lf_trials.specs.Selected.{selected_by}
use Rattle.lf_trials.specs.Uniform.{IsUniform, SelectsCyclic, has_texts, passes_over, uniform_series, uniform_texts}
use Rattle.lf_trials.proofs.OneVerdict.{one_reach}
use Rattle.lf_uniform.specs.declared.texts.WantedPresence.TheVariants.{Anything}
use Rattle.lf_uniform.specs.views.Texts.{comes_out, first_texts, is_followed, wanted_for}
use Rattle.lf_uniform.specs.views.Worlds.{IsSharedBy}

-- the texts

module _ (u : Listing) (rules : List RuleTree) (i : ℕ) (own : RuleTree) (label : Bytes) (presence : Bool) where
  other_taken : (b : Bool) (o : Followed) → b ≡ false → comes_out Anything o ≡ option_map_or (λ followed. not b || has_presence presence followed) o false
  other_taken true o e = absurd (true≢false e)
  other_taken false None e = refl
  other_taken false (Some text) e = refl

  pub text_of_other : (name : Bytes) → bytes_eq name label ≡ false → first_texts u rules i own name ≡ uniform_texts u rules i own label presence name
  text_of_other name differs = ap (λ (test : Bytes → Bool). find test (candidates u name)) (fun_ext (λ text. other_taken (bytes_eq name label) (follow_from u rules name text i own) differs))

  wanted_is : (p : Bool) (text : Bytes) → comes_out (wanted_for p) (Some text) ≡ has_presence p text
  wanted_is true text = refl
  wanted_is false text = refl

  own_taken : (b : Bool) (o : Followed) → b ≡ true → comes_out (wanted_for presence) o ≡ option_map_or (λ followed. not b || has_presence presence followed) o false
  own_taken false o e = absurd (true≢false (sym e))
  own_taken true None e = refl
  own_taken true (Some text) e = wanted_is presence text

  pub text_of_own : find (is_followed u rules i own (wanted_for presence) label) (candidates u label) ≡ uniform_texts u rules i own label presence label
  text_of_own = ap (λ (test : Bytes → Bool). find test (candidates u label)) (fun_ext (λ text. own_taken (bytes_eq label label) (follow_from u rules label text i own) (same_true label label refl)))

-- with the one of the label in question
pub stands_with : (u : Listing) (within : IsWithin u) (rules : List RuleTree) (i : ℕ) (own : RuleTree) (presence : Bool) (l : ℕ) (class : Option ℕ) (classes : List (Option ℕ)) → l < length u.named → Stands u classes (first_texts u rules i own) → IsClass u l class
    → option_map (text_at u l) class ≡ find (is_followed u rules i own (wanted_for presence) (name_at u l)) (candidates u (name_at u l)) → Stands u (set classes l class) (uniform_texts u rules i own (name_at u l) presence)
stands_with u within rules i own presence l class classes less stands is_class is = record {
  count = length-set classes l class ∙ stands.count;
  each = λ j less_j. elim (cases_eq j l) [
    | inl same ↦ subst (λ k. StandsAt u k (class_at (set classes l class) k) D) (sym same) (subst (λ (o : Option ℕ). StandsAt u l o D) (sym here) (is_class, sym (is ∙ text_of_own u rules i own (name_at u l) presence)))
    | inr other ↦ subst (λ (o : Option ℕ). StandsAt u j o D) (sym (there j other))
        (let old = stands.each j less_j in (old.0, sym (text_of_other u rules i own (name_at u l) presence (name_at u j) (differ j less_j other)) ∙ old.1))
  ];
}
  where
    D : Given
    D = uniform_texts u rules i own (name_at u l) presence

    inside : l < length classes
    inside = omega (arith, less, stands.count)

    here : class_at (set classes l class) l ≡ class
    here = get_or-set_same classes l class None inside

    there : (j : ℕ) → j ≢ l → class_at (set classes l class) j ≡ class_at classes j
    there j ne = get_or-set_other classes l j class None (λ e. absurd (ne (let z : j ≡ l = omega (arith, e) in z)))

    differ : (j : ℕ) → j < length u.named → j ≢ l → bytes_eq (name_at u j) (name_at u l) ≡ false
    differ j less_j ne = other_false (name_at u j) (name_at u l) (λ e. ne (sym (label_at u within j less_j) ∙ ap (label_of u) e ∙ label_at u within l less))

-- the world

module _ (u : Listing) (rules : List RuleTree) (i : ℕ) (label : Bytes) (presence : Bool) (own : RuleTree) (at : slice_get rules i ≡ Some own) (reach : List ℕ) (is_reach : IsReach rules own.expr reach) where
  own_is : (t : Trial) (w : IsUniform u rules i label presence t) → w.rule ≡ own
  own_is t w = same_option (slice_get rules i) w.rule own w.is_rule at

  reach_is : (t : Trial) (w : IsUniform u rules i label presence t) → w.reach ≡ reach
  reach_is t w = one_reach rules own.expr w.reach reach (subst (λ (r : RuleTree). IsReach rules r.expr w.reach) (own_is t w) w.is_reach) is_reach

  pub none_shared : IsSharedBy u rules i reach own None → (t : Trial) → IsUniform u rules i label presence t → ⊥
  none_shared none t w = none (subst (λ (js : List ℕ). length js ≤ 256) (reach_is t w) w.few) (subst (λ (js : List ℕ). SelectsCyclic rules (with_reach i js) → ⊥) (reach_is t w) w.no_cycle)

  pub a_world : length reach ≤ 256 → (SelectsCyclic rules (with_reach i reach) → ⊥) → has_texts u (uniform_texts u rules i own label presence) ≡ true → (series : List Labels) (steps : List ℕ)
      → series ≡ uniform_series u rules (selected_by rules (with_reach i reach)) (uniform_texts u rules i own label presence) → steps ≡ passes_over reach → IsUniform u rules i label presence (record { series = series; steps = steps })
  a_world few no_cycle texts series steps is_series are_steps = record {
    rule = own;
    is_rule = at;
    reach = reach;
    is_reach = is_reach;
    few = few;
    no_cycle = no_cycle;
    texts = texts;
    is_trial = cc;
  }
