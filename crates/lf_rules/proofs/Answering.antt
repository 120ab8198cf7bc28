-- The way of reading answers with the rules of the definition, or with the breach that is told.
use Rattle.std.proofs.Common.{◌≡◌, List, [], ◌∷◌, Option, Some, None, Result, Ok, Err, refl, sym, subst, ap, ◌∙◌}
use Rattle.std.specs.Prelude.{IsErr}
use Rattle.std.specs.List.{Contains}
use Rattle.lf_base.specs.declared.fault.Fault.{Fault}
use Rattle.lf_base.specs.declared.refusal.Refusal.{Refusal}
use Rattle.lf_base.specs.Answers.{AnswersAs, OneAnswer}
use Rattle.lf_base.proofs.Answering.{Decides, same_fault, same_value}
use Rattle.lf_base.proofs.Least.{Least, only_one}
use Rattle.lf_base.proofs.Answering as answering
use Rattle.lf_laws.proofs.Members.{here, none_in}
use Rattle.lf_yaml.specs.Tree.{Tree}
use Rattle.lf_rules.specs.Rules.{IsRules}
use Rattle.lf_rules.specs.Sources.{Source}
use Rattle.lf_rules.specs.Breaches.{Breaks, FirstBreak}
use Rattle.lf_rules.specs.reading.Files.{faults, sources, least_from, reading_from, reading}
use Rattle.lf_rules.proofs.Laws.{told_is, breaks_in, breaks_out}
use Rattle.lf_rules.proofs.FileReadings.{file_stands, file_clean}
use Rattle.lf_rules.proofs.Times.{time_decides, limit_decides}

-- nothing that is told, no faults
pub no_faults : (t : Tree) → least_from None (faults t) ≡ None → faults t ≡ []
no_faults t e = by (faults t) (λ f c. none f (breaks_out time_decides limit_decides t f c))
  where
    none : (f : Fault) → Breaks t f → ⊥
    none = subst (Least (Breaks t)) e (told_is time_decides limit_decides t)

    by : (fs : List Fault) → ((f : Fault) → Contains fs f → ⊥) → fs ≡ []
    by [] h = refl
    by (f ∷ fs) h = absurd (h f (here f fs))

reading_stands : (t : Tree) (rs : List Source) → reading t ≡ Ok rs → IsRules t rs
reading_stands t rs e = by (least_from None (faults t)) refl e
  where
    by : (first : Option Fault) → least_from None (faults t) ≡ first → reading_from t first ≡ Ok rs → IsRules t rs
    by None is h = subst (IsRules t) (same_value (sources t) rs h) (file_stands time_decides limit_decides t (no_faults t is))
    by (Some f) is h = absurd (cc)

reading_rules : (t : Tree) (rs : List Source) → IsRules t rs → reading t ≡ Ok rs
unfolding least_from
reading_rules t rs i = by (file_clean time_decides limit_decides t rs i)
  where
    by : (faults t ≡ []) × (rs ≡ sources t) → reading t ≡ Ok rs
    by c = ap (λ fs. reading_from t (least_from None fs)) c.0 ∙ ap (λ x. Ok x) (sym c.1)

reading_breaks : (t : Tree) (f : Fault) → reading t ≡ Err f → FirstBreak t f
reading_breaks t f e = by (least_from None (faults t)) (told_is time_decides limit_decides t) e
  where
    by : (first : Option Fault) → Least (Breaks t) first → reading_from t first ≡ Err f → FirstBreak t f
    by None is h = absurd (cc)
    by (Some g) is h = subst (FirstBreak t) (same_fault g f h) is

reading_told : (t : Tree) (f : Fault) → FirstBreak t f → reading t ≡ Err f
reading_told t f b = by (least_from None (faults t)) (told_is time_decides limit_decides t)
  where
    by : (first : Option Fault) → Least (Breaks t) first → reading_from t first ≡ Err f
    by None none = absurd (none f b.0)
    by (Some g) is = ap (λ x. Err x) (only_one g f (b.1 g is.0) (is.1 f b.0))

pub decides : (t : Tree) → Decides (IsRules t) (FirstBreak t) (reading t)
decides t = record { stands = reading_stands t; read = reading_rules t; breaks = reading_breaks t; told = reading_told t }

pub one_answer : (t : Tree) → OneAnswer (IsRules t) (FirstBreak t)
one_answer t = answering.one_answer (IsRules t) (FirstBreak t) (reading t) (decides t)

-- rules, and no breach at all
pub rules_or_fault : (t : Tree) (rs : List Source) (f : Fault) → IsRules t rs → Breaks t f → ⊥
rules_or_fault t rs f a b = none_in f (subst (λ fs. Contains fs f) (file_clean time_decides limit_decides t rs a).0 (breaks_in time_decides limit_decides t f b))

-- ---- what a function that answers so ensures

module _ {X : Type 0} (view : X → List Source) (t : Tree) where
  pub broken : (r : Result X Refusal) → AnswersAs view r (reading t) → (f : Fault) → Breaks t f → IsErr r
  broken (Ok x) g f b = absurd (rules_or_fault t (view x) f (reading_stands t (view x) g) b)
  broken (Err e) g f b = refl
