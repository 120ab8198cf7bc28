-- The four clauses of a reader and the law that it has one answer, from a way of reading that decides.
use Rattle.std.proofs.Common.{◌≡◌, ◌⊎◌, inl, inr, ℕ, Result, Ok, Err, refl, sym, ◌∙◌, subst}
use Rattle.lf_base.specs.declared.fault.Fault.{Fault}
use Rattle.lf_base.specs.declared.refusal.Refusal.{Refusal}
use Rattle.lf_base.specs.declared.refusal.Refusal.TheVariants.{At, Memory}
use Rattle.lf_base.specs.Faults.{fault, LiesIn}
use Rattle.lf_base.specs.Answers.{AnswersAs, Found, Only, Refused, Breach, RefusedIn, OneAnswer}

-- a way of reading that finds what the text stands for, or the breach that is told, in both directions
pub record Decides {Y : Type 0} (Stands : Y → Type 0) (Breaks : Fault → Type 0) (reading : Result Y Fault) : Type 0 where
  pub stands : (y : Y) → reading ≡ Ok y → Stands y
  pub read : (y : Y) → Stands y → reading ≡ Ok y
  pub breaks : (f : Fault) → reading ≡ Err f → Breaks f
  pub told : (f : Fault) → Breaks f → reading ≡ Err f

pub same_value : {Y : Type 0} (x y : Y) → ◌≡◌ {A = Result Y Fault} (Ok x) (Ok y) → x ≡ y
same_value x y e = cc

pub same_fault : {Y : Type 0} (f g : Fault) → ◌≡◌ {A = Result Y Fault} (Err f) (Err g) → f ≡ g
same_fault f g e = cc

never_both : {Y : Type 0} (y : Y) (f : Fault) → ◌≡◌ {A = Result Y Fault} (Ok y) (Err f) → ⊥
never_both y f e = cc

module _ {X Y : Type 0} (view : X → Y) (Stands : Y → Type 0) (Breaks : Fault → Type 0) (reading : Result Y Fault) (decides : Decides Stands Breaks reading) where
  pub found : (r : Result X Refusal) → AnswersAs view r reading → Found view Stands r
  found (Ok x) g = decides.stands (view x) g
  found (Err e) g = tt

  pub only : (r : Result X Refusal) → AnswersAs view r reading → Only view Stands r
  only r g y stands = subst (AnswersAs view r) (decides.read y stands) g

  pub refused : (r : Result X Refusal) → AnswersAs view r reading → Refused Breaks r
  refused (Ok x) g = tt
  refused (Err Memory) g = tt
  refused (Err (At kind span)) g = decides.breaks (fault kind span) g

  pub breach : (r : Result X Refusal) → AnswersAs view r reading → Breach view Breaks r
  breach r g f breaks = subst (AnswersAs view r) (decides.told f breaks) g

-- where each breach lies in the source, so does the span of a refusal
pub refused_in : {X : Type 0} (n : ℕ) (Breaks : Fault → Type 0) → ((f : Fault) → Breaks f → LiesIn n f.span) → (r : Result X Refusal) → Refused Breaks r → RefusedIn n r
refused_in n Breaks lies (Ok x) h = tt
refused_in n Breaks lies (Err Memory) h = tt
refused_in n Breaks lies (Err (At kind span)) h = lies (fault kind span) h

module _ {Y : Type 0} (Stands : Y → Type 0) (Breaks : Fault → Type 0) (reading : Result Y Fault) (decides : Decides Stands Breaks reading) where
  pub one_answer : OneAnswer Stands Breaks
  one_answer = record {
    value = λ x y h k. same_value x y (sym (decides.read x h) ∙ decides.read y k);
    breach = λ f g h k. same_fault f g (sym (decides.told f h) ∙ decides.told g k);
    one = λ x f h k. never_both x f (sym (decides.read x h) ∙ decides.told f k);
    some = by reading refl;
  }
    where
      by : (r : Result Y Fault) → reading ≡ r → ((x : Y) × Stands x) ⊎ ((f : Fault) × Breaks f)
      by (Ok y) e = inl (y, decides.stands y e)
      by (Err f) e = inr (f, decides.breaks f e)
