-- What is built for an expression gives one sample with the texts that are given: constructs of one operand.
use Rattle.std.proofs.Common.{◌≡◌, ◌⊎◌, inl, inr, ℕ, Bool, true, false, cond, eqb, List, [], ◌∷◌, Option, Some, refl, sym, ◌∙◌, ap, subst, arith, option_and_then}
use Rattle.std.specs.List.{Contains}
use Rattle.std.specs.Str.{bytes_eq}
use Rattle.lf_laws.proofs.Booleans.{clash}
use Rattle.lf_laws.proofs.Members.{here, none_in, only_one, same_true, true_same}
use Rattle.lf_ast.specs.Labels.{Bytes, Labels}
use Rattle.lf_ast.specs.Rules.{RuleTree}
use Rattle.lf_ast.specs.Selectors.{metric}
use Rattle.lf_semantics.specs.ClassRows.{HasShape, Represents, Sets, only_empty, top}
use Rattle.lf_semantics.specs.Evaluation.{AreMade, bare}
use Rattle.lf_semantics.specs.Listing.{IsListing, Listing, class_of, label_of}
use Rattle.lf_semantics.specs.RowTable.{bare_row}
use Rattle.lf_semantics.specs.Texts.{HasTexts, value_of}
use Rattle.lf_semantics.proofs.EffectsRepresent.{represents_bare}
use Rattle.lf_semantics.proofs.LabelTexts.{value-bare}
use Rattle.lf_semantics.proofs.Places.{class_of_some}
use Rattle.lf_semantics.proofs.RowLaws.{represents_only_empty}
use Rattle.lf_semantics.proofs.GivenTexts.{bare_has_texts}
use Rattle.lf_witness.specs.Strict.{MadeApart, Outcomes}
use Rattle.lf_witness.proofs.SameSets.{same_itself}
use Rattle.lf_trials.specs.Building.{Builder, Building, nothing}
use Rattle.lf_trials.specs.Given.{Given, completed, completed_by, losing}
use Rattle.lf_shown.specs.Agreement.{Gives, MetricNames}
use Rattle.lf_shown.proofs.Rows.{replaced_held, replaced_passes, replaced_was_live}
use Rattle.lf_shown.proofs.Choices.{AtMostOne, Gave, HoldsGiven, In, IsSmall, IsTotal, completed_holds, completed_is, completed_keeps, completed_total, kept_given, of_losing}
use Rattle.lf_shown.proofs.Worlds.{gives_mapped}

-- ---- sets of one sample, or of none

-- what becomes of the one sample alone
pub one_made : (becomes : Labels → Labels → Type 0) (s r : Labels) → becomes s r → AreMade becomes (s ∷ []) (r ∷ [])
one_made becomes s r is = (
  λ t c. (r, subst (λ x. becomes x r) (only_one s t c) is, here r []),
  λ t c. (s, here s [], subst (becomes s) (only_one r t c) is),
)

pub one_apart : (becomes : Labels → Labels → Type 0) (s r : Labels) → becomes s r → MadeApart becomes (s ∷ []) (Some (r ∷ []))
one_apart becomes s r is = (one_made becomes s r is, λ two. two.5 (sym (only_one s two.0 two.3) ∙ only_one s two.1 two.4))

pub none_made : (becomes : Labels → Labels → Type 0) → AreMade becomes [] []
none_made becomes = ((λ t c. absurd (none_in t c)), λ t c. absurd (none_in t c))

pub none_apart : (becomes : Labels → Labels → Type 0) → MadeApart becomes [] (Some [])
none_apart becomes = (none_made becomes, λ two. none_in two.0 two.3)

-- no sample has a name that is read
abbrev pub Lacks : MetricNames → List Labels → Type 0
Lacks Read W = (s : Labels) → Contains W s → Read (value_of s metric) → ⊥

-- the empty text alone is of class 0
pub empty_text : (u : Listing) (l : ℕ) (text : Bytes) → eqb (class_of u l text) 0 ≡ true → text ≡ []
empty_text u l text e = by (bytes_eq text []) refl
  where
    by : (b : Bool) → bytes_eq text [] ≡ b → text ≡ []
    by true is = true_same text [] is
    by false is = absurd (clash _ e (class_of_some u l text (λ q. clash _ (same_true text [] q) is)))

module _ (u : Listing) (rules : List RuleTree) where
  -- what is built gives one sample: the row represents it, and it has the texts that are given
  pub record Answers (row : Sets) (Read : MetricNames) (count : ℕ) (f : List Labels → Outcomes) (made : Option Building) (D : Given) : Type 0 where
    pub building : Building
    pub is_built : made ≡ Some building
    pub one : Labels
    pub represented : Represents u row one
    pub full : HasTexts one
    pub within : (name : Bytes) → (In u name → ⊥) → value_of one name ≡ []
    pub agrees : (name text : Bytes) → In u name → Gave D name text → value_of one name ≡ text
    pub gives : Gives rules Read count building f one

  -- Of what the row holds, a builder makes what gives one sample, where there is no fork or at most one text is given. If it can be silent, nothing is given where nothing is
  -- stored under the names that are read.
  pub record IsMade (row : Sets) (Read : MetricNames) (count : ℕ) (f : List Labels → Outcomes) (b : Builder) (fork silent : Bool) : Type 0 where
    pub shape : HasShape u row
    pub answers : (D : Given) → HoldsGiven u row D → (fork ≡ false) ⊎ AtMostOne u D → Answers row Read count f (b D) D
    pub is_silent : silent ≡ true → (W : List Labels) → Lacks Read W → f W (Some [])

  -- the same of what is handed to the construct itself: where there is no fork each label has a text
  pub record IsRaw (row : Sets) (Read : MetricNames) (count : ℕ) (f : List Labels → Outcomes) (b : Builder) (fork silent : Bool) : Type 0 where
    pub shape : HasShape u row
    pub answers : (D : Given) → HoldsGiven u row D → ((fork ≡ false) × IsTotal u D) ⊎ ((fork ≡ true) × AtMostOne u D) → Answers row Read count f (b D) D
    pub is_silent : silent ≡ true → (W : List Labels) → Lacks Read W → f W (Some [])

  module _ (p : IsListing u) (small : IsSmall u) where
    -- what is handed is completed where there is no fork
    pub made_of_raw : (row : Sets) (Read : MetricNames) (count : ℕ) (f : List Labels → Outcomes) (b : Builder) (fork silent : Bool) → IsRaw row Read count f b fork silent
        → IsMade row Read count f (λ D. option_and_then b (cond fork (Some D) (completed u row D))) fork silent
    made_of_raw row Read count f b true silent raw = record {
      shape = raw.shape;
      answers = λ D h either. raw.answers D h (elim either [ inl e ↦ absurd (cc) | inr few ↦ inr (refl, few) ]);
      is_silent = raw.is_silent;
    }
    made_of_raw row Read count f b false silent raw = record {
      shape = raw.shape;
      answers = λ D h either.
          let all = raw.answers (completed_by u row D) (completed_holds u p small row raw.shape D h) (inl (refl, completed_total u p small row raw.shape D h)) in
          record {
            building = all.building;
            is_built = ap (option_and_then b) (completed_is u p small row raw.shape D h) ∙ all.is_built;
            one = all.one;
            represented = all.represented;
            full = all.full;
            within = all.within;
            agrees = λ name text there given. all.agrees name text there (completed_keeps u p small row D name text given);
            gives = all.gives;
          };
      is_silent = raw.is_silent;
    }

    -- ---- labels that are lost

    module _ (chosen : ℕ → Bool) (lost : Bytes → Bool) (same : (name : Bytes) → chosen (label_of u name) ≡ lost name) (row : Sets) (shape : HasShape u row) where
      pub holds_lost : (D : Given) → HoldsGiven u (only_empty chosen row) D → HoldsGiven u row (losing lost D)
      holds_lost D h = record {
        live = replaced_was_live chosen (λ l c. eqb c 0) row h.live;
        held = λ name text there given.
            let left = of_losing u lost D name text given in
            replaced_held chosen (λ l c. eqb c 0) row h.live (label_of u name) (class_of u (label_of u name) text) (h.held name text there left.1) (same name ∙ left.0);
      }

      module _ (becomes : Labels → Labels) (values : (s : Labels) (name : Bytes) → value_of (becomes s) name ≡ cond (lost name) [] (value_of s name)) (fulls : (s : Labels) → HasTexts s → HasTexts (becomes s)) where
        pub answers_lost : (Read : MetricNames) (count : ℕ) (f g : List Labels → Outcomes) (made : Option Building) (D : Given) → HoldsGiven u (only_empty chosen row) D
            → ((X : List Labels) (s : Labels) → f X (Some (s ∷ [])) → g X (Some (becomes s ∷ []))) → Answers row Read count f made (losing lost D) → Answers (only_empty chosen row) Read count g made D
        answers_lost Read count f g made D h into a = record {
          building = a.building;
          is_built = a.is_built;
          one = becomes a.one;
          represented = represents_only_empty u p chosen row a.one (becomes a.one) shape a.represented
              (λ name e. values a.one name ∙ ap (λ b. cond b [] (value_of a.one name)) (sym (same name) ∙ e))
              (λ name e. values a.one name ∙ ap (λ b. cond b [] (value_of a.one name)) (sym (same name) ∙ e));
          full = fulls a.one a.full;
          within = λ name out. values a.one name ∙ by (lost name) (value_of a.one name) (a.within name out);
          agrees = λ name text there given. values a.one name ∙ agreed name text there given (lost name) refl;
          gives = gives_mapped rules Read count a.building f g a.one (becomes a.one) (λ X is. into X a.one is) a.gives;
        }
          where
            by : (b : Bool) (t : Bytes) → t ≡ [] → cond b [] t ≡ []
            by true t e = refl
            by false t e = e

            agreed : (name text : Bytes) → In u name → Gave D name text → (b : Bool) → lost name ≡ b → cond b [] (value_of a.one name) ≡ text
            agreed name text there given true is =
                sym (empty_text u (label_of u name) text (replaced_passes chosen (λ l c. eqb c 0) row h.live (label_of u name) (class_of u (label_of u name) text) (h.held name text there given) (same name ∙ is)))
            agreed name text there given false is = a.agrees name text there (kept_given u lost D name text is given)

    -- ---- nothing is built

    abbrev pub nothing_built : Building
    nothing_built = record { series = []; steps = []; selectors = 0 }

    pub gives_nothing : (Read : MetricNames) (count : ℕ) (f : List Labels → Outcomes) (one : Labels) → ((X : List Labels) → Lacks Read X → f X (Some (one ∷ []))) → Gives rules Read count nothing_built f one
    gives_nothing Read count f one is = record {
      series_read = λ s c. absurd (none_in s c);
      steps_read = λ k c. absurd (none_in k c);
      steps_once = tt;
      few = omega arith;
      runs = λ W agree. (
        W,
        same_itself W,
        record { kept = λ s c. c; further = λ s c. inl c },
        λ X agrees. is X (λ s c read. none_in s ((agree s read).0 ((agrees s read).0 c))),
      );
    }

    pub answers_bare : (Read : MetricNames) (count : ℕ) (f : List Labels → Outcomes) (D : Given) → HoldsGiven u (bare_row u) D → ((X : List Labels) → f X (Some (bare ∷ []))) → Answers (bare_row u) Read count f nothing D
    answers_bare Read count f D h is = record {
      building = nothing_built;
      is_built = refl;
      one = bare;
      represented = represents_bare u p;
      full = bare_has_texts;
      within = λ name out. value-bare name;
      agrees = λ name text there given.
          value-bare name ∙ sym (empty_text u (label_of u name) text (replaced_passes (λ label. true) (λ l c. eqb c 0) (top u) h.live (label_of u name) (class_of u (label_of u name) text) (h.held name text there given) refl));
      gives = gives_nothing Read count f bare (λ X lacks. is X);
    }
