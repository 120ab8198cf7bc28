-- What is found of the templates of an alert, one after the other, and of the references of one.
use Rattle.std.proofs.Common.{◌≡◌, Ok, Err, inl, inr, true, List, [], ◌∷◌, refl, ap, ◌∙◌, subst}
use Rattle.std.specs.List.{Contains}
use Rattle.lf_laws.specs.Gaining.{OfSome}
use Rattle.lf_base.specs.declared.fault.Fault.{Fault}
use Rattle.lf_base.specs.declared.kind.Kind.{Kind}
use Rattle.lf_base.specs.declared.place.Span.{Span}
use Rattle.lf_base.specs.declared.refusal.Refusal.TheVariants.{At}
use Rattle.lf_base.specs.Answers.{AnswersAs, Breach, Only}
use Rattle.lf_base.specs.Faults.{fault}
use Rattle.lf_ast.specs.Rules.{RuleTree}
use Rattle.lf_ast.specs.declared.rule.Template.{Template}
use Rattle.lf_ast.specs.declared.verdict.Finding.{Finding as Row}
use Rattle.lf_semantics.specs.ClassRows.{Sets}
use Rattle.lf_semantics.specs.Listing.{Listing}
use Rattle.lf_templates.specs.Templates.{Breaks, References}
use Rattle.lf_templates.specs.declared.reference.Reference.{Reference}
use Rattle.lf_checks.specs.AlertTemplate.{IsFound, says_unreadable}
use Rattle.lf_checks.specs.Finding.{AlertTemplate, Finding, finding}
use Rattle.lf_checks.specs.views.Shown.{ListsAlone}
use Rattle.lf_checks.specs.views.TemplateCases.{IsOfReference, IsOfTemplate}
use Rattle.lf_checks.specs.declared.case.Case.{Case}
use Rattle.lf_checks.specs.views.Cases.{row_of}
use Rattle.lf_checks.proofs.Lists.{alone_if, alone_same}

-- answers are told apart
same_ok : (x y : List Reference) → AnswersAs {X = List Reference} {Y = List Reference} (λ z. z) (Ok x) (Ok y) → y ≡ x
same_ok x y e = cc

not_err : (x : List Reference) (f : Fault) → AnswersAs {X = List Reference} {Y = List Reference} (λ z. z) (Ok x) (Err f) → ⊥
not_err x f e = cc

same_err : (kind : Kind) (span : Span) (f : Fault) → AnswersAs {X = List Reference} {Y = List Reference} (λ z. z) (Err (At kind span)) (Err f) → f ≡ fault kind span
same_err kind span f e = cc

not_ok : (kind : Kind) (span : Span) (x : List Reference) → AnswersAs {X = List Reference} {Y = List Reference} (λ z. z) (Err (At kind span)) (Ok x) → ⊥
not_ok kind span x e = cc

module _ (u : Listing) (row : Sets) where
  module _ (r : RuleTree) (alert : r.alert ≡ true) where
    to : (f : Finding) → OfSome (IsOfTemplate u row) r.templates f → IsFound u row r f
    to f (t, c, inl h) = inl (t, h.0, (alert, c), h.1, h.2.0, h.2.1)
    to f (t, c, inr h) = inr (t, h.0, (alert, c), h.1, h.2)

    from : (f : Finding) → IsFound u row r f → OfSome (IsOfTemplate u row) r.templates f
    from f (inl h) = (h.0, h.2.1, inl (h.1, h.3, (h.4, h.5)))
    from f (inr h) = (h.0, h.2.1, inr (h.1, h.3, h.4))

    pub of_templates : (found : List Row) → ListsAlone (OfSome (IsOfTemplate u row) r.templates) found → ListsAlone (IsFound u row r) found
    of_templates found h = alone_same _ _ found to from h

  -- a template with references has no breach
  module _ (t : Template) (references : List Reference) (are : References t.from t.text references) (only : Only (λ z. z) (References t.from t.text) (Ok references))
      (breach : Breach (λ z. z) (Breaks t.from t.text) (Ok references)) where
    of_one : (f : Finding) → OfSome (IsOfReference u row) references f → IsOfTemplate u row t f
    of_one f (reference, c, h) = inl (reference, (references, are, c), h)

    one_of : (f : Finding) → IsOfTemplate u row t f → OfSome (IsOfReference u row) references f
    one_of f (inl h) = let Q : List Reference → Type 0 = λ l. Contains l h.0 in (h.0, subst Q (same_ok references h.1.0 (only h.1.0 h.1.1)) h.1.2, h.2)
    one_of f (inr h) = absurd (not_err references h.0 (breach h.0 h.1))

    pub of_sound : (found : List Row) → ListsAlone (OfSome (IsOfReference u row) references) found → ListsAlone (IsOfTemplate u row t) found
    of_sound found h = alone_same _ _ found of_one one_of h

  -- one with a breach has no references
  module _ (t : Template) (kind : Kind) (span : Span) (breaks : Breaks t.from t.text (fault kind span)) (only : Only {X = List Reference} (λ z. z) (References t.from t.text) (Err (At kind span)))
      (breach : Breach {X = List Reference} (λ z. z) (Breaks t.from t.text) (Err (At kind span))) where
    is_own : (f : Finding) → IsOfTemplate u row t f → f ≡ finding AlertTemplate span says_unreadable
    is_own f (inl h) = absurd (not_ok kind span h.1.0 (only h.1.0 h.1.1))
    is_own f (inr h) = h.2 ∙ ap (λ (b : Fault). finding AlertTemplate b.span says_unreadable) (same_err kind span h.0 (breach h.0 h.1))

    pub of_broken : (found : List Row) → found ≡ row_of Case.UnreadableTemplate span [] ∷ [] → ListsAlone (IsOfTemplate u row t) found
    of_broken found made = alone_if (IsOfTemplate u row t) found true Case.UnreadableTemplate span [] refl made (λ e. inr (fault kind span, breaks, refl)) (λ f h. (refl, is_own f h))
