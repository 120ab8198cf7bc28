-- The first sample that passes, as the samples are gone through from the last one on.
use Rattle.std.proofs.Common.{◌≡◌, Bool, true, false, cond, List, [], ◌∷◌, ◌++◌, Option, Some, None, refl, sym, ◌∙◌, ap}
use Rattle.std.specs.Option.{option_or}
use Rattle.std.specs.List.{find}
use Rattle.std.proofs.lemmas.List.Folds.{find-append}
use Rattle.lf_ast.specs.Labels.{Labels}

-- one of them stands in front
in_front : (o : Option Labels) (b : Bool) (x : Labels) (first : Option Labels) → option_or (option_or o (cond b (Some x) None)) first ≡ option_or o (cond b (Some x) first)
in_front (Some s) b x first = refl
in_front None true x first = refl
in_front None false x first = refl

pub first_so_far : (passes : Labels → Bool) (old front : List Labels) (x : Labels) (first next : Option Labels) → old ≡ front ++ x ∷ [] → next ≡ cond (passes x) (Some x) first → option_or (find passes old) first ≡ option_or (find passes front) next
first_so_far passes old front x first next taken is =
    ap (λ (l : List Labels). option_or (find passes l) first) taken
    ∙ ap (λ (o : Option Labels). option_or o first) (find-append passes front (x ∷ []))
    ∙ in_front (find passes front) (passes x) x first
    ∙ ap (option_or (find passes front)) (sym is)

pub none_before : (o : Option Labels) → o ≡ option_or o None
none_before (Some s) = refl
none_before None = refl
