-- Lists of findings that grow by the findings that meet a condition.
use Rattle.std.proofs.Common.{◌≡◌, ◌+◌, ◌<◌, ◌⊎◌, ℕ, List, [], ◌∷◌, ◌++◌, length, take, get_or, inl, inr, refl}
use Rattle.std.proofs.lemmas.List.{map-append}
use Rattle.lf_laws.specs.Gaining.{OfSome}
use Rattle.lf_laws.proofs.Gaining.{gains_as, gains_both, gains_none, gains_of_more, gains_one}
use Rattle.lf_laws.proofs.Members.{none_in}
use Rattle.lf_ast.specs.Rules.{RuleTree}
use Rattle.lf_ast.specs.declared.verdict.Finding.{Finding as Row}
use Rattle.lf_checks.specs.Files.{File}
use Rattle.lf_checks.specs.Finding.{Finding}
use Rattle.lf_checks.specs.views.Adding.{Adds}
use Rattle.lf_checks.specs.views.Shown.{ListsAlone, all_shown, shown}
use Rattle.lf_checks.proofs.Lists.{Numbered, numbered_both, numbered_none, numbered_one}

pub adds_none : (is : Finding → Type 0) (old : List Row) → ((f : Finding) → is f → ⊥) → Adds is old old
adds_none is old none = record { gains = λ files rules. gains_none (all_shown files rules) is old none; numbers = λ h. h }

pub adds_one : (is : Finding → Type 0) (old new : List Row) (row : Row) (f : Finding) → new ≡ old ++ row ∷ [] → ((files : List File) (rules : List RuleTree) → shown files rules row ≡ f) → Numbered row → is f → ((g : Finding) → is g → g ≡ f) → Adds is old new
adds_one is old new row f e says numbered holds one = record {
  gains = λ files rules. gains_one (all_shown files rules) is old new f (rw (e, map-append, says files rules) refl) holds one;
  numbers = λ h. numbered_both old (row ∷ []) new h (numbered_one row numbered) e;
}

pub adds_as : (is too : Finding → Type 0) (old new : List Row) → Adds is old new → ((f : Finding) → is f → too f) → ((f : Finding) → too f → is f) → Adds too old new
adds_as is too old new a to from = record { gains = λ files rules. gains_as (all_shown files rules) is too old new (a.gains files rules) to from; numbers = a.numbers }

pub adds_both : (is too : Finding → Type 0) (old mid new : List Row) → Adds is old mid → Adds too mid new → Adds (λ f. is f ⊎ too f) old new
adds_both is too old mid new a b = record { gains = λ files rules. gains_both (all_shown files rules) is too old mid new (a.gains files rules) (b.gains files rules); numbers = λ h. b.numbers (a.numbers h) }

-- by what one more of them asks for
pub adds_of_more : {X : Type 0} (is : X → Finding → Type 0) (xs : List X) (i : ℕ) (d : X) (old mid new : List Row) → i < length xs → Adds (OfSome is (take i xs)) old mid → Adds (is (get_or xs i d)) mid new
    → Adds (OfSome is (take (i + 1) xs)) old new
adds_of_more is xs i d old mid new lt a b = record { gains = λ files rules. gains_of_more (all_shown files rules) is xs i d old mid new lt (a.gains files rules) (b.gains files rules); numbers = λ h. b.numbers (a.numbers h) }

-- to none was added: the list is that of the findings
pub adds_all : (is : Finding → Type 0) (new : List Row) → Adds is [] new → ListsAlone is new
adds_all is new a = record {
  lists = λ files rules.
      let g = a.gains files rules in
      record { each = λ f c. elim (g.only f c) [ inl d ↦ absurd (none_in f d) | inr h ↦ h ]; all = g.all };
  numbers = a.numbers numbered_none;
}
