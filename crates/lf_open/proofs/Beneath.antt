-- What stands beneath one of some expressions.
use Rattle.std.proofs.Common.{◌≡◌, ◌+◌, ◌<◌, ◌⊎◌, ◌↔◌, inl, inr, ℕ, Bool, true, false, true≢false, ◌||◌, IsTrue, List, length, take, get_or, sym, refl, ◌∙◌, subst}
use Rattle.std.proofs.lemmas.List.{take_more}
use Rattle.std.proofs.lemmas.List.Elements.{Contains-push_cases}
use Rattle.std.specs.List.{Contains}
use Rattle.lf_laws.proofs.Members.{in_map, map_member}
use Rattle.lf_ast.specs.Tree.{Tree, list, tree, trees}
use Rattle.lf_ast.specs.declared.expr.Expr.{Expr}
use Rattle.lf_ast.proofs.Walks.{list_trees}

-- of two tests one holds
pub either_tells : (P Q : Type 0) (a b : Bool) → IsTrue a ↔ P → IsTrue b ↔ Q → IsTrue (a || b) ↔ (P ⊎ Q)
either_tells P Q true b p q = (λ e. inl (p.0 refl), λ h. refl)
either_tells P Q false b p q = (λ e. inr (q.0 e), from)
  where
    from : P ⊎ Q → IsTrue b
    from (inl h) = absurd (true≢false (sym (p.1 h)))
    from (inr h) = q.1 h

-- none of the expressions that were looked at has it
abbrev pub NoneOf : (Tree → Type 0) → List Expr → Type 0
NoneOf is seen = (e : Expr) → Contains seen e → is (tree e) → ⊥

pub none_more : (is : Tree → Type 0) (exprs : List Expr) (i : ℕ) (d e : Expr) → i < length exprs → e ≡ get_or exprs i d → (is (tree e) → ⊥) → NoneOf is (take i exprs) → NoneOf is (take (i + 1) exprs)
none_more is exprs i d e lt at not none f c h = elim (Contains-push_cases (take i exprs) (get_or exprs i d) f (subst (λ (l : List Expr). Contains l f) (take_more exprs i d lt) c)) [
  | inl before ↦ none f before h
  | inr same ↦ not (subst (λ (x : Expr). is (tree x)) (sym (at ∙ same)) h)
]

pub none_at_all : (is : Tree → Type 0) (exprs : List Expr) → NoneOf is exprs → (x : Tree) × Contains (list (trees exprs)) x × is x → ⊥
none_at_all is exprs none (x, c, h) =
    let m = map_member tree exprs x (subst (λ (l : List Tree). Contains l x) (list_trees exprs) c) in
    none m.0 m.1 (subst is m.2 h)

pub one_of_all : (is : Tree → Type 0) (exprs : List Expr) (e : Expr) → Contains exprs e → is (tree e) → (x : Tree) × Contains (list (trees exprs)) x × is x
one_of_all is exprs e c h = (tree e, subst (λ (l : List Tree). Contains l (tree e)) (sym (list_trees exprs)) (in_map tree exprs e c), h)
