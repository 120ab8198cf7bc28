-- Lists that are one set.
use Rattle.std.proofs.Common.{inl, inr, List, ◌++◌}
use Rattle.std.proofs.lemmas.List.Elements.{Contains-append_left, Contains-append_right, Contains-append_cases}
use Rattle.std.specs.List.{Contains}
use Rattle.lf_ast.specs.Labels.{Labels}
use Rattle.lf_witness.specs.Strict.{AreSame}

pub same_itself : (P : List Labels) → AreSame P P
same_itself P = (λ s c. c, λ s c. c)

pub same_behind : (W A B : List Labels) → AreSame A B → AreSame (W ++ A) (W ++ B)
same_behind W A B same = (one_way A B same.0, one_way B A same.1)
  where
    one_way : (A B : List Labels) → ((s : Labels) → Contains A s → Contains B s) → (s : Labels) → Contains (W ++ A) s → Contains (W ++ B) s
    one_way A B within s c = elim (Contains-append_cases W A s c) [
      | inl old ↦ Contains-append_left W B s old
      | inr new ↦ Contains-append_right W B s (within s new)
    ]

pub same_front : (W V A : List Labels) → AreSame W V → AreSame (W ++ A) (V ++ A)
same_front W V A same = (one_way W V same.0, one_way V W same.1)
  where
    one_way : (W V : List Labels) → ((s : Labels) → Contains W s → Contains V s) → (s : Labels) → Contains (W ++ A) s → Contains (V ++ A) s
    one_way W V within s c = elim (Contains-append_cases W A s c) [
      | inl old ↦ Contains-append_left V A s (within s old)
      | inr new ↦ Contains-append_right V A s new
    ]

pub chained : (P Q R : List Labels) → AreSame P Q → AreSame Q R → AreSame P R
chained P Q R one another = (λ s c. another.0 s (one.0 s c), λ s c. one.1 s (another.1 s c))

pub turned : (P Q : List Labels) → AreSame P Q → AreSame Q P
turned P Q same = (same.1, same.0)
