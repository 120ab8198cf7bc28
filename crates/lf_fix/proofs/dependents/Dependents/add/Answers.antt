use Rattle.std.proofs.Common.{◌≡◌, ℕ, List, Option, Some, None, ◌⊎◌, inl, inr, refl, sym, ap, subst}
use Rattle.std.specs.List.{Contains}
use Rattle.lf_ast.specs.Labels.{Bytes}
use Rattle.lf_fix.specs.views.Dependents.{Index, IsFull, IsListed}
use Rattle.lf_fix.proofs.Listing.{put_listed}
use Rattle.lf_fix.proofs.dependents.Dependents.add.Goals as goal

keeps : (old new : Index) → old.of_all ≡ new.of_all → ((n : Bytes) (k : ℕ) → IsListed old k (Some n) → IsListed new k (Some n)) → (k : ℕ) (o : Option Bytes) → IsListed old k o → IsListed new k o
keeps old new e h k None l = let P : List ℕ → Type 0 = λ xs. Contains xs k in subst P e l
keeps old new e h k (Some n) l = h n k l

pub returns-clause-listed : goal.returns-clause-listed
returns-clause-listed c =
    let F : Index → Type 0 = λ i. IsFull i in
    let full = subst F (sym c.self.view_is) c.requires.full in
    (put_listed c.self.inside.names c.self.inside.of_name full c.args.name.now c.args.rule c.in_ok-place.place c.add.new.self c.make_room.new.self c.push.new.self c.in_ok-place.ensures.ok
    c.in_ok-place.ensures.place c.in_ok-make_room.ensures.there c.in_ok-make_room.ensures.made c.in_ok-push.ensures.ok).0

pub returns-clause-kept : goal.returns-clause-kept
returns-clause-kept c k o l =
    let F : Index → Type 0 = λ i. IsFull i in
    let full = subst F (sym c.self.view_is) c.requires.full in
    let put = put_listed c.self.inside.names c.self.inside.of_name full c.args.name.now c.args.rule c.in_ok-place.place c.add.new.self c.make_room.new.self c.push.new.self c.in_ok-place.ensures.ok
    c.in_ok-place.ensures.place c.in_ok-make_room.ensures.there c.in_ok-make_room.ensures.made c.in_ok-push.ensures.ok in
    let before : Index = record { names = c.self.inside.names; of_name = c.self.inside.of_name; of_all = c.self.inside.of_all } in
    let after : Index = record { names = c.add.new.self; of_name = c.push.new.self; of_all = c.self.inside.of_all } in
    let P : Index → Type 0 = λ i. IsListed i k o in
    keeps before after refl put.1 k o (subst P (sym c.self.view_is) l)

back : (old new : Index) (rule : ℕ) (name : Bytes) → old.of_all ≡ new.of_all → ((n : Bytes) (k : ℕ) → IsListed new k (Some n) → IsListed old k (Some n) ⊎ ((k ≡ rule) × (n ≡ name))) → (k : ℕ) (o : Option Bytes) → IsListed new k o
    → IsListed old k o ⊎ ((k ≡ rule) × (o ≡ Some name))
back old new rule name e h k None l = let P : List ℕ → Type 0 = λ xs. Contains xs k in inl (subst P (sym e) l)
back old new rule name e h k (Some n) l = elim (h n k l) [ inl m ↦ inl m | inr m ↦ inr (m.0, ap Some m.1) ]

pub returns-clause-only : goal.returns-clause-only
returns-clause-only c k o l =
    let F : Index → Type 0 = λ i. IsFull i in
    let full = subst F (sym c.self.view_is) c.requires.full in
    let put = put_listed c.self.inside.names c.self.inside.of_name full c.args.name.now c.args.rule c.in_ok-place.place c.add.new.self c.make_room.new.self c.push.new.self c.in_ok-place.ensures.ok
    c.in_ok-place.ensures.place c.in_ok-make_room.ensures.there c.in_ok-make_room.ensures.made c.in_ok-push.ensures.ok in
    let before : Index = record { names = c.self.inside.names; of_name = c.self.inside.of_name; of_all = c.self.inside.of_all } in
    let after : Index = record { names = c.add.new.self; of_name = c.push.new.self; of_all = c.self.inside.of_all } in
    let P : Index → Type 0 = λ i. IsListed i k o in
    elim (back before after c.args.rule c.args.name.now refl put.3 k o l) [ inl m ↦ inl (subst P c.self.view_is m) | inr m ↦ inr m ]
