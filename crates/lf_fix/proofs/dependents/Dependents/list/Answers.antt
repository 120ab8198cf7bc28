use Rattle.std.proofs.Common.{◌≡◌, ℕ, Option, Some, ◌⊎◌, OnOk, sym, subst}
use Rattle.lf_ast.specs.Labels.{Bytes}
use Rattle.lf_fix.specs.views.Dependents.{IsListed}
use Rattle.lf_fix.proofs.dependents.Dependents.list.Goals as goal

pub returns-in-Some-clause-listed : goal.returns-in-Some-clause-listed
returns-in-Some-clause-listed c =
    let P : Option Bytes → Type 0 = λ o. OnOk c.add.result (IsListed c.add.new.self c.args.rule o) in
    let Q : Bytes → Type 0 = λ name. OnOk c.add.result (IsListed c.add.new.self c.args.rule (Some name)) in
    subst P (sym c.in-Some.is) (subst Q c.as_str.ensures c.add.ensures.listed)

pub returns-in-Some-clause-only : goal.returns-in-Some-clause-only
returns-in-Some-clause-only c =
    let P : Option Bytes → Type 0 = λ s. OnOk c.add.result ((k : ℕ) (o : Option Bytes) → IsListed c.add.new.self k o → IsListed c.args.self.now k o ⊎ ((k ≡ c.args.rule) × (o ≡ s))) in
    let Q : Bytes → Type 0 = λ name. OnOk c.add.result ((k : ℕ) (o : Option Bytes) → IsListed c.add.new.self k o → IsListed c.args.self.now k o ⊎ ((k ≡ c.args.rule) × (o ≡ Some name))) in
    subst P (sym c.in-Some.is) (subst Q c.as_str.ensures c.add.ensures.only)
