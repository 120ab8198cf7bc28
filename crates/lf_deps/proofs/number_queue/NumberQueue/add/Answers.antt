use Rattle.std.proofs.Common.{ℕ, List, inl, inr, refl, subst, sym}
use Rattle.std.specs.List.{Contains}
use Rattle.lf_graph.proofs.Inserting.{comes_in, put_in, stays_in}
use Rattle.lf_deps.proofs.number_queue.NumberQueue.add.Goals as goal

pub returns-clause-kept : goal.returns-clause-kept
returns-clause-kept c j old =
    let P : List ℕ → Type 0 = λ l. Contains l j in
    stays_in c.self.inside.numbers.keys c.insert.new.self.keys c.args.number j c.in_ok-insert.ensures.keys (subst P (sym c.self.view_is) old)

pub returns-clause-added : goal.returns-clause-added
returns-clause-added c = comes_in c.self.inside.numbers.keys c.insert.new.self.keys c.args.number c.args.number c.in_ok-insert.ensures.keys refl

pub returns-clause-only : goal.returns-clause-only
returns-clause-only c j new =
    let P : List ℕ → Type 0 = λ l. Contains l j in
    elim (put_in c.self.inside.numbers.keys c.insert.new.self.keys c.args.number j c.in_ok-insert.ensures.keys new) [ inl d ↦ inr (subst P c.self.view_is d) | inr e ↦ inl e ]
