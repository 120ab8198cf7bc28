use Rattle.std.proofs.Common.{true, [], ◌∷◌, inr, refl, subst}
use Rattle.lf_laws.proofs.Members.{here}
use Rattle.lf_forks.specs.views.NameMarks.{Marks, NameMarks}
use Rattle.lf_forks.proofs.name_marks.NameMarks.mark_place.Goals as goal

pub returns : goal.returns
returns c =
    let P : NameMarks → Type 0 = λ old. Marks (c.args.place ∷ []) old (record { names = c.self.inside.names; marked = c.mark_at.new.marked.items; without_name = true }) in
    subst P c.self.view_is (record {
      names = refl;
      count = c.mark_at.ensures.count;
      marked = c.mark_at.ensures.marked;
      without_name = (λ t. inr (c.args.place, here c.args.place []), λ s. refl);
    })
