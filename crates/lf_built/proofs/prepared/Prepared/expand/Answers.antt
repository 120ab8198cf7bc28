use Rattle.std.proofs.Common.{List, Option, refl, subst}
use Rattle.lf_ast.specs.Tree.{Tree}
use Rattle.lf_built.specs.views.Indexed.{env_of, universe_of}
use Rattle.lf_built.specs.views.Places.{size}
use Rattle.lf_built.specs.views.Spots.{tree_at}
use Rattle.lf_built.specs.views.Tasks.{Wanted, parts_wanted}
use Rattle.lf_built.specs.views.Works.{LeavesBehind, all_of}
use Rattle.lf_built.specs.declared.work.WantedParts.{WantedParts}
use Rattle.lf_built.specs.views.Works.{AreParts}
use Rattle.lf_built.proofs.Efforts.{parts_less}
use Rattle.lf_built.proofs.PartSpots.{some_parts}
use Rattle.lf_built.proofs.Works.{expanded}
use Rattle.lf_built.proofs.prepared.Prepared.expand.Goals as goal

pub returns-in_ok-push_parts-in-Some-clause-goes : goal.returns-in_ok-push_parts-in-Some-clause-goes
returns-in_ok-push_parts-in-Some-clause-goes c most whole D few stands left =
    let p = c.args.self.now in
    let w = c.args.work.now in
    let e : Tree = tree_at c.args.spot.now in
    let are = subst (λ (o : Option WantedParts). AreParts p e (parts_wanted (universe_of p) (env_of p) e D) o) c.in-Some.is (c.in_ok-parts.ensures D stands) in
    let h = some_parts p e (parts_wanted (universe_of p) (env_of p) e D) c.in-Some.parts are in
    let own = subst (λ (o : Option (List Wanted)). LeavesBehind p whole (all_of p w o) w) h.1 left in
    (expanded p whole h.0 c.in-Some.parts w (record { stack = c.push_parts.new.stack; marked = w.marked; unmarked = w.unmarked; made = w.made }) h.2 c.in_ok-push_parts-in-Some.ensures refl refl refl own, few)

pub returns-in_ok-push_parts-in-Some-clause-less : goal.returns-in_ok-push_parts-in-Some-clause-less
returns-in_ok-push_parts-in-Some-clause-less c most _ =
    let p = c.args.self.now in
    let w = c.args.work.now in
    let e : Tree = tree_at c.args.spot.now in
    let D = c.requires.texts.0 in
    let are = subst (λ (o : Option WantedParts). AreParts p e (parts_wanted (universe_of p) (env_of p) e D) o) c.in-Some.is (c.in_ok-parts.ensures D c.requires.texts.1) in
    let h = some_parts p e (parts_wanted (universe_of p) (env_of p) e D) c.in-Some.parts are in
    parts_less p most (size e) c.in-Some.parts w (record { stack = c.push_parts.new.stack; marked = w.marked; unmarked = w.unmarked; made = w.made }) h.3 refl c.in_ok-push_parts-in-Some.ensures
