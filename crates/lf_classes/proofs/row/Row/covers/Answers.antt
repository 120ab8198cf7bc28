use Rattle.std.proofs.Common.{◌≡◌, true, false, not, refl, sym, ◌∙◌, ap}
use Rattle.lf_classes.proofs.Changes.{joined_empty, live_view, same_counts, same_total}
use Rattle.lf_classes.proofs.Covered.{union_same}
use Rattle.lf_classes.proofs.LabelChanges.{not_under, under_bits}
use Rattle.lf_classes.proofs.row.Row.covers.Goals as goal
use Rattle.lf_laws.proofs.Booleans.{clash}

pub lies_in-requires : goal.lies_in-requires
lies_in-requires c =
    let r = c.self.inside in
    let o = c.other.inside in
    sym (same_total r.live o.live r.shape o.shape r.bits o.bits _ _ c.self.view_is c.other.view_is c.self.invariant.total c.other.invariant.total c.requires)

pub returns-then-not-other-clause-under : goal.returns-then-not-other-clause-under
returns-then-not-other-clause-under c =
    let o = c.other.inside in
    let dead = live_view o.live o.shape o.bits _ c.other.view_is c.other.invariant.total c.other.invariant.some c.other.invariant.known ∙ c.if-not-other.true in
    (λ e f. absurd (clash _ f dead), λ under. ap not c.if-not-other.true)

pub returns-then-self-clause-under : goal.returns-then-self-clause-under
returns-then-self-clause-under c =
    let r = c.self.inside in
    let o = c.other.inside in
    let e = c.if-not-other.false in
    let live = live_view o.live o.shape o.bits _ c.other.view_is c.other.invariant.total c.other.invariant.some c.other.invariant.known ∙ e in
    let same = same_counts r.live o.live r.shape o.shape r.bits o.bits _ _ c.self.view_is c.other.view_is c.self.invariant.total c.other.invariant.total c.requires in (
      λ f. under_bits r.live o.live r.shape o.shape r.bits o.bits _ _ c.self.view_is c.other.view_is c.self.invariant.total c.other.invariant.total same c.if-self.true e
          c.self.invariant.some (c.self.invariant.known c.if-self.true) (c.lies_in.ensures.all f),
      λ under. elim (c.lies_in.result) as (λ b. (b ≡ false → ⊥) → b ≡ true) [ true ↦ λ n. refl | false ↦ λ n. absurd (n refl) ] (λ f.
          not_under r.live o.live r.shape o.shape r.bits o.bits _ _ c.self.view_is c.other.view_is c.self.invariant.total c.other.invariant.total same c.if-self.true e
          (c.lies_in.ensures.lacks f) live under),
    )

pub returns-else-self-clause-under : goal.returns-else-self-clause-under
returns-else-self-clause-under c =
    let r = c.self.inside in
    let o = c.other.inside in
    let live = live_view o.live o.shape o.bits _ c.other.view_is c.other.invariant.total c.other.invariant.some c.other.invariant.known ∙ c.if-not-other.false in
    let mine = live_view r.live r.shape r.bits _ c.self.view_is c.self.invariant.total c.self.invariant.some c.self.invariant.known in
    (λ e. absurd (clash r.live e c.if-self.false), λ under. sym mine ∙ (under live).0)

pub returns-then-not-other-clause-same : goal.returns-then-not-other-clause-same
returns-then-not-other-clause-same c = λ e.
    let r = c.self.inside in
    let o = c.other.inside in
    sym (joined_empty r.live o.live r.shape o.shape r.bits o.bits _ _ c.self.view_is c.other.view_is c.self.invariant.total c.other.invariant.total c.requires c.if-not-other.true c.self.invariant.some c.self.invariant.known)

pub returns-then-self-clause-same : goal.returns-then-self-clause-same
returns-then-self-clause-same c = λ f.
    let r = c.self.inside in
    let o = c.other.inside in
    let e = c.if-not-other.false in
    let same = same_counts r.live o.live r.shape o.shape r.bits o.bits _ _ c.self.view_is c.other.view_is c.self.invariant.total c.other.invariant.total c.requires in
    let live = live_view o.live o.shape o.bits _ c.other.view_is c.other.invariant.total c.other.invariant.some c.other.invariant.known ∙ e in
    let under = under_bits r.live o.live r.shape o.shape r.bits o.bits _ _ c.self.view_is c.other.view_is c.self.invariant.total c.other.invariant.total same c.if-self.true e
    c.self.invariant.some (c.self.invariant.known c.if-self.true) (c.lies_in.ensures.all f) live in
    union_same c.args.self.now c.args.other.now under.0 live under.1

pub returns-else-self-clause-same : goal.returns-else-self-clause-same
returns-else-self-clause-same c = λ e. absurd (clash _ e c.if-self.false)
