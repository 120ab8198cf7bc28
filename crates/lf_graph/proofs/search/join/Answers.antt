use Rattle.std.proofs.Common.{◌≡◌, ◌-◌, ℕ, List, length, take, get_or, refl, sym, ◌∙◌, ap, subst, arith}
use Rattle.std.specs.List.{Contains}
use Rattle.std.proofs.lemmas.List.{length-take}
use Rattle.lf_laws.specs.Ascending.{AreAscending}
use Rattle.lf_graph.proofs.Lists.{fewer_rise, in_front, not_last, up_to_last}
use Rattle.lf_graph.proofs.search.join.Goals as goal

pub loop-parts-preserved : goal.loop-parts-preserved
loop-parts-preserved c =
    let parts : List ℕ = c.loop-parts.parts.items in
    let later : List ℕ = c.pop.new.self.items in
    let n : ℕ = length parts - 1 in
    let e : later ≡ take n parts = c.pop.ensures.rest ∙ ap (λ (k : ℕ). take (k - 1) parts) (sym c.as_slice.ensures.len ∙ ap length c.as_slice.ensures.value) in
    let behind = c.loop-parts-test.ensures.behind refl in
    let size = length-take n parts in
    let P : ℕ → List ℕ → Type 0 = λ b l. Contains l b in
    let Q : List ℕ → Type 0 = λ l. AreAscending l in
    let fewer = c.loop-parts.invariant.3 in
    let f = ap length e in (
      subst Q (sym e) (fewer_rise parts n (omega arith) c.loop-parts.invariant.0),
      λ b d h. subst (P b) (sym e) (not_last parts b (c.loop-parts.invariant.1 b d h) (λ g. let m = behind.1 in let r = ap (λ (l : List ℕ). get_or l (length l - 1) 0) c.as_slice.ensures.value in omega (arith, g, h, m, r))),
      λ b d. c.loop-parts.invariant.2 b (in_front parts n b (subst (P b) e d)),
      omega (arith, f, size, fewer),
    )

pub returns-clause-kept : goal.returns-clause-kept
returns-clause-kept c b =
    let behind = c.loop-parts-test.ensures.not refl in (
      λ d. (
        c.loop-parts.invariant.2 b d,
        let u = up_to_last c.loop-parts.parts.items b c.loop-parts.invariant.0 d in
            let size = ap length c.as_slice.ensures.value in
            let r = ap (λ (l : List ℕ). get_or l (length l - 1) 0) c.as_slice.ensures.value in
            let h = d.1 in
            let m = behind (omega (arith, h, size)) in
            omega (arith, u, m, r),
      ),
      λ d. c.loop-parts.invariant.1 b d.0 d.1,
    )
