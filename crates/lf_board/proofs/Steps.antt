-- Each of the three steps keeps the rule of a board.
use Rattle.std.proofs.Common.{◌≡◌, ◌≢◌, ℕ, zero, suc, ◌+◌, ◌-◌, ◌%◌, ◌^◌, ◌<◌, ◌≤◌, min, List, [], ◌∷◌, ◌++◌, length, set, slice_index, refl, sym, ap, ◌∙◌, subst, ⊎_elim, arith, lt_of_not-le, length-append, length-set, get_or-set_same}
use Rattle.std.specs.List.{sum_by}
use Rattle.std.proofs.lemmas.Grind.{common_steps}
use Rattle.std.proofs.lemmas.List.Sums.{sum_by_push}
use mathlib.Core.Logic.{dite}
use mathlib.Core.Option.{some, none, some-injective, some-ne-none}
use native.Mathlib.Decide.{dec_le}
use lib.ListN.{get_elem?}
use Rattle.atomic_table.specs.Table.{State, Me, step, keeps, Allows, Splits, Joins, Seen}
use Rattle.atomic_table.proofs.Lists.{at_set, at_snoc}
use Rattle.lf_board.specs.declared.rule.View.{View}
use Rattle.lf_board.specs.declared.rule.Counts.{Counts}
use Rattle.lf_board.specs.Numbers.{times, once_below, AreNumbersBelow}
use Rattle.lf_board.specs.Claims.{open_share, Fits, Holds, Kept, opening_view, claimed, left_of, right_of, both_of, spent_view}
use Rattle.lf_board.proofs.Sums.{sum_by-set_at, one-le-sum_by, alone, times-append, once_below-more, once_below-full, once_below-self}

fits_set : (k : Counts) (views : List View) (id : ℕ) (w : View) → ((j : ℕ) (u : View) → get_elem? views j ≡ some u → Fits k u) → Fits k w → (j : ℕ) (u : View) → get_elem? (set views id w) j ≡ some u → Fits k u
fits_set k views id w others mine j u e =
    ⊎_elim (λ (t : (j ≡ id) × (w ≡ u)). subst (Fits k) t.1 mine) (λ (t : (j ≢ id) × (get_elem? views j ≡ some u)). others j u t.1) (at_set views id j w u e)

open_share-missed : (v : View) → open_share (record v { missed = v.missed + 1 }) ≡ 0
open_share-missed v = grind (arith, common_steps)

open_share-open : (v : View) → v.missed ≡ 0 → open_share v ≡ v.share
open_share-open v h = grind (arith, common_steps)

open_share-both : (v w : View) → open_share (both_of v w) ≤ open_share v + open_share w
open_share-both v w = grind (arith, common_steps)

module _ (k : Counts) where
  -- the rule of one seat's view, and what the sums over all views become when it changes
  module _ (views : List View) (id : ℕ) (v w : View) (at : get_elem? views id ≡ some v) where
    by_claims : sum_by (λ u. length u.claims) (set views id w) + length v.claims ≡ sum_by (λ u. length u.claims) views + length w.claims
    by_claims = sum_by-set_at (λ u. length u.claims) views id v w at

    by_missed : sum_by (λ u. u.missed) (set views id w) + v.missed ≡ sum_by (λ u. u.missed) views + w.missed
    by_missed = sum_by-set_at (λ u. u.missed) views id v w at

    by_open : sum_by open_share (set views id w) + open_share v ≡ sum_by open_share views + open_share w
    by_open = sum_by-set_at open_share views id v w at

    by_share : sum_by (λ u. u.share) (set views id w) + v.share ≡ sum_by (λ u. u.share) views + w.share
    by_share = sum_by-set_at (λ u. u.share) views id v w at

    by_times : (x : ℕ) → sum_by (λ u. times x u.claims) (set views id w) + times x v.claims ≡ sum_by (λ u. times x u.claims) views + times x w.claims
    by_times x = sum_by-set_at (λ u. times x u.claims) views id v w at

  -- a claim that gets a piece
  pub gets : (n id : ℕ) (views : List View) (v : View) → Holds k n views → get_elem? views id ≡ some v → 0 < v.share → n < k.pieces → Holds k (n + 1) (set views id (record v { claims = v.claims ++ n ∷ [] }))
  gets n id views v h at live below =
      let w : View = record v { claims = v.claims ++ n ∷ [] } in
      let a = by_claims views id v w at in
      let b = by_missed views id v w at in
      let c = by_open views id v w at in
      let d = by_share views id v w at in
      let l = length-append v.claims (n ∷ []) in
      let was = h.fits id v at in
      let old = h.given in
      record {
        summed = (let e = h.summed in omega arith);
        each_once = λ x. (let t = by_times views id v w at x in let e = h.each_once x in let p = times-append x v.claims (n ∷ []) in let q = once_below-more n k.pieces x below in omega arith);
        given = omega arith;
        bounded = (let e = h.bounded in omega arith);
        shared = (let e = h.shared in omega arith);
        fits = fits_set k views id w h.fits (was.0, λ none_left. absurd (omega arith));
      }

  -- a claim that finds nothing
  pub misses : (n id : ℕ) (views : List View) (v : View) → Holds k n views → get_elem? views id ≡ some v → 0 < v.share → v.missed ≡ 0 → k.pieces ≤ n → Holds k (n + 1) (set views id (record v { missed = v.missed + 1 }))
  misses n id views v h at live still_open full =
      let w : View = record v { missed = v.missed + 1 } in
      let a = by_claims views id v w at in
      let b = by_missed views id v w at in
      let c = by_open views id v w at in
      let d = by_share views id v w at in
      let shut = open_share-missed v in
      let before = open_share-open v still_open in
      let was = h.fits id v at in
      let old = h.given in
      record {
        summed = (let e = h.summed in omega arith);
        each_once = λ x. (let t = by_times views id v w at x in let e = h.each_once x in let q = once_below-full n k.pieces x full in omega arith);
        given = omega arith;
        bounded = (let e = h.bounded in omega arith);
        shared = (let e = h.shared in omega arith);
        fits = fits_set k views id w h.fits (was.0, λ none_left. absurd (omega arith));
      }

  pub cuts : (n id room : ℕ) (views : List View) (v : View) → Holds k n views → get_elem? views id ≡ some v → v.missed ≡ 0 → room + 1 < v.share → Holds k n (set views id (left_of room v) ++ right_of room v ∷ [])
  cuts n id room views v h at still_open fits =
      let w = left_of room v in
      let u = right_of room v in
      let l = set views id w in
      let was = h.fits id v at in
      let a = by_claims views id v w at in
      let b = by_missed views id v w at in
      let c = by_open views id v w at in
      let d = by_share views id v w at in
      let a' = sum_by_push (λ y. length y.claims) l u in
      let b' = sum_by_push (λ y. y.missed) l u in
      let c' = sum_by_push open_share l u in
      let d' = sum_by_push (λ y. y.share) l u in
      let before = open_share-open v still_open in
      let after = open_share-open w still_open in
      record {
        summed = (let e = h.summed in omega arith);
        each_once = λ x. (let t = by_times views id v w at x in let t' = sum_by_push (λ y. times x y.claims) l u in let e = h.each_once x in omega arith);
        given = (let e = h.given in omega arith);
        bounded = (let e = h.bounded in omega arith);
        shared = (let e = h.shared in omega arith);
        fits = λ j y e. ⊎_elim (λ there. fits_set k views id w h.fits ((λ _. was.0 (omega arith)), λ none_left. absurd (omega arith)) j y there) (λ (same : u ≡ y). subst (Fits k) same ((λ _. was.0 (omega arith)), λ none_left. absurd (omega arith))) (at_snoc l u y j e);
      }

  pub splits : (id room : ℕ) (v : View) → v.missed ≡ 0 → room + 1 < v.share → Splits (Kept k) id v (left_of room v) (right_of room v)
  splits id room v still_open fits s kept at = (kept.0, cuts (slice_index s.words 0) id room s.views v kept.1 at still_open fits)

  pub merges : (n id other : ℕ) (views : List View) (v u : View) → Holds k n views → get_elem? views id ≡ some v → get_elem? (set views id (both_of v u)) other ≡ some u → 0 < v.share → Holds k n (set (set views id (both_of v u)) other spent_view)
  merges n id other views v u h at there live =
      let w = both_of v u in
      let l = set views id w in
      let was = h.fits id v at in
      let a = by_claims views id v w at in
      let b = by_missed views id v w at in
      let c = by_open views id v w at in
      let d = by_share views id v w at in
      let a' = by_claims l other u spent_view there in
      let b' = by_missed l other u spent_view there in
      let c' = by_open l other u spent_view there in
      let d' = by_share l other u spent_view there in
      let p = length-append v.claims u.claims in
      let less = open_share-both v u in
      record {
        summed = (let e = h.summed in omega arith);
        each_once = λ x. (let t = by_times views id v w at x in let t' = by_times l other u spent_view there x in let q = times-append x v.claims u.claims in let e = h.each_once x in omega arith);
        given = (let e = h.given in omega arith);
        bounded = (let e = h.bounded in omega arith);
        shared = (let e = h.shared in omega arith);
        fits = fits_set k l other spent_view (fits_set k views id w h.fits ((λ _. was.0 live), λ none_left. absurd (omega arith))) ((λ some_left. absurd (omega arith)), λ _. (refl, refl));
      }

  pub joins : (id other : ℕ) (v u : View) → 0 < v.share → Joins (Kept k) id v other u (both_of v u) spent_view
  joins id other v u live s kept at apart there = (kept.0, merges (slice_index s.words 0) id other s.views v u kept.1 at there live)

  module _ (small : k.pieces < 2 ^ 32) (few : k.seats ≤ 64) where
    takes : (id : ℕ) (me : Me (Unit {0}) View) → 0 < me.0.share → me.0.missed ≡ 0 → Allows (Kept k) 0 id me 0 (λ n. (n + 1) % 2 ^ 64) (claimed (step 0 0 1 0 none) me)
    takes id me live still_open s kept homes at fits =
        let h = kept.1 in
        let v = me.0 in
        let n = slice_index s.words 0 in
        let was = h.fits id v at in
        let known = was.0 live in
        let sum = h.summed in
        let old = h.given in
        let most = h.bounded in
        let long = one-le-sum_by (λ u. length u.claims) s.views id v at in
        let less : n + 1 ≡ (n + 1) % 18446744073709551616 = omega arith in
        let wide = kept.0 in
        let put : (m : ℕ) (l : List View) → Holds k m l → Kept k record { words = set s.words 0 m; homes = s.homes; views = l } = λ m l y. (length-set s.words 0 m ∙ wide, subst (λ (z : ℕ). Holds k z l) (sym (get_or-set_same s.words 0 m 0 (omega arith))) y) in
        dite (dec_le k.pieces n)
        (λ full.
        let w : View = record v { missed = v.missed + 1 } in
        (w, keeps, tt, put _ _ (subst (λ (z : ℕ). Holds k z (set s.views id w)) less (misses n id s.views v h at live still_open full)), (refl, (λ below. absurd (omega arith)), λ _. refl)))
        (λ not_full.
        let below : n < k.pieces = lt_of_not-le not_full in
        let w : View = record v { claims = v.claims ++ n ∷ [] } in
        let never = one-le-sum_by (λ u. times n u.claims) s.views id v at in
        let none_yet = h.each_once n in
        let self = once_below-self n k.pieces below in
        (w, keeps, tt, put _ _ (subst (λ (z : ℕ). Holds k z (set s.views id w)) less (gets n id s.views v h at live below)), (refl, (λ _. (refl, omega arith, omega arith)), λ past. absurd (omega arith))))

    pub takes_at : (slots : ℕ) → slots ≡ 0 → (id : ℕ) (me : Me (Unit {0}) View) → 0 < me.0.share → me.0.missed ≡ 0 → Allows (Kept k) slots id me 0 (λ n. (n + 1) % 2 ^ 64) (claimed (step slots 0 1 0 none) me)
    takes_at slots none_there id me live still_open = subst (λ (z : ℕ). Allows (Kept k) z id me 0 (λ n. (n + 1) % 2 ^ 64) (claimed (step z 0 1 0 none) me)) (sym none_there) (takes id me live still_open)

-- the claims of the only seat that is left, once a claim found nothing
pub lasts : (k : Counts) (n id : ℕ) (views : List View) (v : View) → Holds k n views → get_elem? views id ≡ some v → 0 < v.share → v.share - 1 ≡ k.seats - 1 → 0 < v.missed → AreNumbersBelow k.pieces v.claims
lasts k n id views v h at live all shut =
    let sum = h.summed in
    let old = h.given in
    let every = h.shared in
    let part = one-le-sum_by (λ u. u.share) views id v at in
    let a = alone (λ (u : View). u.share) (λ u. length u.claims) views id v (λ j u e gone. ap length ((h.fits j u e).1 gone).1) at (omega arith) in
    let b = alone (λ (u : View). u.share) (λ u. u.missed) views id v (λ j u e gone. ((h.fits j u e).1 gone).0) at (omega arith) in
    let cut : min (n) k.pieces ≡ k.pieces = omega arith in (
      omega arith,
      λ x. sym (alone (λ (u : View). u.share) (λ u. times x u.claims) views id v (λ j u e gone. ap (times x) ((h.fits j u e).1 gone).1) at (omega arith)) ∙ h.each_once x ∙ ap (λ m. once_below m x) cut,
    )

pub ends : (k : Counts) (s : State (Unit {0}) View) (id : ℕ) (v : View) → Seen (Kept k) id v s → 0 < v.share → v.share - 1 ≡ k.seats - 1 → 0 < v.missed → AreNumbersBelow k.pieces v.claims
ends k s id v seen live all shut = lasts k (slice_index s.words 0) id s.views v seen.0.1 seen.1 live all shut

pub opens : (k : Counts) → Holds k 0 (opening_view k ∷ [])
opens k = record {
  summed = refl;
  each_once = λ x. grind (arith, common_steps);
  given = grind (arith, common_steps);
  bounded = omega arith;
  shared = omega arith;
  fits = first;
}
  where
    first : (id : ℕ) (v : View) → get_elem? (opening_view k ∷ []) id ≡ some v → Fits k v
    first zero v e = subst (Fits k) (some-injective (opening_view k) v e) ((λ _. (refl, refl)), λ _. (refl, refl))
    first (suc id) v e = absurd (some-ne-none v (sym e))
