use Rattle.std.proofs.Common.{◌≡◌, ℕ, zero, suc, ◌+◌, List, [], ◌∷◌, ◌++◌, take, drop, sym, ap, ◌∙◌, subst, arith, add-one}
use mathlib.Core.Option.{some, some-injective, some-ne-none}
use lib.ListN.{get_elem?}
use Rattle.std.proofs.lemmas.List.Sums.{sum_by-append}
use Rattle.std.specs.List.{sum}
use Rattle.std.specs.Slots.{slots_items}
use Rattle.lf_rounds.specs.Words.{AreWords}
use Rattle.lf_rounds.proofs.Bits.{word_more}
use Rattle.lf_rounds.proofs.table_words.TableWords.of_closed.Goals as goal

one_more : (xs : List ℕ) (i x : ℕ) → get_elem? xs (i + 1) ≡ some x → take i (drop 1 xs) ++ x ∷ [] ≡ take (i + 1) (drop 1 xs)
one_more xs i x e = rw add-one (after xs i x (rw add-one at e))
  where
    within : (ys : List ℕ) (j y : ℕ) → get_elem? ys j ≡ some y → take j ys ++ y ∷ [] ≡ take (suc j) ys
    within [] j y h = absurd (some-ne-none y (sym h))
    within (z ∷ ys) zero y h = ap (λ (w : ℕ). w ∷ []) (sym (some-injective z y h))
    within (z ∷ ys) (suc j) y h = ap (λ (l : List ℕ). z ∷ l) (within ys j y h)

    after : (ys : List ℕ) (j y : ℕ) → get_elem? ys (suc j) ≡ some y → take j (drop 1 ys) ++ y ∷ [] ≡ take (suc j) (drop 1 ys)
    after [] j y h = absurd (some-ne-none y (sym h))
    after (z ∷ ys) j y h = within ys j y h

pub loop-k-preserved : goal.loop-k-preserved
loop-k-preserved c =
    let P : List ℕ → Type 0 = λ l. AreWords l in
    let items : List ℕ = slots_items c.args.closed.now.words in
    let k : ℕ = c.loop-k.k in
    let word : ℕ = c.word-word.result in
    let more : take k (drop 1 items) ++ word ∷ [] ≡ take (k + 1) (drop 1 items) = one_more items k word c.word-word.ensures in
    record {
      words = c.push_reserved-in-loop-k.ensures.items ∙ ap (λ (l : List ℕ). l ++ word ∷ []) c.loop-k.invariant.words ∙ ap (λ (l : List ℕ). 0 ∷ l) more;
      fit = subst P more (word_more (take k (drop 1 items)) word c.loop-k.invariant.fit c.word-word.type_inv);
      total = omega (arith, c.in_ok-total.ensures, c.loop-k.invariant.total, sum_by-append (λ (n : ℕ). n) (take k (drop 1 items)) (word ∷ []), ap sum more);
      len = c.push_reserved-in-loop-k.ensures.len ∙ ap (λ n. n + 1) c.loop-k.invariant.len;
      room = omega (arith, c.push_reserved-in-loop-k.ensures.capacity, c.loop-k.invariant.room);
    }

pub push_reserved-requires-in-loop-k : goal.push_reserved-requires-in-loop-k
push_reserved-requires-in-loop-k c = omega (arith, c.loop-k.invariant.len, c.loop-k.invariant.room, c.loop-k-test.true)
