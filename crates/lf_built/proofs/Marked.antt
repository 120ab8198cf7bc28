-- One mark more, and the marks that are looked through beside the others.
use Rattle.std.proofs.Common.{◌≡◌, ℕ, Bool, true, false, cond, eqb, ◌||◌, List, [], ◌∷◌, ◌++◌, reverse, refl, sym, ◌∙◌, ap, subst}
use Rattle.std.specs.List.{list_any}
use Rattle.std.specs.BTreeMap.{is_at}
use Rattle.std.specs.BTreeSet.{BTreeSet, contains}
use Rattle.std.specs.Cmp.{unsigned_ties}
use Rattle.std.specs.Ordering.{nat_cmp}
use Rattle.std.proofs.Math.Bool.{or_comm}
use Rattle.std.proofs.lemmas.List.{reverse-append}
use Rattle.std.proofs.lemmas.List.Folds.{list_any-append}
use Rattle.lf_laws.proofs.Booleans.{or_from_cond}
use Rattle.lf_flow.proofs.ClassSets.{eqb-turn}
use Rattle.lf_trials.specs.Reached.{is_marked}
use Rattle.lf_built.specs.views.Marked.{AreMarks, IsEachOnce}

-- a number is another one's equal either way
same_at : (n k : ℕ) → is_at (nat_cmp n) k ≡ eqb k n
same_at n k = sym (unsigned_ties n k) ∙ eqb-turn n k

-- a mark is put behind the others
pub put_mark : (numbers more : List ℕ) (old new : BTreeSet ℕ) (n : ℕ) → AreMarks numbers old → ((k : ℕ) → contains nat_cmp new k ≡ cond (is_at (nat_cmp n) k) true (contains nat_cmp old k)) → is_marked (reverse numbers) n ≡ false
    → more ≡ numbers ++ n ∷ [] → AreMarks more new
put_mark numbers more old new n are updates free pushed =
    let marks : reverse more ≡ n ∷ reverse numbers = ap reverse pushed ∙ reverse-append numbers (n ∷ []) in
    record {
      once = subst IsEachOnce (sym marks) (free, are.once);
      told = λ k.
          updates k
          ∙ ap (λ (b : Bool). cond b true (contains nat_cmp old k)) (same_at n k)
          ∙ ap (cond (eqb k n) true) (are.told k)
          ∙ or_from_cond (eqb k n) (is_marked (reverse numbers) k)
          ∙ sym (ap (λ (l : List ℕ). is_marked l k) marks);
    }

-- the marks in whichever order
turned : (k : ℕ) (marks : List ℕ) → is_marked (reverse marks) k ≡ is_marked marks k
turned k [] = refl
turned k (n ∷ marks) =
    ap (list_any (eqb k)) (reverse-append (n ∷ []) marks)
    ∙ list_any-append (eqb k) (reverse marks) (n ∷ [])
    ∙ or_comm (is_marked (reverse marks) k) (is_marked (n ∷ []) k)
    ∙ ap (λ b. is_marked (n ∷ []) k || b) (turned k marks)
    ∙ sym (list_any-append (eqb k) (n ∷ []) marks)

pub among_both : (few others : List ℕ) (k : ℕ) → is_marked (reverse (few ++ others)) k ≡ (is_marked few k || is_marked (reverse others) k)
among_both few others k = turned k (few ++ others) ∙ list_any-append (eqb k) few others ∙ ap (λ b. is_marked few k || b) (sym (turned k others))

-- what isn't marked isn't among the others
pub free_of_others : (few others : List ℕ) (k : ℕ) → is_marked (reverse (few ++ others)) k ≡ false → is_marked (reverse others) k ≡ false
free_of_others few others k free = by (is_marked few k) (is_marked (reverse others) k) (sym (among_both few others k) ∙ free)
  where
    by : (a b : Bool) → (a || b) ≡ false → b ≡ false
    by true b e = absurd (cc)
    by false b e = e
