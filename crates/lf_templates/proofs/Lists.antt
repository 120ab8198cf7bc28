-- Parts of lists.
use Rattle.std.proofs.Common.{◌≡◌, ℕ, List, ◌++◌, length, take, drop, subst}
use Rattle.std.proofs.Math.Seq.{drop-append_seam, take-append_seam}

pub take_same : (n : ℕ) (text rest : List ℕ) → length text ≡ n → take n (text ++ rest) ≡ text
take_same n text rest e = subst (λ (k : ℕ). take k (text ++ rest) ≡ text) e (take-append_seam text rest)

pub drop_same : (n : ℕ) (text rest : List ℕ) → length text ≡ n → drop n (text ++ rest) ≡ rest
drop_same n text rest e = subst (λ (k : ℕ). drop k (text ++ rest) ≡ rest) e (drop-append_seam text rest)
