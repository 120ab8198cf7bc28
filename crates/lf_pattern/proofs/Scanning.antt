-- One step of `scanned`.
use Rattle.std.proofs.Common.{◌≡◌, ℕ, ◌+◌, ◌<◌, ◌≤◌, Bool, true, false, cond, ◌==◌, List, [], ◌∷◌, ◌++◌, length, get_or, drop, None, Some, ap, sym, ◌∙◌, encode_utf8}
use Rattle.std.proofs.lemmas.List.{at_drop_more, at_drop_all}
use Rattle.lf_pattern.specs.Plain.{is_escapable, is_special}
use Rattle.lf_pattern.specs.Scan.{scanned}

module _ (done : List (List ℕ)) (now : List ℕ) (cs : List ℕ) (n x : ℕ) (lt : n < length cs) (is : x ≡ get_or cs n x) where
  pub scanned-escaped : scanned done now true (drop n cs)
      ≡ cond (is_escapable x) (scanned done (now ++ encode_utf8 x) false (drop (n + 1) cs)) None
  unfolding scanned
  scanned-escaped = at_drop_more (scanned done now true) cs n x lt
      ∙ ap (λ (c : ℕ). cond (is_escapable c) (scanned done (now ++ encode_utf8 c) false (drop (n + 1) cs)) None) (sym is)

  pub scanned-next : scanned done now false (drop n cs)
      ≡ cond (x == 92) (scanned done now true (drop (n + 1) cs))
      (cond (x == 124) (scanned (done ++ now ∷ []) [] false (drop (n + 1) cs))
      (cond (is_special x) None (scanned done (now ++ encode_utf8 x) false (drop (n + 1) cs))))
  unfolding scanned
  scanned-next = at_drop_more (scanned done now false) cs n x lt
      ∙ ap (λ (c : ℕ). cond (c == 92) (scanned done now true (drop (n + 1) cs))
      (cond (c == 124) (scanned (done ++ now ∷ []) [] false (drop (n + 1) cs))
      (cond (is_special c) None (scanned done (now ++ encode_utf8 c) false (drop (n + 1) cs))))) (sym is)

pub scanned-end : (done : List (List ℕ)) (now : List ℕ) (escaped : Bool) (cs : List ℕ) (n : ℕ) → length cs ≤ n →
    scanned done now escaped (drop n cs) ≡ cond escaped None (Some (done ++ now ∷ []))
unfolding scanned
scanned-end done now true cs n le = at_drop_all (scanned done now true) cs n le
scanned-end done now false cs n le = at_drop_all (scanned done now false) cs n le
