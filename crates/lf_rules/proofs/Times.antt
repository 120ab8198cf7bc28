-- The tests of times and limits decide what they are tests of.
use Rattle.std.proofs.Common.{◌≡◌, ◌<◌, ◌≤◌, ℕ, Bool, true, false, ◌&&◌, nat_le, [], ◌∷◌, Option, Some, None, ◌⊎◌, inl, inr, refl, sym, true≢false, codes, length, arith}
use Rattle.std.specs.List.{list_all}
use Rattle.std.specs.Str.{bytes_eq}
use Rattle.std.proofs.lemmas.Bool.Decides.{nat_tests}
use Rattle.lf_lex.specs.Durations.{IsDuration}
use Rattle.lf_lex.specs.reading.Runs.{duration_order}
use Rattle.lf_lex.proofs.DurationLaws.{ordered, only_ordered}
use Rattle.lf_lex.proofs.WholeDurations.{duration_some}
use Rattle.lf_rules.specs.Texts.{IsTime, IsLimit}
use Rattle.lf_base.specs.Names.{Bytes, is_digit}
use Rattle.lf_rules.specs.reading.Files.{is_in_order, is_duration, is_time, is_limit}
use Rattle.std.proofs.lemmas.Bool.{or_cases, or_right}
use Rattle.lf_laws.proofs.Booleans.{and_left, and_right}
use Rattle.lf_laws.proofs.Members.{same_true, true_same}
use Rattle.lf_rules.proofs.Parts.{Decides}

order_says : (o : Option Bool) → is_in_order o ≡ true → o ≡ Some true
order_says None e = absurd (true≢false (sym e))
order_says (Some true) e = refl
order_says (Some false) e = absurd (true≢false (sym e))

duration_out : (t : Bytes) → is_duration t ≡ true → IsDuration t
duration_out [] e = absurd (true≢false (sym e))
duration_out (b ∷ bs) e = only_ordered (b ∷ bs) (omega arith) (order_says (duration_order (b ∷ bs)) e)

duration_in : (t : Bytes) → IsDuration t → is_duration t ≡ true
duration_in [] d = absurd (let l : 0 < length {A = ℕ} [] = duration_some [] d in omega arith)
duration_in (b ∷ bs) d = rw (ordered (b ∷ bs) d) refl

pub time_decides : Decides is_time IsTime
time_decides = ((λ t e. by t (or_cases (is_duration t) (bytes_eq t (codes "0")) e)), back)
  where
    by : (t : Bytes) → (is_duration t ≡ true) ⊎ (bytes_eq t (codes "0") ≡ true) → IsTime t
    by t (inl h) = inl (duration_out t h)
    by t (inr h) = inr (true_same t (codes "0") h)

    back : (t : Bytes) → IsTime t → is_time t ≡ true
    back t (inl d) = rw (duration_in t d) refl
    back t (inr h) = or_right (is_duration t) (bytes_eq t (codes "0")) (same_true t (codes "0") h)

pub limit_decides : Decides is_limit IsLimit
limit_decides = (out, back)
  where
    out : (t : Bytes) → is_limit t ≡ true → IsLimit t
    out t e =
        let more : (nat_le 1 (length t) && nat_le (length t) 9) ≡ true = and_right (list_all is_digit t) (nat_le 1 (length t) && nat_le (length t) 9) e in
        (and_left (list_all is_digit t) (nat_le 1 (length t) && nat_le (length t) 9) e, grind (arith, nat_tests, and_left (nat_le 1 (length t)) (nat_le (length t) 9) more), grind (arith, nat_tests, and_right (nat_le 1 (length t)) (nat_le (length t) 9) more))

    both : (t : Bytes) (a b : Bool) → nat_le 1 (length t) ≡ a → nat_le (length t) 9 ≡ b → 1 ≤ length t → length t ≤ 9 → (a && b) ≡ true
    both t true true e f l m = refl
    both t true false e f l m = absurd (grind (arith, nat_tests, f, m))
    both t false b e f l m = absurd (grind (arith, nat_tests, e, l))

    back : (t : Bytes) → IsLimit t → is_limit t ≡ true
    back t i = rw (i.0, both t (nat_le 1 (length t)) (nat_le (length t) 9) refl refl i.1 i.2) refl
