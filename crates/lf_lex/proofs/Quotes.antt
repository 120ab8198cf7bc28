-- The reading of strings is the grammar of strings.
use Rattle.std.proofs.Common.{◌≡◌, ◌≢◌, ℕ, zero, suc, ◌+◌, ◌<◌, false, List, [], ◌∷◌, ◌++◌, Option, Some, None, length, refl, ap, arith, append_assoc, sym, ◌∙◌, subst, inl, inr, eq-eqb}
use Rattle.std.proofs.lemmas.Option.{same_Some}
use Rattle.std.specs.Prelude.{option_map}
use Rattle.std.proofs.lemmas.Bool.{ne_eqb}
use Rattle.std.proofs.lemmas.Bool.Decides.{eqb_tells}
use Rattle.std.proofs.lemmas.List.{length-append}
use Rattle.std.proofs.lemmas.List.Concat.{flat_map-cons}
use Rattle.std.specs.List.{flat_map, AllByRecursion}
use Rattle.lf_lex.specs.Strings.{StringRaw, One, Pair, raw, IsStringRaw}
use Rattle.lf_base.specs.reading.Closing.{closing}
use Rattle.lf_lex.proofs.Options.{none_some}

-- Behind an opening quote stands `inner`, the quote that closes, and perhaps more.
pub record Closes (quote : ℕ) (src inner : List ℕ) : Type 0 where
  pub raws : List StringRaw
  pub each : AllByRecursion (IsStringRaw quote) raws
  pub rest : List ℕ
  pub inner_is : inner ≡ flat_map raw raws
  pub source : src ≡ inner ++ quote ∷ rest

-- ---- where a string closes

abbrev pub ahead : ℕ → Option ℕ → Option ℕ
ahead n o = option_map (λ k. n + k) o

module _ (quote : ℕ) (not_slash : quote ≢ 92) where
  pub closing_one : (r : StringRaw) (src : List ℕ) → IsStringRaw quote r → closing (Some 10) quote false (raw r ++ src) ≡ ahead (length (raw r)) (closing (Some 10) quote false src)
  unfolding closing
  closing_one (One b) src h = rw (ne_eqb b quote h.0, ne_eqb b 10 h.1, ne_eqb b 92 h.2) (one (closing (Some 10) quote false src))
    where
      one : (o : Option ℕ) → option_map suc o ≡ option_map (λ k. 1 + k) o
      one None = refl
      one (Some n) = ap (λ (k : ℕ). Some k) (omega arith)
  closing_one (Pair b) src h = rw (ne_eqb 92 quote (λ e. not_slash (sym e)), ne_eqb b 10 h) (two (closing (Some 10) quote false src))
    where
      two : (o : Option ℕ) → option_map suc (option_map suc o) ≡ option_map (λ k. 2 + k) o
      two None = refl
      two (Some n) = ap (λ (k : ℕ). Some k) (omega arith)

  closing_all : (rs : List StringRaw) (rest : List ℕ) → AllByRecursion (IsStringRaw quote) rs → closing (Some 10) quote false (flat_map raw rs ++ quote ∷ rest) ≡ Some (length (flat_map raw rs))
  unfolding closing
  closing_all [] rest each = rw (eq-eqb quote quote refl) refl
  closing_all (r ∷ rs) rest each =
      let regrouped : flat_map raw (r ∷ rs) ++ quote ∷ rest ≡ raw r ++ (flat_map raw rs ++ quote ∷ rest) = ap (λ (x : List ℕ). x ++ quote ∷ rest) (flat_map-cons raw r rs) ∙ append_assoc (raw r) (flat_map raw rs) (quote ∷ rest) in
      ap (closing (Some 10) quote false) regrouped ∙ closing_one r (flat_map raw rs ++ quote ∷ rest) each.0 ∙ ap (ahead (length (raw r))) (closing_all rs rest each.1)
      ∙ ap (λ (n : ℕ). Some n) (sym (ap length (flat_map-cons raw r rs) ∙ length-append (raw r) (flat_map raw rs)))

  pub closes_found : (src inner : List ℕ) → Closes quote src inner → closing (Some 10) quote false src ≡ Some (length inner)
  closes_found src inner c =
      ap (closing (Some 10) quote false) (c.source ∙ ap (λ (x : List ℕ). x ++ quote ∷ c.rest) c.inner_is) ∙ closing_all c.raws c.rest c.each ∙ ap (λ (x : List ℕ). Some (length x)) (sym c.inner_is)

closing_nil : (quote : ℕ) → closing (Some 10) quote false [] ≡ None
unfolding closing
closing_nil quote = refl

-- a string that closes, and how many bytes it has
pub record Closed (quote : ℕ) (src : List ℕ) (n : ℕ) : Type 0 where
  pub inner : List ℕ
  pub is : Closes quote src inner
  pub len : n ≡ length inner

module _ (quote : ℕ) (not_slash : quote ≢ 92) where
  more_raw : (r : StringRaw) (src : List ℕ) (n m : ℕ) → IsStringRaw quote r → length (raw r) + m ≡ n → Closed quote src m → Closed quote (raw r ++ src) n
  more_raw r src n m h e c = record {
    inner = raw r ++ c.inner;
    is = record {
      raws = r ∷ c.is.raws;
      each = (h, c.is.each);
      rest = c.is.rest;
      inner_is = ap (λ (x : List ℕ). raw r ++ x) c.is.inner_is ∙ sym (flat_map-cons raw r c.is.raws);
      source = ap (λ (x : List ℕ). raw r ++ x) c.is.source ∙ sym (append_assoc (raw r) c.inner (quote ∷ c.is.rest));
    };
    len = sym e ∙ ap (λ (k : ℕ). length (raw r) + k) c.len ∙ sym (length-append (raw r) c.inner);
  }

  next_raw : (r : StringRaw) (src : List ℕ) (n : ℕ) → IsStringRaw quote r → ((m : ℕ) → closing (Some 10) quote false src ≡ Some m → Closed quote src m) → closing (Some 10) quote false (raw r ++ src) ≡ Some n → Closed quote (raw r ++ src) n
  next_raw r src n h again e = by (closing (Some 10) quote false src) refl (sym (closing_one quote not_slash r src h) ∙ e)
    where
      by : (o : Option ℕ) → closing (Some 10) quote false src ≡ o → option_map (λ k. length (raw r) + k) o ≡ Some n → Closed quote (raw r ++ src) n
      by None p q = none_some n None refl q
      by (Some m) p q = more_raw r src n m h (same_Some (length (raw r) + m) n q) (again m p)

  found_at : (src : List ℕ) (b n : ℕ) → b ≡ quote → closing (Some 10) quote false (b ∷ src) ≡ Some n → Closed quote (b ∷ src) n
  unfolding closing
  found_at src b n e h = record {
    inner = [];
    is = record { raws = []; each = tt; rest = src; inner_is = refl; source = rw e refl };
    len = sym (same_Some 0 n (sym (rw (eq-eqb b quote e) refl) ∙ h));
  }

  no_break : (src : List ℕ) (b n : ℕ) {X : Type 0} → b ≢ quote → b ≡ 10 → closing (Some 10) quote false (b ∷ src) ≡ Some n → X
  unfolding closing
  no_break src b n d e h = none_some n (closing (Some 10) quote false (b ∷ src)) (rw (ne_eqb b quote d, eq-eqb b 10 e) refl) h

  no_end : (b n : ℕ) {X : Type 0} → b ≢ quote → b ≢ 10 → b ≡ 92 → closing (Some 10) quote false (b ∷ []) ≡ Some n → X
  unfolding closing
  no_end b n d t e h = none_some n (closing (Some 10) quote false (b ∷ [])) (rw (ne_eqb b quote d, ne_eqb b 10 t) refl) h

  no_pair : (src : List ℕ) (b c n : ℕ) {X : Type 0} → b ≢ quote → b ≢ 10 → b ≡ 92 → c ≡ 10 → closing (Some 10) quote false (b ∷ c ∷ src) ≡ Some n → X
  unfolding closing
  no_pair src b c n d t e f h = none_some n (closing (Some 10) quote false (b ∷ c ∷ src)) (rw (ne_eqb b quote d, ne_eqb b 10 t, eq-eqb b 92 e, eq-eqb c 10 f) refl) h

  found_closes : (fuel : ℕ) (src : List ℕ) (n : ℕ) → length src < fuel → closing (Some 10) quote false src ≡ Some n → Closed quote src n
  found_closes zero src n lt h = absurd (omega arith)
  found_closes (suc fuel) [] n lt h = none_some n (closing (Some 10) quote false []) (closing_nil quote) h
  found_closes (suc fuel) (b ∷ []) n lt h =
      elim (eqb_tells b quote) [
        | inl q ↦ found_at [] b n q.1 h
        | inr q ↦ elim (eqb_tells b 10) [
          | inl t ↦ no_break [] b n q.1 t.1 h
          | inr t ↦ elim (eqb_tells b 92) [
            | inl s ↦ no_end b n q.1 t.1 s.1 h
            | inr s ↦ next_raw (One b) [] n (q.1, t.1, s.1) (λ m e. found_closes fuel [] m (omega arith) e) h
          ]
        ]
      ]
  found_closes (suc fuel) (b ∷ c ∷ src) n lt h =
      elim (eqb_tells b quote) [
        | inl q ↦ found_at (c ∷ src) b n q.1 h
        | inr q ↦ elim (eqb_tells b 10) [
          | inl t ↦ no_break (c ∷ src) b n q.1 t.1 h
          | inr t ↦ elim (eqb_tells b 92) [
            | inl s ↦ elim (eqb_tells c 10) [
              | inl f ↦ no_pair src b c n q.1 t.1 s.1 f.1 h
              | inr f ↦ subst (λ (x : ℕ). Closed quote (x ∷ c ∷ src) n) (sym s.1) (next_raw (Pair c) src n f.1 (λ m e. found_closes fuel src m (omega arith) e) (ap (λ (x : ℕ). closing (Some 10) quote false (x ∷ c ∷ src)) (sym s.1) ∙ h))
            ]
            | inr s ↦ next_raw (One b) (c ∷ src) n (q.1, t.1, s.1) (λ m e. found_closes fuel (c ∷ src) m (omega arith) e) h
          ]
        ]
      ]

  pub closes_told : (src : List ℕ) (n : ℕ) → closing (Some 10) quote false src ≡ Some n → Closed quote src n
  closes_told src n h = found_closes (suc (length src)) src n (omega arith) h
