-- What closes a string and a comment, by the definitions and by the way of reading.
use Rattle.std.proofs.Common.{◌≡◌, ◌≢◌, ℕ, suc, Bool, true, false, cond, eqb, List, [], ◌∷◌, ◌++◌, Option, Some, None, length, refl, ap, sym, ◌∙◌, subst, eq-eqb}
use Rattle.std.specs.Prelude.{option_map}
use Rattle.std.proofs.lemmas.Bool.{ne_eqb, eqb-false, eqb-true, and_parts}
use Rattle.lf_base.specs.reading.Closing.{closing}
use Rattle.lf_templates.specs.Bytes.{starts_with}
use Rattle.lf_templates.specs.Tokens.{IsActionStringInner, nothing, itself, pair, ends_comment, FreeOf}
use Rattle.lf_templates.specs.reading.Templates.{comment_len}

-- ---- strings

pub string_read : (quote : ℕ) (inner rest : List ℕ) → quote ≢ 92 → IsActionStringInner quote inner → closing None quote false (inner ++ quote ∷ rest) ≡ Some (length inner)
unfolding closing
string_read quote [] rest n nothing = rw (eq-eqb quote quote refl) refl
string_read quote (b ∷ inner) rest n (itself x y more) = rw (ne_eqb b quote x, ne_eqb b 92 y, string_read quote inner rest n more) refl
string_read quote (_ ∷ b ∷ inner) rest n (pair more) = rw (ne_eqb 92 quote (λ e. n (sym e)), string_read quote inner rest n more) refl

-- what stands before the quote, behind a backslash or not
abbrev IsInnerBehind : Bool → ℕ → List ℕ → Type 0
IsInnerBehind true quote inner = IsActionStringInner quote (92 ∷ inner)
IsInnerBehind false quote inner = IsActionStringInner quote inner

pub record ClosesAt (skip : Bool) (quote : ℕ) (src : List ℕ) (n : ℕ) : Type 0 where
  pub inner : List ℕ
  pub rest : List ℕ
  pub source : src ≡ inner ++ quote ∷ rest
  pub len : n ≡ length inner
  pub is : IsInnerBehind skip quote inner

-- what is one longer
pub some_suc : (o : Option ℕ) (n : ℕ) → option_map suc o ≡ Some n → (m : ℕ) × (o ≡ Some m) × (n ≡ suc m)
some_suc None n e = cc
some_suc (Some m) n e = (m, refl, cc)

pub string_stands : (quote : ℕ) (skip : Bool) (src : List ℕ) (n : ℕ) → closing None quote skip src ≡ Some n → ClosesAt skip quote src n
unfolding closing
string_stands quote true [] n e = cc
string_stands quote false [] n e = cc
string_stands quote true (b ∷ src) n e =
    let s = some_suc (closing None quote false src) n e in
    let again = string_stands quote false src s.0 s.1 in
    record { inner = b ∷ again.inner; rest = again.rest; source = ap (λ (xs : List ℕ). b ∷ xs) again.source; len = let l = again.len in s.2 ∙ ap suc l; is = pair again.is }
string_stands quote false (b ∷ src) n e = by (λ m f. string_stands quote (eqb b 92) src m f) (eqb b quote) refl e
  where
    step : (skip : Bool) → eqb b 92 ≡ skip → b ≢ quote → (m : ℕ) → n ≡ suc m → ClosesAt skip quote src m → ClosesAt false quote (b ∷ src) n
    step true is x m f again = record {
      inner = b ∷ again.inner;
      rest = again.rest;
      source = ap (λ (xs : List ℕ). b ∷ xs) again.source;
      len = f ∙ ap suc again.len;
      is = subst (λ (k : ℕ). IsActionStringInner quote (k ∷ again.inner)) (sym (eqb-true b 92 is)) again.is;
    }
    step false is x m f again = record {
      inner = b ∷ again.inner;
      rest = again.rest;
      source = ap (λ (xs : List ℕ). b ∷ xs) again.source;
      len = f ∙ ap suc again.len;
      is = itself x (eqb-false b 92 is) again.is;
    }

    by : ((m : ℕ) → closing None quote (eqb b 92) src ≡ Some m → ClosesAt (eqb b 92) quote src m) → (t : Bool) → eqb b quote ≡ t → cond t (Some 0) (option_map suc (closing None quote (eqb b 92) src)) ≡ Some n → ClosesAt false quote (b ∷ src) n
    by again true is e = record { inner = []; rest = src; source = ap (λ (k : ℕ). k ∷ src) (eqb-true b quote is); len = cc; is = nothing }
    by again false is e =
        let s = some_suc (closing None quote (eqb b 92) src) n e in
        step (eqb b 92) refl (eqb-false b quote is) s.0 s.2 (again s.0 s.1)

-- ---- comments

pub comment_read : (inner rest : List ℕ) → FreeOf ends_comment inner (42 ∷ 47 ∷ rest) → comment_len (inner ++ 42 ∷ 47 ∷ rest) ≡ Some (length inner)
unfolding comment_len
comment_read [] rest h = refl
comment_read (b ∷ inner) rest h = rw (h.0, comment_read inner rest h.1) refl

pub record EndsAt (src : List ℕ) (n : ℕ) : Type 0 where
  pub inner : List ℕ
  pub rest : List ℕ
  pub source : src ≡ inner ++ 42 ∷ 47 ∷ rest
  pub len : n ≡ length inner
  pub free : FreeOf ends_comment inner (42 ∷ 47 ∷ rest)

pub two : (b c : ℕ) (src : List ℕ) → starts_with b c src ≡ true → (rest : List ℕ) × (src ≡ b ∷ c ∷ rest)
two b c [] e = cc
two b c (x ∷ []) e = cc
two b c (x ∷ y ∷ src) e = let p = and_parts (eqb x b) (eqb y c) e in
    let f : x ≡ b = eqb-true x b p.0 in
    let g : y ≡ c = eqb-true y c p.1 in
    (src, cc)

pub comment_stands : (src : List ℕ) (n : ℕ) → comment_len src ≡ Some n → EndsAt src n
unfolding comment_len
comment_stands [] n e = cc
comment_stands (b ∷ src) n e = by (λ m f. comment_stands src m f) (ends_comment (b ∷ src)) refl e
  where
    by : ((m : ℕ) → comment_len src ≡ Some m → EndsAt src m) → (t : Bool) → ends_comment (b ∷ src) ≡ t → cond t (Some 0) (option_map suc (comment_len src)) ≡ Some n → EndsAt (b ∷ src) n
    by later true is e = let t = two 42 47 (b ∷ src) is in record { inner = []; rest = t.0; source = t.1; len = cc; free = tt }
    by later false is e =
        let s = some_suc (comment_len src) n e in
        let again = later s.0 s.1 in
        record {
          inner = b ∷ again.inner;
          rest = again.rest;
          source = ap (λ (xs : List ℕ). b ∷ xs) again.source;
          len = s.2 ∙ ap suc again.len;
          free = (subst (λ (xs : List ℕ). ends_comment (b ∷ xs) ≡ false) again.source is, again.free);
        }
