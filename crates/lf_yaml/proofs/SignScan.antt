-- Going over a key byte by byte, to the `:` that ends it.
use Rattle.std.proofs.Common.{◌≡◌, ℕ, ◌+◌, ◌<◌, ◌≤◌, Bool, true, false, eqb, List, ◌∷◌, Option, Some, None, length, get_or, take, drop, refl, ap, arith, sym, ◌∙◌, ◌&&◌, subst}
use Rattle.std.proofs.lemmas.Bool.{ne_eqb}
use Rattle.std.proofs.lemmas.List.{append-nil, drop_all}
use Rattle.lf_scalar.specs.Cells.{Cell, cell, cells}
use Rattle.lf_scalar.specs.Lines.{is_blank, begins_with}
use Rattle.lf_scalar.specs.Plain.{before_blank}
use Rattle.lf_scalar.specs.Splits.{Split, split_of}
use Rattle.lf_scalar.proofs.Cells.{cells-drop, cells-take}
use Rattle.lf_scalar.proofs.Closing.{ahead}
use Rattle.lf_scalar.proofs.Scan.{ahead-behind}
use Rattle.lf_yaml.specs.Heads.{key_in}
use Rattle.lf_yaml.specs.views.Signs.{stops_of}

-- what ends a key, where the first bytes are passed
abbrev pub key_from : Bool → ℕ → List ℕ → ℕ → Option Split
key_from flow at text i = ahead (cells at (take i text)) (key_in (stops_of flow) before_blank (cells (at + i) (drop i text)))

module _ (flow : Bool) (at : ℕ) (text : List ℕ) (i : ℕ) (lt : i < length text) where
  abbrev here : Cell
  here = cell (get_or text i 0) (at + i)

  abbrev following : List Cell
  following = cells (at + (i + 1)) (drop (i + 1) text)

  first : key_from flow at text i ≡ ahead (cells at (take i text)) (key_in (stops_of flow) before_blank (here ∷ following))
  first = ap (λ (cs : List Cell). ahead (cells at (take i text)) (key_in (stops_of flow) before_blank cs)) (cells-drop at text i lt)

  pub key-found : (eqb (get_or text i 0) 58 && before_blank following) ≡ true → key_from flow at text i ≡ Some (split_of at text i)
  unfolding key_in
  key-found e = first ∙ rw e (ap (λ (cs : List Cell). Some (cs, (here, following))) (append-nil (cells at (take i text))))

  pub key-stopped : (eqb (get_or text i 0) 58 && before_blank following) ≡ false → stops_of flow here ≡ true → key_from flow at text i ≡ None
  unfolding key_in
  key-stopped e s = first ∙ rw (e, s) refl

  pub key-commented : (eqb (get_or text i 0) 58 && before_blank following) ≡ false → stops_of flow here ≡ false → (is_blank here && begins_with 35 following) ≡ true → key_from flow at text i ≡ None
  unfolding key_in
  key-commented e s b = first ∙ rw (e, s, b) refl

  pub key-goes : (eqb (get_or text i 0) 58 && before_blank following) ≡ false → stops_of flow here ≡ false → (is_blank here && begins_with 35 following) ≡ false → key_from flow at text i ≡ key_from flow at text (i + 1)
  unfolding key_in
  key-goes e s b = first ∙ rw (e, s, b, cells-take at text i lt) (ahead-behind (cells at (take i text)) here (key_in (stops_of flow) before_blank following))

  -- a byte behind `:` neither ends a key of a block mapping nor stops it
  pub key-passed : flow ≡ false → 58 < get_or text i 0 → key_from flow at text i ≡ key_from flow at text (i + 1)
  key-passed f above =
      let b : ℕ = get_or text i 0 in
      key-goes (rw (ne_eqb b 58 (λ e. omega (arith, e, above))) refl) (rw f refl) (rw (ne_eqb b 32 (λ e. omega (arith, e, above)), ne_eqb b 9 (λ e. omega (arith, e, above))) refl)

pub key-end : (flow : Bool) (at : ℕ) (text : List ℕ) (i : ℕ) → length text ≤ i → key_from flow at text i ≡ None
unfolding key_in
key-end flow at text i le = ap (λ (xs : List ℕ). ahead (cells at (take i text)) (key_in (stops_of flow) before_blank (cells (at + i) xs))) (drop_all i text le)

-- the tests of the code at a place, from what they say of the bytes behind it
pub ends-value : (v : Bool) (at b i : ℕ) (text rest : List ℕ) (result : Bool) → rest ≡ drop (i + 1) text → ((a : ℕ) → result ≡ (eqb b 58 && before_blank (cells a rest))) → result ≡ v
    → (eqb b 58 && before_blank (cells (at + (i + 1)) (drop (i + 1) text))) ≡ v
ends-value v at b i text rest result e h r = subst (λ (xs : List ℕ). (eqb b 58 && before_blank (cells (at + (i + 1)) xs)) ≡ v) e (sym (h (at + (i + 1))) ∙ r)

pub comments-value : (v : Bool) (at b i : ℕ) (text rest : List ℕ) (result : Bool) → rest ≡ drop (i + 1) text → ((a : ℕ) → result ≡ (is_blank (cell b a) && begins_with 35 (cells a rest))) → result ≡ v
    → (is_blank (cell b (at + i)) && begins_with 35 (cells (at + (i + 1)) (drop (i + 1) text))) ≡ v
comments-value v at b i text rest result e h r = subst (λ (xs : List ℕ). (is_blank (cell b (at + i)) && begins_with 35 (cells (at + (i + 1)) xs)) ≡ v) e (sym (h (at + (i + 1))) ∙ r)
