-- Going over a string byte by byte, to the quote that closes.
use Rattle.std.proofs.Common.{◌≡◌, ℕ, suc, ◌+◌, ◌<◌, ◌≤◌, Bool, true, false, not, ◌&&◌, cond, eqb, List, Option, Some, None, length, get_or, drop, refl, ap, arith, add-one, drop-cons}
use Rattle.std.specs.Prelude.{option_map}
use Rattle.std.proofs.lemmas.List.{drop_all}
use Rattle.lf_laws.proofs.Options.{place_from_start, place_more}
use Rattle.lf_base.specs.reading.Closing.{closing, stops}

-- what closes, where the first bytes are passed
abbrev pub passed : Option ℕ → ℕ → List ℕ → ℕ → Bool → Option ℕ
passed stop quote rest i skip = option_map (λ n. i + n) (closing stop quote skip (drop i rest))

module _ (stop : Option ℕ) (quote : ℕ) (rest : List ℕ) (i : ℕ) (lt : i < length rest) where
  here : (skip : Bool) → closing stop quote skip (drop i rest) ≡ cond (not skip && eqb (get_or rest i 0) quote) (Some 0) (cond (stops stop (get_or rest i 0)) None (option_map suc (closing stop quote (not skip && eqb (get_or rest i 0) 92) (drop (i + 1) rest))))
  unfolding closing
  here skip = rw (add-one, drop-cons rest i 0) refl

  pub passed-closes : (skip : Bool) → (not skip && eqb (get_or rest i 0) quote) ≡ true → passed stop quote rest i skip ≡ Some i
  passed-closes skip e = rw (here skip, e) (ap (λ (k : ℕ). Some k) (omega arith))

  pub passed-stops : (skip : Bool) → (not skip && eqb (get_or rest i 0) quote) ≡ false → stops stop (get_or rest i 0) ≡ true → passed stop quote rest i skip ≡ None
  passed-stops skip e f = rw (here skip, e, f) refl

  pub passed-moves : (skip : Bool) → (not skip && eqb (get_or rest i 0) quote) ≡ false → stops stop (get_or rest i 0) ≡ false → passed stop quote rest i skip ≡ passed stop quote rest (i + 1) (not skip && eqb (get_or rest i 0) 92)
  passed-moves skip e f = rw (here skip, e, f) (place_more i _)

pub passed-ends : (stop : Option ℕ) (quote : ℕ) (rest : List ℕ) (i : ℕ) (skip : Bool) → length rest ≤ i → passed stop quote rest i skip ≡ None
unfolding closing
passed-ends stop quote rest i skip le = rw (drop_all i rest le) refl

pub passed-start : (stop : Option ℕ) (quote : ℕ) (rest : List ℕ) → passed stop quote rest 0 false ≡ closing stop quote false rest
passed-start stop quote rest = place_from_start (closing stop quote false rest)
