-- The reading of runs is the grammar of durations.
use Rattle.std.proofs.Common.{◌≡◌, ℕ, zero, suc, ◌+◌, ◌<◌, ◌≤◌, Bool, true, false, ◌&&◌, cond, eqb, leb, List, [], ◌∷◌, ◌++◌, map, Option, Some, None, length, get_or, take, drop, refl, ap, arith, append_assoc, sym, ◌∙◌, subst, ◌⊎◌, inl, inr, length-drop}
use Rattle.std.proofs.lemmas.Option.{same_Some}
use Rattle.std.proofs.lemmas.Bool.{ne_eqb, cases_lt, false≢true, and_parts, le-leb}
use Rattle.std.proofs.lemmas.Bool.Decides.{eqb_tells, nat_tests}
use Rattle.std.proofs.lemmas.List.{take-append-drop}
use Rattle.std.proofs.lemmas.List.Concat.{flat_map-cons}
use Rattle.std.specs.List.{prefix_len, list_all, flat_map, AllByRecursion}
use Rattle.std.specs.Option.{option_map_or}
use Rattle.lf_lex.specs.Bytes.{are_some}
use Rattle.lf_base.specs.Names.{is_digit}
use Rattle.lf_lex.specs.Durations.{Measure, Years, Weeks, Days, Hours, Minutes, Seconds, Milliseconds, letters, place, Amount, amount_text, AreAmounts, Climb, IsDuration, IsDisordered}
use Rattle.lf_lex.specs.reading.Runs.{place_of_letter, one_letter, unit_at, before, units, rise, duration_order}
use Rattle.lf_lex.proofs.Units.{unit_first, units-digits, units-none, units-unit, row-stops}
use Rattle.lf_base.proofs.Rows.{row_all}
use Rattle.lf_lex.proofs.Options.{none_some}

-- The run is amounts, none perhaps, and their units have these places.
pub record AreParts (run places : List ℕ) : Type 0 where
  pub parts : List Amount
  pub each : AllByRecursion (λ p. are_some is_digit p.digits ≡ true) parts
  pub source : run ≡ flat_map amount_text parts
  pub places_are : places ≡ map (λ p. place p.measure) parts

abbrev places_of : List Amount → List ℕ
places_of amounts = map (λ a. place a.measure) amounts

parts_of : (run : List ℕ) (amounts : List Amount) → AreAmounts run amounts → AreParts run (places_of amounts)
parts_of run amounts a = record { parts = amounts; each = a.each; source = a.source; places_are = refl }

some_part : (run : List ℕ) (parts : List Amount) → run ≡ flat_map amount_text parts → 0 < length run → 0 < length parts
some_part run [] e lt = let l = ap length e in absurd (omega arith)
some_part run (p ∷ parts) e lt = omega arith

-- ---- what the grammar has is read

units_digit : (begun : Bool) (b : ℕ) (src : List ℕ) → is_digit b ≡ true → units begun (b ∷ src) ≡ units true src
unfolding units
units_digit begun b [] e = rw e refl
units_digit begun b (c ∷ more) e = rw e refl

units_row : (ds src : List ℕ) → list_all is_digit ds ≡ true → units true (ds ++ src) ≡ units true src
units_row [] src h = refl
units_row (d ∷ ds) src h = let b = and_parts (is_digit d) (list_all is_digit ds) h in units_digit true d (ds ++ src) b.0 ∙ units_row ds src b.1

units_some : (ds src : List ℕ) → are_some is_digit ds ≡ true → units false (ds ++ src) ≡ units true src
units_some [] src h = absurd (false≢true h)
units_some (d ∷ ds) src h = let b = and_parts (is_digit d) (list_all is_digit ds) h in units_digit false d (ds ++ src) b.0 ∙ units_row ds src b.1

units_letters : (m : Measure) (rest : List ℕ) → (get_or rest 0 0 ≡ 115 → ⊥) → units true (letters m ++ rest) ≡ before (place m) (units false rest)
unfolding units is_digit place_of_letter
units_letters Years [] n = refl
units_letters Years (c ∷ more) n = refl
units_letters Weeks [] n = refl
units_letters Weeks (c ∷ more) n = refl
units_letters Days [] n = refl
units_letters Days (c ∷ more) n = refl
units_letters Hours [] n = refl
units_letters Hours (c ∷ more) n = refl
units_letters Minutes [] n = refl
units_letters Minutes (c ∷ more) n = rw (ne_eqb c 115 n) refl
units_letters Seconds [] n = refl
units_letters Seconds (c ∷ more) n = refl
units_letters Milliseconds rest n = refl

first_digit : (ds rest : List ℕ) → are_some is_digit ds ≡ true → get_or (ds ++ rest) 0 0 ≡ 115 → ⊥
unfolding is_digit
first_digit [] rest h e = false≢true h
first_digit (d ∷ ds) rest h e = by d (and_parts (is_digit d) (list_all is_digit ds) h).0 e
  where
    by : (d : ℕ) → is_digit d ≡ true → d ≡ 115 → ⊥
    by d h e = false≢true (subst (λ (n : ℕ). is_digit n ≡ true) e h)

units_parts : (ps : List Amount) → AllByRecursion (λ p. are_some is_digit p.digits ≡ true) ps → units false (flat_map amount_text ps) ≡ Some (map (λ p. place p.measure) ps)
unfolding units
units_parts [] each = refl
units_parts (p ∷ ps) each =
    let rest = flat_map amount_text ps in
    let regrouped : flat_map amount_text (p ∷ ps) ≡ p.digits ++ (letters p.measure ++ rest) = flat_map-cons amount_text p ps ∙ append_assoc p.digits (letters p.measure) rest in
    ap (units false) regrouped ∙ units_some p.digits (letters p.measure ++ rest) each.0 ∙ units_letters p.measure rest (next ps each.1) ∙ ap (before (place p.measure)) (units_parts ps each.1)
  where
    next : (ps : List Amount) → AllByRecursion (λ p. are_some is_digit p.digits ≡ true) ps → get_or (flat_map amount_text ps) 0 0 ≡ 115 → ⊥
    next [] each e = absurd (omega arith)
    next (q ∷ qs) each e = first_digit q.digits (letters q.measure ++ flat_map amount_text qs) each.0 (ap (λ (x : List ℕ). get_or x 0 0) (sym (flat_map-cons amount_text q qs ∙ append_assoc q.digits (letters q.measure) (flat_map amount_text qs))) ∙ e)

pub parts_units : (run places : List ℕ) → AreParts run places → units false run ≡ Some places
parts_units run places a = ap (units false) a.source ∙ units_parts a.parts a.each ∙ ap (λ (x : List ℕ). Some x) (sym a.places_are)

-- ---- what is read is in the grammar

row_some : (src : List ℕ) → 0 < prefix_len is_digit src → are_some is_digit (take (prefix_len is_digit src) src) ≡ true
row_some [] p = absurd (omega arith)
row_some (b ∷ src) p = by (is_digit b) refl p
  where
    by : (t : Bool) → is_digit b ≡ t → 0 < cond (is_digit b) (1 + prefix_len is_digit src) 0 → are_some is_digit (take (cond (is_digit b) (1 + prefix_len is_digit src) 0) (b ∷ src)) ≡ true
    by true e p = let k : 1 + prefix_len is_digit src ≡ suc (prefix_len is_digit src) = omega arith in rw (e, k, e) (row_all is_digit src)
    by false e p = absurd (let h = rw e at p in omega arith)

-- the letter of a place
pub record HasUnit (src : List ℕ) (at len : ℕ) : Type 0 where
  pub measure : Measure
  pub source : src ≡ letters measure ++ drop len src
  pub at_is : at ≡ place measure
  pub some : 0 < len

pub record HasLetter (b at : ℕ) : Type 0 where
  pub measure : Measure
  pub is : b ∷ [] ≡ letters measure
  pub at_is : at ≡ place measure

letter_unit : (b at : ℕ) → place_of_letter b ≡ Some at → HasLetter b at
unfolding place_of_letter
letter_unit b at h =
    elim (eqb_tells b 121) [
      | inl a ↦ record { measure = Years; is = rw a.1 refl; at_is = same_Some at 0 (sym h ∙ rw a.0 refl) }
      | inr n1 ↦ elim (eqb_tells b 119) [
        | inl a ↦ record { measure = Weeks; is = rw a.1 refl; at_is = same_Some at 1 (sym h ∙ rw (n1.0, a.0) refl) }
        | inr n2 ↦ elim (eqb_tells b 100) [
          | inl a ↦ record { measure = Days; is = rw a.1 refl; at_is = same_Some at 2 (sym h ∙ rw (n1.0, n2.0, a.0) refl) }
          | inr n3 ↦ elim (eqb_tells b 104) [
            | inl a ↦ record { measure = Hours; is = rw a.1 refl; at_is = same_Some at 3 (sym h ∙ rw (n1.0, n2.0, n3.0, a.0) refl) }
            | inr n4 ↦ elim (eqb_tells b 109) [
              | inl a ↦ record { measure = Minutes; is = rw a.1 refl; at_is = same_Some at 4 (sym h ∙ rw (n1.0, n2.0, n3.0, n4.0, a.0) refl) }
              | inr n5 ↦ elim (eqb_tells b 115) [
                | inl a ↦ record { measure = Seconds; is = rw a.1 refl; at_is = same_Some at 5 (sym h ∙ rw (n1.0, n2.0, n3.0, n4.0, n5.0, a.0) refl) }
                | inr n6 ↦ none_some at (place_of_letter b) (rw (n1.0, n2.0, n3.0, n4.0, n5.0, n6.0) refl) h
              ]
            ]
          ]
        ]
      ]
    ]

one_unit : (b : ℕ) (more : List ℕ) (at len : ℕ) (o : Option ℕ) → place_of_letter b ≡ o → one_letter o ≡ Some (at, len) → HasUnit (b ∷ more) at len
one_unit b more at len None e h = none_some (at, len) (one_letter None) refl h
one_unit b more at len (Some q) e h =
    let k : (q, 1) ≡ (at, len) = same_Some (q, 1) (at, len) h in
    let l : 1 ≡ len = ap (λ (x : ℕ × ℕ). x.1) k in
    let u = letter_unit b q e in
    subst (HasUnit (b ∷ more) at) l (record {
      measure = u.measure;
      source = ap (λ (x : List ℕ). x ++ more) u.is;
      at_is = sym (ap (λ (x : ℕ × ℕ). x.0) k) ∙ u.at_is;
      some = omega arith;
    })

unit_is : (src : List ℕ) (at len : ℕ) → unit_at src ≡ Some (at, len) → HasUnit src at len
unfolding unit_at
unit_is [] at len h = none_some (at, len) (unit_at []) refl h
unit_is (b ∷ []) at len h = one_unit b [] at len (place_of_letter b) refl h
unit_is (b ∷ c ∷ more) at len h = by (eqb b 109) (eqb c 115) refl refl h
  where
    by : (s t : Bool) → eqb b 109 ≡ s → eqb c 115 ≡ t → cond (s && t) (Some (6, 2)) (one_letter (place_of_letter b)) ≡ Some (at, len) → HasUnit (b ∷ c ∷ more) at len
    by true true p q h =
        let k : (6, 2) ≡ (at, len) = same_Some (6, 2) (at, len) h in
        let l : 2 ≡ len = ap (λ (x : ℕ × ℕ). x.1) k in
        let eb : b ≡ 109 = grind (arith, nat_tests) in
        let ec : c ≡ 115 = grind (arith, nat_tests) in
        subst (HasUnit (b ∷ c ∷ more) at) l (record { measure = Milliseconds; source = rw (eb, ec) refl; at_is = sym (ap (λ (x : ℕ × ℕ). x.0) k); some = omega arith })
    by true false p q h = one_unit b (c ∷ more) at len (place_of_letter b) refl h
    by false t p q h = one_unit b (c ∷ more) at len (place_of_letter b) refl h

-- a part before parts
more_parts : (run : List ℕ) (k len at : ℕ) (places : List ℕ) → are_some is_digit (take k run) ≡ true → HasUnit (drop k run) at len → AreParts (drop len (drop k run)) places → AreParts run (at ∷ places)
more_parts run k len at places d u a =
    let p : Amount = record { digits = take k run; measure = u.measure } in
    let rest = drop len (drop k run) in
    record {
      parts = p ∷ a.parts;
      each = (d, a.each);
      source = sym (take-append-drop k run) ∙ ap (λ (x : List ℕ). take k run ++ x) (u.source ∙ ap (λ (x : List ℕ). letters u.measure ++ x) a.source) ∙ sym (append_assoc (take k run) (letters u.measure) (flat_map amount_text a.parts)) ∙ sym (flat_map-cons amount_text p a.parts);
      places_are = ap (λ (x : ℕ). x ∷ places) u.at_is ∙ ap (λ (x : List ℕ). place u.measure ∷ x) a.places_are;
    }

pub units_are : (n : ℕ) (run places : List ℕ) → length run < n → units false run ≡ Some places → AreParts run places
unfolding units
units_are zero run places lt h = absurd (omega arith)
units_are (suc n) [] places lt h = record { parts = []; each = tt; source = refl; places_are = sym (same_Some [] places h) }
units_are (suc n) (b ∷ src) places lt h = by (λ rest ps l e. units_are n rest ps l e) (cases_lt 0 (prefix_len is_digit (b ∷ src)))
  where
    Again : Type 0
    Again = (rest ps : List ℕ) → length rest < n → units false rest ≡ Some ps → AreParts rest ps

    run : List ℕ
    run = b ∷ src

    k : ℕ
    k = prefix_len is_digit run

    after_unit : Again → (at len : ℕ) (o : Option (List ℕ)) → 0 < k → HasUnit (drop k run) at len → units false (drop len (drop k run)) ≡ o → before at o ≡ Some places → AreParts run places
    after_unit again at len None p u e h = none_some places None refl h
    after_unit again at len (Some ps) p u e h =
        let l = length-drop len (drop k run) in
        let m = length-drop k run in
        let s = u.some in
        subst (AreParts run) (same_Some (at ∷ ps) places h) (more_parts run k len at ps (row_some run p) u (again (drop len (drop k run)) ps (omega arith) e))

    after_digits : Again → (o : Option (ℕ × ℕ)) → 0 < k → unit_at (drop k run) ≡ o → unit_first (drop k run) o ≡ Some places → AreParts run places
    after_digits again None p e h = none_some places None refl h
    after_digits again (Some u) p e h = after_unit again u.0 u.1 (units false (drop u.1 (drop k run))) p (unit_is (drop k run) u.0 u.1 e) refl h

    by : Again → (0 < k) ⊎ (k ≤ 0) → AreParts run places
    by again (inr z) = none_some places (units false run) (units-none run (omega arith) z) h
    by again (inl p) = after_digits again (unit_at (drop k run)) p refl (sym (units-digits run p ∙ units-unit (drop k run) (row-stops is_digit run)) ∙ h)

-- ---- the order

rise_climb : (least : ℕ) (places : List ℕ) → rise least places ≡ true → Climb places
rise_climb least [] h = tt
rise_climb least (p ∷ []) h = tt
rise_climb least (p ∷ q ∷ places) h =
    let a = and_parts (leb least p) (rise (suc p) (q ∷ places)) h in
    let b = and_parts (leb (suc p) q) (rise (suc q) places) a.1 in
    (below p q b.0, rise_climb (suc p) (q ∷ places) a.1)
  where
    below : (p q : ℕ) → leb (suc p) q ≡ true → p < q
    below p q h = grind (arith, nat_tests)

climb_from : (least p : ℕ) (places : List ℕ) → least ≤ p → Climb (p ∷ places) → rise least (p ∷ places) ≡ true
climb_from least p [] le h = rw (le-leb least p le) refl
climb_from least p (q ∷ places) le h = rw (le-leb least p le) (climb_from (suc p) q places h.0 h.1)

climb_rise : (places : List ℕ) → Climb places → rise 0 places ≡ true
climb_rise [] h = refl
climb_rise (p ∷ places) h = climb_from 0 p places (omega arith) h

pub ordered : (run : List ℕ) → IsDuration run → duration_order run ≡ Some true
ordered run (amounts, parts, climb) = rw (parts_units run (places_of amounts) (parts_of run amounts parts)) (ap (λ (b : Bool). Some b) (climb_rise (places_of amounts) climb))

pub disordered : (run : List ℕ) → IsDisordered run → duration_order run ≡ Some false
disordered run (amounts, parts, not_climb) = rw (parts_units run (places_of amounts) (parts_of run amounts parts)) (ap (λ (b : Bool). Some b) (by (rise 0 (places_of amounts)) refl))
  where
    by : (b : Bool) → rise 0 (places_of amounts) ≡ b → rise 0 (places_of amounts) ≡ false
    by true e = absurd (not_climb (rise_climb 0 (places_of amounts) e))
    by false e = e

module _ (run : List ℕ) (lt : 0 < length run) where
  amounts_of : (places : List ℕ) (a : AreParts run places) → AreAmounts run a.parts
  amounts_of places a = record { some = some_part run a.parts a.source lt; each = a.each; source = a.source }

  pub only_ordered : duration_order run ≡ Some true → IsDuration run
  only_ordered h = by (units false run) refl h
    where
      by : (o : Option (List ℕ)) → units false run ≡ o → option_map_or (λ places. Some (rise 0 places)) o None ≡ Some true → IsDuration run
      by None e h = none_some true None refl h
      by (Some places) e h =
          let a = units_are (suc (length run)) run places (omega arith) e in
          (a.parts, amounts_of places a, subst Climb a.places_are (rise_climb 0 places (same_Some (rise 0 places) true h)))

  pub only_disordered : duration_order run ≡ Some false → IsDisordered run
  only_disordered h = by (units false run) refl h
    where
      by : (o : Option (List ℕ)) → units false run ≡ o → option_map_or (λ places. Some (rise 0 places)) o None ≡ Some false → IsDisordered run
      by None e h = none_some false None refl h
      by (Some places) e h =
          let a = units_are (suc (length run)) run places (omega arith) e in
          (a.parts, amounts_of places a, λ climb. false≢true (sym (same_Some (rise 0 places) false h) ∙ climb_rise places (subst Climb (sym a.places_are) climb)))

pub no_amounts : (run : List ℕ) (amounts : List Amount) → duration_order run ≡ None → AreAmounts run amounts → ⊥
no_amounts run amounts h a = none_some (rise 0 (places_of amounts)) (duration_order run) h (rw (parts_units run (places_of amounts) (parts_of run amounts a)) refl)

pub are_amounts : (run : List ℕ) (amounts : List Amount) → AreAmounts run amounts → units false run ≡ Some (places_of amounts)
are_amounts run amounts a = parts_units run (places_of amounts) (parts_of run amounts a)

pub not_amounts : (run : List ℕ) → ((amounts : List Amount) → AreAmounts run amounts → ⊥) → 0 < length run → duration_order run ≡ None
not_amounts run none lt = by (units false run) refl
  where
    by : (o : Option (List ℕ)) → units false run ≡ o → option_map_or (λ places. Some (rise 0 places)) o None ≡ None
    by None e = refl
    by (Some places) e = let a = units_are (suc (length run)) run places (omega arith) e in absurd (none a.parts (amounts_of run lt places a))
