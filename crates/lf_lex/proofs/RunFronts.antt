-- Runs at the front of a text.
use Rattle.std.proofs.Common.{◌≡◌, ℕ, ◌+◌, ◌<◌, Bool, true, false, List, ◌++◌, length, take, drop, Option, Some, None, refl, sym, ◌∙◌, take-append-drop}
use Rattle.std.proofs.lemmas.List.{take_at}
use Rattle.std.proofs.lemmas.Bool.{false≢true, false_from_ne_true}
use Rattle.lf_base.specs.declared.kind.Kind.TheVariants.{BadNumber, BadDuration}
use Rattle.lf_lex.specs.declared.token.TokenKind.TheVariants as kinds
use Rattle.lf_lex.specs.Runs.{begins_run, IsRun, IsNumberRun}
use Rattle.lf_lex.specs.Durations.{Amount, AreAmounts, IsDuration, IsDisordered}
use Rattle.lf_lex.specs.Lexemes.{IsLongest, Written}
use Rattle.lf_lex.specs.Breaches.{BeginsRun}
use Rattle.lf_lex.specs.reading.Runs.{run_len, is_number, units, duration_order}
use Rattle.lf_lex.specs.reading.Steps.{Front, breach, token, run_is, run_front}
use Rattle.lf_lex.proofs.Longest.{greatest_longest, longest_length}
use Rattle.lf_lex.proofs.RunLaws.{run_greatest, begins_on, some_run}
use Rattle.lf_lex.proofs.NumberLaws.{number_read, number_is, number_no_units}
use Rattle.lf_lex.proofs.DurationLaws.{ordered, disordered, only_ordered, only_disordered, no_amounts, not_amounts, are_amounts}
use Rattle.lf_lex.proofs.Standing.{Standing, stands, fails}
use Rattle.lf_lex.proofs.Options.{clash}

no_number : (run : List ℕ) (amounts : List Amount) → AreAmounts run amounts → 0 < length run → is_number run ≡ false
no_number run amounts a lt = false_from_ne_true (is_number run) (λ h. clash _ (units false run) (number_no_units run (number_is run h) lt) (are_amounts run amounts a))

module _ (from : List ℕ) (at : ℕ) where
  module _ (run rest : List ℕ) (longest : IsLongest IsRun run rest) where
    run_some : 0 < length run
    run_some = some_run run longest.0.0

    run_len_is : run_len (run ++ rest) ≡ length run
    run_len_is = sym (longest_length IsRun (run ++ rest) (run_len (run ++ rest)) (run_greatest (run ++ rest) (begins_on run rest longest.0.0)) run rest refl longest)

    run_front_is : run_front from at (run ++ rest) ≡ run_is from at run (length run) (is_number run) (duration_order run)
    unfolding run_front
    run_front_is = rw (run_len_is, take_at run rest (length run) refl) refl

    pub number_front : IsNumberRun run → run_front from at (run ++ rest) ≡ token (kinds.Number run) (length run)
    number_front h = run_front_is ∙ rw (number_read run h) refl

    pub duration_front : IsDuration run → run_front from at (run ++ rest) ≡ token (kinds.Duration run) (length run)
    duration_front h = run_front_is ∙ rw (no_number run h.0 h.1 run_some, ordered run h) refl

    pub bad_duration_front : IsDisordered run → run_front from at (run ++ rest) ≡ breach {X = Front} from BadDuration at (at + length run)
    bad_duration_front h = run_front_is ∙ rw (no_number run h.0 h.1 run_some, disordered run h) refl

    pub bad_number_front : (IsNumberRun run → ⊥) → ((amounts : List Amount) → AreAmounts run amounts → ⊥) → run_front from at (run ++ rest) ≡ breach {X = Front} from BadNumber at (at + length run)
    bad_number_front n a = run_front_is ∙ rw (false_from_ne_true (is_number run) (λ h. n (number_is run h)), not_amounts run a run_some) refl

-- every run is a number, a duration or a breach
module _ (inside : Bool) (src : List ℕ) (begins : begins_run src ≡ true) where
  longest_run : IsLongest IsRun (take (run_len src) src) (drop (run_len src) src)
  longest_run = greatest_longest IsRun src (run_len src) (run_greatest src begins)

  whole : src ≡ take (run_len src) src ++ drop (run_len src) src
  whole = sym (take-append-drop (run_len src) src)

  some : 0 < length (take (run_len src) src)
  some = some_run (take (run_len src) src) longest_run.0.0

  begun : BeginsRun src (take (run_len src) src)
  begun = record { rest = drop (run_len src) src; source = whole; longest = longest_run }

  no_amount : duration_order (take (run_len src) src) ≡ None → (amounts : List Amount) → AreAmounts (take (run_len src) src) amounts → ⊥
  no_amount e amounts a = no_amounts (take (run_len src) src) amounts e a

  no_num : is_number (take (run_len src) src) ≡ false → IsNumberRun (take (run_len src) src) → ⊥
  no_num e h = let k = number_read (take (run_len src) src) h in let f : false ≡ true = sym e ∙ k in false≢true f

  pub run_stands : Standing inside src
  run_stands = by (is_number (take (run_len src) src)) (duration_order (take (run_len src) src)) refl refl
    where
      by : (t : Bool) (o : Option Bool) → is_number (take (run_len src) src) ≡ t → duration_order (take (run_len src) src) ≡ o → Standing inside src
      by true o e f = stands (Written (kinds.Number (take (run_len src) src)) (take (run_len src) src)) (drop (run_len src) src) whole (refl, longest_run, number_is (take (run_len src) src) e)
      by false (Some true) e f = stands (Written (kinds.Duration (take (run_len src) src)) (take (run_len src) src)) (drop (run_len src) src) whole (refl, longest_run, only_ordered (take (run_len src) src) some f)
      by false (Some false) e f = fails BadDuration 0 (length (take (run_len src) src)) (refl, (take (run_len src) src, begun, refl, only_disordered (take (run_len src) src) some f))
      by false None e f = fails BadNumber 0 (length (take (run_len src) src)) (refl, (take (run_len src) src, begun, refl, no_num e, no_amount f))
