-- The environments for which words stand, and the words of environments.
use Rattle.std.proofs.Common.{◌≡◌, ℕ, suc, ◌+◌, ◌-◌, ◌*◌, ◌<◌, Bool, true, false, cond, not, List, [], ◌∷◌, ◌++◌, length, get_or, take, drop, Some, inl, inr, refl, sym, ◌∙◌, ap, subst, arith}
use Rattle.std.proofs.Math.Nat.{suc-mul, zero-mul}
use Rattle.std.proofs.Math.Seq.{drop-append_seam, take-append_seam}
use Rattle.std.proofs.lemmas.Option.{same_Some}
use Rattle.std.specs.List.{AllByRecursion}
use Rattle.std.specs.Str.{bytes_eq}
use Rattle.std.proofs.lemmas.Bool.{cases_lt}
use Rattle.std.proofs.lemmas.List.{get_or-take, get_or-drop, get_or-append_right, get_or_append_left, get_or_past, drop-drop, length-map, length-take}
use Rattle.lf_ast.specs.Labels.{Bytes}
use Rattle.lf_ast.specs.Rules.{RuleTree}
use Rattle.lf_ast.specs.Selectors.{metric}
use Rattle.lf_classes.specs.RowWords.{WordLeq, WordsLeq, row_of_words, row_word, word_count, words_of_row}
use Rattle.lf_classes.proofs.RowWordOrder.{length-words, shape_of_words, word_at, word_refl, words_back, words_leq}
use Rattle.lf_flow.specs.Reads.{names_of}
use Rattle.lf_semantics.specs.ClassRows.{Sets}
use Rattle.lf_semantics.specs.Environments.{CoversRules, EnvironmentLeq, IsEnvironmentOf, IsRow, recorded_names}
use Rattle.lf_semantics.specs.Listing.{IsListing, Listing, class_counts, class_of, label_of, other_class, place}
use Rattle.lf_semantics.specs.RowTable.{Environment, row_named}
use Rattle.lf_fix.proofs.Rounds.{start_is}
use Rattle.lf_fix.specs.views.Rounds.{start}
use Rattle.lf_rounds.specs.Words.{environment_of, words_of}

-- a universe has a label
pub some_label : (u : Listing) → IsListing u → 0 < length (class_counts u)
some_label u p = omega (arith, length-map u.named (λ named. length named + 2), p.count)

-- parts of words

pub take_leq : (n : ℕ) (xs ys : List ℕ) → WordsLeq xs ys → WordsLeq (take n xs) (take n ys)
take_leq n xs ys leq = record {
  at = λ k. elim (cases_lt k n) [
    | inl h ↦ (let P : ℕ × ℕ → Type 0 = λ w. WordLeq w.0 w.1 in subst P (λ i. (sym (get_or-take n xs k 0 h) i, sym (get_or-take n ys k 0 h) i)) (leq.at k))
    | inr h ↦ (let P : ℕ × ℕ → Type 0 = λ w. WordLeq w.0 w.1 in
        subst P (λ i. (sym (get_or_past (take n xs) k 0 (omega (arith, h, length-take n xs))) i, sym (get_or_past (take n ys) k 0 (omega (arith, h, length-take n ys))) i)) (word_refl 0))
  ];
}

pub drop_leq : (n : ℕ) (xs ys : List ℕ) → WordsLeq xs ys → WordsLeq (drop n xs) (drop n ys)
drop_leq n xs ys leq = record { at = λ k. let P : ℕ × ℕ → Type 0 = λ w. WordLeq w.0 w.1 in subst P (λ i. (sym (get_or-drop n xs k 0) i, sym (get_or-drop n ys k 0) i)) (leq.at (n + k)) }

module _ (u : Listing) (p : IsListing u) where
  pub names_of_words : (names : List Bytes) (words : List ℕ) → names_of (environment_of u names words) ≡ names
  names_of_words [] words = refl
  names_of_words (name ∷ names) words = ap (λ (xs : List Bytes). name ∷ xs) (names_of_words names (drop (word_count u) words))

  rows_of_words : (names : List Bytes) (words : List ℕ) → AllByRecursion (λ entry. IsRow u entry.1) (environment_of u names words)
  rows_of_words [] words = tt
  rows_of_words (name ∷ names) words = (shape_of_words u (some_label u p) (take (word_count u) words), rows_of_words names (drop (word_count u) words))

  -- greater words stand for a greater environment
  pub environment_leq : (names : List Bytes) (xs ys : List ℕ) → WordsLeq xs ys → EnvironmentLeq (environment_of u names xs) (environment_of u names ys)
  environment_leq [] xs ys leq = tt
  environment_leq (name ∷ names) xs ys leq =
      let n = word_count u in
      (refl, words_leq u (some_label u p) (take n xs) (take n ys) (take_leq n xs ys leq), environment_leq names (drop n xs) (drop n ys) (drop_leq n xs ys leq))

  classes_by : (P : Bytes → Type 0) (env other : Environment) → names_of env ≡ names_of other → AllByRecursion (λ entry. P entry.0) env → AllByRecursion (λ entry. P entry.0) other
  classes_by P [] [] e h = tt
  classes_by P [] (o ∷ other) e h = absurd (cc)
  classes_by P (x ∷ env) [] e h = absurd (cc)
  classes_by P (x ∷ env) (o ∷ other) e h = (subst P (ap (λ (xs : List Bytes). get_or xs 0 []) e) h.0, classes_by P env other (ap (λ (xs : List Bytes). drop 1 xs) e) h.1)

  -- words stand for an environment of the rules
  pub words_of_rules : (rules : List RuleTree) (words : List ℕ) → CoversRules u rules → IsEnvironmentOf u rules (environment_of u (recorded_names rules) words)
  words_of_rules rules words covers =
      let first = start_is u p rules covers in
      let env = environment_of u (recorded_names rules) words in
      let named = names_of_words (recorded_names rules) words in
      record {
        environment = record {
          rows = rows_of_words (recorded_names rules) words;
          classes = classes_by (λ name. class_of u (label_of u metric) name < other_class u (label_of u metric)) (start u rules) env (first.names ∙ sym named) first.environment.classes;
        };
        names = named;
      }

  -- the words of an environment stand for it
  pub words_stand : (env : Environment) → AllByRecursion (λ entry. IsRow u entry.1) env → environment_of u (names_of env) (words_of u env) ≡ env
  words_stand [] h = refl
  words_stand (entry ∷ env) h =
      let row = words_of_row u entry.1 in
      let rest = words_of u env in
      let n = word_count u in
      let first : take n (row ++ rest) ≡ row = ap (λ k. take k (row ++ rest)) (sym (length-words u entry.1)) ∙ take-append_seam row rest in
      let behind : drop n (row ++ rest) ≡ rest = ap (λ k. drop k (row ++ rest)) (sym (length-words u entry.1)) ∙ drop-append_seam row rest in
      ap (λ (words : List ℕ). (entry.0, row_of_words u words) ∷ environment_of u (names_of env) (drop n (row ++ rest))) first
      ∙ ap (λ (words : List ℕ). (entry.0, row_of_words u row) ∷ environment_of u (names_of env) words) behind
      ∙ ap (λ (r : Sets). (entry.0, r) ∷ environment_of u (names_of env) rest) (words_back u (some_label u p) entry.1 h.0)
      ∙ ap (λ (others : Environment). entry ∷ others) (words_stand env h.1)

  -- the words of the row of a name
  pub named_word : (env : Environment) (name : Bytes) (row : Sets) (j : ℕ) → row_named env name ≡ Some row → j < word_count u → get_or (words_of u env) (place (names_of env) name * word_count u + j) 0 ≡ row_word row j
  named_word [] name row j e h = absurd (cc)
  named_word (entry ∷ env) name row j e h = by (bytes_eq entry.0 name) e (λ f. named_word env name row j f h)
    where
      by : (b : Bool) → cond b (Some entry.1) (row_named env name) ≡ Some row
          → (row_named env name ≡ Some row → get_or (words_of u env) (place (names_of env) name * word_count u + j) 0 ≡ row_word row j)
          → get_or (words_of_row u entry.1 ++ words_of u env) (cond (not b) (1 + place (names_of env) name) 0 * word_count u + j) 0 ≡ row_word row j
      by true f rest =
          let first : 0 * word_count u + j ≡ j = omega (arith, zero-mul (word_count u)) in
          let same : entry.1 ≡ row = same_Some entry.1 row f in
          ap (λ k. get_or (words_of_row u entry.1 ++ words_of u env) k 0) first
          ∙ get_or_append_left (words_of_row u entry.1) (words_of u env) 0 j (omega (arith, h, length-words u entry.1)) ∙ word_at u entry.1 j h ∙ ap (λ r. row_word r j) same
      by false f rest =
          let n = word_count u in
          let k = place (names_of env) name in
          let more : (1 + k) * n ≡ n + k * n = ap (λ m. m * n) (let q : 1 + k ≡ suc k = omega arith in q) ∙ suc-mul k n ∙ omega arith in
          let left : (1 + k) * n + j - n ≡ k * n + j = omega (arith, more) in
          get_or-append_right (words_of_row u entry.1) (words_of u env) n ((1 + k) * n + j) 0 (length-words u entry.1) (omega (arith, more))
          ∙ ap (λ m. get_or (words_of u env) m 0) left ∙ rest f

  -- the row of a name for which words stand
  pub named_row : (names : List Bytes) (words : List ℕ) (name : Bytes) → place names name < length names
      → row_named (environment_of u names words) name ≡ Some (row_of_words u (take (word_count u) (drop (place names name * word_count u) words)))
  named_row [] words name h = absurd (omega arith)
  named_row (x ∷ names) words name h = by (bytes_eq x name) h (named_row names (drop (word_count u) words) name)
    where
      by : (b : Bool) → cond (not b) (1 + place names name) 0 < suc (length names)
          → (place names name < length names → row_named (environment_of u names (drop (word_count u) words)) name ≡ Some (row_of_words u (take (word_count u) (drop (place names name * word_count u) (drop (word_count u) words)))))
          → cond b (Some (row_of_words u (take (word_count u) words))) (row_named (environment_of u names (drop (word_count u) words)) name)
          ≡ Some (row_of_words u (take (word_count u) (drop (cond (not b) (1 + place names name) 0 * word_count u) words)))
      by true f rest = ap (λ m. Some (row_of_words u (take (word_count u) (drop m words)))) (sym (zero-mul (word_count u)))
      by false f rest =
          let n = word_count u in
          let k = place names name in
          let more : n + k * n ≡ (1 + k) * n = sym (ap (λ m. m * n) (let q : 1 + k ≡ suc k = omega arith in q) ∙ suc-mul k n ∙ omega arith) in
          rest (omega (arith, f))
          ∙ ap (λ xs. Some (row_of_words u (take n xs))) (drop-drop (k * n) n words) ∙ ap (λ m. Some (row_of_words u (take n (drop m words)))) more

-- a word of the row of a name
pub word_of_part : (words : List ℕ) (at n j : ℕ) → j < n → get_or (take n (drop at words)) j 0 ≡ get_or words (at + j) 0
word_of_part words at n j h = get_or-take n (drop at words) j 0 h ∙ get_or-drop at words j 0
