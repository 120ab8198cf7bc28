-- Rows that are loaded one after the other.
use Rattle.std.proofs.Common.{◌≡◌, ◌≢◌, ◌⊎◌, ℕ, zero, suc, ◌+◌, ◌*◌, ◌<◌, ◌≤◌, List, [], ◌∷◌, length, get_or, set, take, drop, inl, inr, sym, ◌∙◌, ap, subst, arith, get_or-set_same, get_or-set_other, length-drop}
use Rattle.std.proofs.Math.Nat.{zero-mul, suc-mul}
use lib.Seq.{map-set}
use Rattle.std.specs.List.{AllByRecursion, Contains, sum}
use Rattle.std.proofs.lemmas.List.Sums.{sum_by_more}
use Rattle.std.proofs.lemmas.Bool.{cases_lt}
use Rattle.std.proofs.lemmas.List.{drop-drop, ext_get_or, get_or-map, get_or-take, length-map, length-take-le, set-get_or}
use Rattle.std.proofs.lemmas.List.Elements.{Contains-get_or}
use Rattle.std.proofs.lemmas.Grind.{get_or_default_zero}
use Rattle.lf_ast.specs.Labels.{Bytes}
use Rattle.lf_ast.specs.Rules.{RuleTree}
use Rattle.lf_ast.specs.Selectors.{metric}
use Rattle.lf_classes.specs.RowWords.{row_of_words, word_count}
use Rattle.lf_laws.proofs.Members.{each_member, same_sums}
use Rattle.lf_laws.specs.Ascending.{AreAscending}
use Rattle.lf_flow.proofs.Joins.{all_set}
use Rattle.lf_flow.specs.Reads.{name_at, names_of, rows_of, with_row}
use Rattle.lf_semantics.specs.ClassRows.{Sets}
use Rattle.lf_semantics.specs.Environments.{IsEnvironment, IsEnvironmentOf, IsRow}
use Rattle.lf_semantics.specs.Listing.{Listing, class_of, label_of, other_class}
use Rattle.lf_semantics.specs.RowTable.{Environment}
use Rattle.lf_rounds.specs.Sums.{sum_of_row, sum_of_rows}
use Rattle.lf_rounds.specs.Tasks.{Task, names, stands_for, width}
use Rattle.lf_rounds.specs.Words.{environment_of}
use Rattle.lf_rounds.specs.views.Working.{ChangedAt, HasRead}
use Rattle.lf_rounds.proofs.Environments.{word_of_part}
use Rattle.lf_rounds.proofs.Loading.{part_within}

-- the row with a number, of the environment for which words stand
pub row_at : (u : Listing) (ns : List Bytes) (words : List ℕ) (k : ℕ) → k < length ns → get_or (rows_of (environment_of u ns words)) k [] ≡ row_of_words u (take (word_count u) (drop (k * word_count u) words))
row_at u [] words k h = absurd (omega arith)
row_at u (name ∷ ns) words zero h = ap (λ m. row_of_words u (take (word_count u) (drop m words))) (sym (zero-mul (word_count u)))
row_at u (name ∷ ns) words (suc k) h =
    let n = word_count u in
    row_at u ns (drop n words) k (omega arith) ∙ ap (λ xs. row_of_words u (take n xs)) (drop-drop (k * n) n words)
    ∙ ap (λ m. row_of_words u (take n (drop m words))) (let e : n + k * n ≡ suc k * n = omega (arith, suc-mul k n) in e)

-- an environment in which a name has another row

module _ (env : Environment) (k : ℕ) (row : Sets) (h : k < length env) where
  pub names_put : names_of (with_row k row env) ≡ names_of env
  names_put = map-set (λ (entry : Bytes × Sets). entry.0) env k (name_at env k, row) ∙ set-get_or (names_of env) k []

  rows_put : rows_of (with_row k row env) ≡ set (rows_of env) k row
  rows_put = map-set (λ (entry : Bytes × Sets). entry.1) env k (name_at env k, row)

  pub own_row : get_or (rows_of (with_row k row env)) k [] ≡ row
  own_row = ap (λ rows. get_or rows k []) rows_put ∙ get_or-set_same (rows_of env) k row [] (omega (arith, h, length-map env (λ (entry : Bytes × Sets). entry.1)))

  pub other_row : (m : ℕ) → m ≢ k → get_or (rows_of (with_row k row env)) m [] ≡ get_or (rows_of env) m []
  other_row m n = ap (λ rows. get_or rows m []) rows_put ∙ get_or-set_other (rows_of env) k m row [] n

  pub rows_put_are : (u : Listing) → IsEnvironment u env → IsRow u row → IsEnvironment u (with_row k row env)
  rows_put_are u of is =
      let IsClass : Bytes → Type 0 = λ name. class_of u (label_of u metric) name < other_class u (label_of u metric) in
      let d : Bytes × Sets = (name_at env k, row) in
      let named : IsClass (name_at env k) = subst IsClass (sym (get_or-map (λ (entry : Bytes × Sets). entry.0) env k d [] h)) (each_member (λ (entry : Bytes × Sets). IsClass entry.0) env (get_or env k d) of.classes (Contains-get_or env k d h)) in
      record {
        rows = all_set (λ (entry : Bytes × Sets). IsRow u entry.1) env k (name_at env k, row) of.rows is;
        classes = all_set (λ (entry : Bytes × Sets). IsClass entry.0) env k (name_at env k, row) of.classes named;
      }

  pub environment_put : (u : Listing) (rules : List RuleTree) → IsEnvironmentOf u rules env → IsRow u row → IsEnvironmentOf u rules (with_row k row env)
  environment_put u rules of is = record { environment = rows_put_are u of.environment is; names = names_put ∙ of.names }

-- words of which only those of one row changed

same_part : (old new : List ℕ) (k m n count : ℕ) → length new ≡ length old → count * n ≤ length old → ChangedAt (k * n) n old new → m < count → m ≢ k → take n (drop (m * n) new) ≡ take n (drop (m * n) old)
same_part old new k m n count len all changed h ne =
    let within = part_within m count n h in
    ext_get_or 0 (take n (drop (m * n) new)) (take n (drop (m * n) old))
    (length-take-le n (drop (m * n) new) (omega (arith, within, all, len, length-drop (m * n) new)) ∙ sym (length-take-le n (drop (m * n) old) (omega (arith, within, all, length-drop (m * n) old))))
    (λ j l.
    let b : j < n = omega (arith, l, length-take-le n (drop (m * n) new) (omega (arith, within, all, len, length-drop (m * n) new))) in
    word_of_part new (m * n) n j b ∙ changed (m * n + j) (side j b) ∙ sym (word_of_part old (m * n) n j b))
  where
    side : (j : ℕ) → j < n → (m * n + j < k * n) ⊎ (k * n + n ≤ m * n + j)
    side j b = elim (cases_lt m k) [
      | inl l ↦ inl (omega (arith, b, part_within m k n l))
      | inr l ↦ inr (let less : k < m = omega (arith, l, ne) in omega (arith, part_within k m n less))
    ]

-- numbers before a place, and the one there

taken_at : (numbers : List ℕ) (i j m : ℕ) → i ≤ length numbers → j < i → get_or (take i numbers) j m ≡ get_or numbers j 0
taken_at numbers i j m h b = get_or-take i numbers j m b ∙ get_or_default_zero numbers j m (omega (arith, h, b))

taken_in : (numbers : List ℕ) (i m : ℕ) → i ≤ length numbers → Contains (take i numbers) m → (j : ℕ) × (j < i) × (get_or numbers j 0 ≡ m)
taken_in numbers i m h c =
    let b : c.0 < i = omega (arith, c.1, length-take-le i numbers h) in
    (c.0, b, sym (taken_at numbers i c.0 m h b) ∙ c.2)

in_taken : (numbers : List ℕ) (i j m : ℕ) → i ≤ length numbers → j < i → get_or numbers j 0 ≡ m → Contains (take i numbers) m
in_taken numbers i j m h b e = (j, omega (arith, b, length-take-le i numbers h), taken_at numbers i j m h b ∙ e)

in_all : (numbers : List ℕ) (i m : ℕ) → i ≤ length numbers → Contains (take i numbers) m → Contains numbers m
in_all numbers i m h c = let r = taken_in numbers i m h c in (r.0, omega (arith, r.1, h), get_or_default_zero numbers r.0 m (omega (arith, r.1, h)) ∙ r.2)

-- of ascending numbers those before a place are others than the one there
others_before : (numbers : List ℕ) (i m : ℕ) → AreAscending numbers → i < length numbers → Contains (take i numbers) m → m ≢ get_or numbers i 0
others_before numbers i m ascend h c e =
    let r = taken_in numbers i m (omega (arith, h)) c in
    absurd (omega (arith, ascend r.0 i r.1 h, r.2, e))

pub one_more : (numbers : List ℕ) (i m : ℕ) → i < length numbers → Contains (take (i + 1) numbers) m → Contains (take i numbers) m ⊎ (get_or numbers i 0 ≡ m)
one_more numbers i m h c =
    let r = taken_in numbers (i + 1) m (omega (arith, h)) c in
    elim (cases_lt r.0 i) [
      | inl b ↦ inl (in_taken numbers i r.0 m (omega (arith, h)) b r.2)
      | inr b ↦ inr (let e : i ≡ r.0 = omega (arith, b, r.1) in ap (λ j. get_or numbers j 0) e ∙ r.2)
    ]

-- a row more is read
module _ (t : Task) (old new numbers : List ℕ) (i : ℕ) (env : Environment) (row : Sets) (ascend : AreAscending numbers) (h : i < length numbers) (count : length env ≡ length (names t)) (len : length new ≡ length old)
    (all : length (names t) * width t ≤ length old) (within : (k : ℕ) → Contains numbers k → k < length env) where
  abbrev pub number : ℕ
  number = get_or numbers i 0

  pub number_within : number < length env
  number_within = within number (i, h, get_or_default_zero numbers i number h)

  pub read_one : ChangedAt (number * width t) (width t) old new → row ≡ row_of_words t.universe (take (width t) (drop (number * width t) new))
      → HasRead t old (take i numbers) env → HasRead t new (take (i + 1) numbers) (with_row number row env)
  read_one changed is before m c = elim (one_more numbers i m h c) [
    | inl b ↦ (let ne = others_before numbers i m ascend h b in
        let below : m < length (names t) = omega (arith, within m (in_all numbers i m (omega (arith, h)) b), count) in
        other_row env number row number_within m ne ∙ before m b ∙ row_at t.universe (names t) old m below
        ∙ ap (row_of_words t.universe) (sym (same_part old new number m (width t) (length (names t)) len all changed below ne)) ∙ sym (row_at t.universe (names t) new m below))
    | inr e ↦ (let P : ℕ → Type 0 = λ k. get_or (rows_of (with_row number row env)) k [] ≡ get_or (rows_of (stands_for t new)) k [] in
        subst P e (own_row env number row number_within ∙ is ∙ sym (row_at t.universe (names t) new number (omega (arith, number_within, count)))))
  ]

  -- and summed up
  pub sum_one : ChangedAt (number * width t) (width t) old new → sum_of_rows (width t) new (take (i + 1) numbers) ≡ sum_of_rows (width t) old (take i numbers) + sum_of_row (width t) new number
  sum_one changed =
      let same : sum_of_rows (width t) new (take i numbers) ≡ sum_of_rows (width t) old (take i numbers) =
      same_sums (sum_of_row (width t) new) (sum_of_row (width t) old) (take i numbers)
      (λ m c. ap sum (same_part old new number m (width t) (length (names t)) len all changed (omega (arith, within m (in_all numbers i m (omega (arith, h)) c), count)) (others_before numbers i m ascend h c))) in
      omega (arith, same, sum_by_more (sum_of_row (width t) new) numbers i 0 h)
