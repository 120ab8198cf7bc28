-- The loop of rounds: how it begins and ends.
use Rattle.std.proofs.Common.{◌≡◌, ℕ, ◌+◌, ◌*◌, ◌<◌, ◌^◌, List, [], ◌∷◌, length, get_or, take, drop, inl, inr, refl, sym, ◌∙◌, ap, subst, arith, lit<}
use Rattle.std.specs.Prelude.{replicate}
use Rattle.std.specs.List.{range_with_len}
use Rattle.std.proofs.lemmas.Bool.{cases_eq, cases_lt}
use Rattle.std.proofs.lemmas.List.{get_or-replicate, get_or_past, length-map, length-replicate}
use Rattle.lf_ast.specs.Labels.{Bytes}
use Rattle.lf_ast.specs.Rules.{RuleTree}
use Rattle.lf_classes.specs.RowWords.{WordLeq, row_of_words, word_count}
use Rattle.lf_classes.proofs.RowWordOrder.{zero_leq}
use Rattle.lf_deps.proofs.Ascending.{in_range, of_range}
use Rattle.lf_flow.proofs.ReadNumbers.{equal_all}
use Rattle.lf_flow.specs.Reads.{names_of, rows_of, with_row}
use Rattle.lf_semantics.specs.ClassRows.{Sets}
use Rattle.lf_semantics.specs.Listing.{Listing}
use Rattle.lf_semantics.specs.RowTable.{Environment}
use Rattle.lf_rounds.specs.Tasks.{IsBelowLeast}
use Rattle.lf_rounds.specs.Words.{AreWords, environment_of, words_of}
use Rattle.lf_rounds.specs.views.Working.{IsMade}
use Rattle.lf_rounds.proofs.Reading.{names_put, other_row, own_row, row_at}

-- words without a bit

abbrev zeros : ℕ → List ℕ
zeros n = replicate n 0

length-zeros : (n : ℕ) → length (zeros n) ≡ n
length-zeros n = length-replicate {A = ℕ} n 0

zero_at : (n k : ℕ) → ◌≡◌ {A = ℕ} (get_or (zeros n) k 0) 0
zero_at n k = elim (cases_lt k n) [
  | inl h ↦ get_or-replicate {A = ℕ} n k 0 0 h
  | inr h ↦ get_or_past (zeros n) k 0 (omega (arith, h, length-zeros n))
]

pub zeros_below : (u : Listing) (rules : List RuleTree) (words : List ℕ) (n : ℕ) → words ≡ zeros n → IsBelowLeast u rules words
zeros_below u rules words n e env of closed = record {
  at = λ k.
      let P : ℕ → Type 0 = λ w. WordLeq w (get_or (words_of u env) k 0) in
      subst P (sym (ap (λ ws. get_or ws k 0) e ∙ zero_at n k)) (zero_leq (get_or (words_of u env) k 0));
}

zeros_fit : (n : ℕ) → AreWords (zeros n)
zeros_fit n k d h =
    let P : ℕ → Type 0 = λ w. w < 2 ^ 64 in
    subst P (sym (get_or-replicate {A = ℕ} n k 0 d (omega (arith, h, length-zeros n)))) (lit< tt)

pub zeros_are : (words : List ℕ) (n : ℕ) → words ≡ zeros n → (length words ≡ n) × AreWords words
zeros_are words n e = (ap length e ∙ length-zeros n, subst AreWords (sym e) (zeros_fit n))

pub zeros_count : (words : List ℕ) (n : ℕ) → words ≡ zeros n → words ≡ replicate (length words) 0
zeros_count words n e = e ∙ ap zeros (sym (ap length e ∙ length-zeros n))

-- an environment that is made row by row

pub none_made : (u : Listing) (words : List ℕ) (env : Environment) → IsMade u (names_of env) words 0 env
none_made u words env = record { names = refl; rows = λ k h. absurd (omega arith) }

count_of : (env : Environment) (ns : List Bytes) → names_of env ≡ ns → length env ≡ length ns
count_of env ns e = sym (length-map env (λ (entry : Bytes × Sets). entry.0)) ∙ ap length e

module _ (u : Listing) (ns : List Bytes) (words : List ℕ) (k : ℕ) (env : Environment) (h : k < length ns) (made : IsMade u ns words k env) where
  pub put_within : k < length env
  put_within = omega (arith, h, count_of env ns made.names)

  pub one_made : (row : Sets) → row ≡ row_of_words u (take (word_count u) (drop (k * word_count u) words)) → IsMade u ns words (k + 1) (with_row k row env)
  one_made row is = record {
    names = names_put env k row put_within ∙ made.names;
    rows = λ j l. elim (cases_eq j k) [
      | inl e ↦ (let P : ℕ → Type 0 = λ m. get_or (rows_of (with_row k row env)) m [] ≡ get_or (rows_of (environment_of u ns words)) m [] in
          subst P (sym e) (own_row env k row put_within ∙ is ∙ sym (row_at u ns words k h)))
      | inr n ↦ other_row env k row put_within j n ∙ made.rows j (omega (arith, l, n))
    ];
  }

pub all_made : (u : Listing) (ns : List Bytes) (words : List ℕ) (env : Environment) (k : ℕ) → k ≡ length ns → IsMade u ns words k env → env ≡ environment_of u ns words
all_made u ns words env k e made =
    let other = environment_of u ns words in
    let n = length env in
    equal_all env other (range_with_len 0 n) (made.names ∙ sym (names_made ns words), λ j c. made.rows j (omega (arith, of_range n j c, e, count_of env ns made.names))) (λ j h. in_range n j h)
  where
    names_made : (ns : List Bytes) (words : List ℕ) → names_of (environment_of u ns words) ≡ ns
    names_made [] words = refl
    names_made (name ∷ ns) words = ap (λ (rest : List Bytes). name ∷ rest) (names_made ns (drop (word_count u) words))
