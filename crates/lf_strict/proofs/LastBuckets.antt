-- What is made of last buckets: each of them has `le`.
use Rattle.std.proofs.Common.{◌≡◌, ◌≢◌, not, ◌&&◌, List, [], Option, Some, None, sym, ◌∙◌}
use Rattle.std.specs.Prelude.{codes}
use Rattle.std.specs.List.{Contains}
use Rattle.std.specs.Str.{bytes_eq}
use Rattle.lf_ast.specs.Labels.{Labels}
use Rattle.lf_semantics.specs.Evaluation.{IsQuantile}
use Rattle.lf_semantics.specs.Grouped.{is_metric}
use Rattle.lf_semantics.specs.Texts.{restricted, value_of}
use Rattle.lf_semantics.proofs.Members.{of_filter, true_same}
use Rattle.lf_witness.specs.Strict.{MadeApart, last_buckets}
use Rattle.lf_witness.specs.StrictRuns.{InOrder}

abbrev pub IsUnbucketed : Labels → Labels → Type 0
IsUnbucketed s r = r ≡ restricted (λ label. not (is_metric label) && not (bytes_eq label (codes "le"))) s

has_bucket : (P : List Labels) (s : Labels) → Contains (last_buckets P) s → value_of s (codes "le") ≢ []
has_bucket P s c none =
    let bound = true_same (value_of s (codes "le")) (codes "+Inf") (of_filter (λ t. bytes_eq (value_of t (codes "le")) (codes "+Inf")) P s c).1 in
    let clash : codes "+Inf" ≡ [] = sym bound ∙ none in cc

pub quantile_apart : (P : List Labels) (o : Option (List Labels)) → InOrder (MadeApart IsUnbucketed (last_buckets P)) o → InOrder (MadeApart IsQuantile (last_buckets P)) o
quantile_apart P None two = (two.0, two.1, two.2, two.3, two.4, two.5, (has_bucket P two.0 two.3, two.6), (has_bucket P two.1 two.4, two.7))
quantile_apart P (Some R) given = (
  (
    (
      λ s c. let made = given.0.0.0 s c in (made.0, (has_bucket P s c, made.1), made.2),
      λ r c. let from = given.0.0.1 r c in (from.0, from.1, (has_bucket P from.0 from.1, from.2)),
    ),
    λ two. given.0.1 (two.0, two.1, two.2, two.3, two.4, two.5, two.6.1, two.7.1),
  ),
  given.1,
)
