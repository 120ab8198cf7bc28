-- The values of texts by the places of the texts.
use Rattle.std.proofs.Common.{◌≡◌, ◌<◌, ℕ, List, [], map, length, get_or, ltb, Option, Some, None, ◌∙◌, ap, arith}
use Rattle.std.specs.Option.{is_some}
use Rattle.std.specs.Prelude.{IfSome}
use Rattle.std.proofs.lemmas.List.{get_or-map, length-map}
use Rattle.std.proofs.lemmas.Bool.Decides.{nat_tests}
use Rattle.lf_ast.specs.Labels.{Bytes}
use Rattle.lf_semantics.specs.Listing.{place}
use Rattle.lf_semantics.proofs.Places.{at_place}

module _ {V : Type 0} (of : Bytes → V) (texts : List Bytes) (values : List V) (text : Bytes) (are : values ≡ map of texts) where
  -- the value that stands at the place of a text is its value
  value_at : (value : V) → place texts text < length values → value ≡ get_or values (place texts text) value → value ≡ of text
  value_at value h is =
      let k = place texts text in
      let within : k < length texts = omega (arith, h, ap length are, length-map texts of) in
      is ∙ ap (λ xs. get_or xs k value) are ∙ get_or-map of texts k [] value within ∙ ap of (at_place texts text within)

  -- and so where it is looked up
  pub value_found : {B : Type 0} (now : B → V) (k : ℕ) (found : Option B) → k ≡ place texts text → is_some found ≡ ltb k (length values) → IfSome found (λ x. now x ≡ get_or values k (now x)) → IfSome found (λ x. now x ≡ of text)
  value_found now k None is some at = tt
  value_found now k (Some x) is some at =
      let within : k < length values = grind (arith, nat_tests, some) in
      value_at (now x) (omega (arith, within, is)) (at ∙ ap (λ j. get_or values j (now x)) is)
