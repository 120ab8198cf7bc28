-- What the form of a pattern, and the way in which it is tried, say of `matches`.
use Rattle.std.proofs.Common.{◌≡◌, ℕ, Bool, List, Option, Some, None, sym, ap, subst, ◌∙◌}
use Rattle.std.specs.Option.{option_map_or}
use Rattle.std.specs.List.{list_any}
use Rattle.std.specs.Str.{bytes_eq}
use Rattle.regex.specs.declared.string.regex.Regex.{Regex}
use Rattle.lf_pattern.specs.views.Form.{IsFormOf, IsWayOf}
use Rattle.lf_pattern.specs.Matching.{matches}
use Rattle.lf_pattern.specs.reading.Expansion.{captures, group_text, plain_group}
use Rattle.lf_pattern.specs.Read.{finds, found_group}
use Rattle.lf_pattern.specs.Scan.{alternatives_of}
use Rattle.lf_pattern.specs.declared.pattern.Form.{Form}
use Rattle.lf_pattern.specs.declared.pattern.Form.TheVariants.{Plain, Other}
use Rattle.lf_pattern.specs.declared.probe.Way.{Way}

pub form_at : (text : List ℕ) (form other : Form) → IsFormOf text form → form ≡ other → IsFormOf text other
form_at text form other h e = let P : Form → Type 0 = λ f. IsFormOf text f in subst P e h

pub way_at : (text : List ℕ) (way other : Way) → IsWayOf text way → way ≡ other → IsWayOf text other
way_at text way other h e = let P : Way → Type 0 = λ w. IsWayOf text w in subst P e h

pub tried_plain : (text value : List ℕ) (alternatives : List (List ℕ)) → alternatives_of text ≡ Some alternatives → list_any (λ a. bytes_eq a value) alternatives ≡ matches text value
tried_plain text value alternatives e =
    sym (ap (λ (o : Option (List (List ℕ))). option_map_or (λ alternatives. list_any (λ a. bytes_eq a value) alternatives) o (finds text value)) e)

pub tried_other : (text value : List ℕ) → alternatives_of text ≡ None → finds text value ≡ matches text value
tried_other text value e = sym (ap (λ (o : Option (List (List ℕ))). option_map_or (λ alternatives. list_any (λ a. bytes_eq a value) alternatives) o (finds text value)) e)

-- ---- what the form says of a match and of its groups

pub plain_matches : (text value : List ℕ) (form : Form) (alternatives : List (List ℕ)) (pair : Bool) → IsFormOf text form → form ≡ Plain alternatives pair →
    list_any (λ a. bytes_eq a value) alternatives ≡ matches text value
plain_matches text value form alternatives pair h e = tried_plain text value alternatives (form_at text form (Plain alternatives pair) h e).0

pub plain_groups : (text value : List ℕ) (form : Form) (alternatives : List (List ℕ)) (pair : Bool) → IsFormOf text form → form ≡ Plain alternatives pair →
    (n : ℕ) → plain_group pair value n ≡ group_text text value n
plain_groups text value form alternatives pair h e n =
    let plain = form_at text form (Plain alternatives pair) h e in
    ap (λ (b : Bool). plain_group b value n) plain.1
    ∙ sym (ap (λ (o : Option (List (List ℕ))). option_map_or (λ _. plain_group (captures text) value n) o (found_group text value n)) plain.0)

pub other_matches : (text value : List ℕ) (form : Form) (regex : Regex) → IsFormOf text form → form ≡ Other regex → finds text value ≡ matches text value
other_matches text value form regex h e = tried_other text value (form_at text form (Other regex) h e).0

pub other_groups : (text value : List ℕ) (form : Form) (regex : Regex) → IsFormOf text form → form ≡ Other regex → (n : ℕ) → found_group text value n ≡ group_text text value n
other_groups text value form regex h e n =
    sym (ap (λ (o : Option (List (List ℕ))). option_map_or (λ _. plain_group (captures text) value n) o (found_group text value n)) (form_at text form (Other regex) h e).0)
