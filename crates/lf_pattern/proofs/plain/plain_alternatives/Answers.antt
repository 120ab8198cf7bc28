use Rattle.std.proofs.Common.{rules, ◌≡◌, ap, sym, ◌∙◌, ℕ, List, Result, Ok, Err, Option, Some, None, IfOk, IfSome}
use Rattle.std.specs.Str.{chars}
use Rattle.std.proofs.lemmas.Str.{chars_from_encodes}
use Rattle.lf_pattern.specs.Plain.{HasAlternatives}
use Rattle.lf_pattern.specs.Scan.{inside, alternatives_of}
use Rattle.lf_pattern.proofs.PlainLaws.{found, is_found}
use Rattle.lf_pattern.proofs.plain.plain_alternatives.Goals as goal

plain_of : {E : Type 0} (r : Result (Option (List (List ℕ))) E) (text : List ℕ) → IfOk r (λ o. o ≡ alternatives_of text) → IfOk r (λ o. IfSome o (HasAlternatives text))
plain_of (Ok None) text h = tt
plain_of (Ok (Some x)) text h = is_found text x (sym h)
plain_of (Err e) text h = tt

only_of : {E : Type 0} (r : Result (Option (List (List ℕ))) E) (text : List ℕ) → IfOk r (λ o. o ≡ alternatives_of text) → (xs : List (List ℕ)) → HasAlternatives text xs → IfOk r (λ o. o ≡ Some xs)
only_of (Ok o) text h xs p = h ∙ found text xs p
only_of (Err e) text h xs p = tt

pub returns : goal.returns
returns c =
    let same : c.in_ok-characters.characters.items ≡ chars c.args.text.now = search (rules, chars_from_encodes) in
    let within : c.inside.result.now ≡ inside (chars c.args.text.now) = c.inside.ensures ∙ ap inside (c.deref.ensures.value ∙ same) in
    let value = rw within at c.scan.ensures in
    record { value = value; plain = plain_of _ _ value; only = only_of _ _ value }
