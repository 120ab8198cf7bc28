-- The bodies that are open, the outermost first and the innermost first.
use Rattle.std.proofs.Common.{◌≡◌, List, [], ◌∷◌, ◌++◌, Some, refl, ap, ◌∙◌}
use Rattle.std.specs.Prelude.{reverse, slice_get}
use Rattle.std.proofs.lemmas.List.{reverse-append}
use Rattle.lf_templates.specs.declared.body.OpenBody.{OpenBody}
use Rattle.lf_templates.specs.reading.Templates.{outermost}

pub outermost_last : (bodies : List OpenBody) (b : OpenBody) → outermost (bodies ++ b ∷ []) ≡ Some b.span
outermost_last [] b = refl
outermost_last (c ∷ []) b = refl
outermost_last (c ∷ d ∷ bodies) b = outermost_last (d ∷ bodies) b

pub outermost_got : (bodies : List OpenBody) (b : OpenBody) → slice_get bodies 0 ≡ Some b → outermost (reverse bodies) ≡ Some b.span
outermost_got [] b e = cc
outermost_got (c ∷ bodies) b e =
    let same : c ≡ b = cc in
    ap outermost (reverse-append (c ∷ []) bodies) ∙ outermost_last (reverse bodies) c ∙ ap (λ (x : OpenBody). Some x.span) same
