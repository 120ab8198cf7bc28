use Rattle.std.proofs.Common.{◌≡◌, [], ◌∷◌, inl, inr, sym, ap, ◌∙◌}
use Rattle.std.proofs.lemmas.Result.{on_ok_weaker}
use Rattle.lf_semantics.specs.Mentions.{matcher_texts, mention, pattern_texts}
use Rattle.lf_classes.specs.views.Mentioned.{with_mentioned}
use Rattle.lf_classes.proofs.mentions.Mentions.mention_matcher.Goals as goal

pub returns-in-Equal : goal.returns-in-Equal
returns-in-Equal c =
    let m = c.args.matcher.now in
    let texts : m.value ∷ [] ≡ matcher_texts m.op m.value = elim c.in-Equal.is [ inl e ↦ sym (ap (λ op. matcher_texts op m.value) e) | inr e ↦ sym (ap (λ op. matcher_texts op m.value) e) ] in
    on_ok_weaker c.mention_text.result
    (λ e. e ∙ ap (λ label. with_mentioned c.args.self.now (mention label (c.as_str.result.now ∷ []))) c.as_str-label.ensures ∙ ap (λ text. with_mentioned c.args.self.now (mention m.label (text ∷ []))) c.as_str.ensures
    ∙ ap (λ ts. with_mentioned c.args.self.now (mention m.label ts)) texts)
    c.mention_text.ensures

pub returns-in-Matches : goal.returns-in-Matches
returns-in-Matches c =
    let m = c.args.matcher.now in
    let texts : pattern_texts m.value ≡ matcher_texts m.op m.value = elim c.in-Matches.is [ inl e ↦ sym (ap (λ op. matcher_texts op m.value) e) | inr e ↦ sym (ap (λ op. matcher_texts op m.value) e) ] in
    on_ok_weaker c.mention_pattern.result
    (λ e. e ∙ ap (λ label. with_mentioned c.args.self.now (mention label (pattern_texts m.value))) c.as_str-label.ensures ∙ ap (λ ts. with_mentioned c.args.self.now (mention m.label ts)) texts)
    c.mention_pattern.ensures
