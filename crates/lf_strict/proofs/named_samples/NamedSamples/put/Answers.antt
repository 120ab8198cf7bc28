use Rattle.std.proofs.Common.{◌≡◌, inl, inr, ◌∷◌, [], List, ◌++◌, ◌∙◌, String, Global, Some, None, sym, ap, subst}
use Rattle.std.specs.Prelude.{string_bytes, OnOk}
use Rattle.std.specs.Map.{lookup, set_value}
use Rattle.std.specs.BTreeMap.{BTreeMap, insert_entry}
use Rattle.std.specs.String.{string_cmp}
use Rattle.lf_laws.proofs.Members.{none_in}
use Rattle.lf_ast.specs.Labels.{Labels}
use Rattle.lf_ast.specs.Selectors.{metric}
use Rattle.lf_semantics.specs.Texts.{value_of}
use Rattle.lf_witness.specs.Strict.{AreSame}
use Rattle.lf_strict.specs.views.Stored.{AreUnderNames, samples_of}
use Rattle.lf_strict.proofs.SampleSets.{pushed_with, with_pushed}
use Rattle.lf_strict.proofs.StoredSamples.{is_named, same_written, under_insert, under_written, with_entry}
use Rattle.lf_strict.proofs.named_samples.NamedSamples.put.Goals as goal

pub invariant_of-self : goal.invariant_of-self
invariant_of-self c =
    let es : List (String Global × List Labels) = c.self.inside.by_name.entries in
    let n = c.as_str.result.now in
    let named : value_of c.args.sample metric ≡ n = sym (c.as_str.ensures.value ∙ c.in_ok-name.ensures.ok ∙ c.text_of.ensures) in
    let found : lookup (is_named n) es ≡ Some c.in-Some.samples.now = sym c.in-Some.ensures.value in
    subst (λ (l : List (String Global × List Labels)). AreUnderNames l) (sym (c.get_mut.follows.holds c.add.new.self).0)
    (under_written c.add.result c.args.sample n es c.in-Some.samples.now c.add.new.self c.self.invariant found named c.add.ensures.ok c.add.ensures.err)

pub returns-in-Some : goal.returns-in-Some
returns-in-Some c =
    let es : List (String Global × List Labels) = c.self.inside.by_name.entries in
    let n = c.as_str.result.now in
    let s = c.args.sample in
    let found : lookup (is_named n) es ≡ Some c.in-Some.samples.now = sym c.in-Some.ensures.value in
    let same = same_written c.add.result s n es c.in-Some.samples.now c.add.new.self found c.add.ensures.ok in
    subst (λ (l : List (String Global × List Labels)). OnOk c.add.result (AreSame (c.args.self.now ++ s ∷ []) (samples_of l))) (sym (c.get_mut.follows.holds c.add.new.self).0)
    (subst (λ (l : List Labels). OnOk c.add.result (AreSame (l ++ s ∷ []) (samples_of (set_value (is_named n) es c.add.new.self)))) c.self.view_is same)

pub invariant_of-self-2 : goal.invariant_of-self-2
invariant_of-self-2 c =
    let es : List (String Global × List Labels) = c.self.inside.by_name.entries in
    let s = c.args.sample in
    let still = ap (λ (m : BTreeMap (String Global) (List Labels)). insert_entry string_cmp m.entries c.in_ok-name.name c.add-2.new.self) c.get_mut.follows.holds-at-none in
    let w : List Labels = c.add-2.new.self in
    let named : value_of s metric ≡ string_bytes c.in_ok-name.name = sym (c.in_ok-name.ensures.ok ∙ c.text_of.ensures) in
    let only : AreSame ([] ++ s ∷ []) w = subst (λ (l : List Labels). AreSame (l ++ s ∷ []) w) c.new-samples.ensures c.in_ok-add.ensures.ok in
    subst (λ (l : List (String Global × List Labels)). AreUnderNames l) (sym (c.in_ok-insert.ensures.entries ∙ still))
    (under_insert c.in_ok-name.name es w c.self.invariant (λ t d. elim ((with_pushed s [] w only).0 t d) [
      | inl new ↦ subst (λ z. value_of z metric ≡ string_bytes c.in_ok-name.name) new named
      | inr old ↦ absurd (none_in t old)
    ]))

pub returns : goal.returns
returns c =
    let es : List (String Global × List Labels) = c.self.inside.by_name.entries in
    let s = c.args.sample in
    let still = ap (λ (m : BTreeMap (String Global) (List Labels)). insert_entry string_cmp m.entries c.in_ok-name.name c.add-2.new.self) c.get_mut.follows.holds-at-none in
    let w : List Labels = c.add-2.new.self in
    let k = c.in_ok-name.name in
    let only : AreSame ([] ++ s ∷ []) w = subst (λ (l : List Labels). AreSame (l ++ s ∷ []) w) c.new-samples.ensures c.in_ok-add.ensures.ok in
    let none : lookup (is_named (string_bytes k)) es ≡ None = subst (λ z. lookup (is_named z) es ≡ None) c.as_str.ensures.value (sym c.in_default.ensures.value) in
    let same = pushed_with s (samples_of es) (samples_of (insert_entry string_cmp es k w)) (with_entry s k es w none (with_pushed s [] w only)) in
    subst (λ (l : List (String Global × List Labels)). AreSame (c.args.self.now ++ s ∷ []) (samples_of l)) (sym (c.in_ok-insert.ensures.entries ∙ still))
    (subst (λ (l : List Labels). AreSame (l ++ s ∷ []) (samples_of (insert_entry string_cmp es k w))) c.self.view_is same)
