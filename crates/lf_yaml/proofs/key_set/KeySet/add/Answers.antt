use Rattle.std.proofs.Common.{◌≡◌, ◌∷◌, [], Bool, true, false, cond, ◌||◌, refl, sym, ap, ◌∙◌, List, ℕ}
use Rattle.std.specs.Prelude.{string_bytes, bytes_eq}
use Rattle.std.specs.BTreeSet.{contains_text}
use Rattle.std.proofs.lemmas.List.Folds.{list_any-append}
use Rattle.std.proofs.lemmas.Map.Text.{btree_set_updates_text}
use Rattle.lf_yaml.specs.reading.Trees.{has}
use Rattle.lf_yaml.proofs.key_set.KeySet.add.Goals as goal

-- `few` and `many` say whether a text was among them, `here` whether it is the new one
many-more : (few many here : Bool) → (few || cond here true many) ≡ ((few || many) || (here || false))
many-more true many here = refl
many-more false true true = refl
many-more false true false = refl
many-more false false true = refl
many-more false false false = refl

pub returns-in_ok-insert : goal.returns-in_ok-insert
returns-in_ok-insert c = λ keys are text.
    let text_is : string_bytes c.in_ok-copy-2.copy ≡ c.args.text.now = c.in_ok-copy-2.ensures.ok in
    let here = bytes_eq c.args.text.now text in
    let few = has c.args.self.now.few text in
    ap (λ (b : Bool). few || b) (btree_set_updates_text (string_bytes c.in_ok-copy-2.copy) c.args.self.now.many c.insert.new.self true c.in_ok-insert.ensures.updates text
    ∙ ap (λ (bs : List ℕ). cond (bytes_eq bs text) true (contains_text c.args.self.now.many text)) text_is)
    ∙ many-more few (contains_text c.args.self.now.many text) here
    ∙ ap (λ (b : Bool). b || (here || false)) (are text)
    ∙ sym (list_any-append (λ t. bytes_eq t text) keys (c.args.text.now ∷ []))
