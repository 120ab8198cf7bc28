use Rattle.std.proofs.Common.{◌≡◌, ◌<◌, ℕ, Option, Some, cond, length, Global, String, sym, ap, ◌∙◌, arith}
use Rattle.std.specs.BTreeMap.{get_by_text}
use Rattle.std.specs.Prelude.{string_bytes}
use Rattle.std.specs.Str.{bytes_eq}
use Rattle.std.proofs.lemmas.Map.Text.{btree_map_updates_text}
use Rattle.lf_classes.specs.views.TextSets.{in_slot, slot_of}
use Rattle.lf_classes.proofs.TextSlots.{none_held, put_free, put_other, slot_is, some_held}
use Rattle.lf_classes.proofs.text_places.TextPlaces.put.Goals as goal

pub returns-in_ok-insert-clause-ok : goal.returns-in_ok-insert-clause-ok
returns-in_ok-insert-clause-ok c =
    let t = c.args.text.now in
    let texts = c.args.texts.now in
    let slots = c.args.self.now.slots in
    let old = c.args.self.now.others in
    let key : String Global = c.in_ok-key.key in
    let last : Option ℕ = Some (length texts) in
    let slot = c.slot_of-slot.result in
    let inside : slot < length slots.items = omega (arith, c.slot_of-slot.ensures.within, c.len.ensures, slots.ok.0) in
    let is : slot ≡ slot_of t (length slots.items) = c.slot_of-slot.ensures.slot ∙ ap (slot_of t) (c.len.ensures ∙ slots.ok.0) in
    let held = some_held c.index.result.now (sym c.is_some.ensures ∙ c.if-is_some.true) in
    put_other slots.items old c.insert.new.self texts t held.0 c.requires.places c.requires.few c.requires.absent
    (ap (in_slot slots.items) (sym is) ∙ slot_is slots.items slot c.index.result.now inside c.index.ensures ∙ held.1)
    (λ q. btree_map_updates_text (string_bytes key) old c.insert.new.self _ c.in_ok-insert.ensures.updates q ∙ ap (λ b. cond (bytes_eq b q) last (get_by_text old q)) c.in_ok-key.ensures.ok)

pub returns-else-is_some-clause-ok : goal.returns-else-is_some-clause-ok
returns-else-is_some-clause-ok c =
    let slots = c.args.self.now.slots in
    let slot = c.slot_of-slot.result in
    let inside : slot < length slots.items = omega (arith, c.slot_of-slot.ensures.within, c.len.ensures, slots.ok.0) in
    let is : slot ≡ slot_of c.args.text.now (length slots.items) = c.slot_of-slot.ensures.slot ∙ ap (slot_of c.args.text.now) (c.len.ensures ∙ slots.ok.0) in
    put_free slots.items c.args.self.now.others c.args.texts.now c.args.text.now slot c.requires.places c.requires.few c.requires.absent is inside
    (slot_is slots.items slot c.index.result.now inside c.index.ensures ∙ none_held c.index.result.now (sym c.is_some.ensures ∙ c.if-is_some.false))
