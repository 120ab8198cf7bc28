-- Block sequences and mappings are read: a breach is answered.
use Rattle.std.proofs.Common.{◌≡◌, ℕ, zero, suc, ◌<◌, Bool, true, false, cond, List, [], ◌∷◌, ◌++◌, Option, None, Err, length, refl, ap, arith, ◌∙◌, inl, inr}
use Rattle.std.specs.Prelude.{Contains}
use Rattle.lf_base.specs.declared.kind.Kind.TheVariants.{DoubleKey}
use Rattle.lf_base.specs.declared.fault.Fault.{Fault}
use Rattle.lf_scalar.specs.Cells.{Cell, Value}
use Rattle.lf_yaml.specs.Rows.{ContentRow, indent, is_left_out}
use Rattle.lf_yaml.specs.Heads.{NoEntry, OpensQuote}
use Rattle.lf_yaml.specs.Tree.{no_items, no_entries}
use Rattle.lf_yaml.specs.Breaches.{NodeBreaks, BlockBreaks, ItemsBreak, ItemValueBreaks, EntriesBreak, EntryValueBreaks}
use Rattle.lf_yaml.specs.Breaches as breaks
use Rattle.lf_yaml.specs.reading.Trees.{quotes_of, EntryHead, entry_by, quoted_head, opens_quote, item_at, item_value, with_item, items, entry_of, entry_at, entry_value, with_entry, entries_behind, keyed, key_read, entries_on, entries, as_sequence, as_mapping, node_at, Keys}
use Rattle.lf_yaml.proofs.Ends.{end-length}
use Rattle.lf_yaml.proofs.HeadLaws.{key-is, key-breaks, has-tells, begins-block, begins-no-block, entry-view, opens-is, opens-view}
use Rattle.lf_yaml.proofs.HeadLaws as heads
use Rattle.lf_yaml.proofs.Values.{value-breaks}
use Rattle.lf_yaml.proofs.BlockRows.{item-rows, entry-rows}
use Rattle.lf_yaml.proofs.Steps.{inner, owned, values, value-node, sequence-node, mapping-node, deep-node, at-indent, at-deeper}
use Rattle.lf_yaml.proofs.Steps as steps
use Rattle.lf_yaml.proofs.Blocks.{new-key, at-item, at-entry, item-is, one-entry-is}

-- a row that is no entry
no-entry-of : (r : ContentRow) → NoEntry r → entry_of r ≡ None
no-entry-of r n =
    elim (entry-view r) [
      | inl (k, colon, rest, b, e) ↦ absurd (n k colon rest b)
      | inr (e, h) ↦ e
    ]

-- where a quote opens that nothing on the line closes there is no entry
no-head : (b : Bool) (o : Option EntryHead) → o ≡ None → cond b None o ≡ None
no-head true o e = refl
no-head false o e = e

open-no-entry : (r : ContentRow) → OpensQuote r.first r.rest → entry_of r ≡ None
unfolding entry_of
open-no-entry r h =
    elim (heads.between-view h.kind r.rest) [
      | inl (between, e) ↦ absurd (h.unclosed between)
      | inr (n, e) ↦ no-head (is_left_out r) (entry_by r (quotes_of r.first)) (ap (entry_by r) (heads.quotes-is r.first h.kind h.is_quote) ∙ ap (quoted_head h.kind) n)
    ]

not-open : (r : ContentRow) → (OpensQuote r.first r.rest → ⊥) → opens_quote r.first r.rest ≡ false
not-open r n =
    elim (opens-view r.first r.rest) [
      | inl (h, e) ↦ absurd (n h)
      | inr (h, e) ↦ e
    ]

-- a key that stands before
pub old-key : (bytes : List ℕ) (d m n : ℕ) (keys : Keys) (r : ContentRow) (rs : List ContentRow) (colon : Cell) (behind : List Cell) (v : Value) → Contains keys v.text
    → keyed (values bytes d m) (λ ks rows. entries (values bytes d m) n m ks rows) keys r rs colon behind v ≡ Err (record { kind = DoubleKey; span = v.span })
old-key bytes d m n keys r rs colon behind v old =
    elim (has-tells keys v.text) [
      | inl h ↦ rw h.0 refl
      | inr h ↦ absurd (h.1 old)
    ]

mutual
  unfolding items entries

  pub node-breaks : (bytes : List ℕ) (above d : ℕ) (r : ContentRow) (rs : List ContentRow) (f : Fault) → NodeBreaks bytes above d r rs f → node_at bytes d false above r rs ≡ Err f
  node-breaks bytes above d r rs f (breaks.NodeBreaks.value n h) = value-node bytes d false above r rs n ∙ value-breaks bytes above d r rs f h
  node-breaks bytes above d r rs f (breaks.NodeBreaks.block a h) = block-breaks bytes above d false r rs f h

  pub block-breaks : (bytes : List ℕ) (above d : ℕ) (own : Bool) (r : ContentRow) (rs : List ContentRow) (f : Fault) → BlockBreaks bytes d own r rs f → node_at bytes d own above r rs ≡ Err f
  block-breaks bytes above _ own r rs _ (breaks.BlockBreaks.too_deep o xs b) = deep-node bytes own above r rs b
  block-breaks bytes above _ own r rs f (breaks.BlockBreaks.block_sequence {d = d} i h) =
      sequence-node bytes d own above r rs i ∙ ap (as_sequence r) (items-break bytes d own (indent r) (suc (length (r ∷ rs))) r rs f (omega arith) h)
  block-breaks bytes above _ own r rs f (breaks.BlockBreaks.block_mapping {d = d} {k = k} {colon = colon} {behind = behind} b h) =
      mapping-node bytes d false above r rs (heads.entry-no-item r k colon behind b) (begins-block r (inr (k, colon, behind, b)))
      ∙ ap (as_mapping r) (entries-break bytes d (indent r) (suc (length (r ∷ rs))) [] r rs f (omega arith) h)

  pub items-break : (bytes : List ℕ) (d : ℕ) (own : Bool) (m n : ℕ) (r : ContentRow) (rs : List ContentRow) (f : Fault) → length (r ∷ rs) < n → ItemsBreak bytes d own m r rs f → items (inner bytes d) n own m (r ∷ rs) ≡ Err f
  items-break bytes d own m zero r rs f lt h = absurd (omega arith)
  items-break bytes d own m (suc n) r rs _ lt (breaks.ItemsBreak.deeper_item e o xs deeper) = at-deeper m r rs no_items _ deeper
  items-break bytes d _ m (suc n) r rs _ lt (breaks.ItemsBreak.no_item e xs same i) = at-indent m r rs no_items _ same ∙ rw i refl
  items-break bytes d own m (suc n) r rs f lt (breaks.ItemsBreak.item_value o same i h) = at-item (inner bytes d) n own m r rs _ same i (item-breaks bytes d m r rs f h)
  items-break bytes d own m (suc n) r rs f lt (breaks.ItemsBreak.later_item {next = next} {later = later} {t = t} same i h more) =
      let k = end-length rs (next ∷ later) (item-rows bytes d m r rs t (next ∷ later) h) in
      at-item (inner bytes d) n own m r rs _ same i (item-is bytes d m r rs t (next ∷ later) h) ∙ ap (with_item t) (items-break bytes d own m n next later f (omega (arith, k)) more)

  pub item-breaks : (bytes : List ℕ) (d m : ℕ) (r : ContentRow) (rs : List ContentRow) (f : Fault) → ItemValueBreaks bytes d m r rs f → item_value (inner bytes d) m r rs ≡ Err f
  item-breaks bytes d m r rs f (breaks.ItemValueBreaks.item_here {left = left} tab e h) = rw tab (ap (item_at (inner bytes d) m (suc r.first.at) rs) e ∙ node-breaks bytes (suc m) d left rs f h)
  item-breaks bytes d m r _ f (breaks.ItemValueBreaks.item_below {next = next} {rs = rs} tab e lt h) =
      rw tab (ap (item_at (inner bytes d) m (suc r.first.at) (next ∷ rs)) e ∙ steps.item-below (inner bytes d) m (suc r.first.at) next rs lt ∙ node-breaks bytes (suc m) d next rs f h)
  item-breaks bytes d m r rs _ (breaks.ItemValueBreaks.item_tab d2 xs tab) = rw tab refl

  pub entries-break : (bytes : List ℕ) (d m n : ℕ) (keys : Keys) (r : ContentRow) (rs : List ContentRow) (f : Fault) → length (r ∷ rs) < n → EntriesBreak bytes d m keys r rs f → entries (values bytes d m) n m keys (r ∷ rs) ≡ Err f
  entries-break bytes d m zero keys r rs f lt h = absurd (omega arith)
  entries-break bytes d m (suc n) keys r rs _ lt (breaks.EntriesBreak.deeper_entry e ks xs deeper) = at-deeper m r rs no_entries _ deeper
  entries-break bytes d m (suc n) keys r rs _ lt (breaks.EntriesBreak.open_key e ks xs same h) =
      let later = λ (ks : Keys) (rows : List ContentRow). entries (values bytes d m) n m ks rows in
      at-indent m r rs no_entries _ same ∙ ap (entries_on (values bytes d m) later keys r rs) (open-no-entry r h) ∙ rw (opens-is r.first r.rest h) refl
  entries-break bytes d m (suc n) keys r rs _ lt (breaks.EntriesBreak.no_entry e ks xs same none no_quote) =
      let later = λ (ks : Keys) (rows : List ContentRow). entries (values bytes d m) n m ks rows in
      at-indent m r rs no_entries _ same ∙ ap (entries_on (values bytes d m) later keys r rs) (no-entry-of r none) ∙ rw (not-open r no_quote) refl
  entries-break bytes d m (suc n) keys r rs _ lt (breaks.EntriesBreak.broken_key {k = k} {colon = colon} {behind = behind} {f = f} e ks xs same b h) =
      let later = λ (ks : Keys) (rows : List ContentRow). entries (values bytes d m) n m ks rows in
      at-entry (values bytes d m) n m keys r rs k colon behind same b ∙ ap (key_read (values bytes d m) later keys r rs colon behind) (key-breaks r.first r.rest k f h)
  entries-break bytes d m (suc n) keys r rs _ lt (breaks.EntriesBreak.second_key {k = k} {colon = colon} {behind = behind} v e xs same b i old) =
      let later = λ (ks : Keys) (rows : List ContentRow). entries (values bytes d m) n m ks rows in
      at-entry (values bytes d m) n m keys r rs k colon behind same b ∙ ap (key_read (values bytes d m) later keys r rs colon behind) (key-is r.first r.rest k v i)
      ∙ old-key bytes d m n keys r rs colon behind v old
  entries-break bytes d m (suc n) keys r rs _ lt (breaks.EntriesBreak.entry_value {k = k} {colon = colon} {behind = behind} {f = f} v same b i new h) =
      let later = λ (ks : Keys) (rows : List ContentRow). entries (values bytes d m) n m ks rows in
      at-entry (values bytes d m) n m keys r rs k colon behind same b ∙ ap (key_read (values bytes d m) later keys r rs colon behind) (key-is r.first r.rest k v i)
      ∙ new-key (values bytes d m) later keys r rs colon behind v new ∙ ap (entries_behind v (λ rows. later (keys ++ v.text ∷ []) rows)) (entry-value-breaks bytes d m r.begin colon behind rs f h)
  entries-break bytes d m (suc n) keys r rs f lt (breaks.EntriesBreak.later_entry {next = next} {later = later} {v = v} {t = t} h more) =
      let k = end-length rs (next ∷ later) (entry-rows bytes d m keys r rs v t (next ∷ later) h) in
      one-entry-is bytes d m n keys r rs v t (next ∷ later) h ∙ ap (with_entry v t) (entries-break bytes d m n (keys ++ v.text ∷ []) next later f (omega (arith, k)) more)

  pub entry-value-breaks : (bytes : List ℕ) (d m begin : ℕ) (colon : Cell) (behind : List Cell) (rs : List ContentRow) (f : Fault) → EntryValueBreaks bytes d m begin behind rs f
      → entry_value bytes d (owned bytes d) m begin colon behind rs ≡ Err f
  entry-value-breaks bytes d m begin colon behind rs _ (breaks.EntryValueBreaks.block_here {left = left} e2 xs e b) = ap (entry_at bytes d (owned bytes d) m (suc colon.at) rs) e ∙ rw (begins-block left b) refl
  entry-value-breaks bytes d m begin colon behind rs f (breaks.EntryValueBreaks.value_here {left = left} e n h) =
      ap (entry_at bytes d (owned bytes d) m (suc colon.at) rs) e ∙ rw (begins-no-block left n) (value-breaks bytes (suc m) d left rs f h)
  entry-value-breaks bytes d m begin colon behind _ f (breaks.EntryValueBreaks.value_below {next = next} {rs = rs} e lt h) =
      ap (entry_at bytes d (owned bytes d) m (suc colon.at) (next ∷ rs)) e ∙ steps.entry-below (owned bytes d) m (suc colon.at) next rs lt ∙ node-breaks bytes (suc m) d next rs f h
  entry-value-breaks bytes d m begin colon behind _ f (breaks.EntryValueBreaks.value_beside {next = next} {rs = rs} e same i h) =
      ap (entry_at bytes d (owned bytes d) m (suc colon.at) (next ∷ rs)) e ∙ steps.entry-beside (owned bytes d) m (suc colon.at) next rs same i ∙ block-breaks bytes (suc m) d true next rs f h
