-- Block sequences and mappings are read: what is answered is a tree that stands or a breach.
use Rattle.std.proofs.Common.{◌≡◌, ℕ, zero, suc, ◌<◌, Bool, true, false, cond, eqb, ltb, List, [], ◌∷◌, ◌++◌, Option, Some, None, Result, Ok, Err, length, refl, ap, arith, sym, ◌∙◌, subst, append_assoc, inl, inr, ◌&&◌}
use Rattle.std.specs.Prelude.{Contains}
use Rattle.std.specs.List.{flat_map}
use Rattle.std.proofs.lemmas.Bool.{ltb-true, ltb-false, eqb-true, cases_Bool}
use Rattle.lf_base.specs.declared.fault.Fault.{Fault}
use Rattle.lf_scalar.specs.Cells.{Cell, Value}
use Rattle.lf_scalar.specs.Lines.{is_blank, after_blanks}
use Rattle.lf_scalar.specs.Quoted.{raw}
use Rattle.lf_yaml.specs.Rows.{ContentRow, text_of, indent, left_of, indent_fault, row_fault, tab_in}
use Rattle.lf_yaml.specs.Heads.{is_item, Key, IsKey, BeginsEntry, BeginsNoBlock, NoEntry}
use Rattle.lf_yaml.specs.Heads as head
use Rattle.lf_yaml.specs.Tree.{Tree, Items, no_items, Entries, no_entries}
use Rattle.lf_yaml.specs.Spans.{empty_at}
use Rattle.lf_yaml.specs.Nodes.{NothingBelow, Ends, NodeAt, BlockAt, ItemsAt, ItemValue, EntriesAt, EntryAt, EntryValue}
use Rattle.lf_yaml.specs.Nodes as nodes
use Rattle.lf_yaml.specs.Breaches.{NodeBreaks, BlockBreaks, ItemsBreak, ItemValueBreaks, EntriesBreak, EntryValueBreaks}
use Rattle.lf_yaml.specs.Breaches as breaks
use Rattle.lf_yaml.specs.reading.Trees.{Read, EntryHead, item_next, item_at, unless_tab, item_value, with_item, items_behind, items, key_of, entry_of, entry_next, entry_at, entry_value, with_entry, entries_behind, key_read, entries_on, entries, as_sequence, as_mapping, value_on, node_at, Keys}
use Rattle.lf_yaml.proofs.Ends.{end-length, end-holds}
use Rattle.lf_yaml.proofs.HeadLaws.{entry-view, KeyTold, key-tells, has-tells, opens-view, block-view}
use Rattle.lf_yaml.proofs.HeadLaws as heads
use Rattle.lf_yaml.proofs.FlowKeys.{split-source}
use Rattle.lf_yaml.proofs.Values.{ValueTold, value-tells}
use Rattle.lf_yaml.proofs.Placed.{IsPlaced, ArePlaced, placed-left}
use Rattle.lf_yaml.proofs.BlockRows.{item-rows, entry-value-rows}
use Rattle.lf_yaml.proofs.Steps.{inner, owned, values, value-node, sequence-node, mapping-node, deep-node, at-indent, at-deeper, at-smaller}
use Rattle.lf_yaml.proofs.Blocks.{at-item}
use Rattle.lf_yaml.proofs.Sequences.{differs}

-- ---- what stands behind a key's sign ends the row

pub blanks-suffix : (cs : List Cell) → (front : List Cell) × (cs ≡ front ++ after_blanks cs)
blanks-suffix [] = ([], refl)
blanks-suffix (c ∷ cs) =
    elim (cases_Bool (is_blank c)) [
      | inl a ↦ let k = blanks-suffix cs in (c ∷ k.0, rw a (ap (λ (xs : List Cell). c ∷ xs) k.1))
      | inr a ↦ ([], rw a refl)
    ]

pub entry-suffix : (r : ContentRow) (k : Key) (colon : Cell) (behind : List Cell) → BeginsEntry r k colon behind → (front : List Cell) × (text_of r ≡ front ++ behind)
entry-suffix r _ _ _ (head.BeginsEntry.bare {front = front} {rest = rest} {colon = colon} p l e) =
    (front ++ colon ∷ [], split-source head.never _ (text_of r) (front, (colon, rest)) e ∙ sym (append_assoc front (colon ∷ []) rest))
entry-suffix r _ _ _ (head.BeginsEntry.quoted {rest = rest} {colon = colon} kind c e l s b) =
    let k = blanks-suffix c.rest in
    let behind : c.rest ≡ (k.0 ++ colon ∷ []) ++ rest = k.1 ∙ ap (λ (xs : List Cell). k.0 ++ xs) s.0 ∙ sym (append_assoc k.0 (colon ∷ []) rest) in
    let raws = flat_map raw c.raws in
    let whole : r.rest ≡ (raws ++ c.closing ∷ []) ++ c.rest = c.source ∙ sym (append_assoc raws (c.closing ∷ []) c.rest) in
    let all : r.rest ≡ ((raws ++ c.closing ∷ []) ++ (k.0 ++ colon ∷ [])) ++ rest =
    whole ∙ ap (λ (xs : List Cell). (raws ++ c.closing ∷ []) ++ xs) behind ∙ sym (append_assoc (raws ++ c.closing ∷ []) (k.0 ++ colon ∷ []) rest) in
    (r.first ∷ ((raws ++ c.closing ∷ []) ++ (k.0 ++ colon ∷ [])), ap (λ (xs : List Cell). r.first ∷ xs) all)

module _ (bytes : List ℕ) where
  abbrev pub NodeTold : ℕ → ℕ → ContentRow → List ContentRow → Read Tree → Type 0
  NodeTold above d r rs (Ok x) = NodeAt bytes above d r rs x.0 x.1
  NodeTold above d r rs (Err f) = NodeBreaks bytes above d r rs f

  abbrev pub BlockTold : ℕ → Bool → ContentRow → List ContentRow → Read Tree → Type 0
  BlockTold d own r rs (Ok x) = BlockAt bytes d own r rs x.0 x.1
  BlockTold d own r rs (Err f) = BlockBreaks bytes d own r rs f

  abbrev pub ItemsTold : ℕ → Bool → ℕ → ContentRow → List ContentRow → Read Items → Type 0
  ItemsTold d own m r rs (Ok x) = ItemsAt bytes d own m r rs x.0 x.1
  ItemsTold d own m r rs (Err f) = ItemsBreak bytes d own m r rs f

  abbrev pub ItemTold : ℕ → ℕ → ContentRow → List ContentRow → Read Tree → Type 0
  ItemTold d m r rs (Ok x) = ItemValue bytes d m r rs x.0 x.1
  ItemTold d m r rs (Err f) = ItemValueBreaks bytes d m r rs f

  abbrev pub EntriesTold : ℕ → ℕ → Keys → ContentRow → List ContentRow → Read Entries → Type 0
  EntriesTold d m keys r rs (Ok x) = EntriesAt bytes d m keys r rs x.0 x.1
  EntriesTold d m keys r rs (Err f) = EntriesBreak bytes d m keys r rs f

  abbrev pub EntryValueTold : ℕ → ℕ → ℕ → Cell → List Cell → List ContentRow → Read Tree → Type 0
  EntryValueTold d m begin colon behind rs (Ok x) = EntryValue bytes d m begin colon behind rs x.0 x.1
  EntryValueTold d m begin colon behind rs (Err f) = EntryValueBreaks bytes d m begin behind rs f

  -- what is known of the nodes inside
  abbrev pub Tells : ℕ → Type 0
  Tells d = (above : ℕ) (r : ContentRow) (rs : List ContentRow) → IsPlaced bytes r → ArePlaced bytes rs → NodeTold above d r rs (node_at bytes d false above r rs)

  abbrev pub OwnTells : ℕ → Type 0
  OwnTells d = (above : ℕ) (r : ContentRow) (rs : List ContentRow) → IsPlaced bytes r → ArePlaced bytes rs → is_item r ≡ true → BlockTold d true r rs (node_at bytes d true above r rs)

  -- ---- items

  here-told : (d m : ℕ) (r left : ContentRow) (rs : List ContentRow) → tab_in r.rest ≡ None → left_of r.begin r.rest ≡ Some left → (read : Read Tree) → NodeTold (suc m) d left rs read → ItemTold d m r rs read
  here-told d m r left rs tab e (Ok x) h = nodes.ItemValue.item_here tab e h
  here-told d m r left rs tab e (Err f) h = breaks.ItemValueBreaks.item_here tab e h

  below-told : (d m : ℕ) (r next : ContentRow) (rs : List ContentRow) → tab_in r.rest ≡ None → left_of r.begin r.rest ≡ None → m < indent next → (read : Read Tree) → NodeTold (suc m) d next rs read → ItemTold d m r (next ∷ rs) read
  below-told d m r next rs tab e lt (Ok x) h = nodes.ItemValue.item_below tab e lt h
  below-told d m r next rs tab e lt (Err f) h = breaks.ItemValueBreaks.item_below tab e lt h

  next-told : (d m : ℕ) (r : ContentRow) (rs : List ContentRow) → Tells d → ArePlaced bytes rs → tab_in r.rest ≡ None → left_of r.begin r.rest ≡ None → ItemTold d m r rs (item_next (inner bytes d) m (suc r.first.at) rs)
  next-told d m r [] node placed tab e = nodes.ItemValue.item_empty d tab e tt
  next-told d m r (next ∷ rs) node placed tab e = by (ltb m (indent next)) refl
    where
      by : (b : Bool) → ltb m (indent next) ≡ b → ItemTold d m r (next ∷ rs) (cond b (node_at bytes d false (suc m) next rs) (Ok (empty_at (suc r.first.at), next ∷ rs)))
      by true h = below-told d m r next rs tab e (ltb-true m (indent next) h) (node_at bytes d false (suc m) next rs) (node (suc m) next rs placed.0 placed.1)
      by false h = nodes.ItemValue.item_empty d tab e (ltb-false m (indent next) h)

  pub item-told : (d m : ℕ) (r : ContentRow) (rs : List ContentRow) → Tells d → IsPlaced bytes r → ArePlaced bytes rs → ItemTold d m r rs (item_value (inner bytes d) m r rs)
  item-told d m r rs node here placed = tabbed (tab_in r.rest) refl
    where
      by : tab_in r.rest ≡ None → (o : Option ContentRow) → left_of r.begin r.rest ≡ o → ItemTold d m r rs (item_at (inner bytes d) m (suc r.first.at) rs o)
      by tab (Some left) e =
          here-told d m r left rs tab e (node_at bytes d false (suc m) left rs) (node (suc m) left rs (placed-left bytes r left (r.first ∷ []) r.rest r.begin here refl e) placed)
      by tab None e = next-told d m r rs node placed tab e

      tabbed : (o : Option Cell) → tab_in r.rest ≡ o → ItemTold d m r rs (unless_tab o (item_at (inner bytes d) m (suc r.first.at) rs (left_of r.begin r.rest)))
      tabbed (Some c) tab = breaks.ItemValueBreaks.item_tab d rs tab
      tabbed None tab = by tab (left_of r.begin r.rest) refl

  more-told : (d : ℕ) (own : Bool) (m : ℕ) (r next : ContentRow) (rs later : List ContentRow) (t : Tree) → indent r ≡ m → is_item r ≡ true → ItemValue bytes d m r rs t (next ∷ later) → (read : Read Items) → ItemsTold d own m next later read
      → ItemsTold d own m r rs (with_item t read)
  more-told d own m r next rs later t e i h (Ok x) told = nodes.ItemsAt.more_items e i h told
  more-told d own m r next rs later t e i h (Err f) told = breaks.ItemsBreak.later_item e i h told

  -- the rows behind an item, at which reading goes on
  abbrev GoesOn : ℕ → Bool → ℕ → ℕ → Type 0
  GoesOn d own m n = (next : ContentRow) (later : List ContentRow) → length (next ∷ later) < n → indent next ≡ m → is_item next ≡ true → IsPlaced bytes next → ArePlaced bytes later → ItemsTold d own m next later (items (inner bytes d) n own m (next ∷ later))

  ends-smaller : (own : Bool) (m : ℕ) (r : ContentRow) (rs : List ContentRow) → indent r < m → Ends own m (r ∷ rs)
  ends-smaller true m r rs lt = inl lt
  ends-smaller false m r rs lt = lt

  -- the row behind an item is no item, at the same indent
  stop-told : (d n : ℕ) (own : Bool) (m : ℕ) (r next : ContentRow) (rs later : List ContentRow) (t : Tree) → indent r ≡ m → is_item r ≡ true → ItemValue bytes d m r rs t (next ∷ later) → indent next ≡ m → is_item next ≡ false
      → ItemsTold d own m r rs (with_item t (items (inner bytes d) (suc n) own m (next ∷ later)))
  unfolding items
  stop-told d n true m r next rs later t e i h same none =
      let read : items (inner bytes d) (suc n) true m (next ∷ later) ≡ Ok (no_items, next ∷ later) = at-indent m next later no_items _ same ∙ rw none refl in
      subst (λ (x : Read Items). ItemsTold d true m r rs (with_item t x)) (sym read) (nodes.ItemsAt.last_item e i h (inr (same, none)))
  stop-told d n false m r next rs later t e i h same none =
      let read : items (inner bytes d) (suc n) false m (next ∷ later) ≡ Err (row_fault next) = at-indent m next later no_items _ same ∙ rw none refl in
      subst (λ (x : Read Items). ItemsTold d false m r rs (with_item t x)) (sym read) (breaks.ItemsBreak.later_item e i h (breaks.ItemsBreak.no_item d later same none))

  behind-told : (d n : ℕ) (own : Bool) (m : ℕ) (r : ContentRow) (rs : List ContentRow) (t : Tree) (rest : List ContentRow) → GoesOn d own m n → indent r ≡ m → is_item r ≡ true → ItemValue bytes d m r rs t rest → length rest < n → ArePlaced bytes rest
      → ItemsTold d own m r rs (with_item t (items (inner bytes d) n own m rest))
  unfolding items
  behind-told d zero own m r rs t rest go e i h lt placed = absurd (omega arith)
  behind-told d (suc n) own m r rs t [] go e i h lt placed = nodes.ItemsAt.last_item e i h (nothing own)
    where
      nothing : (own : Bool) → Ends own m []
      nothing true = tt
      nothing false = tt
  behind-told d (suc n) own m r rs t (next ∷ later) go e i h lt placed = by (ltb m (indent next)) (ltb (indent next) m) (is_item next) refl refl refl
    where
      by : (a b c : Bool) → ltb m (indent next) ≡ a → ltb (indent next) m ≡ b → is_item next ≡ c → ItemsTold d own m r rs (with_item t (items (inner bytes d) (suc n) own m (next ∷ later)))
      by true b c p q s =
          let read : items (inner bytes d) (suc n) own m (next ∷ later) ≡ Err (indent_fault next) = at-deeper m next later no_items _ (ltb-true m (indent next) p) in
          subst (λ (x : Read Items). ItemsTold d own m r rs (with_item t x)) (sym read) (breaks.ItemsBreak.later_item e i h (breaks.ItemsBreak.deeper_item d own later (ltb-true m (indent next) p)))
      by false true c p q s =
          let read : items (inner bytes d) (suc n) own m (next ∷ later) ≡ Ok (no_items, next ∷ later) = at-smaller m next later no_items _ (ltb-true (indent next) m q) in
          subst (λ (x : Read Items). ItemsTold d own m r rs (with_item t x)) (sym read) (nodes.ItemsAt.last_item e i h (ends-smaller own m next later (ltb-true (indent next) m q)))
      by false false true p q s =
          let same : indent next ≡ m = omega (arith, ltb-false m (indent next) p, ltb-false (indent next) m q) in
          more-told d own m r next rs later t e i h (items (inner bytes d) (suc n) own m (next ∷ later)) (go next later lt same s placed.0 placed.1)
      by false false false p q s =
          let same : indent next ≡ m = omega (arith, ltb-false m (indent next) p, ltb-false (indent next) m q) in
          stop-told d n own m r next rs later t e i h same s

  value-told : (d n : ℕ) (own : Bool) (m : ℕ) (r : ContentRow) (rs : List ContentRow) → GoesOn d own m n → indent r ≡ m → is_item r ≡ true → length rs < n → ArePlaced bytes rs → (read : Read Tree) → ItemTold d m r rs read
      → ItemsTold d own m r rs (items_behind (λ rows. items (inner bytes d) n own m rows) read)
  value-told d n own m r rs go e i lt placed (Ok x) h =
      let back = item-rows bytes d m r rs x.0 x.1 h in
      let fewer = end-length rs x.1 back in
      behind-told d n own m r rs x.0 x.1 go e i h (omega (arith, fewer)) (end-holds (IsPlaced bytes) rs x.1 back placed)
  value-told d n own m r rs go e i lt placed (Err f) h = breaks.ItemsBreak.item_value own e i h

  pub items-tell : (d : ℕ) (own : Bool) (m n : ℕ) → Tells d → GoesOn d own m n
  items-tell d own m zero node r rs lt e i here placed = absurd (omega arith)
  items-tell d own m (suc n) node r rs lt e i here placed =
      subst (ItemsTold d own m r rs) (sym (at-item (inner bytes d) n own m r rs _ e i refl))
      (value-told d n own m r rs (items-tell d own m n node) e i (omega arith) placed (item_value (inner bytes d) m r rs) (item-told d m r rs node here placed))

  -- ---- entries

  left-told : (d m begin : ℕ) (colon : Cell) (behind : List Cell) (left : ContentRow) (rs : List ContentRow) → left_of begin behind ≡ Some left → BeginsNoBlock left → (read : Read Tree) → ValueTold bytes (suc m) d left rs read → EntryValueTold d m begin colon behind rs read
  left-told d m begin colon behind left rs e n (Ok x) h = nodes.EntryValue.value_here colon e n h
  left-told d m begin colon behind left rs e n (Err f) h = breaks.EntryValueBreaks.value_here e n h

  deeper-told : (d m begin : ℕ) (colon : Cell) (behind : List Cell) (next : ContentRow) (rs : List ContentRow) → left_of begin behind ≡ None → m < indent next → (read : Read Tree) → NodeTold (suc m) d next rs read → EntryValueTold d m begin colon behind (next ∷ rs) read
  deeper-told d m begin colon behind next rs e lt (Ok x) h = nodes.EntryValue.value_below colon e lt h
  deeper-told d m begin colon behind next rs e lt (Err f) h = breaks.EntryValueBreaks.value_below e lt h

  beside-told : (d m begin : ℕ) (colon : Cell) (behind : List Cell) (next : ContentRow) (rs : List ContentRow) → left_of begin behind ≡ None → indent next ≡ m → is_item next ≡ true → (read : Read Tree) → BlockTold d true next rs read
      → EntryValueTold d m begin colon behind (next ∷ rs) read
  beside-told d m begin colon behind next rs e same i (Ok x) h = nodes.EntryValue.value_beside colon e same i h
  beside-told d m begin colon behind next rs e same i (Err f) h = breaks.EntryValueBreaks.value_beside e same i h

  rows-told : (d m begin : ℕ) (colon : Cell) (behind : List Cell) (rs : List ContentRow) → Tells d → OwnTells d → ArePlaced bytes rs → left_of begin behind ≡ None → EntryValueTold d m begin colon behind rs (entry_next (owned bytes d) m (suc colon.at) rs)
  rows-told d m begin colon behind [] node own placed e = nodes.EntryValue.value_missing d colon e tt
  rows-told d m begin colon behind (next ∷ rs) node own placed e = by (ltb m (indent next)) (eqb (indent next) m) (is_item next) refl refl refl
    where
      missing : NothingBelow m (next ∷ rs) → EntryValueTold d m begin colon behind (next ∷ rs) (Ok (empty_at (suc colon.at), next ∷ rs))
      missing h = nodes.EntryValue.value_missing d colon e h

      smaller : ltb m (indent next) ≡ false → eqb (indent next) m ≡ false → indent next < m
      smaller p q = let n = differs (indent next) m q in let le = ltb-false m (indent next) p in grind (arith, n, le)

      by : (a b c : Bool) → ltb m (indent next) ≡ a → eqb (indent next) m ≡ b → is_item next ≡ c
          → EntryValueTold d m begin colon behind (next ∷ rs) (cond a (node_at bytes d false (suc m) next rs) (cond (b && c) (node_at bytes d true (suc m) next rs) (Ok (empty_at (suc colon.at), next ∷ rs))))
      by true b c p q s = deeper-told d m begin colon behind next rs e (ltb-true m (indent next) p) (node_at bytes d false (suc m) next rs) (node (suc m) next rs placed.0 placed.1)
      by false true true p q s = beside-told d m begin colon behind next rs e (eqb-true (indent next) m q) s (node_at bytes d true (suc m) next rs) (own (suc m) next rs placed.0 placed.1 s)
      by false true false p q s = missing (inr (eqb-true (indent next) m q, s))
      by false false c p q s = missing (inl (smaller p q))

  pub entry-value-told : (d m begin : ℕ) (colon : Cell) (front behind : List Cell) (r : ContentRow) (rs : List ContentRow) → Tells d → OwnTells d → IsPlaced bytes r → text_of r ≡ front ++ behind → ArePlaced bytes rs
      → EntryValueTold d m begin colon behind rs (entry_value bytes d (owned bytes d) m begin colon behind rs)
  entry-value-told d m begin colon front behind r rs node own here source placed = by (left_of begin behind) refl
    where
      by : (o : Option ContentRow) → left_of begin behind ≡ o → EntryValueTold d m begin colon behind rs (entry_at bytes d (owned bytes d) m (suc colon.at) rs o)
      by (Some left) e =
          elim (block-view left) [
            | inl (b, t) ↦ rw t (breaks.EntryValueBreaks.block_here d rs e b)
            | inr (n, t) ↦ rw t (left-told d m begin colon behind left rs e n (value_on bytes (suc m) d left rs) (value-tells bytes (suc m) d left rs (placed-left bytes r left front behind begin here source e)))
          ]
      by None e = rows-told d m begin colon behind rs node own placed e

  entry-more-told : (d m : ℕ) (keys : Keys) (r next : ContentRow) (rs later : List ContentRow) (v : Value) (t : Tree) → EntryAt bytes d m keys r rs v t (next ∷ later) → (read : Read Entries) → EntriesTold d m (keys ++ v.text ∷ []) next later read
      → EntriesTold d m keys r rs (with_entry v t read)
  entry-more-told d m keys r next rs later v t h (Ok x) told = nodes.EntriesAt.more_entries h told
  entry-more-told d m keys r next rs later v t h (Err f) told = breaks.EntriesBreak.later_entry h told

  -- the rows behind an entry, at which reading goes on
  abbrev EntriesGoOn : ℕ → ℕ → ℕ → Type 0
  EntriesGoOn d m n = (keys : Keys) (next : ContentRow) (later : List ContentRow) → length (next ∷ later) < n → indent next ≡ m → IsPlaced bytes next → ArePlaced bytes later → EntriesTold d m keys next later (entries (values bytes d m) n m keys (next ∷ later))

  behind-entry-told : (d n m : ℕ) (keys : Keys) (r : ContentRow) (rs : List ContentRow) (v : Value) (t : Tree) (rest : List ContentRow) → EntriesGoOn d m n → EntryAt bytes d m keys r rs v t rest → length rest < n → ArePlaced bytes rest
      → EntriesTold d m keys r rs (with_entry v t (entries (values bytes d m) n m (keys ++ v.text ∷ []) rest))
  unfolding entries
  behind-entry-told d zero m keys r rs v t rest go h lt placed = absurd (omega arith)
  behind-entry-told d (suc n) m keys r rs v t [] go h lt placed = nodes.EntriesAt.last_entry h tt
  behind-entry-told d (suc n) m keys r rs v t (next ∷ later) go h lt placed = by (ltb m (indent next)) (ltb (indent next) m) refl refl
    where
      by : (a b : Bool) → ltb m (indent next) ≡ a → ltb (indent next) m ≡ b → EntriesTold d m keys r rs (with_entry v t (entries (values bytes d m) (suc n) m (keys ++ v.text ∷ []) (next ∷ later)))
      by true b p q =
          let read : entries (values bytes d m) (suc n) m (keys ++ v.text ∷ []) (next ∷ later) ≡ Err (indent_fault next) = at-deeper m next later no_entries _ (ltb-true m (indent next) p) in
          subst (λ (x : Read Entries). EntriesTold d m keys r rs (with_entry v t x)) (sym read) (breaks.EntriesBreak.later_entry h (breaks.EntriesBreak.deeper_entry d (keys ++ v.text ∷ []) later (ltb-true m (indent next) p)))
      by false true p q =
          let read : entries (values bytes d m) (suc n) m (keys ++ v.text ∷ []) (next ∷ later) ≡ Ok (no_entries, next ∷ later) = at-smaller m next later no_entries _ (ltb-true (indent next) m q) in
          subst (λ (x : Read Entries). EntriesTold d m keys r rs (with_entry v t x)) (sym read) (nodes.EntriesAt.last_entry h (ltb-true (indent next) m q))
      by false false p q =
          let same : indent next ≡ m = omega (arith, ltb-false m (indent next) p, ltb-false (indent next) m q) in
          entry-more-told d m keys r next rs later v t h (entries (values bytes d m) (suc n) m (keys ++ v.text ∷ []) (next ∷ later)) (go (keys ++ v.text ∷ []) next later lt same placed.0 placed.1)

  entry-told : (d n m : ℕ) (keys : Keys) (r : ContentRow) (rs : List ContentRow) (k : Key) (colon : Cell) (behind : List Cell) (v : Value) → EntriesGoOn d m n → indent r ≡ m → BeginsEntry r k colon behind → IsKey r.first r.rest k v → (Contains keys v.text → ⊥)
      → length rs < n → ArePlaced bytes rs → (read : Read Tree) → EntryValueTold d m r.begin colon behind rs read
      → EntriesTold d m keys r rs (entries_behind v (λ rows. entries (values bytes d m) n m (keys ++ v.text ∷ []) rows) read)
  entry-told d n m keys r rs k colon behind v go e b i new lt placed (Ok x) h =
      let back = entry-value-rows bytes d m r.begin colon behind rs x.0 x.1 h in
      let fewer = end-length rs x.1 back in
      behind-entry-told d n m keys r rs v x.0 x.1 go (nodes.EntryAt.an_entry e b i new h) (omega (arith, fewer)) (end-holds (IsPlaced bytes) rs x.1 back placed)
  entry-told d n m keys r rs k colon behind v go e b i new lt placed (Err f) h = breaks.EntriesBreak.entry_value v e b i new h

  key-told : (d n m : ℕ) (keys : Keys) (r : ContentRow) (rs : List ContentRow) (k : Key) (colon : Cell) (behind : List Cell) → Tells d → OwnTells d → EntriesGoOn d m n → indent r ≡ m → BeginsEntry r k colon behind → IsPlaced bytes r → length rs < n → ArePlaced bytes rs
      → (read : Result Value Fault) → KeyTold r.first r.rest k read → EntriesTold d m keys r rs (key_read (values bytes d m) (λ ks rows. entries (values bytes d m) n m ks rows) keys r rs colon behind read)
  key-told d n m keys r rs k colon behind node own go e b here lt placed (Ok v) i =
      elim (has-tells keys v.text) [
        | inl h ↦ rw h.0 (breaks.EntriesBreak.second_key v d rs e b i h.1)
        | inr h ↦
            let source = entry-suffix r k colon behind b in
            rw h.0
            (entry-told d n m keys r rs k colon behind v go e b i h.1 lt placed (entry_value bytes d (owned bytes d) m r.begin colon behind rs)
            (entry-value-told d m r.begin colon source.0 behind r rs node own here source.1 placed))
      ]
  key-told d n m keys r rs k colon behind node own go e b here lt placed (Err f) i = breaks.EntriesBreak.broken_key d keys rs e b i

  nothing-told : (d n m : ℕ) (keys : Keys) (r : ContentRow) (rs : List ContentRow) → indent r ≡ m → NoEntry r → EntriesTold d m keys r rs (entries_on (values bytes d m) (λ ks rows. entries (values bytes d m) n m ks rows) keys r rs None)
  nothing-told d n m keys r rs e none =
      elim (opens-view r.first r.rest) [
        | inl (h, t) ↦ rw t (breaks.EntriesBreak.open_key d keys rs e h)
        | inr (h, t) ↦ rw t (breaks.EntriesBreak.no_entry d keys rs e none h)
      ]

  abbrev row_entries : ℕ → ℕ → ℕ → Keys → ContentRow → List ContentRow → Option EntryHead → Read Entries
  row_entries d n m keys r rs o = entries_on (values bytes d m) (λ ks rows. entries (values bytes d m) n m ks rows) keys r rs o

  pub entries-tell : (d m n : ℕ) → Tells d → OwnTells d → EntriesGoOn d m n
  unfolding entries
  entries-tell d m zero node own keys r rs lt e here placed = absurd (omega arith)
  entries-tell d m (suc n) node own keys r rs lt e here placed =
      subst (EntriesTold d m keys r rs) (sym (at-indent m r rs no_entries _ e)) (by (entries-tell d m n node own) (entry-view r))
    where
      by : EntriesGoOn d m n → heads.EntryView r → EntriesTold d m keys r rs (row_entries d n m keys r rs (entry_of r))
      by go (inl (k, colon, behind, b, t)) =
          subst (λ (o : Option EntryHead). EntriesTold d m keys r rs (row_entries d n m keys r rs o)) (sym t) (key-told d n m keys r rs k colon behind node own go e b here (omega arith) placed (key_of r.first r.rest k) (key-tells r k colon behind b))
      by go (inr (t, none)) = subst (λ (o : Option EntryHead). EntriesTold d m keys r rs (row_entries d n m keys r rs o)) (sym t) (nothing-told d n m keys r rs e none)

  -- ---- nodes

  sequence-told : (d : ℕ) (own : Bool) (r : ContentRow) (rs : List ContentRow) → is_item r ≡ true → (read : Read Items) → ItemsTold d own (indent r) r rs read → BlockTold (suc d) own r rs (as_sequence r read)
  sequence-told d own r rs i (Ok x) h = nodes.BlockAt.block_sequence h
  sequence-told d own r rs i (Err f) h = breaks.BlockBreaks.block_sequence i h

  mapping-told : (d : ℕ) (r : ContentRow) (rs : List ContentRow) (k : Key) (colon : Cell) (behind : List Cell) → BeginsEntry r k colon behind → (read : Read Entries) → EntriesTold d (indent r) [] r rs read → BlockTold (suc d) false r rs (as_mapping r read)
  mapping-told d r rs k colon behind b (Ok x) h = nodes.BlockAt.block_mapping h
  mapping-told d r rs k colon behind b (Err f) h = breaks.BlockBreaks.block_mapping b h

  block-told : (above d : ℕ) (r : ContentRow) (rs : List ContentRow) (read : Read Tree) → BlockTold d false r rs read → NodeTold above d r rs read
  block-told above d r rs (Ok x) h = nodes.NodeAt.block above h
  block-told above d r rs (Err f) h = breaks.NodeBreaks.block above h

  no-block-told : (above d : ℕ) (r : ContentRow) (rs : List ContentRow) → BeginsNoBlock r → (read : Read Tree) → ValueTold bytes above d r rs read → NodeTold above d r rs read
  no-block-told above d r rs n (Ok x) h = nodes.NodeAt.value n h
  no-block-told above d r rs n (Err f) h = breaks.NodeBreaks.value n h

  value-node-told : (above d : ℕ) (r : ContentRow) (rs : List ContentRow) → BeginsNoBlock r → IsPlaced bytes r → NodeTold above d r rs (node_at bytes d false above r rs)
  value-node-told above d r rs n here =
      subst (NodeTold above d r rs) (sym (value-node bytes d false above r rs n)) (no-block-told above d r rs n (value_on bytes above d r rs) (value-tells bytes above d r rs here))

  items-node-told : (above d : ℕ) (own : Bool) (r : ContentRow) (rs : List ContentRow) → Tells d → is_item r ≡ true → IsPlaced bytes r → ArePlaced bytes rs → BlockTold (suc d) own r rs (node_at bytes (suc d) own above r rs)
  items-node-told above d own r rs node i here placed =
      let n = suc (length (r ∷ rs)) in
      subst (BlockTold (suc d) own r rs) (sym (sequence-node bytes d own above r rs i))
      (sequence-told d own r rs i (items (inner bytes d) n own (indent r) (r ∷ rs)) (items-tell d own (indent r) n node r rs (omega arith) refl i here placed))

  entries-node-told : (above d : ℕ) (r : ContentRow) (rs : List ContentRow) (k : Key) (colon : Cell) (behind : List Cell) → Tells d → OwnTells d → is_item r ≡ false → BeginsEntry r k colon behind → IsPlaced bytes r → ArePlaced bytes rs
      → BlockTold (suc d) false r rs (node_at bytes (suc d) false above r rs)
  entries-node-told above d r rs k colon behind node own i b here placed =
      let n = suc (length (r ∷ rs)) in
      subst (BlockTold (suc d) false r rs) (sym (mapping-node bytes d false above r rs i (heads.begins-block r (inr (k, colon, behind, b)))))
      (mapping-told d r rs k colon behind b (entries (values bytes d (indent r)) n (indent r) [] (r ∷ rs)) (entries-tell d (indent r) n node own [] r rs (omega arith) refl here placed))

  mutual
    pub node-tells : (d : ℕ) → Tells d
    node-tells zero above r rs here placed =
        elim (block-view r) [
          | inl (b, t) ↦ subst (NodeTold above zero r rs) (sym (deep-node bytes false above r rs b)) (breaks.NodeBreaks.block above (breaks.BlockBreaks.too_deep false rs b))
          | inr (n, t) ↦ value-node-told above zero r rs n here
        ]
    node-tells (suc d) above r rs here placed =
        elim (cases_Bool (is_item r)) [
          | inl i ↦ block-told above (suc d) r rs (node_at bytes (suc d) false above r rs) (items-node-told above d false r rs (λ a x xs. node-tells d a x xs) i here placed)
          | inr i ↦ elim (entry-view r) [
            | inl (k, colon, behind, b, t) ↦
                block-told above (suc d) r rs (node_at bytes (suc d) false above r rs)
                (entries-node-told above d r rs k colon behind (λ a x xs. node-tells d a x xs) (λ a x xs. own-tells d a x xs) i b here placed)
            | inr (t, none) ↦ value-node-told above (suc d) r rs (i, none) here
          ]
        ]

    pub own-tells : (d : ℕ) → OwnTells d
    own-tells zero above r rs here placed i = subst (BlockTold zero true r rs) (sym (deep-node bytes true above r rs (inl i))) (breaks.BlockBreaks.too_deep true rs (inl i))
    own-tells (suc d) above r rs here placed i = items-node-told above d true r rs (λ a x xs. node-tells d a x xs) i here placed
