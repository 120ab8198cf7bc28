-- How reading goes on at one row.
use Rattle.std.proofs.Common.{◌≡◌, ℕ, zero, suc, ◌<◌, Bool, true, false, eqb, List, [], ◌∷◌, Ok, Err, length, eq-eqb, refl, arith, ◌∙◌, inl, inr}
use Rattle.std.proofs.lemmas.Bool.{le-ltb, lt-ltb}
use Rattle.std.proofs.Math.Bool.{and-false}
use Rattle.lf_base.specs.declared.kind.Kind.TheVariants.{TooDeep}
use Rattle.lf_scalar.specs.Cells.{character_fault}
use Rattle.lf_yaml.specs.Rows.{ContentRow, indent, indent_fault}
use Rattle.lf_yaml.specs.Heads.{is_item, BeginsBlock, BeginsNoBlock}
use Rattle.lf_yaml.specs.Tree.{no_items, no_entries}
use Rattle.lf_yaml.specs.Nodes.{NoneBelow, NothingBelow, Ends}
use Rattle.lf_yaml.specs.Spans.{empty_at}
use Rattle.lf_yaml.specs.reading.Trees.{Read, Reader, value_on, item_next, at_indent, items, begins_block, entry_next, EntryValues, entries, as_sequence, as_mapping, node_at}
pub use Rattle.lf_yaml.specs.reading.BlockTurns.{inner, owned, values}
use Rattle.lf_yaml.proofs.HeadLaws.{begins-block, begins-no-block}

pub value-node : (bytes : List ℕ) (d : ℕ) (own : Bool) (above : ℕ) (r : ContentRow) (rs : List ContentRow) → BeginsNoBlock r → node_at bytes d own above r rs ≡ value_on bytes above d r rs
unfolding node_at
value-node bytes zero own above r rs n = rw (begins-no-block r n) refl
value-node bytes (suc d) own above r rs n = rw (begins-no-block r n, n.0) refl

pub sequence-node : (bytes : List ℕ) (d : ℕ) (own : Bool) (above : ℕ) (r : ContentRow) (rs : List ContentRow) → is_item r ≡ true
    → node_at bytes (suc d) own above r rs ≡ as_sequence r (items (inner bytes d) (suc (length (r ∷ rs))) own (indent r) (r ∷ rs))
unfolding node_at
sequence-node bytes d own above r rs i = rw i refl

pub mapping-node : (bytes : List ℕ) (d : ℕ) (own : Bool) (above : ℕ) (r : ContentRow) (rs : List ContentRow) → is_item r ≡ false → begins_block r ≡ true
    → node_at bytes (suc d) own above r rs ≡ as_mapping r (entries (values bytes d (indent r)) (suc (length (r ∷ rs))) (indent r) [] (r ∷ rs))
unfolding node_at
mapping-node bytes d own above r rs i b = rw (b, i) refl

pub deep-node : (bytes : List ℕ) (own : Bool) (above : ℕ) (r : ContentRow) (rs : List ContentRow) → BeginsBlock r → node_at bytes zero own above r rs ≡ Err (character_fault TooDeep r.first)
unfolding node_at
deep-node bytes own above r rs h = rw (begins-block r h) refl

-- at its own indent a row is read
pub at-indent : {A : Type 0} (m : ℕ) (r : ContentRow) (rs : List ContentRow) (none : A) (read : Read A) → indent r ≡ m → at_indent m r rs none read ≡ read
at-indent m r rs none read e = rw (le-ltb m (indent r) (omega arith), le-ltb (indent r) m (omega arith)) refl

pub at-deeper : {A : Type 0} (m : ℕ) (r : ContentRow) (rs : List ContentRow) (none : A) (read : Read A) → m < indent r → at_indent m r rs none read ≡ Err (indent_fault r)
at-deeper m r rs none read lt = rw (lt-ltb m (indent r) lt) refl

pub at-smaller : {A : Type 0} (m : ℕ) (r : ContentRow) (rs : List ContentRow) (none : A) (read : Read A) → indent r < m → at_indent m r rs none read ≡ Ok (none, r ∷ rs)
at-smaller m r rs none read lt = rw (le-ltb m (indent r) (omega arith), lt-ltb (indent r) m lt) refl

-- at the end of a collection nothing more is read
pub items-end : (node : Reader) (n : ℕ) (own : Bool) (m : ℕ) (rs : List ContentRow) → 0 < n → Ends own m rs → items node n own m rs ≡ Ok (no_items, rs)
unfolding items
items-end node zero own m rs lt h = absurd (omega arith)
items-end node (suc n) own m [] lt h = refl
items-end node (suc n) false m (r ∷ rs) lt h = at-smaller m r rs no_items _ h
items-end node (suc n) true m (r ∷ rs) lt (inl h) = at-smaller m r rs no_items _ h
items-end node (suc n) true m (r ∷ rs) lt (inr (e, i)) = at-indent m r rs no_items _ e ∙ rw i refl

pub entries-end : (value : EntryValues) (n m : ℕ) (keys : List (List ℕ)) (rs : List ContentRow) → 0 < n → Ends false m rs → entries value n m keys rs ≡ Ok (no_entries, rs)
unfolding entries
entries-end value zero m keys rs lt h = absurd (omega arith)
entries-end value (suc n) m keys [] lt h = refl
entries-end value (suc n) m keys (r ∷ rs) lt h = at-smaller m r rs no_entries _ h

-- where no row below gives a value
pub item-nothing : (node : Reader) (m at : ℕ) (rs : List ContentRow) → NoneBelow m rs → item_next node m at rs ≡ Ok (empty_at at, rs)
item-nothing node m at [] h = refl
item-nothing node m at (r ∷ rs) h = rw (le-ltb m (indent r) h) refl

pub item-below : (node : Reader) (m at : ℕ) (r : ContentRow) (rs : List ContentRow) → m < indent r → item_next node m at (r ∷ rs) ≡ node (suc m) r rs
item-below node m at r rs lt = rw (lt-ltb m (indent r) lt) refl

no-eqb : (a b : ℕ) → a < b → eqb a b ≡ false
no-eqb a b lt = grind arith

pub entry-nothing : (node : Bool → Reader) (m at : ℕ) (rs : List ContentRow) → NothingBelow m rs → entry_next node m at rs ≡ Ok (empty_at at, rs)
entry-nothing node m at [] h = refl
entry-nothing node m at (r ∷ rs) (inl lt) = rw (le-ltb m (indent r) (omega arith), no-eqb (indent r) m lt) refl
entry-nothing node m at (r ∷ rs) (inr (e, i)) = rw (le-ltb m (indent r) (omega arith), i, and-false (eqb (indent r) m)) refl

pub entry-below : (node : Bool → Reader) (m at : ℕ) (r : ContentRow) (rs : List ContentRow) → m < indent r → entry_next node m at (r ∷ rs) ≡ node false (suc m) r rs
entry-below node m at r rs lt = rw (lt-ltb m (indent r) lt) refl

pub entry-beside : (node : Bool → Reader) (m at : ℕ) (r : ContentRow) (rs : List ContentRow) → indent r ≡ m → is_item r ≡ true → entry_next node m at (r ∷ rs) ≡ node true (suc m) r rs
entry-beside node m at r rs e i = rw (le-ltb m (indent r) (omega arith), eq-eqb (indent r) m e, i) refl
