-- Items and entries that were found, and then what is read behind them.
use Rattle.std.proofs.Common.{◌≡◌, List, [], ◌∷◌, ◌++◌, map, Result, Ok, Err, refl, ap, ◌∙◌}
use Rattle.std.proofs.lemmas.List.{map_push}
use Rattle.lf_base.specs.declared.fault.Fault.{Fault}
use Rattle.lf_scalar.specs.Cells.{Value}
use Rattle.lf_yaml.specs.Tree.{Tree, Items, no_items, Entries, no_entries, items_of, entries_of, pair}
use Rattle.lf_yaml.specs.reading.Trees.{with_item, with_entry}
use Rattle.lf_yaml.specs.reading.FlowTurns.{after_items, after_entries, texts_of}
use Rattle.lf_yaml.specs.declared.node.Entry.{Entry}

-- what is read, and where the rest begins
abbrev Left : Type 0 → Type 0 → Type 0
Left A B = Result (A × B) Fault

-- ---- items

pub items-push : {B : Type 0} (ts : List Tree) (t : Tree) (read : Left Items B) → after_items (ts ++ t ∷ []) read ≡ after_items ts (with_item t read)
items-push [] t read = refl
items-push (u ∷ ts) t read = ap (with_item u) (items-push ts t read)

pub items-all : {B : Type 0} (ts : List Tree) (rest : B) → after_items ts (Ok (no_items, rest)) ≡ Ok (items_of ts, rest)
items-all [] rest = refl
items-all (t ∷ ts) rest = ap (with_item t) (items-all ts rest)

pub items-err : {B : Type 0} (ts : List Tree) (f : Fault) → (let x : Left Items B = Err f in after_items ts x) ≡ Err f
items-err [] f = refl
items-err (t ∷ ts) f = ap (with_item t) (items-err ts f)

-- ---- entries

abbrev pub Pair : Type 0
Pair = Value × Tree

pub entries-push : {B : Type 0} (es : List Pair) (e : Pair) (read : Left Entries B) → after_entries (es ++ e ∷ []) read ≡ after_entries es (with_entry e.0 e.1 read)
entries-push [] e read = refl
entries-push (x ∷ es) e read = ap (with_entry x.0 x.1) (entries-push es e read)

pub entries-all : {B : Type 0} (es : List Pair) (rest : B) → after_entries es (Ok (no_entries, rest)) ≡ Ok (entries_of es, rest)
entries-all [] rest = refl
entries-all (e ∷ es) rest = ap (with_entry e.0 e.1) (entries-all es rest)

pub entries-err : {B : Type 0} (es : List Pair) (f : Fault) → (let x : Left Entries B = Err f in after_entries es x) ≡ Err f
entries-err [] f = refl
entries-err (e ∷ es) f = ap (with_entry e.0 e.1) (entries-err es f)

pub texts-push : (es : List Pair) (e : Pair) → texts_of (es ++ e ∷ []) ≡ texts_of es ++ e.0.text ∷ []
texts-push es e = map_push (λ (x : Pair). x.0.text) es e

-- of the code's entries
pub texts-more : (entries : List Entry) (found : Entry) → texts_of (map pair (entries ++ found ∷ [])) ≡ texts_of (map pair entries) ++ (pair found).0.text ∷ []
texts-more entries found = ap texts_of (map_push pair entries found) ∙ texts-push (map pair entries) (pair found)
