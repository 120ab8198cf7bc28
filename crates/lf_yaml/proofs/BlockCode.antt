-- Nodes and entries, as the code reads them.
use Rattle.std.proofs.Common.{◌≡◌, ℕ, zero, suc, ◌-◌, ◌<◌, Bool, true, false, List, [], ◌∷◌, ◌++◌, map, Some, None, Result, Ok, Err, refl, ap, arith, sym, ◌∙◌, subst, inl}
use Rattle.lf_base.specs.declared.kind.Kind.TheVariants.{TooDeep}
use Rattle.lf_base.specs.declared.refusal.Refusal.{Refusal}
use Rattle.lf_base.specs.declared.refusal.Refusal.TheVariants as refusal_of
use Rattle.lf_base.specs.declared.fault.Fault.{Fault}
use Rattle.lf_scalar.specs.Cells.{Value, character_fault, Fails, ◌>>=◌}
use Rattle.lf_yaml.specs.Rows.{ContentRow, indent}
use Rattle.lf_yaml.specs.Heads.{is_item}
use Rattle.lf_yaml.specs.Tree.{Tree, Items, Entries, pair}
use Rattle.lf_yaml.specs.reading.Trees.{EntryHead, Read, EntryValues, entry_of, as_sequence, as_mapping, value_on, node_at, Keys}
use Rattle.lf_yaml.specs.views.Cursor.{rows_after}
use Rattle.lf_yaml.specs.views.KeySets.{HasKeys}
use Rattle.lf_yaml.specs.reading.BlockTurns.{new_key, with_key, one_entry, run_items, run_entries}
use Rattle.lf_yaml.specs.declared.key_set.KeySet.{KeySet}
use Rattle.lf_yaml.specs.declared.node.Entry.{Entry}
use Rattle.lf_yaml.specs.reading.FlowTurns.{texts_of}
use Rattle.lf_yaml.proofs.Collected.{texts-more}
use Rattle.lf_yaml.proofs.Steps.{sequence-node, mapping-node, deep-node}

module _ (bytes : List ℕ) (own : Bool) (above : ℕ) (r : ContentRow) (rs : List ContentRow) where
  pub item-node : (d : ℕ) → is_item r ≡ true → 0 < d → node_at bytes d own above r rs ≡ as_sequence r (run_items bytes (d - 1) own (indent r) r rs)
  item-node zero i lt = absurd (omega (arith, lt))
  item-node (suc d) i lt =
      let e : suc d - 1 ≡ d = omega arith in
      sequence-node bytes d own above r rs i ∙ ap (λ (n : ℕ). as_sequence r (run_items bytes n own (indent r) r rs)) (sym e)

  pub item-deep : (d : ℕ) → is_item r ≡ true → d ≡ 0 → node_at bytes d own above r rs ≡ Err (character_fault TooDeep r.first)
  item-deep d i e = ap (λ (n : ℕ). node_at bytes n own above r rs) e ∙ deep-node bytes own above r rs (inl i)

  pub entry-node : (d : ℕ) (h : EntryHead) → is_item r ≡ false → entry_of r ≡ Some h → 0 < d → node_at bytes d own above r rs ≡ as_mapping r (run_entries bytes (d - 1) (indent r) r rs)
  entry-node zero h i e lt = absurd (omega (arith, lt))
  entry-node (suc d) h i e lt =
      let n : suc d - 1 ≡ d = omega arith in
      mapping-node bytes d own above r rs i (rw (i, e) refl) ∙ ap (λ (n : ℕ). as_mapping r (run_entries bytes n (indent r) r rs)) (sym n)

  pub entry-deep : (d : ℕ) (h : EntryHead) → is_item r ≡ false → entry_of r ≡ Some h → d ≡ 0 → node_at bytes d own above r rs ≡ Err (character_fault TooDeep r.first)
  unfolding node_at
  entry-deep d h i e z = ap (λ (n : ℕ). node_at bytes n own above r rs) z ∙ rw (i, e) refl

  pub no-block : (d : ℕ) → is_item r ≡ false → entry_of r ≡ None → node_at bytes d own above r rs ≡ value_on bytes above d r rs
  unfolding node_at
  no-block zero i e = rw (i, e) refl
  no-block (suc d) i e = rw (i, e) refl

pub fails-sequence : (r : ContentRow) (e : Refusal) (read : Read Items) → Fails e read → Fails e (as_sequence r read)
fails-sequence r refusal_of.Memory read h = tt
fails-sequence r (refusal_of.At kind span) read h = ap (as_sequence r) h

pub fails-mapping : (r : ContentRow) (e : Refusal) (read : Read Entries) → Fails e read → Fails e (as_mapping r read)
fails-mapping r refusal_of.Memory read h = tt
fails-mapping r (refusal_of.At kind span) read h = ap (as_mapping r) h

-- the same row at the same place
pub same-run : (bytes : List ℕ) (d : ℕ) (r s : ContentRow) (from next : ℕ) → r ≡ s → from ≡ next → run_entries bytes d (indent r) r (rows_after bytes from) ≡ run_entries bytes d (indent s) s (rows_after bytes next)
same-run bytes d r s from next e h = ap (λ (x : ContentRow). run_entries bytes d (indent x) x (rows_after bytes from)) e ∙ ap (λ (n : ℕ). run_entries bytes d (indent s) s (rows_after bytes n)) h

-- ---- one entry

pub key-fails : (read_value : EntryValues) (keys : Keys) (r : ContentRow) (h : EntryHead) (rs : List ContentRow) (e : Refusal) → Fails e (new_key keys r h) → Fails e (one_entry read_value keys r h rs)
unfolding one_entry
key-fails read_value keys r h rs refusal_of.Memory k = tt
key-fails read_value keys r h rs (refusal_of.At kind span) k = ap (λ (x : Result Value Fault). x >>= λ v. with_key v (read_value r.begin h.1 h.2 rs)) k

pub value-fails : (read_value : EntryValues) (keys : Keys) (r : ContentRow) (h : EntryHead) (rs : List ContentRow) (e : Refusal) (v : Value) → new_key keys r h ≡ Ok v → Fails e (read_value r.begin h.1 h.2 rs) → Fails e (one_entry read_value keys r h rs)
unfolding one_entry
value-fails read_value keys r h rs refusal_of.Memory v q k = tt
value-fails read_value keys r h rs (refusal_of.At kind span) v q k =
    ap (λ (x : Result Value Fault). x >>= λ v. with_key v (read_value r.begin h.1 h.2 rs)) q ∙ ap (with_key v) k

pub entry-read : (read_value : EntryValues) (keys : Keys) (r : ContentRow) (h : EntryHead) (rs : List ContentRow) (v : Value) (t : Tree) (rest : List ContentRow) → new_key keys r h ≡ Ok v → read_value r.begin h.1 h.2 rs ≡ Ok (t, rest)
    → one_entry read_value keys r h rs ≡ Ok ((v, t), rest)
unfolding one_entry
entry-read read_value keys r h rs v t rest q k = ap (λ (x : Result Value Fault). x >>= λ v. with_key v (read_value r.begin h.1 h.2 rs)) q ∙ ap (with_key v) k

-- ---- the texts of keys

pub known-first : (set : KeySet) (e : Entry) (text : List ℕ) → text ≡ e.key.text → HasKeys set ([] ++ text ∷ []) → HasKeys set (texts_of (map pair (e ∷ [])))
known-first set e text h k = subst (λ (x : List ℕ). HasKeys set (x ∷ [])) h k

pub known-more : (set : KeySet) (found : List Entry) (e : Entry) (text : List ℕ) → text ≡ e.key.text → HasKeys set (texts_of (map pair found) ++ text ∷ []) → HasKeys set (texts_of (map pair (found ++ e ∷ [])))
known-more set found e text h k = subst (HasKeys set) (sym (texts-more found e)) (subst (λ (x : List ℕ). HasKeys set (texts_of (map pair found) ++ x ∷ [])) h k)
