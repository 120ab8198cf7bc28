-- Flow mappings, as the code reads them.
use Rattle.std.proofs.Common.{◌≡◌, ℕ, suc, Bool, true, false, cond, List, [], ◌∷◌, ◌++◌, length, map, Result, Ok, Err, IfOk, refl, ap, arith, sym, ◌∙◌}
use Rattle.std.proofs.lemmas.List.{map_push}
use Rattle.lf_base.specs.declared.refusal.Refusal.{Refusal}
use Rattle.lf_base.specs.declared.refusal.Refusal.TheVariants as refusal_of
use Rattle.lf_base.specs.declared.kind.Kind.TheVariants.{DoubleKey}
use Rattle.lf_base.specs.declared.fault.Fault.{Fault}
use Rattle.lf_scalar.specs.Cells.{Cell, Value, Fails, ◌>>=◌}
use Rattle.lf_yaml.specs.Tree.{Tree, mapping, Entries, no_entries, pair}
use Rattle.lf_yaml.specs.Flow.{next_on}
use Rattle.lf_yaml.specs.reading.Trees.{FlowRead, FlowTree, as_tree, with_entry, Later, Signed, Valued, has, flow_key, flow_value, mapping_sign, value_behind, key_behind, mapping_in, Keys}
use Rattle.lf_yaml.specs.reading.FlowTurns.{TurnGives, TurnsEntries, HasTurned, after_entries, texts_of, entry_at, entries_from, entries_tree, EntriesBehind}
use Rattle.lf_yaml.specs.views.Shown.{shown}
use Rattle.lf_yaml.specs.declared.node.Entry.{Entry}
use Rattle.lf_yaml.specs.declared.key_set.KeySet.{KeySet}
use Rattle.lf_yaml.specs.declared.turn.Turn.{Turn}
use Rattle.lf_yaml.specs.declared.turn.Turn.TheVariants as turn
use Rattle.lf_yaml.proofs.Collected.{Pair, entries-push, entries-all, entries-err, texts-more}
use Rattle.lf_yaml.proofs.Sequences.{Enough, always-enough}
use Rattle.lf_yaml.proofs.Mappings.{mapping-is, mapping-breaks, MappingTold, mapping-tells}

-- ---- one entry

abbrev Found : Type 0
Found = Value × Tree × ℕ

module _ (bytes : List ℕ) (later : Later) (keys : Keys) where
  -- what is read behind an entry
  abbrev pub behind_entry : Result Found Fault → FlowRead Entries
  behind_entry read = read >>= λ x. mapping_sign (λ next. later (keys ++ x.0.text ∷ []) next) x.0 x.1 (next_on bytes x.2)

  by-value : (v : Value) (read : Result Valued Fault) → value_behind bytes (λ next. later (keys ++ v.text ∷ []) next) v read ≡ behind_entry (read >>= λ x. Ok (v, x.0, x.1))
  by-value v (Ok x) = refl
  by-value v (Err f) = refl

  by-key : (k : Signed) (b : Bool)
      → cond b (Err (record { kind = DoubleKey; span = k.0.span })) (value_behind bytes (λ next. later (keys ++ k.0.text ∷ []) next) k.0 (flow_value bytes k.1))
      ≡ behind_entry (cond b (Err (record { kind = DoubleKey; span = k.0.span })) (Ok k) >>= λ j. flow_value bytes j.1 >>= λ x. Ok (j.0, x.0, x.1))
  by-key k true = refl
  by-key k false = by-value k.0 (flow_value bytes k.1)

  abbrev entry_by : Result Signed Fault → Result Found Fault
  entry_by read = (read >>= λ k. cond (has keys k.0.text) (Err (record { kind = DoubleKey; span = k.0.span })) (Ok k)) >>= λ j. flow_value bytes j.1 >>= λ x. Ok (j.0, x.0, x.1)

  by-read : (read : Result Signed Fault) → key_behind bytes later keys read ≡ behind_entry (entry_by read)
  by-read (Ok k) = by-key k (has keys k.0.text)
  by-read (Err f) = refl

  pub entry-behind : (c : Cell) (cs : List Cell) → key_behind bytes later keys (flow_key bytes c cs) ≡ behind_entry (entry_at bytes keys c cs)
  entry-behind c cs = by-read (flow_key bytes c cs)

  pub entry-fails : (e : Refusal) (c : Cell) (cs : List Cell) → Fails e (entry_at bytes keys c cs) → Fails e (key_behind bytes later keys (flow_key bytes c cs))
  entry-fails refusal_of.Memory c cs h = tt
  entry-fails (refusal_of.At kind span) c cs h = entry-behind c cs ∙ ap behind_entry h

  pub entry-goes : (c : Cell) (cs : List Cell) (x : Found) → entry_at bytes keys c cs ≡ Ok x
      → key_behind bytes later keys (flow_key bytes c cs) ≡ mapping_sign (λ next. later (keys ++ x.0.text ∷ []) next) x.0 x.1 (next_on bytes x.2)
  entry-goes c cs x e = entry-behind c cs ∙ ap behind_entry e

-- ---- what is read behind some entries

module _ (bytes : List ℕ) where
  enough-entries : (n m : ℕ) (keys : Keys) (at : ℕ) → Enough (length bytes) n at → Enough (length bytes) m at → mapping_in bytes n keys at ≡ mapping_in bytes m keys at
  enough-entries n m keys at a b = by (mapping_in bytes n keys at) (mapping-tells bytes n keys at a)
    where
      by : (r : FlowRead Entries) → MappingTold bytes keys at r → r ≡ mapping_in bytes m keys at
      by (Ok x) h = sym (mapping-is bytes m keys at x.0 x.1 b h)
      by (Err f) h = sym (mapping-breaks bytes m keys at f b h)

  abbrev more_from : Keys → ℕ → FlowRead Entries
  more_from keys at = mapping_in bytes (suc (suc (length bytes))) keys at

  one-more : (keys : Keys) (at : ℕ) → more_from keys at ≡ entries_from bytes keys at
  one-more keys at = enough-entries (suc (suc (length bytes))) (suc (length bytes)) keys at (omega arith, omega arith) (always-enough (length bytes) at)

  module _ (found : List Entry) where
    abbrev whole : FlowRead Entries → FlowTree
    whole read = as_tree mapping (after_entries (map pair found) read)

    abbrev keys : Keys
    keys = texts_of (map pair found)

    pushed : (x : Entry) (read : FlowRead Entries) → whole (with_entry (pair x).0 (pair x).1 read) ≡ as_tree mapping (after_entries (map pair (found ++ x ∷ [])) read)
    pushed x read = ap (as_tree mapping) (sym (entries-push (map pair found) (pair x) read) ∙ ap (λ (es : List Pair). after_entries es read) (sym (map_push pair found x)))

    ended : (entries : List Entry) (c : Cell) → as_tree mapping (after_entries (map pair entries) (Ok (no_entries, c))) ≡ Ok (entries_tree entries, c)
    ended entries c = ap (as_tree mapping) (entries-all (map pair entries) c)

    -- a turn, where one turn more is granted than is needed
    pub entries-turned : (set : KeySet) (at : ℕ) (read : FlowTree) → whole (entries_from bytes keys at) ≡ read → (r : Result (Turn Entry) Refusal) → TurnsEntries (λ ks at. entries_from bytes ks at) keys r (more_from keys at)
        → IfOk r (λ t. HasTurned set keys t) → TurnGives entries_tree (EntriesBehind bytes set) found read r
    entries-turned set at read so_far r t has = by r t has
      where
        is : (x : FlowRead Entries) → more_from keys at ≡ x → read ≡ whole x
        is x e = sym so_far ∙ ap whole (sym (one-more keys at) ∙ e)

        by : (r : Result (Turn Entry) Refusal) → TurnsEntries (λ ks at. entries_from bytes ks at) keys r (more_from keys at) → IfOk r (λ t. HasTurned set keys t) → TurnGives entries_tree (EntriesBehind bytes set) found read r
        by (Ok (turn.Ends closing next)) t has = is _ t ∙ ended found (shown closing).first
        by (Ok (turn.Last x closing next)) t has = is _ t ∙ pushed x (Ok (no_entries, (shown closing).first)) ∙ ended (found ++ x ∷ []) (shown closing).first
        by (Ok (turn.More x place)) t has = rw (texts-more found x) (has, sym (is _ t ∙ pushed x (entries_from bytes (keys ++ (pair x).0.text ∷ []) place.at)))
        by (Err refusal_of.Memory) t has = tt
        by (Err (refusal_of.At kind span)) t has = is _ t ∙ ap (as_tree mapping) (entries-err (map pair found) (record { kind = kind; span = span }))
