use Rattle.std.proofs.Common.{◌≡◌, ◌≢◌, false, List, [], cond, Result, Ok, Err, sym, ◌∙◌, ap, subst, arith}
use Rattle.std.specs.Prelude.{OnErr, OnOk}
use Rattle.std.specs.List.{filter}
use Rattle.std.specs.Ordering.{nat_cmp}
use Rattle.std.specs.Cmp.Lexicographic.{slice_cmp}
use Rattle.std.specs.Str.{bytes_eq}
use Rattle.std.specs.FinMap.{from_sorted, insert, put, remove}
use Rattle.std.proofs.lemmas.List.{nil_from_length}
use Rattle.std.proofs.lemmas.Result.{on_ok_weaker}
use Rattle.lf_ast.specs.Labels.{Bytes, HasNoEmptyText, Labels}
use Rattle.lf_ast.proofs.LabelSets.{AreSortedByName, differs, full_text, put_has_texts, put_in_order, put_inserts, rest_has_texts, rest_in_order, rest_removes, tells_full}
use Rattle.lf_ast.proofs.label_set.LabelSet.set.Goals as goal

pub invariant_of-self : goal.invariant_of-self
invariant_of-self c =
    let es = c.self.inside.entries.items in
    let n = c.args.name.now in
    let is = c.take_out.ensures ∙ ap (λ (t : Bytes). filter (differs t) es) c.as_str.ensures in
    (subst AreSortedByName (sym is) (rest_in_order n es c.self.invariant.0), subst HasNoEmptyText (sym is) (rest_has_texts (differs n) es c.self.invariant.1))

pub returns-then-len-eq0-clause-ok : goal.returns-then-len-eq0-clause-ok
returns-then-len-eq0-clause-ok c =
    let es = c.self.inside.entries.items in
    let n = c.args.name.now in
    let is = c.take_out.ensures ∙ ap (λ (t : Bytes). filter (differs t) es) c.as_str.ensures in
    let none : c.args.text.now ≡ [] = nil_from_length c.args.text.now (omega arith) in
    ap from_sorted is ∙ rest_removes n es c.self.invariant.0 ∙ ap (λ (s : Labels). remove s n) c.self.view_is
    ∙ sym (ap (λ (t : Bytes). cond (bytes_eq t []) (remove c.args.self.now n) (insert c.args.self.now n c.args.text.now)) none)

either : (P : List (Bytes × Bytes) → Type 0) (new old more : List (Bytes × Bytes)) {X Y : Type 0} (r : Result X Y) → OnOk r (new ≡ more) → OnErr r (new ≡ old) → P more → P old → P new
either P new old more (Ok x) is _ p _ = subst P (sym is) p
either P new old more (Err x) _ is _ p = subst P (sym is) p

pub invariant_of-self-else-len-eq0 : goal.invariant_of-self-else-len-eq0
invariant_of-self-else-len-eq0 c =
    let es = c.self.inside.entries.items in
    let n = c.args.name.now in
    let t = c.args.text.now in
    let full : t ≢ [] = full_text t (λ e. c.if-len-eq0.false (c.len.ensures ∙ e)) in
    either (λ new. AreSortedByName new × HasNoEmptyText new) c.put.new.entries.items es (put (slice_cmp nat_cmp) n t es) c.put.result c.put.ensures.ok c.put.ensures.err
    (put_in_order n t es c.self.invariant.0, put_has_texts n t es full c.self.invariant.1) c.self.invariant

pub returns-else-len-eq0-clause-ok : goal.returns-else-len-eq0-clause-ok
returns-else-len-eq0-clause-ok c =
    let es = c.self.inside.entries.items in
    let n = c.args.name.now in
    let t = c.args.text.now in
    let full : bytes_eq t [] ≡ false = tells_full t (λ e. c.if-len-eq0.false (c.len.ensures ∙ e)) in
    on_ok_weaker c.put.result (λ is. ap from_sorted is ∙ put_inserts n t es c.self.invariant.0 ∙ ap (λ (s : Labels). insert s n t) c.self.view_is
    ∙ sym (ap (λ b. cond b (remove c.args.self.now n) (insert c.args.self.now n t)) full)) c.put.ensures.ok
