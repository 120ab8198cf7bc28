use Rattle.std.proofs.Common.{◌≡◌, ◌↔◌, ◌<◌, IfSome, IsTrue, [], length, length-set, map, not, Some, sym, subst, ◌∙◌, ap, arith, get_or}
use Rattle.std.proofs.Math.ListN.{set}
use Rattle.std.proofs.lemmas.Option.{same_Some}
use Rattle.lf_semantics.specs.ClassRows.{Sets, join}
use Rattle.lf_semantics.specs.Environments.{Leq}
use Rattle.lf_semantics.specs.Listing.{place}
use Rattle.lf_semantics.specs.RowTable.{row_named}
use Rattle.std.specs.Option.{option_map}
use Rattle.lf_flow.specs.Raising.{IsJoinOf, entries, joined}
use Rattle.lf_flow.proofs.Entries.{joined_row, named_row, recorded_within}
use Rattle.lf_flow.proofs.Joins.{kept_fits, kept_raised}
use Rattle.lf_flow.proofs.env.Env.raise.Goals as goal

pub index_mut-requires : goal.index_mut-requires
index_mut-requires c =
    let within = recorded_within c.self.inside.names c.self.inside.rows.items c.args.name.now c.self.invariant.count (λ none. c.requires.recorded (ap (λ env. row_named env c.args.name.now) (sym c.self.view_is) ∙ none)) in
    omega (arith, within, c.place-place.ensures.place, c.self.inside.rows.ok.0)

pub join-requires : goal.join-requires
join-requires c =
    let names = c.self.inside.names in
    let rows = c.self.inside.rows.items in
    let name = c.args.name.now in
    let row = c.index_mut.result.now in
    let within = recorded_within names rows name c.self.invariant.count (λ none. c.requires.recorded (ap (λ env. row_named env name) (sym c.self.view_is) ∙ none)) in
    c.requires.shape row
    (ap (λ env. row_named env name) (sym c.self.view_is)
    ∙ named_row names rows name row c.self.invariant.count within
    ∙ ap (λ k. Some (get_or rows k row)) (sym c.place-place.ensures.place)
    ∙ ap Some (sym c.index_mut.ensures.value))

pub join_kept-requires : goal.join_kept-requires
join_kept-requires c =
    let names = c.self.inside.names in
    let rows = c.self.inside.rows.items in
    let name = c.args.name.now in
    let within = recorded_within names rows name c.self.invariant.count (λ none. c.requires.recorded (ap (λ env. row_named env name) (sym c.self.view_is) ∙ none)) in
    kept_fits rows c.self.inside.all c.args.row.now [] (place names name) c.self.invariant.joined within
    (c.requires.shape (get_or rows (place names name) []) (ap (λ env. row_named env name) (sym c.self.view_is) ∙ named_row names rows name [] c.self.invariant.count within))

pub invariant_of-self : goal.invariant_of-self
invariant_of-self c =
    let names = c.self.inside.names in
    let rows = c.self.inside.rows.items in
    let name = c.args.name.now in
    let row = c.args.row.now in
    let own = c.index_mut.result.now in
    let k = c.place-place.result in
    let within = recorded_within names rows name c.self.invariant.count (λ none. c.requires.recorded (ap (λ env. row_named env name) (sym c.self.view_is) ∙ none)) in
    let b : k < length rows = omega (arith, within, c.place-place.ensures.place) in
    let same : map length (get_or rows k own) ≡ map length row =
    c.requires.shape (get_or rows k own)
    (ap (λ env. row_named env name) (sym c.self.view_is) ∙ named_row names rows name own c.self.invariant.count within ∙ ap (λ m. Some (get_or rows m own)) (sym c.place-place.ensures.place)) in
    let made = c.join.ensures.joined ∙ ap (λ x. join x row) c.index_mut.ensures.value in
    record {
      once = c.self.invariant.once;
      count = c.self.invariant.count ∙ sym (length-set rows k c.join.new.own);
      few = c.self.invariant.few;
      joined =
          subst (λ o. IfSome o (IsJoinOf (set rows k c.join.new.own))) (sym c.join_kept.ensures)
          (subst (λ x. IfSome (option_map (λ all. join all row) c.self.inside.all) (IsJoinOf (set rows k x))) (sym made) (kept_raised rows c.self.inside.all row own k c.self.invariant.joined b same c.is_empty-empty.ensures.settled));
    }

pub returns-clause-joined : goal.returns-clause-joined
returns-clause-joined c =
    let names = c.self.inside.names in
    let rows = c.self.inside.rows.items in
    let name = c.args.name.now in
    let own = c.index_mut.result.now in
    let row = c.args.row.now in
    let within = recorded_within names rows name c.self.invariant.count (λ none. c.requires.recorded (ap (λ env. row_named env name) (sym c.self.view_is) ∙ none)) in
    ap (λ x. entries names (set rows c.place-place.result x)) c.join.ensures.joined
    ∙ ap (λ x. entries names (set rows c.place-place.result (join x row))) c.index_mut.ensures.value
    ∙ ap (λ k. entries names (set rows k (join (get_or rows k own) row))) c.place-place.ensures.place
    ∙ joined_row names rows name row own c.self.invariant.once c.self.invariant.count within
    ∙ ap (joined name row) c.self.view_is

pub returns-clause-added : goal.returns-clause-added
returns-clause-added c = λ other e.
    let names = c.self.inside.names in
    let rows = c.self.inside.rows.items in
    let name = c.args.name.now in
    let own = c.index_mut.result.now in
    let within = recorded_within names rows name c.self.invariant.count (λ none. c.requires.recorded (ap (λ env. row_named env name) (sym c.self.view_is) ∙ none)) in
    let named = ap (λ env. row_named env name) (sym c.self.view_is)
    ∙ named_row names rows name own c.self.invariant.count within
    ∙ ap (λ k. Some (get_or rows k own)) (sym c.place-place.ensures.place)
    ∙ ap Some (sym c.index_mut.ensures.value) in
    let P : Sets → Type 0 = λ x. IsTrue (not c.join.result) ↔ Leq c.args.row.now x in
    subst P (same_Some own other (sym named ∙ e)) c.join.ensures.added
