use Rattle.std.proofs.Common.{◌≡◌, ◌-◌, ◌<◌, ℕ, List, length, ap, sym, ◌∙◌, subst, arith}
use Rattle.std.proofs.lemmas.List.{get_or_read}
use Rattle.lf_rounds.specs.Facts.{RoundFacts, task}
use Rattle.lf_rounds.specs.Rounds.{noted}
use Rattle.lf_rounds.specs.Tasks.{IsTask, stored_word, width}
use Rattle.lf_rounds.specs.declared.rule.Load.{Load}
use Rattle.lf_rounds.proofs.Raising.{shape_words, some_word}
use Rattle.lf_rounds.proofs.round.Round.raise_row.Goals as goal

pub write_words-requires : goal.write_words-requires
write_words-requires c = c.requires.room ∙ sym (shape_words c.args.self.now.universe c.args.row.now c.requires.row)

pub index-requires : goal.index-requires
index-requires c =
    let round = c.args.self.now in
    let same : c.self.inside.width ≡ width (task round) = c.self.invariant.width ∙ ap (λ (f : RoundFacts). width (task f)) c.self.view_is in
    omega (arith, same, c.write_words.ensures.len, c.write_words.new.into.ok.0, c.requires.room, c.loop-k-test.true)

pub raise-requires-clause-word : goal.raise-requires-clause-word
raise-requires-clause-word c =
    let round = c.args.self.now in
    let same : c.self.inside.width ≡ width (task round) = c.self.invariant.width ∙ ap (λ (f : RoundFacts). width (task f)) c.self.view_is in
    let k = c.loop-k.k in
    let r = c.loop-k.invariant.raising in
    let items = c.write_words.new.into.items in
    let h : k < length c.args.words.now.items = omega (arith, same, c.requires.room, c.loop-k-test.true) in
    get_or_read items k c.index.result.now (omega (arith, h, c.write_words.ensures.len)) c.index.ensures 0 ∙ c.write_words.ensures.words k h ∙ c.requires.stored.word k
    ∙ ap (λ (x : ℕ × List Load × ℕ). stored_word (task round) x.0 (noted round.start x.1) x.2) (λ i. (sym r.piece i, sym r.loads i, sym r.raised i))

pub index-requires-2 : goal.index-requires-2
index-requires-2 c =
    let round = c.args.self.now in
    let T : RoundFacts → Type 0 = λ f. IsTask (task f) in
    let is : IsTask (task round) = subst T c.self.view_is c.self.invariant.task in
    let same : c.self.inside.width ≡ width (task round) = c.self.invariant.width ∙ ap (λ (f : RoundFacts). width (task f)) c.self.view_is in
    omega (arith, same, c.write_words.ensures.len, c.write_words.new.into.ok.0, c.requires.room, some_word round.universe is.listing)

pub finish-requires-clause-word : goal.finish-requires-clause-word
finish-requires-clause-word c =
    let round = c.args.self.now in
    let T : RoundFacts → Type 0 = λ f. IsTask (task f) in
    let is : IsTask (task round) = subst T c.self.view_is c.self.invariant.task in
    let same : c.self.inside.width ≡ width (task round) = c.self.invariant.width ∙ ap (λ (f : RoundFacts). width (task f)) c.self.view_is in
    let r = c.loop-k.invariant.raising in
    let items = c.write_words.new.into.items in
    let last = c.self.inside.width - 1 in
    let h : last < length c.args.words.now.items = omega (arith, same, c.requires.room, some_word round.universe is.listing) in
    let end : last ≡ c.loop-k.k = omega (arith, c.loop-k-test.false, c.loop-k.auto.k-end) in
    get_or_read items last c.index-2.result.now (omega (arith, h, c.write_words.ensures.len)) c.index-2.ensures 0 ∙ c.write_words.ensures.words last h ∙ c.requires.stored.word last
    ∙ ap (λ (x : ℕ × List Load × ℕ). stored_word (task round) x.0 (noted round.start x.1) x.2) (λ i. (sym r.piece i, sym r.loads i, (end ∙ sym r.raised) i))
