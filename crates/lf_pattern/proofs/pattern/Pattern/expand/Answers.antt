use Rattle.std.proofs.Common.{◌≡◌, ◌∙◌, ℕ, List, IfOk, subst, map}
use Rattle.lf_pattern.specs.views.Groups.{IsFew}
use Rattle.lf_pattern.specs.Matching.{matches}
use Rattle.lf_pattern.specs.reading.Expansion.{expanded, expansion, group_text}
use Rattle.lf_pattern.specs.Read.{finds, found_group}
use Rattle.lf_pattern.specs.reading.Replacement.{bounded}
use Rattle.lf_pattern.proofs.FormLaws.{form_at, plain_matches, plain_groups, other_matches, other_groups}
use Rattle.lf_pattern.proofs.ExpandLaws.{answer_few, answer_plain}
use Rattle.lf_pattern.proofs.GroupLaws.{meaning_of, none_of, only_of}
use Rattle.lf_pattern.proofs.pattern.Pattern.expand.Goals as goal

pub returns-in-Plain-clause-value : goal.returns-in-Plain-clause-value
returns-in-Plain-clause-value c = λ ps reads.
    let value = c.args.value.now in
    let text = c.self.inside.text in
    let form = c.self.inside.form in
    let P : List ℕ → Type 0 = λ t. IfOk c.expand_plain.result (λ r. r ≡ expansion t value ps) in
    let pieces : c.as_slice.result.now ≡ map bounded ps = c.as_slice.ensures ∙ c.in_ok-pieces.ensures ps reads in
    subst P c.self.view_is
    (answer_plain c.expand_plain.result _ (matches text value) c.in-Plain.pair value (group_text text value) c.as_slice.result.now ps pieces
    (plain_matches text value form _ _ c.self.invariant c.in-Plain.is)
    (plain_groups text value form _ _ c.self.invariant c.in-Plain.is)
    c.expand_plain.ensures)

pub returns-clause-value : goal.returns-clause-value
returns-clause-value c = λ ps reads.
    let value = c.args.value.now in
    let text = c.self.inside.text in
    let form = c.self.inside.form in
    let other = form_at text form _ c.self.invariant c.in-Other.is in
    let P : List ℕ → Type 0 = λ t. IfOk c.expand.result (λ r. r ≡ expansion t value ps) in
    let pieces : c.as_slice-in-Other.result.now ≡ map bounded ps = c.as_slice-in-Other.ensures ∙ c.in_ok-pieces.ensures ps reads in
    let V : List ℕ → Type 0 = λ v. IfOk c.expand.result (λ r. r ≡ expanded (finds text v) (found_group text v) c.as_slice-in-Other.result.now) in
    let F : List ℕ → Type 0 = λ v. IfOk c.expand.result (λ r. IsFew r (found_group text v)) in
    subst P c.self.view_is
    (answer_few c.expand.result (finds text value) (matches text value) (found_group text value) (group_text text value) c.as_slice-in-Other.result.now ps pieces
    (other_matches text value form _ c.self.invariant c.in-Other.is)
    (other_groups text value form _ c.self.invariant c.in-Other.is)
    (subst V c.as_str.ensures (c.expand.ensures.value text other.1 other.2 other.3))
    (subst F c.as_str.ensures (c.expand.ensures.few text other.1 other.2 other.3)))

pub returns-in-Plain-clause-meaning : goal.returns-in-Plain-clause-meaning
returns-in-Plain-clause-meaning c = λ ps reads. meaning_of c.expand_plain.result c.args.self.now c.args.value.now ps (returns-in-Plain-clause-value c ps reads)

pub returns-in-Plain-clause-only : goal.returns-in-Plain-clause-only
returns-in-Plain-clause-only c = λ ps answer reads is. only_of c.expand_plain.result c.args.self.now c.args.value.now ps answer (returns-in-Plain-clause-value c ps reads) is

pub returns-clause-meaning : goal.returns-clause-meaning
returns-clause-meaning c = λ ps reads. meaning_of c.expand.result c.args.self.now c.args.value.now ps (returns-clause-value c ps reads)

pub returns-clause-only : goal.returns-clause-only
returns-clause-only c = λ ps answer reads is. only_of c.expand.result c.args.self.now c.args.value.now ps answer (returns-clause-value c ps reads) is

pub returns-in-Plain-clause-none : goal.returns-in-Plain-clause-none
returns-in-Plain-clause-none c =
    let (ps, reads) = c.requires.plain in
    none_of c.expand_plain.result c.args.self.now c.args.value.now ps (returns-in-Plain-clause-meaning c ps reads)

pub returns-clause-none : goal.returns-clause-none
returns-clause-none c =
    let (ps, reads) = c.requires.plain in
    none_of c.expand.result c.args.self.now c.args.value.now ps (returns-clause-meaning c ps reads)
