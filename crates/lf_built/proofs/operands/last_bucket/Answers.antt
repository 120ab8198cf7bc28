use Rattle.std.proofs.Common.{◌≡◌, ◌<◌, ℕ, codes, sym, ap, subst, ◌∙◌}
use Rattle.lf_semantics.specs.Listing.{class_of, label_of, other_class}
use Rattle.lf_trials.specs.Given.{giving}
use Rattle.lf_trials.specs.Operands.{losing_name}
use Rattle.lf_candidates.specs.views.ClassTexts.{Stands, name_at, text_at}
use Rattle.lf_candidates.proofs.Standing.{known_name, known_text}
use Rattle.lf_built.proofs.operands.last_bucket.Goals as goal

pub returns : goal.returns
returns c = λ D stands.
    let u = c.args.universe.now in
    let within = c.requires.universe in
    let known = c.requires.buckets in
    let label : ℕ = c.label_of-label.result in
    let class : ℕ = c.class_of.result in
    let at : label ≡ label_of u (codes "le") = c.label_of-label.ensures.number in
    let name : name_at u label ≡ codes "le" = ap (name_at u) at ∙ known_name u (codes "le") known.0 in
    let less : class_of u label (codes "+Inf") < other_class u label = subst (λ l. class_of u l (codes "+Inf") < other_class u l) (sym at) known.1.0 in
    let text : text_at u label class ≡ codes "+Inf" = ap (text_at u label) c.class_of.ensures.number ∙ known_text u within label c.label_of-label.ensures.within (codes "+Inf") less in
    let lost : Stands u c.without_name-texts.result (losing_name D) = c.without_name-texts.ensures.texts u D within c.requires.names stands in
    let made : Stands u c.give.new.self (giving (name_at u label) (text_at u label class) (losing_name D)) = c.give.ensures u (losing_name D) within c.class_of.ensures.within lost in
    subst (λ t. Stands u c.give.new.self (giving (codes "le") t (losing_name D))) text (subst (λ n. Stands u c.give.new.self (giving n (text_at u label class) (losing_name D))) name made)
