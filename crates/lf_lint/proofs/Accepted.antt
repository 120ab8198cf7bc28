-- What holds of the accepted rules of several files, since it holds of those of each.
use Rattle.std.proofs.Common.{◌≡◌, ℕ, inl, inr, List, ◌∷◌, map, Some, sym, arith, codes}
use Rattle.std.specs.Prelude.{slice_get}
use Rattle.std.specs.List.{Contains}
use Rattle.std.proofs.lemmas.Option.{slice_get_within}
use Rattle.lf_laws.proofs.Slices.{number_of, some_at}
use Rattle.lf_laws.proofs.Members.{behind, first_or_behind, in_flat_map, in_map, map_member, none_in, of_flat_map}
use Rattle.lf_ast.specs.Rules.{RuleTree}
use Rattle.lf_ast.specs.Selectors.{metric}
use Rattle.lf_semantics.specs.Listing.{universe_of}
use Rattle.lf_semantics.specs.Mentions.{Mention, rule_mentions, rules_mentions}
use Rattle.lf_semantics.specs.Worlds.{SetsNoName}
use Rattle.lf_semantics.proofs.ListingLaws.{in_first_seen, of_first_seen}
use Rattle.lf_checks.specs.Files.{File}
use Rattle.lf_accept.specs.Accepted.{IsAccepted}
use Rattle.lf_accept.proofs.AcceptedRules.{accepted_rule, sets_no_name}
use Rattle.lf_accept.proofs.Starless.{no_star}
use Rattle.lf_judge.specs.Founds.{AreContents, Content, Rules, Refused, accepted, rules_in}
use Rattle.lf_shown.proofs.Settled.{AreTyped}

-- the rule is one of those with which the file with this number is accepted
pub record IsOfFile (files : List File) (r : RuleTree) : Type 0 where
  pub number : ℕ
  pub file : File
  pub rules : List RuleTree
  pub is_file : slice_get files number ≡ Some file
  pub is_accepted : IsAccepted file.bytes number rules
  pub is_one : Contains rules r

module _ (files : List File) (contents : List Content) (are : AreContents files contents) where
  of_content : (r : RuleTree) (k : ℕ) (content : Content) → slice_get contents k ≡ Some content → Contains (rules_in content) r → IsOfFile files r
  of_content r k (Refused kind span) at c = absurd (none_in r c)
  of_content r k (Rules rules) at c =
      let (file, is_file) = some_at files k (omega (arith, slice_get_within contents k (Rules rules) at, are.count)) in
      record { number = k; file = file; rules = rules; is_file = is_file; is_accepted = are.each k file (Rules rules) is_file at; is_one = c }

  pub of_file : (r : RuleTree) → Contains (accepted contents) r → IsOfFile files r
  of_file r c =
      let (content, there, inside) = of_flat_map rules_in contents r c in
      let (k, _, at) = number_of contents content there in
      of_content r k content at inside

  pub set_no_name : (r : RuleTree) → Contains (accepted contents) r → SetsNoName r
  set_no_name r c = let of = of_file r c in sets_no_name of.file.bytes of.number of.rules of.is_accepted r of.is_one

  pub are_typed : AreTyped (accepted contents)
  are_typed r c = let of = of_file r c in let judged = accepted_rule of.file.bytes of.number of.rules of.is_accepted r of.is_one in (judged.judged.type, judged.judged.has_type)

  -- no label is called as the one that stands for all others is
  pub no_star_in : Contains (universe_of (accepted contents)).names (codes "*") → ⊥
  no_star_in c = elim (first_or_behind metric (map (λ (m : Mention). m.label) (rules_mentions (accepted contents))) (codes "*") (of_first_seen (metric ∷ map (λ (m : Mention). m.label) (rules_mentions (accepted contents))) (codes "*") c)) [
    | inl e ↦ cc
    | inr d ↦
        let (mention, among, is) = map_member (λ (m : Mention). m.label) (rules_mentions (accepted contents)) (codes "*") d in
        let (rule, there, inside) = of_flat_map rule_mentions (accepted contents) mention among in
        let of = of_file rule there in
        let seen = in_first_seen (metric ∷ map (λ (m : Mention). m.label) (rules_mentions of.rules)) mention.label
        (behind metric (map (λ (m : Mention). m.label) (rules_mentions of.rules)) mention.label (in_map (λ (m : Mention). m.label) (rules_mentions of.rules) mention (in_flat_map rule_mentions of.rules rule mention of.is_one inside))) in
        no_star of.file.bytes of.number of.rules of.is_accepted mention.label seen (sym is)
  ]
