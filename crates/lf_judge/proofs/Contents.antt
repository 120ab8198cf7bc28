-- What stands in files: each file has one content, and the rules that are accepted stand in the files and have sources.
use Rattle.std.proofs.Common.{◌≡◌, ◌⊎◌, inl, inr, ℕ, ◌+◌, zero, suc, List, [], ◌∷◌, length, Some, refl, sym, ap, ap₂, subst, ◌∙◌, arith}
use Rattle.std.specs.Prelude.{slice_get}
use Rattle.std.specs.List.{Contains}
use Rattle.std.proofs.lemmas.Option.{slice_get-get_or, slice_get_within, same_Some}
use Rattle.lf_laws.proofs.Slices.{some_at}
use Rattle.lf_base.specs.declared.fault.Fault.{Fault}
use Rattle.lf_base.specs.Faults.{fault}
use Rattle.lf_laws.proofs.Members.{none_in, of_flat_map}
use Rattle.lf_ast.specs.Rules.{RuleTree}
use Rattle.lf_accept.specs.Accepted.{IsAccepted, RefusesFile}
use Rattle.lf_accept.proofs.OneFile.{one_file}
use Rattle.lf_checks.specs.AlertTemplate.{HaveSources}
use Rattle.lf_checks.specs.Files.{File, StandIn}
use Rattle.lf_judge.specs.Founds.{AreContents, Content, HasContent, Refused, Rules, accepted, rules_in}
use Rattle.lf_judge.proofs.Sourced.{IsSourced, sourced}

-- ---- one

one_content : (k : ℕ) (file : File) (a b : Content) → HasContent k file a → HasContent k file b → a ≡ b
one_content k file (Rules rs) (Rules ss) h g = ap Rules ((one_file file.bytes k).value rs ss h g)
one_content k file (Rules rs) (Refused kind span) h g = absurd ((one_file file.bytes k).one rs (fault kind span) h g)
one_content k file (Refused kind span) (Rules rs) h g = absurd ((one_file file.bytes k).one rs (fault kind span) g h)
one_content k file (Refused kind span) (Refused other place) h g = ap (λ (f : Fault). Refused f.kind f.span) ((one_file file.bytes k).breach (fault kind span) (fault other place) h g)

-- two lists with the same at each place are one
pub same_list : {X : Type 0} (xs ys : List X) → length xs ≡ length ys → ((i : ℕ) (x y : X) → slice_get xs i ≡ Some x → slice_get ys i ≡ Some y → x ≡ y) → xs ≡ ys
same_list [] [] n same = refl
same_list [] (y ∷ ys) n same = absurd (omega (arith, n))
same_list (x ∷ xs) [] n same = absurd (omega (arith, n))
same_list {X} (x ∷ xs) (y ∷ ys) n same = ap₂ (λ (z : X) (zs : List X). z ∷ zs) (same 0 x y refl refl) (same_list xs ys (omega (arith, n)) (λ i. same (suc i)))

pub one_contents : (files : List File) (a b : List Content) → AreContents files a → AreContents files b → a ≡ b
one_contents files a b h g =
    same_list a b (h.count ∙ sym g.count)
    (λ i x y at there.
    let file = some_at files i (omega (arith, slice_get_within a i x at, h.count)) in
    one_content i file.0 x y (h.each i file.0 x file.1 at) (g.each i file.0 y file.1 there))

-- ---- some

some_content : (k : ℕ) (file : File) → (content : Content) × HasContent k file content
some_content k file = by (one_file file.bytes k).some
  where
    by : ((rules : List RuleTree) × IsAccepted file.bytes k rules) ⊎ ((f : Fault) × RefusesFile file.bytes f) → (content : Content) × HasContent k file content
    by (inl h) = (Rules h.0, h.1)
    by (inr h) = (Refused h.0.kind h.0.span, h.1)

-- contents of files that are numbered from k on
some_from : (k : ℕ) (files : List File) → (contents : List Content) × (length contents ≡ length files)
    × ((i j : ℕ) (file : File) (content : Content) → j ≡ k + i → slice_get files i ≡ Some file → slice_get contents i ≡ Some content → HasContent j file content)
some_from k [] = ([], refl, λ i j file content e there found. cc)
some_from k (f ∷ files) =
    let c = some_content k f in
    let later = some_from (suc k) files in (
      c.0 ∷ later.0,
      ap (λ n. suc n) later.1,
      λ i. by c.0 c.1 later.0 later.2 i,
    )
  where
    by : (c : Content) → HasContent k f c → (contents : List Content)
        → ((i j : ℕ) (file : File) (content : Content) → j ≡ suc k + i → slice_get files i ≡ Some file → slice_get contents i ≡ Some content → HasContent j file content)
        → (i j : ℕ) (file : File) (content : Content) → j ≡ k + i → slice_get (f ∷ files) i ≡ Some file → slice_get (c ∷ contents) i ≡ Some content → HasContent j file content
    by c is contents later zero j file content e there found =
        let place : k ≡ j = omega (arith, e) in
        subst (λ n. HasContent n file content) place (subst (λ d. HasContent k file d) (same_Some c content found) (subst (λ g. HasContent k g c) (same_Some f file there) is))
    by c is contents later (suc i) j file content e there found = later i j file content (omega (arith, e)) there found

pub some_contents : (files : List File) → (contents : List Content) × AreContents files contents
some_contents files =
    let some = some_from 0 files in
    (some.0, record { count = some.1; each = λ k file content there found. some.2 k k file content (omega arith) there found })

-- ---- the rules that are accepted

module _ (files : List File) (contents : List Content) (are : AreContents files contents) where
  abbrev Stands : RuleTree → Type 0
  Stands r = (k : ℕ) × (file : File) × (slice_get files k ≡ Some file) × IsSourced k r

  of_content : (k : ℕ) (file : File) (content : Content) → slice_get files k ≡ Some file → HasContent k file content → (r : RuleTree) → Contains (rules_in content) r → Stands r
  of_content k file (Rules rules) at holds r c = (k, file, at, sourced file.bytes k rules holds r c)
  of_content k file (Refused kind span) at holds r c = absurd (none_in r c)

  stands : (r : RuleTree) → Contains (accepted contents) r → Stands r
  stands r c =
      let found = of_flat_map rules_in contents r c in
      let content = found.0 in
      let place = found.1 in
      let at : slice_get contents place.0 ≡ Some content = slice_get-get_or contents place.0 content place.1 ∙ ap Some place.2 in
      let file = some_at files place.0 (omega (arith, place.1, are.count)) in
      of_content place.0 file.0 content file.1 (are.each place.0 file.0 content file.1 at) r found.2

  pub stand_in : StandIn files (accepted contents)
  stand_in r c = let found = stands r c in (found.1, ap (λ (k : ℕ). slice_get files k) found.3.0 ∙ found.2)

  pub have_sources : HaveSources (accepted contents)
  have_sources r c = (stands r c).3.1
