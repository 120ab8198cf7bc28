-- Candidates with which a label can be followed, as the code looks for them.
use Rattle.std.specs.Prelude.{◌≡◌, ℕ, Bool, true, false, not, List, []}
use Rattle.std.specs.List.{find}
use Rattle.std.specs.Option.{option_map_or}
use Rattle.std.specs.Str.{bytes_eq}
use Rattle.lf_ast.specs.Labels.{Bytes}
use Rattle.lf_ast.specs.Rules.{RuleTree}
use Rattle.lf_semantics.specs.Listing.{Listing}
use Rattle.lf_trials.specs.Candidates.{candidates}
use Rattle.lf_trials.specs.Follow.{Followed, follow_from}
use Rattle.lf_trials.specs.Given.{Given}
use Rattle.lf_candidates.specs.views.ClassTexts.{name_at, text_at}
use Rattle.lf_uniform.specs.declared.texts.WantedPresence.{WantedPresence}
use Rattle.lf_uniform.specs.declared.texts.WantedPresence.TheVariants.{Anything, Present, Absent}

abbrev pub wanted_for : Bool → WantedPresence
wanted_for true = Present
wanted_for false = Absent

abbrev pub passes_as : WantedPresence → Bytes → Bool
passes_as Anything text = true
passes_as Present text = not (bytes_eq text [])
passes_as Absent text = bytes_eq text []

abbrev pub comes_out : WantedPresence → Followed → Bool
comes_out wanted followed = option_map_or (passes_as wanted) followed false

module _ (u : Listing) (rules : List RuleTree) (i : ℕ) (own : RuleTree) where
  abbrev pub is_followed : WantedPresence → Bytes → Bytes → Bool
  is_followed wanted name text = comes_out wanted (follow_from u rules name text i own)

  -- the first candidate of each label with which it can be followed
  abbrev pub first_texts : Given
  first_texts name = find (is_followed Anything name) (candidates u name)

  -- the label can be followed with no other text than that of a class
  abbrev pub IsOnly : ℕ → ℕ → Type 0
  IsOnly label class = (wanted : WantedPresence) (text : Bytes) → is_followed wanted (name_at u label) text ≡ true → text ≡ text_at u label class
