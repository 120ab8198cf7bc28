-- How the code finds the end of a text.
use Rattle.std.specs.Prelude.{◌≡◌, ◌≢◌, ◌⊎◌, ℕ, [], ◌∷◌, ◌++◌, drop, take}
use Rattle.lf_base.specs.Names.{Bytes}
use Rattle.lf_gen.specs.Lines.{lines_of}

-- the text is this one and a line feed; or it is this one, and ends with none
abbrev pub IsWithoutFeed : Bytes → Bytes → Type 0
IsWithoutFeed text body = (text ≡ body ++ 10 ∷ []) ⊎ ((text ≡ body) × ((front : Bytes) → text ≢ front ++ 10 ∷ []))

-- the last line of a text begins there: before it are the other lines, whole. A text without lines has none to begin
pub record BeginsLastLine (text : Bytes) (at : ℕ) : Type 0 where
  pub none : text ≡ [] → at ≡ 0
  pub some : text ≢ [] → lines_of text ≡ lines_of (take at text) ++ drop at text ∷ []
