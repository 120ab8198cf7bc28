-- A way of testing whether a replacement is plain, from left to right. It defines nothing: `is_plain_replacement` ensures that it passes exactly the plain ones.
use Rattle.std.specs.Prelude.{ℕ, Bool, true, false, ◌==◌, List, [], ◌∷◌, if◌then◌else◌}
use Rattle.lf_pattern.specs.Replacement as of
use Rattle.lf_pattern.specs.ShapeScan.{is_digit}
use Rattle.lf_pattern.specs.declared.plainness.Check.{Check}
use Rattle.lf_pattern.specs.declared.plainness.Check.TheVariants.{Text, Dollar, Zero, Number, Brace, BracedZero, Braced, Wrong}

abbrev pub is_word : ℕ → Bool
is_word c = of.is_word c

-- what is read behind a character
unfoldable pub checked : Check → ℕ → Check
checked Text c = if c == 36 then Dollar else Text
checked Dollar c =
    if c == 36 then Text
    else if c == 123 then Brace
    else if is_digit c then (if c == 48 then Zero else Number)
    else Wrong
checked Zero c = if is_word c then Wrong else (if c == 36 then Dollar else Text)
checked Number c = if is_digit c then Number else (if is_word c then Wrong else (if c == 36 then Dollar else Text))
checked Brace c = if is_digit c then (if c == 48 then BracedZero else Braced) else Wrong
checked BracedZero c = if c == 125 then Text else Wrong
checked Braced c = if is_digit c then Braced else (if c == 125 then Text else Wrong)
checked Wrong c = Wrong

abbrev pub may_end : Check → Bool
may_end Text = true
may_end Zero = true
may_end Number = true
may_end _ = false

-- the rest of a plain replacement may be this
abbrev pub passes : Check → List ℕ → Bool
passes check [] = may_end check
passes check (c ∷ cs) = passes (checked check c) cs
