-- Durations.
use Rattle.std.specs.Prelude.{◌≡◌, ℕ, ◌<◌, List, [], ◌∷◌, ◌++◌, map, length}
use Rattle.std.specs.List.{flat_map, AllByRecursion}
use Rattle.lf_lex.specs.Bytes.{AreSome}
use Rattle.lf_base.specs.Names.{is_digit}

-- the units
pub data Measure : Type 0 where
  Years : Measure
  Weeks : Measure
  Days : Measure
  Hours : Measure
  Minutes : Measure
  Seconds : Measure
  Milliseconds : Measure

-- as they are written: y w d h m s ms
abbrev pub letters : Measure → List ℕ
letters Years = 121 ∷ []
letters Weeks = 119 ∷ []
letters Days = 100 ∷ []
letters Hours = 104 ∷ []
letters Minutes = 109 ∷ []
letters Seconds = 115 ∷ []
letters Milliseconds = 109 ∷ 115 ∷ []

-- their places in the order
abbrev pub place : Measure → ℕ
place Years = 0
place Weeks = 1
place Days = 2
place Hours = 3
place Minutes = 4
place Seconds = 5
place Milliseconds = 6

-- an amount of one unit, as 5m
pub record Amount : Type 0 where
  pub digits : List ℕ
  pub measure : Measure

abbrev pub amount_text : Amount → List ℕ
amount_text a = a.digits ++ letters a.measure

-- The run is one or more amounts, each of one or more digits and a unit.
pub record AreAmounts (run : List ℕ) (amounts : List Amount) : Type 0 where
  pub some : 0 < length amounts
  pub each : AllByRecursion (λ a. AreSome is_digit a.digits) amounts
  pub source : run ≡ flat_map amount_text amounts

-- each place is above the one before it
abbrev pub Climb : List ℕ → Type 0
Climb [] = Unit {0}
Climb (p ∷ []) = Unit {0}
Climb (p ∷ q ∷ places) = (p < q) × Climb (q ∷ places)

-- The units stand in their order, each at most once.
abbrev pub AreInOrder : List Amount → Type 0
AreInOrder amounts = Climb (map (λ a. place a.measure) amounts)

abbrev pub IsDuration : List ℕ → Type 0
IsDuration run = (amounts : List Amount) × AreAmounts run amounts × AreInOrder amounts

-- amounts whose units stand in another order, or repeat
abbrev pub IsDisordered : List ℕ → Type 0
IsDisordered run = (amounts : List Amount) × AreAmounts run amounts × (AreInOrder amounts → ⊥)
