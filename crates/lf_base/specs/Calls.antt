-- Calls that are counted, and fail where a list of numbers says so.
use Rattle.std.specs.Prelude.{ℕ, ◌+◌, ◌-◌, ◌^◌, List, [], min, Contains, refl}
use Rattle.std.specs.Coded.{Coded, code_by, coded×, coded_ℕ, coded_list}

-- how many calls there were, how many of them failed, and the numbers of those that are to fail
pub record Calls : Type 0 where
  pub failing : List ℕ
  pub made : ℕ
  pub faults : ℕ

-- counted calls are stored as the tuple of their fields
abbrev pub calls_code : Coded Calls
calls_code =
    code_by (List ℕ × (ℕ × ℕ)) (coded× (coded_list coded_ℕ) (coded× coded_ℕ coded_ℕ)) (λ c. (c.failing, (c.made, c.faults))) (λ p. record { failing = p.0; made = p.1.0; faults = p.1.1 }) (λ _. refl)

-- no call yet, and none is to fail
abbrev pub no_calls : Calls
no_calls = record { failing = []; made = 0; faults = 0 }

-- the number of the next call: calls count from 1, and the count stays where it can't grow, past every number that can be listed
abbrev pub next_number : Calls → ℕ
next_number calls = min (calls.made + 1) (2 ^ 64 - 1)

-- the next call is listed as one that fails
abbrev pub IsListed : Calls → Type 0
IsListed calls = Contains calls.failing (next_number calls)

-- one more call that is answered
abbrev pub answered : Calls → Calls
answered calls = record calls { made = next_number calls }

-- one more call that fails
abbrev pub failed : Calls → Calls
failed calls = record calls { made = next_number calls; faults = calls.faults + 1 }
