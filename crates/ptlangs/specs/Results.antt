-- How the result of a parsing function relates to the definition that it implements: postconditions for its contract.
use Rattle.std.specs.Prelude.{Option, Some, None, Result, Ok, Err, ⊤, ◌≡◌}

-- the definition reports this fault; `None` is an allocation failure, of which nothing is claimed
abbrev pub IsFault : {A E : Type 0} → Option E → Result A E → Type 0
IsFault None meaning = ⊤
IsFault (Some e) meaning = meaning ≡ Err e

-- The function returns the value that the definition gives, or the first fault that the definition reports, or an
-- allocation failure. `view` maps a returned value to the value of the definition. `fault` maps a returned error to the
-- fault of the definition, and to `None` if the error is an allocation failure.
abbrev pub ParsePost : {X A F E : Type 0} → (X → A) → (F → Option E) → Result X F → Result A E → Type 0
ParsePost view fault (Ok x) meaning = meaning ≡ Ok (view x)
ParsePost view fault (Err e) meaning = IsFault (fault e) meaning
