-- The postcondition of a parsing function that checks the whole text before it allocates.
use Rattle.std.specs.Prelude.{Option, Result, Ok, Err, ◌≡◌}
use Rattle.std.specs.Result.{result_err}

-- like `ParsePost`, for a function that checks the whole text before it allocates: an allocation failure is returned
-- only for a text without a fault
abbrev pub ValidatedParsePost : {X A F E : Type 0} → (X → A) → (F → Option E) → Result X F → Result A E → Type 0
ValidatedParsePost view fault (Ok x) meaning = meaning ≡ Ok (view x)
ValidatedParsePost view fault (Err e) meaning = result_err meaning ≡ fault e
