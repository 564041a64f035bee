-- A result with a function applied to its value.
use Rattle.std.specs.Prelude.{Result}
use Rattle.std.specs.Result.{result_map_both}

-- the function applied to a value; a fault is kept
abbrev pub ok_map : {A B E : Type 0} → (A → B) → Result A E → Result B E
ok_map {A} {B} {E} f r = result_map_both f (λ (e : E). e) r
