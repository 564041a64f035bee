-- Values that belong to the two inputs of a merge, the opposite side, and keys that are whole lines.
use Rattle.ptmerge.specs.Orders.{Key}
use Rattle.ptmerge.specs.declared.key_order.Side.{Side}
use Rattle.ptmerge.specs.declared.key_order.Side.TheVariants.{First, Second}

-- `x` for the first input, `y` for the second.
abbrev pub both : {X : Type 0} → X → X → Side → X
both x y First = x
both x y Second = y

-- A function of the side, with the value for one side replaced.
abbrev pub with_side : {X : Type 0} → Side → X → (Side → X) → Side → X
with_side First x f = both x (f Second)
with_side Second x f = both (f First) x

-- The opposite side.
abbrev pub other : Side → Side
other First = Second
other Second = First

-- Each line is its own key.
abbrev pub whole_line : Side → Key
whole_line side line = line
