-- `fill_short`: the terminator that was found among 64 bytes lies within the buffered bytes, so it is the first one
-- of them, and the line before it is in the slot. The reader stays sound.
use Rattle.ptlines.proofs
use proofs.Common.{◌≡◌, ◌+◌, ◌-◌, Some, subst, ◌<◌, ◌≤◌, ◌^◌, length, take, drop, ap, arith, take-take, IsFirst, Passes}
use proofs.Common.{is_byte, usual}
use proofs.ReadLine.{fill_short_line}
use proofs.reader.LineReader.fill_short.Goals as goal
use Rattle.ptlines.specs.declared.sizes.TheConstants.{PADDED}

pub returns-clause-line : goal.returns-clause-line
returns-clause-line g c given =
    let r = c.self.inside in
    let fits : r.end ≤ length r.block = omega arith in
    let high : r.start + c.in-Some.size < r.end = omega arith in
    let short : c.args.self.now.pulled < 2 ^ 63 = grind arith in
    let front = take (PADDED - r.start) (drop r.start r.block) in
    let is_front : take (r.end - r.start) front ≡ c.args.self.now.buffered = grind (arith, take-take) in
    let first = subst (λ b. IsFirst (Passes (is_byte b) front) 0 64 (Some c.in-Some.size))
    (grind arith) c.in-Some.ensures in
    fill_short_line 64 c.args.self.now _ r.block front r.start r.end _ _ _ _ c.requires.clean short high fits
    (ap (λ r. r.buffered) c.self.view_is) is_front first (grind arith)
    c.set_short_line.ensures

pub returns-clause-sound : goal.returns-clause-sound
returns-clause-sound g c = grind usual

pub invariant_of-self : goal.invariant_of-self
invariant_of-self g c = grind usual
