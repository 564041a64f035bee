-- `Sorted::resume`, with and without lines passed: the bytes that it consumes end with the line reached, and the
-- reader still belongs to the cursor, which counts the lines passed.
use Rattle.ptmerge.proofs
use proofs.Common.{arith, length, ◌-◌}
use proofs.BlockLemmas.{own_on}
use proofs.merging.cursor.Sorted.resume.Goals.{then-at-gt0+in-Ok, else-at-gt0}
use proofs.merging.cursor.Sorted.resume.Goals as goal

pub returns-clause-resumes : goal.returns-clause-resumes
returns-clause-resumes g c =
    let fits = c.requires.fits in
    let on = own_on c.args.reader.now c.args.self.now.number c.args.at.passed
    (length c.args.reader.now.buffered - c.args.at.left) c.buffered.ensures.sound fits.own_reader.clean
    fits.own_reader.counted
    (omega arith) (omega arith) in
    elim c.if-at-gt0.branch [
      | then-at-gt0+in-Ok w ↦ record {
        reader = grind arith;
        sound = c.consume.ensures.is_sound;
        unmoved = λ none. absurd (omega arith);
        moved = λ some. grind arith;
        own_reader = grind arith;
      }
      | else-at-gt0 w ↦ record {
        reader = grind arith;
        sound = c.consume.ensures.is_sound;
        unmoved = λ none. grind arith;
        moved = λ some. absurd (omega arith);
        own_reader = grind arith;
      }
    ]
