-- Each piece extends the line so far. At the end of input that is the last line, or there is none if it is empty.
use Rattle.ptlines.proofs
use proofs.Common.{arith, refl, usual, drop_all}
use proofs.LineSearch.{advance_ok_take, line_before_terminator, line_if_not_found}
use proofs.ReadLine.{PieceLine, PiecePartial, line_so_far_partial, fill_line, fill_eof}
use proofs.reader.LineReader.fill_slow.Goals as goal

pub pieces-init : goal.pieces-init
pieces-init g c = grind usual

pub pieces-preserved : goal.pieces-preserved
pieces-preserved g c =
    let piece : PiecePartial c.pieces.self c.move_to_slot-in-None.new.self c.pieces.store
    c.move_to_slot-in-None.new.store c.args.slot =
    grind (usual, line_if_not_found, drop_all) in record {
      so_far = line_so_far_partial _ _ _ _ _ _ _ c.requires.in_store c.pieces.invariant.so_far piece;
      fill_pre = record {
        clean = grind arith;
        sound = c.in_ok-move_to_slot-in-None.ensures.sound;
        in_store = grind arith;
      };
    }

pub returns-in-Some-clause-fills : goal.returns-in-Some-clause-fills
returns-in-Some-clause-fills g c =
    let piece : PieceLine c.pieces.self c.consume.new.self c.pieces.store c.move_to_slot.new.store c.args.slot =
    grind (usual, advance_ok_take, line_before_terminator) in
    fill_line _ _ _ _ _ _ _ c.requires.in_store (grind arith) c.pieces.invariant.so_far piece

pub returns-then-not-branch-clause-fills : goal.returns-then-not-branch-clause-fills
returns-then-not-branch-clause-fills g c =
    let (advance_ok, done) = rw c.if-not-branch.true at c.in_ok-has_more.ensures.refills in
    rw (c.is_empty.ensures, c.line.ensures) (fill_eof _ _ _ _ _ _ _ c.requires.in_store (grind arith)
    c.pieces.invariant.so_far advance_ok done refl)
