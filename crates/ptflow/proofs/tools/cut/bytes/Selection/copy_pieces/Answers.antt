-- The bytes after the pieces are copied by `copy_selected`.
use Rattle.ptflow.proofs
use proofs.Common.{◌*◌, ◌-◌, arith}
use proofs.CutLemmas.CutBytes.{rest_copied}
use proofs.tools.cut.bytes.Selection.copy_pieces.Goals as goal

pub returns-clause-copied : goal.returns-clause-copied
returns-clause-copied c =
    rest_copied _ c.args.line.now _ (16 * c.loop-index.index) (c.args.count - c.loop-index.rest) c.loop-index.rest
    c.args.count (omega arith) (omega arith) (omega arith) c.loop-index.invariant.copied c.copy_selected.ensures.copied
