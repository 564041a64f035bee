-- The slices are pushed in order; after the first push that fails nothing more is written.
use Rattle.ptlines.proofs
use proofs.Common.{rules, arith}
use proofs.Push.{push_post_trans, push_trans, push_past_failure}
use proofs.out.Out.push_line_slow.Goals as goal

pub returns-in_err-push : goal.returns-in_err-push
returns-in_err-push g c = grind (arith, push_past_failure)

pub returns-in_err-push-2 : goal.returns-in_err-push-2
returns-in_err-push-2 g c =
    let two =
    push_trans _ _ _ _ _ c.in_ok-push.ensures.pushed.clean c.push.ensures.pushed.wrote c.push-2.ensures.pushed.wrote in
    record {
      wrote = grind (arith, push_past_failure);
      clean = search rules;
      fault = search rules;
    }

pub returns : goal.returns
returns g c =
    let two =
    push_trans _ _ _ _ _ c.in_ok-push.ensures.pushed.clean c.push.ensures.pushed.wrote c.push-2.ensures.pushed.wrote in
    push_post_trans _ _ _ _ _ _ c.in_ok-push-2.ensures.pushed.clean two c.push-3.ensures.pushed
