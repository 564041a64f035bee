-- The first item has no separator before it, so it is added before the loop. If an item cannot be added, a prefix was
-- written.
use Rattle.ptmerge.proofs
use proofs.Common.{ap, join_job, option_copied, output_separator, refl, sym, usual, with_prefix, ◌∙◌}
use proofs.JoinLemmas.Fields.{partial_starts, partial_ends, piece_added, piece_fails, push_is_write, between_is}
use proofs.JoinLemmas.Fields.{entry_listed, first_piece_fails, first_then_rest}
use proofs.tools.join.output.write_listed_fields.Goals as goal

pub returns-in_err-add : goal.returns-in_err-add
returns-in_err-add g c =
    let e = c.args.entry.now in
    let whole = entry_listed (join_job e.job.now) e.key.now (option_copied e.one) (option_copied e.two)
    c.args.items.now _ c.in-len1-up.len_at_least c.item_or_filler.ensures in
    first_piece_fails _ _ _ _ c.new-row.ensures whole c.add.ensures.split c.add.ensures.wrote.wrote
    c.in_err-add.ensures.wrote.fault _ c.from_residual.ensures.1

pub items-init : goal.items-init
items-init g c =
    let e = c.args.entry.now in
    let whole = entry_listed (join_job e.job.now) e.key.now (option_copied e.one) (option_copied e.two)
    c.args.items.now _ c.in-len1-up.len_at_least c.item_or_filler.ensures in
    piece_added c.new-row.result _ _ _ (partial_starts (rw c.new-row.ensures whole)) refl c.add.ensures.split
    c.add.ensures.wrote.wrote (λ fine. c.in_ok-add.ensures.wrote.clean fine)

pub returns-in_err-add-2 : goal.returns-in_err-add-2
returns-in_err-add-2 g c =
    let e = c.args.entry.now in
    let add = c.add-in-len1-up-rest.ensures in
    let more = first_then_rest _ _ _ c.in-len1-up-rest.len_at_least
    c.item_or_filler-in-len1-up-rest.ensures in
    piece_fails _ _ _ _ c.items.invariant (ap (with_prefix (output_separator (join_job e.job.now).separator)) more)
    (rw (c.unwrap_or-separator.ensures ∙ sym (between_is (join_job e.job.now).separator)) at add.split)
    add.wrote.wrote c.in_err-add-2.ensures.wrote.fault _ c.from_residual-in_err-add-2.ensures.1

pub items-preserved : goal.items-preserved
items-preserved g c =
    let e = c.args.entry.now in
    let add = c.add-in-len1-up-rest.ensures in
    let more = first_then_rest _ _ _ c.in-len1-up-rest.len_at_least
    c.item_or_filler-in-len1-up-rest.ensures in
    piece_added _ _ _ _ c.items.invariant (ap (with_prefix (output_separator (join_job e.job.now).separator)) more)
    (rw (c.unwrap_or-separator.ensures ∙ sym (between_is (join_job e.job.now).separator)) at add.split)
    add.wrote.wrote (λ fine. c.in_ok-add-2.ensures.wrote.clean fine)

pub returns : goal.returns
returns g c = partial_ends (grind usual) c.items.invariant (push_is_write c.push.ensures)
