-- Both rooms have what the run wrote, since no other sink begins with their ghost names, and the answer says how much
-- that is. A created file is appended only to an output that has not failed.
use Rattle.std.proofs.Common.{ap, refl, ◌∙◌}
use Rattle.ptopts.specs.Commands.{words_view}
use Rattle.ptrunc.proofs.RunLemmas.{answer_of_run, file_leaves_out, same_messages, same_out}
use Rattle.ptrunc.specs.Inputs.{files_view}
use Rattle.ptrunc.proofs.running.run_into.Goals as goal

pub append_file-out_failed-requires : goal.append_file-out_failed-requires
append_file-out_failed-requires g c = file_leaves_out c.run_over_files-report.ensures
    (c.new-3.ensures.is_new (ap (λ r. r.written) c.replace.ensures.value ∙ c.requires.out_is_empty))

pub returns-clause-same_out : goal.returns-clause-same_out
returns-clause-same_out g c =
    rw (c.replace-empty.ensures.after, c.into_room.ensures, ← c.replace.ensures.value, ← c.new-3.ensures.same_room)
    (c.append_file-out_failed.ensures.same_room
    ∙ same_out c.new-3.result c.run_over_files-report.result.report.out c.run_over_files-report.ensures refl)

pub returns-clause-same_messages : goal.returns-clause-same_messages
returns-clause-same_messages g c =
    rw (
      c.replace-empty-2.ensures.after,
      c.into_room-2.ensures,
      ← c.replace-2.ensures.value,
      ← c.new-5.ensures.same_room,
    )
    (same_messages c.new-5.result c.run_over_files-report.result.report.messages c.run_over_files-report.ensures refl)

pub returns-clause-run : goal.returns-clause-run
returns-clause-run g c =
    let ran = c.run_over_files-report in
    let r = ran.result.report in
    rw (
      c.replace-empty.ensures.after,
      c.into_room.ensures,
      c.replace-empty-2.ensures.after,
      c.into_room-2.ensures,
    )
    (answer_of_run (words_view c.args.words.now) c.args.input.now (files_view c.args.files.now) c.new.ensures.short
    c.new-3.result c.new-5.result r.out r.messages c.append_file-out_failed.new.out
    (c.new-3.ensures.is_new (ap (λ r. r.written) c.replace.ensures.value ∙ c.requires.out_is_empty))
    (c.new-5.ensures.is_new (ap (λ r. r.written) c.replace-2.ensures.value ∙ c.requires.messages_are_empty))
    ran.result.file ran.new.files.creates.results ran.new.files.all_new
    c.new-memory.ensures c.new.ensures.all c.empty-store.ensures refl refl refl ran.ensures
    c.append_file-out_failed.ensures c.exit_of-exit.result c.exit_of-exit.ensures
    c.new-answer.result c.part.result c.part-2.result c.part.ensures c.part-2.ensures c.new-answer.ensures.parts.0
    c.new-answer.ensures.parts.1 c.new-answer.ensures.status)
