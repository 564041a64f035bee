-- The options so far have no fault, and name these files.
use Rattle.ptopts.proofs
use proofs.Common.{codes, drop, each_value_fault, is_file_number, names_file, options_view, ◌||◌, ◌≡◌}
use proofs.command.join.selected_files.Given as goal

abbrev pub invariant-loop-option : goal.invariant-loop-option
invariant-loop-option l = record {
  faults : each_value_fault (options_view l.options) (l.letter, is_file_number)
      ≡ each_value_fault (options_view (drop l.option-index l.options)) (l.letter, is_file_number);
  named1 : names_file (codes "1") l.letter (options_view l.options)
      ≡ (l.first || names_file (codes "1") l.letter (options_view (drop l.option-index l.options)));
  named2 : names_file (codes "2") l.letter (options_view l.options)
      ≡ (l.second || names_file (codes "2") l.letter (options_view (drop l.option-index l.options)));
}
