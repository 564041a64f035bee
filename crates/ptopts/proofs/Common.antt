-- The names that many proofs of this crate use, imported from other files so that a proof imports them from here.
use Rattle.ptopts.specs
use Rattle.std.proofs.lemmas
pub use Rattle.ptlangs.proofs.Common.{usual}
pub use Rattle.ptlangs.proofs.TrArrays.{on_fault}
pub use specs.Laws.Args.{AreFlags, EndOfOptions, Flags, OperandsAlone, Spells, flag}
pub use specs.Args.{ParsedOption}
pub use specs.Private.Tokens.{MissingValue, Token, Valid}
pub use specs.Laws.Args.{ValueAttached, ValueNext}
pub use specs.Args.{has_option, is_flag, is_option_arg}
pub use specs.Private.Tokens.{is_end_of_options}
pub use specs.Args.{takes_value, tool_of_name, value_of}
pub use specs.Private.Tokens.{option_of_token, options, parse_fault, parsed_args, parsed_args_from, takes_next}
pub use specs.Private.Tokens.{token_fault, tokens_in, tokens_of, value_token}
pub use specs.Commands.{Command, Job, RunComm, RunJoin, RunPaste, RunUniq, command_of_args}
pub use specs.Commands.{file_names, input_operands, or_stdin, order_from}
pub use specs.Private.Jobs.{job, names_file, ok_unless, selected_set}
pub use specs.Faults.{Fault, Operands, StandardTwice}
pub use specs.Private.Faults.{constraint_fault, constraints_fault, each_value_fault}
pub use specs.Private.Faults.{first_some, is_file_number, is_within, operands_fault}
pub use specs.Faults.{is_repeated, is_standard}
pub use specs.Private.ParseSteps.{AreInputs, ArgsFaultPost, ArgsPost, CheckPost, GroupPost}
pub use specs.Private.ParseSteps.{option_view, options_of, options_of_tokens, options_view}
pub use specs.Private.Syntax.{syntax}
pub use specs.Laws.Theorems.{ReadingMatchesGrammar}
pub use specs.View.{CommandPost, fault_view}
pub use specs.Commands.{with_inputs, words_view}
pub use specs.declared.inputs.Input.{Input}
pub use specs.declared.tool.Tool.{Tool}
pub use specs.declared.tool.Tool.TheVariants.{Comm, Cut, Join, Paste, Tr, Uniq}
pub use Rattle.std.proofs.Common.{Bool, Err, List, None, Ok, Option, Result, Some, [], add-one, ap, append-nil}
pub use Rattle.std.proofs.Common.{append_assoc, arith, codes, cond, drop, drop-cons, false, get_or, length, map}
pub use Rattle.std.proofs.Common.{nat_eq, not, option_map, refl, rules, slice_index, subst, sym, take, true, vec_len}
pub use Rattle.std.proofs.Common.{ℕ, ⊎_elim, ◌&&◌, ◌++◌, ◌+◌, ◌<◌, ◌==◌, ◌||◌, ◌∙◌, ◌∷◌, ◌≡◌}
pub use lemmas.Iterator.{YieldsList-from_slice}
pub use lemmas.Iterator.Search.{all_from_yields_List, any_from_yields_List, find_from_yields_List}
pub use lemmas.Result.{err_from_is_err_and}
pub use Rattle.std.specs.Borrow.{Bor}
pub use Rattle.std.specs.List.{list_all, list_any}
pub use Rattle.std.specs.Prelude.{IsSome, IsTrue, OnSome, filter_map, find, is_ok, is_some, nat_le, nat_lt}
pub use Rattle.std.specs.Prelude.{option_and_then, slice_get, slice_index_or, ⊤}
pub use Rattle.std.specs.Result.{result_err}
