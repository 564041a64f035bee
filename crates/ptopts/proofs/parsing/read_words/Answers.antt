-- Each iteration reads one word of options, and its value if that is the next word.
use Rattle.ptopts.proofs
use proofs.Common.{ArgsFaultPost, [], ap, arith, on_fault, options_view, parsed_args, sym, words_view, ◌∙◌, ◌≡◌}
use proofs.ArgsInvariant.{group_fails, group_read, left_smaller, next_first}
use proofs.ReadWords.{read_is_told, told}
use Rattle.std.specs.Result.{IfErr}
use proofs.parsing.read_words.Goals as goal

pub loop-word-init : goal.loop-word-init
loop-word-init g c =
    let tool = c.args.tool in
    let words = words_view c.args.words.now in
    let none : options_view c.new-options.result.items ≡ [] = grind arith in
    record { is = read_is_told tool words ∙ ap (λ os. told tool os (parsed_args tool words)) (sym none) }

pub loop-word-preserved : goal.loop-word-preserved
loop-word-preserved g c =
    group_read _ _ _ _ _ _ (next_first _ _ (c.copied.ensures ∙ c.first.ensures.value)) (sym c.if-eq.ensures)
    (sym c.if-not-is_option_word.ensures) _ _ _ c.in_ok-takes_next.ensures.ok c.after_group-rest.ensures
    (rw c.in-Some.ensures.cases.0 at c.loop-word.invariant)

pub returns-in_err-takes_next-clause-err : goal.returns-in_err-takes_next-clause-err
returns-in_err-takes_next-clause-err g c =
    on_fault (λ r. IfErr r (ArgsFaultPost c.args.tool (words_view c.args.words.now))) _ _ c.from_residual.ensures.1
    (group_fails _ _ _ _ _ _ (next_first _ _ (c.copied.ensures ∙ c.first.ensures.value)) (sym c.if-eq.ensures)
    (sym c.if-not-is_option_word.ensures) _ c.in_err-takes_next.ensures.err
    (rw c.in-Some.ensures.cases.0 at c.loop-word.invariant))

pub loop-word-smaller : goal.loop-word-smaller
loop-word-smaller g c = left_smaller _ _ _ _ _ c.in-Some.ensures.cases.0 c.after_group-rest.ensures
