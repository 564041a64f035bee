-- `value`: the search through the options of the code finds the value that the definition finds, or none.
use Rattle.ptopts.proofs
use proofs.Common.{Bor, List, YieldsList-from_slice, ap, find_from_yields_List, option_and_then, option_map, rules, sym}
use proofs.Common.{ℕ, ◌==◌, ◌∙◌}
use proofs.OptionViews.{value_of-view}
use Rattle.ptopts.specs.declared.parsing.ParsedOption.{ParsedOption}
use proofs.parsing.ParsedArgs.value.Goals as goal

pub returns-in_err-find : goal.returns-in_err-find
returns-in_err-find g c =
    let all = c.args.self.now.options.items in
    let found = find_from_yields_List (λ (o : ParsedOption). o.letter == c.args.letter)
    _ _ c.find.result c.find.ensures.ran (YieldsList-from_slice all cc) (λ x b q k. search rules) in
    rw c.from_residual.ensures
    (ap (option_and_then (λ (o : ParsedOption). option_map (λ (v : Bor (List ℕ)). v.now) o.value))
    (rw c.in_err-find.was at found)
    ∙ sym (value_of-view _ all))

pub returns : goal.returns
returns g c =
    let all = c.args.self.now.options.items in
    let found = find_from_yields_List (λ (o : ParsedOption). o.letter == c.args.letter)
    _ _ c.find.result c.find.ensures.ran (YieldsList-from_slice all cc) (λ x b q k. search rules) in
    ap (option_and_then (λ (o : ParsedOption). option_map (λ (v : Bor (List ℕ)). v.now) o.value))
    (rw c.in_ok-find.was at found)
    ∙ sym (value_of-view _ all)
