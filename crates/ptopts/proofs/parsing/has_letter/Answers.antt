-- `has_letter`: the code finds the letter among its options if and only if the definition does.
use Rattle.ptopts.proofs
use proofs.Common.{YieldsList-from_slice, any_from_yields_List, rules, ◌==◌, ◌∙◌}
use proofs.OptionViews.{has_option-view}
use Rattle.ptopts.specs.declared.parsing.ParsedOption.{ParsedOption}
use proofs.parsing.has_letter.Goals as goal

pub returns : goal.returns
returns c =
    let all = c.args.options.now in
    any_from_yields_List (λ (o : ParsedOption). o.letter == c.args.letter) _ _ _ c.any.ensures.ran
    (YieldsList-from_slice all cc) (λ x b q k. search rules)
    ∙ has_option-view _ all
