-- Both the cycle and the list of delimiters repeat after the length of the list.
use Rattle.ptflow.proofs
use proofs.Common.{◌≡◌, ◌%◌, [], ◌∷◌, None, length, slice_index_or, option_to_list, sym, ◌∙◌, ap, subst, mod-lt}
use proofs.Common.{mod-eq_of_lt, IsDelimiterCycle}
use proofs.tools.paste.serial.delimiter_cycle.Goals as goal

pub returns : goal.returns
returns c = λ x is.
    let delims = c.args.delims.now in
    let size = length delims in
    let list = c.in_ok-bytes.ensures in
    let (items, _) = c.deref.ensures in
    let long : length c.deref.result.now ≡ size = cc in
    let same : c.new.result ≡ x = cc is in
    subst (IsDelimiterCycle delims c.args.terminator) same (record {
      terminator = c.new.ensures.terminator;
      len = cc;
      bytes = λ number.
          let low = mod-lt number c.requires in
          c.new.ensures.bytes number ∙ (λ i. slice_index_or (items i) (number % long i) 0 ∷ [])
          ∙ sym (list.at (number % size) low)
          ∙ ap (λ k. option_to_list (slice_index_or delims k None)) (mod-eq_of_lt low);
    })
