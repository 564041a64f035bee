-- An engine (ptlines/specs/Engines) over the inputs at the positions of operands, and in a run, where all inputs are
-- new; and how its call ended, by positions.
use Rattle.std.specs.Prelude.{ℕ, option_map}
use Rattle.ptlines.specs.Engines.{EngineSpec}
use Rattle.ptlines.specs.Calls.Engines.{CallEnd, Complete, MemoryFault, OutOfOrder, ReadFault, WriteFault}

-- A line that is out of order, by the position of its input.
abbrev pub line_at : {I : Type 0} → (I → ℕ) → I × ℕ → ℕ × ℕ
line_at position found = (position found.0, found.1)

-- An engine over the inputs at the positions of its names.
abbrev pub at_positions : {I : Type 0} → EngineSpec I → (I → ℕ) → EngineSpec ℕ
at_positions engine position = record {
  text = λ texts. engine.text (λ i. texts (position i));
  decided = λ given. engine.decided (λ i. given (position i));
  disorder = λ texts. option_map (line_at position) (engine.disorder (λ i. texts (position i)));
  size = λ texts. engine.size (λ i. texts (position i));
  slots = λ texts. engine.slots (λ i. texts (position i));
  first_slots = engine.first_slots;
  keeps_groups = engine.keeps_groups;
  terminator = engine.terminator;
  keeps_terminator = engine.keeps_terminator;
}

-- An engine in a run. All inputs are new, so one is left to read even if a first slot is missing: `left` of a call then
-- holds without its condition, `unread` states nothing, and `added` only that no slot was taken away.
abbrev pub in_run : EngineSpec ℕ → EngineSpec ℕ
in_run engine = record engine { first_slots = 0 }

-- How its call ended.
abbrev pub end_at : {I : Type 0} → (I → ℕ) → CallEnd I → CallEnd ℕ
end_at position Complete = Complete
end_at position (OutOfOrder input line) = OutOfOrder (position input) line
end_at position (ReadFault input) = ReadFault (position input)
end_at position WriteFault = WriteFault
end_at position MemoryFault = MemoryFault
