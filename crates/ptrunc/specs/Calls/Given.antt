-- The contracts of the two calls for C over bytes in memory, which run a command and name its files. Words end with
-- byte 0; files lie one after another, and are cut at their ends. Words that are not UTF-8 are refused, and so are, for
-- a run, ends that are not in order; a run that is refused has a message.
use Rattle.std.specs.Prelude.{◌≡◌, ◌⊎◌, ◌^◌, ◌-◌, ◌==◌, ◌&&◌, ℕ, Bool, true, false, List, [], ◌∷◌, Some}
use Rattle.std.specs.Prelude.{None, codes, drop, length, nat_le, take, if◌then◌else◌}
use Rattle.std.specs.Str.{IsUtf8}
use Rattle.ptlines.specs.Text.{lines}
use Rattle.ptrun.specs.Files.{InputBytes}
use Rattle.ptrun.specs.MessageWrites.{line_of}
use Rattle.ptrunc.specs.Calls.Answers.{IsRefused}
use Rattle.ptrunc.specs.Calls.Names.{AreNamed}
use Rattle.ptrunc.specs.Inputs.{inputs_for}
use Rattle.ptrunc.specs.Results.{IsRunInMemory}
use Rattle.ptrunc.specs.declared.answer.Answer.{Answer}

-- The end of a file that cannot be opened.
abbrev pub no_file : ℕ
no_file = 2 ^ 64 - 1

-- The known ends ascend from `begin`, and none is after `size`.
abbrev pub are_ascending : ℕ → List ℕ → ℕ → Bool
are_ascending begin [] size = true
are_ascending begin (end ∷ ends) size =
    if end == no_file then are_ascending begin ends size
    else (nat_le begin end && nat_le end size && are_ascending end ends size)

-- Files that lie one after another in these bytes, from `begin`, and have these ends.
abbrev pub cut_at : ℕ → List ℕ → List ℕ → InputBytes
cut_at begin [] bytes = []
cut_at begin (end ∷ ends) bytes =
    if end == no_file then None ∷ cut_at begin ends bytes
    else Some (take (end - begin) (drop begin bytes)) ∷ cut_at end ends bytes

-- The command that these bytes are was run over these files. The words are its lines that end with byte 0. If the
-- arguments are wrong, nothing was run.
abbrev pub RunGivenPost : List ℕ → List ℕ → List ℕ → List ℕ → List ℕ → List ℕ → Answer → Type 0
RunGivenPost words input files ends out messages' a =
    (¬ (IsUtf8 words) × IsRefused (Some 2) (line_of (codes "ptext: a word is not UTF-8" ∷ [])) messages' a)
    ⊎ (((are_ascending 0 ends (length files) ≡ false)
    × IsRefused (Some 5) (line_of (codes "ptext: the ends of the files are not in order" ∷ [])) messages' a)
    ⊎ ((are_ascending 0 ends (length files) ≡ true)
    × IsRunInMemory (lines 0 words) (inputs_for (lines 0 words) input (cut_at 0 ends files)) out messages' a))

-- The files of the command that these bytes are were named. Words that are not UTF-8 name none.
abbrev pub NamesGivenPost : List ℕ → List ℕ → List ℕ → Answer → Type 0
NamesGivenPost words names output a =
    (¬ (IsUtf8 words) × IsRefused (Some 0) [] output a) ⊎ AreNamed (lines 0 words) names output a
