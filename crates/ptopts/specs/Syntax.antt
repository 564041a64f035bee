-- The tools by name, and the options of each (POSIX.1-2017, XCU, the synopsis of each utility). POSIX does not have `-z`,
-- and `-r` of `comm` and `join`, and leaves unspecified that `-v` may be repeated.
use Rattle.std.specs.Prelude.{ℕ, List, [], ◌∷◌, codes}
use Rattle.ptopts.specs.declared.tool.Tool.{Tool}
use Rattle.ptopts.specs.declared.tool.Tool.TheVariants.{Comm, Cut, Join, Paste, Tr, Uniq}

-- the tools by name
abbrev pub tools : List (List ℕ × Tool)
tools = (codes "cut", Cut) ∷ (codes "paste", Paste) ∷ (codes "join", Join) ∷ (codes "comm", Comm) ∷ (codes "uniq", Uniq)
    ∷ (codes "tr", Tr) ∷ []

-- options without a value, options with one, and those of them that may be repeated
abbrev pub letters : Tool → List ℕ × List ℕ × List ℕ
letters Cut = (codes "nsz", codes "bcfd", [])
letters Paste = (codes "sz", codes "d", [])
letters Uniq = (codes "cduz", codes "fs", [])
letters Comm = (codes "123rz", [], [])
letters Join = (codes "rz", codes "aveot12", codes "av")
letters Tr = (codes "cCds", [], [])
