-- The words of the command line.
use Rattle.std.specs.Prelude.{ℕ, ◌≡◌, ◌⊎◌, List, [], ◌∷◌, map, codes, string_bytes, String}
use Rattle.std.specs.Global.{Global}
use Rattle.std.specs.Fmt.{decimal}
use Rattle.command_answers.specs.Limits.{AreLimits, AreSampleNumbers}
use Rattle.retro_top.specs.declared.commands.Command.{Command}
use Rattle.retro_top.specs.declared.commands.Command.TheVariants.{Check, Explain, Play, San, Spell, Unmoves, Solve, Settle, Verdict, Study, Report, Tree, Length, AtLeast, Line, Dossier, Sample}

-- the words, as bytes, by which each command is called in full
abbrev pub words_of : Command → List (List ℕ)
words_of Check = codes "check" ∷ []
words_of Explain = codes "explain" ∷ []
words_of Play = codes "play" ∷ []
words_of San = codes "san" ∷ []
words_of Spell = codes "spell" ∷ []
words_of Unmoves = codes "unmoves" ∷ []
words_of (Solve depth nodes) = codes "solve" ∷ decimal depth ∷ decimal nodes ∷ []
words_of (Settle depth nodes) = codes "settle" ∷ decimal depth ∷ decimal nodes ∷ []
words_of (Verdict depth nodes) = codes "verdict" ∷ decimal depth ∷ decimal nodes ∷ []
words_of (Study depth nodes) = codes "study" ∷ decimal depth ∷ decimal nodes ∷ []
words_of (Report depth nodes) = codes "report" ∷ decimal depth ∷ decimal nodes ∷ []
words_of (Tree depth nodes) = codes "tree" ∷ decimal depth ∷ decimal nodes ∷ []
words_of Length = codes "length" ∷ []
words_of AtLeast = codes "atleast" ∷ []
words_of Line = codes "line" ∷ []
words_of (Dossier depth nodes) = codes "dossier" ∷ decimal depth ∷ decimal nodes ∷ []
words_of (Sample start games plies) = codes "sample" ∷ decimal start ∷ decimal games ∷ decimal plies ∷ []

-- the words call the command without its numbers, which are the usual ones: `settle`, `study` or `report` alone
abbrev pub AreShortWordsOf : List (List ℕ) → Command → Type 0
AreShortWordsOf words command =
    ((words ≡ codes "settle" ∷ []) × (command ≡ Settle 64 250000)) ⊎ ((words ≡ codes "study" ∷ []) × (command ≡ Study 64 20000)) ⊎ ((words ≡ codes "report" ∷ []) × (command ≡ Report 64 20000))

-- the words, as bytes, call the command: in full, or without its numbers
abbrev pub AreWordsOf : List (List ℕ) → Command → Type 0
AreWordsOf words command = (words ≡ words_of command) ⊎ AreShortWordsOf words command

-- the command's numbers, if it has any, are in their ranges
abbrev pub IsInRange : Command → Type 0
IsInRange (Solve depth nodes) = AreLimits depth nodes
IsInRange (Settle depth nodes) = AreLimits depth nodes
IsInRange (Verdict depth nodes) = AreLimits depth nodes
IsInRange (Study depth nodes) = AreLimits depth nodes
IsInRange (Report depth nodes) = AreLimits depth nodes
IsInRange (Tree depth nodes) = AreLimits depth nodes
IsInRange (Dossier depth nodes) = AreLimits depth nodes
IsInRange (Sample start games plies) = AreSampleNumbers start games plies
IsInRange command = Unit {0}

-- the words call this command
pub record Call (words : List (String Global)) (command : Command) : Type 0 where
  pub words_are : AreWordsOf (map string_bytes words) command
  pub in_range : IsInRange command

-- the words call some command
abbrev pub CallSome : List (String Global) → Type 0
CallSome words = (command : Command) × Call words command

-- the command reads its input: each but `sample` does
abbrev pub Reads : Command → Type 0
Reads (Sample start games plies) = ⊥
Reads command = Unit {0}

-- the words call a command that reads its input
abbrev pub CallReader : List (String Global) → Type 0
CallReader words = (command : Command) × Call words command × Reads command

-- the words call `solve` or `settle`, with these numbers
abbrev pub CallSolver : List (String Global) → ℕ → ℕ → Type 0
CallSolver words depth nodes = Call words (Solve depth nodes) ⊎ Call words (Settle depth nodes)

-- the command takes memory: each but `check`, `atleast` and `line` does
abbrev pub TakesMemory : Command → Type 0
TakesMemory Check = ⊥
TakesMemory AtLeast = ⊥
TakesMemory Line = ⊥
TakesMemory command = Unit {0}
