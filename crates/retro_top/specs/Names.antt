-- The names of commands, what each reads, and which numbers may stand behind a name.
use Rattle.std.specs.Prelude.{ℕ, ◌≡◌, ◌⊎◌, List, [], ◌∷◌, codes, string_bytes, String}
use Rattle.std.specs.Global.{Global}
use Rattle.command_answers.specs.Limits.{AreLimits, AreSampleNumbers}
use Rattle.retro_top.specs.Commands.{words_of}
use Rattle.retro_top.specs.declared.commands.Command.{Command}
use Rattle.retro_top.specs.declared.numbers.Number.{Number}
use Rattle.retro_top.specs.declared.numbers.Number.TheVariants.{Depth, Nodes, Start, Games, Plies}
use Rattle.retro_top.specs.declared.rows.InputKind.{InputKind}
use Rattle.retro_top.specs.declared.rows.InputKind.TheVariants.{Nothing, Certificate, Proof, Game, Notation, Moves, Position, PlainPosition, Claim, Steps, Length, Dossier}
use Rattle.retro_top.specs.declared.parsing.WordFault.{WordFault}
use Rattle.retro_top.specs.declared.parsing.WordFault.TheVariants.{Name, Rest}

-- the first word is this name
abbrev pub Begin : List (String Global) → List ℕ → Type 0
Begin [] name = ⊥
Begin (word ∷ _) name = string_bytes word ≡ name

-- the name is the first of the words by which some command is called
abbrev pub IsCommand : List ℕ → Type 0
IsCommand name = (command : Command) × (numbers : List (List ℕ)) × (words_of command ≡ name ∷ numbers)

-- the first word is the name of a command
abbrev pub NameCommand : List (String Global) → Type 0
NameCommand [] = ⊥
NameCommand (word ∷ _) = IsCommand (string_bytes word)

-- the number may stand there: with it in its place, a search or a sample keeps its limits
abbrev pub MayStand : Number → ℕ → Type 0
MayStand Depth n = AreLimits n 1
MayStand Nodes n = AreLimits 0 n
MayStand Start n = AreSampleNumbers n 1 1
MayStand Games n = AreSampleNumbers 0 n 1
MayStand Plies n = AreSampleNumbers 0 1 n

-- the command of this name reads this
abbrev pub IsReadBy : InputKind → List ℕ → Type 0
IsReadBy Nothing name = name ≡ codes "sample"
IsReadBy Certificate name = name ≡ codes "check"
IsReadBy Proof name = name ≡ codes "explain"
IsReadBy Game name = name ≡ codes "play"
IsReadBy Notation name = name ≡ codes "san"
IsReadBy Moves name = name ≡ codes "spell"
IsReadBy Position name = (name ≡ codes "unmoves") ⊎ (name ≡ codes "study") ⊎ (name ≡ codes "report") ⊎ (name ≡ codes "verdict") ⊎ (name ≡ codes "tree")
IsReadBy PlainPosition name = name ≡ codes "length"
IsReadBy Claim name = (name ≡ codes "solve") ⊎ (name ≡ codes "settle")
IsReadBy Steps name = name ≡ codes "dossier"
IsReadBy Length name = name ≡ codes "atleast"
IsReadBy Dossier name = name ≡ codes "line"

-- What is wrong with the words is so: the first is no command's name, or it is that of the row.
abbrev pub IsFaultOf : WordFault → List (String Global) → Type 0
IsFaultOf Name words = NameCommand words → ⊥
IsFaultOf (Rest row why) words = Begin words row.name.now
