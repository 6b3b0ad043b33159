-- Inner: no public clause cites this file.
-- What the table of commands says.
use Rattle.std.specs.Prelude.{ℕ, ◌≡◌, ◌⊎◌, List, [], ◌∷◌, map, codes, Option, Some, None}
use Rattle.std.specs.Fmt.{decimal}
use Rattle.command_answers.specs.Limits.{AreLimits, AreSampleNumbers}
use Rattle.retro_top.specs.declared.commands.Command.{Command}
use Rattle.retro_top.specs.declared.commands.Command.TheVariants.{Check, Explain, Play, San, Spell, Unmoves, Solve, Settle, Verdict, Study, Report, Tree, Length, AtLeast, Line, Dossier, Sample}
use Rattle.retro_top.specs.declared.rows.Calls.{Calls}
use Rattle.retro_top.specs.declared.rows.Calls.TheVariants as calls
use Rattle.retro_top.specs.declared.rows.InputKind.{InputKind}
use Rattle.retro_top.specs.declared.rows.InputKind.TheVariants as inputs
use Rattle.retro_top.specs.declared.rows.Row.{Row}
use Rattle.retro_top.specs.declared.rows.Search.{Search}
use Rattle.retro_top.specs.declared.rows.Search.TheVariants as searches
use Rattle.retro_top.specs.declared.rows.Usual.{Usual}

-- the search with these numbers
abbrev pub search_of : Search → ℕ → ℕ → Command
search_of searches.Solve depth nodes = Solve depth nodes
search_of searches.Settle depth nodes = Settle depth nodes
search_of searches.Verdict depth nodes = Verdict depth nodes
search_of searches.Study depth nodes = Study depth nodes
search_of searches.Report depth nodes = Report depth nodes
search_of searches.Tree depth nodes = Tree depth nodes
search_of searches.Dossier depth nodes = Dossier depth nodes

-- the words are a depth and nodes, with which this search is made
abbrev pub IsSearch : Search → List (List ℕ) → Command → Type 0
IsSearch search words made =
    (depth : ℕ) × (nodes : ℕ) × (words ≡ decimal depth ∷ decimal nodes ∷ []) × AreLimits depth nodes × (made ≡ search_of search depth nodes)

-- there are no words, and this search is made with its usual numbers, if it has any
abbrev pub IsUsual : Search → Option Usual → List (List ℕ) → Command → Type 0
IsUsual search None words made = ⊥
IsUsual search (Some usual) words made = (words ≡ []) × (made ≡ search_of search usual.depth usual.nodes)

-- the words are a start, games and plies, with which a sample is made
abbrev pub IsSample : List (List ℕ) → Command → Type 0
IsSample words made =
    (start : ℕ) × (games : ℕ) × (plies : ℕ) × (words ≡ decimal start ∷ decimal games ∷ decimal plies ∷ []) × AreSampleNumbers start games plies × (made ≡ Sample start games plies)

-- the words behind a name make this command
abbrev pub IsMade : Calls → List (List ℕ) → Command → Type 0
IsMade (calls.Plain command) words made = (words ≡ []) × (made ≡ command)
IsMade (calls.Search search usual) words made = IsSearch search words made ⊎ IsUsual search usual words made
IsMade calls.Sample words made = IsSample words made

-- what a row says beside its texts
pub record Facts : Type 0 where
  pub name : List ℕ
  pub makes : Calls
  pub input : InputKind

abbrev pub facts : Row → Facts
facts row = record { name = row.name.now; makes = row.calls; input = row.input }

-- the names of rows, in order
abbrev pub names_of : List Row → List (List ℕ)
names_of = map (λ (row : Row). row.name.now)

-- what is said of a command without numbers, and of a search
abbrev plain : List ℕ → Command → InputKind → Facts
plain name command input = record { name = name; makes = calls.Plain command; input = input }

abbrev searching : List ℕ → Search → Option Usual → InputKind → Facts
searching name search usual input = record { name = name; makes = calls.Search search usual; input = input }

-- what is said of each command
abbrev pub said_of : Command → Facts
said_of Check = plain (codes "check") Check inputs.Certificate
said_of Explain = plain (codes "explain") Explain inputs.Proof
said_of Play = plain (codes "play") Play inputs.Game
said_of San = plain (codes "san") San inputs.Notation
said_of Spell = plain (codes "spell") Spell inputs.Moves
said_of Unmoves = plain (codes "unmoves") Unmoves inputs.Position
said_of (Study depth nodes) = searching (codes "study") searches.Study (Some (record { depth = 64; nodes = 20000 })) inputs.Position
said_of (Report depth nodes) = searching (codes "report") searches.Report (Some (record { depth = 64; nodes = 20000 })) inputs.Position
said_of (Solve depth nodes) = searching (codes "solve") searches.Solve None inputs.Claim
said_of (Settle depth nodes) = searching (codes "settle") searches.Settle (Some (record { depth = 64; nodes = 250000 })) inputs.Claim
said_of (Verdict depth nodes) = searching (codes "verdict") searches.Verdict None inputs.Position
said_of (Tree depth nodes) = searching (codes "tree") searches.Tree None inputs.Position
said_of Length = plain (codes "length") Length inputs.PlainPosition
said_of AtLeast = plain (codes "atleast") AtLeast inputs.Length
said_of Line = plain (codes "line") Line inputs.Dossier
said_of (Dossier depth nodes) = searching (codes "dossier") searches.Dossier None inputs.Steps
said_of (Sample start games plies) = record { name = codes "sample"; makes = calls.Sample; input = inputs.Nothing }

-- a command of each name, in the order of the table
abbrev pub one_each : List Command
one_each =
    Check ∷ Explain ∷ Play ∷ San ∷ Spell ∷ Unmoves ∷ Study 0 0 ∷ Report 0 0 ∷ Solve 0 0 ∷ Settle 0 0 ∷ Verdict 0 0 ∷ Tree 0 0 ∷ Length ∷ AtLeast ∷ Line ∷ Dossier 0 0 ∷ Sample 0 0 0 ∷ []

-- what the table says, in order
abbrev pub table : List Facts
table = map said_of one_each
