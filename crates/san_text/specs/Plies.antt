-- Inner: no public clause cites this file.
-- What the two passes over a game's text answer: of its words, and of its plies.
use Rattle.std.specs.Prelude.{ℕ, List}
use Rattle.play_rules.specs.States.{Position}
use Rattle.san_text.specs.Games.{FirstFault}
use Rattle.san_text.specs.Words.{FirstBad}
use Rattle.san_text.specs.declared.games.SanGameFault.{SanGameFault}
use Rattle.san_text.specs.declared.games.SanGameFault.TheVariants.{BadText, NoMove, Many, Memory}
use Rattle.san_text.specs.declared.grammar.San.{San}
use Rattle.san_text.specs.declared.reading.SanFault.{SanFault}
use Rattle.san_text.specs.declared.reading.SanFault.TheVariants as fault

-- the fault of the ply with this number
abbrev pub at_ply : SanFault → ℕ → SanGameFault
at_ply fault.Many n = Many n
at_ply fault.NoMove n = NoMove n
at_ply fault.BadText n = NoMove n

-- what a fault tells of the plies
abbrev pub IsPlyFault : SanGameFault → Position → List San → Type 0
IsPlyFault (BadText n) p said = ⊥
IsPlyFault (NoMove n) p said = FirstFault fault.NoMove p said n
IsPlyFault (Many n) p said = FirstFault fault.Many p said n
IsPlyFault Memory p said = Unit {0}

-- what a fault tells of the words
abbrev pub IsWordFault : SanGameFault → List (List ℕ) → Type 0
IsWordFault (BadText n) words = FirstBad words n
IsWordFault (NoMove n) words = ⊥
IsWordFault (Many n) words = ⊥
IsWordFault Memory words = Unit {0}
