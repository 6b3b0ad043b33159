-- When a user gets which advice, and what it tells.
use Rattle.std.specs.Prelude.{ℕ, ◌≡◌, ◌⊎◌, IsTrue, List, [], ◌∷◌, ◌++◌, codes, nat_eq, String}
use Rattle.std.specs.Global.{Global}
use Rattle.std.specs.List.{starts_with}
use Rattle.retro_top.specs.Status.{Status}
use Rattle.retro_top.specs.Status.TheVariants.{BadInput, BadWords, Refused}
use Rattle.retro_top.specs.Names.{Begin, NameCommand}
use Rattle.hint_texts.specs.declared.advice.Advice.{Advice}
use Rattle.hint_texts.specs.declared.advice.Advice.TheVariants.{Words, Lines, Fen, Moves, Texts}
use Rattle.hint_texts.specs.declared.advice.FenAdvice.{FenAdvice}
use Rattle.hint_texts.specs.declared.advice.LineAdvice.{LineAdvice}
use Rattle.hint_texts.specs.declared.advice.LineAdvice.TheVariants.{Empty}
use Rattle.hint_texts.specs.declared.advice.TextAdvice.{TextAdvice}
use Rattle.hint_texts.specs.declared.advice.TextAdvice.TheVariants.{ByteOrderMark, Dossier, Length, Claim, NoProof, Report, ClaimToExplain, CarriageReturns, ReturnsToExplain, PositionToCheck, PositionToExplain}
use Rattle.hint_texts.specs.declared.advice.WordAdvice.{WordAdvice}
use Rattle.hint_texts.specs.declared.advice.WordAdvice.TheVariants.{StandsAlone, NoCommand, NearestCommand}

-- the words ask for a command that reads a game
abbrev pub AskForGame : List (String Global) → Type 0
AskForGame words = Begin words (codes "play") ⊎ Begin words (codes "san") ⊎ Begin words (codes "spell")

-- the words ask for a command that reads a certificate
abbrev pub AskForCertificate : List (String Global) → Type 0
AskForCertificate words = Begin words (codes "check") ⊎ Begin words (codes "explain")

-- the answer begins with this text
abbrev pub Says : List ℕ → List ℕ → Type 0
Says answer text = IsTrue (starts_with nat_eq answer text)

-- the status with which advice of each kind goes, and with no other
abbrev pub status_of : Advice → Status
status_of (Words advice) = BadWords
status_of (Lines advice) = BadInput
status_of (Fen advice) = BadInput
status_of (Moves advice) = Refused
status_of (Texts advice) = Refused

-- What three kinds of advice tell of the words is so; what the others tell isn't said here.
abbrev pub TellsWords : WordAdvice → List (String Global) → Type 0
TellsWords StandsAlone words = Begin words (codes "--help") ⊎ Begin words (codes "--version")
TellsWords NoCommand words = NameCommand words → ⊥
TellsWords NearestCommand words = NameCommand words → ⊥
TellsWords advice words = Unit {0}

-- What the advice on an empty input tells is so; what the others tell of the lines isn't said here.
abbrev pub TellsLines : LineAdvice → List ℕ → Type 0
TellsLines Empty input = input ≡ []
TellsLines advice input = Unit {0}

-- the input begins with the first line of a certificate, but with a carriage return before the line feed
abbrev pub HasReturns : List ℕ → Type 0
HasReturns input = Says input (codes "retro 1" ++ 13 ∷ 10 ∷ []) ⊎ Says input (codes "retro 2" ++ 13 ∷ 10 ∷ [])

-- the same with the first line of a certificate, a dossier or a length
abbrev pub HasProofReturns : List ℕ → Type 0
HasProofReturns input = HasReturns input ⊎ Says input (codes "retro line 1" ++ 13 ∷ 10 ∷ []) ⊎ Says input (codes "retro length 1" ++ 13 ∷ 10 ∷ [])

-- the input begins with the word of a search that found no proof
abbrev pub IsWithoutProof : List ℕ → Type 0
IsWithoutProof input = Says input (codes "countered") ⊎ Says input (codes "undecided") ⊎ Says input (codes "spent ")

-- the input begins with the first line of a board, as it is drawn for a reader
abbrev pub ShowsBoard : List ℕ → Type 0
ShowsBoard input = Says input (codes "  a b c d e f g h")

-- the input begins with a byte-order mark in UTF-8
abbrev pub HasMark : List ℕ → Type 0
HasMark input = Says input (239 ∷ 187 ∷ 191 ∷ [])

-- The input begins as the text that the advice takes it for; of a position this isn't said.
abbrev pub TellsText : TextAdvice → List ℕ → Type 0
TellsText ByteOrderMark input = HasMark input
TellsText Dossier input = Says input (codes "retro line")
TellsText Length input = Says input (codes "retro length")
TellsText Claim input = Says input (codes "claim ")
TellsText NoProof input = IsWithoutProof input
TellsText Report input = ShowsBoard input
TellsText ClaimToExplain input = Says input (codes "claim ")
TellsText CarriageReturns input = HasReturns input
TellsText ReturnsToExplain input = HasProofReturns input
TellsText PositionToCheck input = Unit {0}
TellsText PositionToExplain input = Unit {0}

-- What the advice takes the run for. Of words and of lines it says what stands above. Of a FEN line advice comes only if the answer
-- names a field of it, of a refused text only if it refuses a word or a ply of a game, or the first line of a certificate.
abbrev pub Concerns : Advice → List (String Global) → List ℕ → List ℕ → Type 0
Concerns (Words advice) words input answer = TellsWords advice words
Concerns (Lines advice) words input answer = TellsLines advice input
Concerns (Fen advice) words input answer = Says answer (codes "bad fen field ")
Concerns (Moves advice) words input answer = AskForGame words × (Says answer (codes "refused word ") ⊎ Says answer (codes "refused ply "))
Concerns (Texts advice) words input answer = AskForCertificate words × Says answer (codes "refused line 1 text") × TellsText advice input

-- The advice goes with a run with these words, this status, and an input and an answer that begin so.
pub record GoesWith (advice : Advice) (words : List (String Global)) (input : List ℕ) (status : Status) (answer : List ℕ) : Type 0 where
  pub status_is : status ≡ status_of advice
  pub concerns : Concerns advice words input answer

-- the advice is one on a FEN line
abbrev pub IsOfFen : Advice → Type 0
IsOfFen advice = (of_fen : FenAdvice) × (advice ≡ Fen of_fen)
