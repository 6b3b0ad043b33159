-- What is said of nodes.
use Rattle.std.specs.Prelude.{ℕ, ◌≡◌, ◌==◌, Bool, cond, List, [], ◌∷◌, Option, is_none, map}
use Rattle.std.specs.List.{All}
use Rattle.board_base.specs.declared.unmoves.Unmove.{Unmove}
use Rattle.query_base.specs.Asked.{Asked}
use Rattle.balance_prose.specs.declared.numbers.Numbers.{Numbers}
use Rattle.proof_sentences.specs.Reasons.{Adds, AddsReason}
use Rattle.proof_sentences.specs.declared.sentences.Sentence.{Sentence}
use Rattle.proof_sentences.specs.declared.sentences.Sentence.TheVariants as sentence
use Rattle.sketch_prose.specs.Telling.{AddsSketch}
use Rattle.proof_prose.specs.declared.bodies.Spoken.{Spoken}
use Rattle.proof_prose.specs.declared.nodes.Line.{Line}
use Rattle.proof_prose.specs.declared.nodes.Line.TheVariants.{Because, Sketched, Back, Moves}
use Rattle.proof_prose.specs.declared.nodes.Told.{Told}

-- whether there are retractions; of the first node other words are used
abbrev pub moves_sentence : ℕ → Bool → Sentence
moves_sentence n first = cond (n == 0) (sentence.Still first) (sentence.Moved first)

-- the own line of a node is told, with these numbers: its reason; its sketch; that the position stands later again; or whether there are retractions
abbrev pub AddsLine : Numbers → Option Unmove → Line → Asked → List ℕ → List ℕ → Type 0
AddsLine numbers label (Because r) q old new = AddsReason numbers (is_none label) q r old new
AddsLine numbers label (Sketched b) q old new = AddsSketch q b old new
AddsLine numbers label (Back k above) q old new = Adds q (sentence.Back k above ∷ []) old new
AddsLine numbers label (Moves n) q old new = Adds q (moves_sentence n (is_none label) ∷ []) old new

-- what is said of a node: sentences that tell its own line, by exact numbers or by numbers that are enough, each of which holds of its query
abbrev pub IsBody : Told → List ℕ → Type 0
IsBody t body = (numbers : Numbers) × AddsLine numbers t.label t.line t.query [] body

-- it is said of the node
abbrev pub IsSpoken : Spoken → Type 0
IsSpoken s = IsBody s.node s.body

-- these are the nodes, each with what is said of it
abbrev pub AreSpoken : List Told → List Spoken → Type 0
AreSpoken nodes spoken = (nodes ≡ map (λ s. s.node) spoken) × All IsSpoken spoken
