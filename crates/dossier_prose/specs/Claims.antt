-- Claims of several steps in words.
use Rattle.std.specs.Prelude.{ℕ, ◌==◌, Bool, true, false, cond, List, [], ◌∷◌, ◌++◌, codes, length}
use Rattle.std.specs.Fmt.{decimal}
use Rattle.board_base.specs.Play.{side}
use Rattle.board_base.specs.declared.castles.Castle.{Castle}
use Rattle.board_base.specs.declared.unmoves.Unmove.{Unmove}
use Rattle.query_base.specs.Asked.{Asked}
use Rattle.unmove_gen.specs.Predecessor.{predecessor}
use Rattle.line_claims.specs.declared.claims.LineClaim.{LineClaim}
use Rattle.line_claims.specs.declared.claims.LineClaim.TheVariants.{NotBoth, Line}
use Rattle.proof_prose.specs.Heads.{drawn_text}
use Rattle.proof_prose.specs.Labels.{label_words}
use Rattle.proof_story.specs.Rows.{rows_of}
use Rattle.prose_words.specs.Words.{side_word, wing_word}

-- a right to castle
abbrev pub right_words : Castle → List ℕ
right_words x = side_word (side x) ++ codes "'s on the " ++ wing_word x ++ codes " side"

-- that one of two rights to castle is lost
abbrev pub rights_words : Castle → Castle → List ℕ
rights_words x y = codes "at least one of these two rights to castle is lost: " ++ right_words x ++ codes ", " ++ right_words y

-- what stands before a move: nothing before the last one
abbrev pub separator : Bool → List ℕ
separator first = cond first [] (codes "; ")

-- the move of a step
abbrev pub step_words : Bool → Asked → Unmove → List ℕ
step_words first q u = separator first ++ label_words q u

-- the moves of the steps, the last move first, each as it led to what the steps before it leave
abbrev pub moves_words : Bool → Asked → List Unmove → List ℕ
moves_words first q [] = []
moves_words first q (u ∷ us) = step_words first q u ++ moves_words false (predecessor q u) us

-- of how many moves is spoken
abbrev pub count_words : ℕ → List ℕ
count_words n = cond (n == 1) (codes "the last move was ") (codes "the last " ++ decimal n ++ codes " moves were, the last one first: ")

-- what is claimed, in words
abbrev pub line_words : LineClaim → Asked → List ℕ
line_words (NotBoth x y) q = rights_words x y
line_words (Line steps) q = count_words (length steps) ++ moves_words true q steps

-- the diagram, what is given beside it, and the claim
abbrev pub opening_text : LineClaim → Asked → List ℕ
opening_text claim q = drawn_text q ++ rows_of (codes "Claim: " ++ line_words claim q ++ codes ".")

-- the last row, which states the claim again
abbrev pub closing_text : LineClaim → Asked → List ℕ
closing_text claim q = codes "\n" ++ rows_of (codes "So " ++ line_words claim q ++ codes ". QED")
