-- Words for steps, and for the men of whom something is said.
use Rattle.std.specs.Prelude.{ℕ, ◌-◌, ◌==◌, Bool, true, false, cond, ◌&&◌, not, List, [], ◌∷◌, ◌++◌, codes, length, Option, Some, None}
use Rattle.std.specs.List.{flat_map}
use Rattle.std.specs.Fmt.{decimal}
use Rattle.board_base.specs.Board.{is_in}
use Rattle.board_base.specs.Rights.{Rights}
use Rattle.board_base.specs.Texts.{square_text}
use Rattle.board_base.specs.declared.men.Kind.TheVariants as kind
use Rattle.figures.specs.Frozen.{is_held_home}
use Rattle.figures.specs.Sets.{squares_that}
use Rattle.figures.specs.Figures.{Figure, Sketch, figure_at, is_fixed_on, may_be}
use Rattle.prose_words.specs.Words.{squares_words}
use Rattle.sketch_text.specs.declared.labels.Label.{Label}
use Rattle.sketch_text.specs.declared.labels.Label.TheVariants.{Now, Step, Case}
use Rattle.sketch_text.specs.declared.labels.Officer.{Officer}
use Rattle.sketch_text.specs.declared.labels.Officer.TheVariants.{Knight, Rook, Queen}
use Rattle.sketch_text.specs.declared.labels.StepLabel.{StepLabel}
use Rattle.sketch_text.specs.declared.labels.Taken.{Taken}
use Rattle.sketch_text.specs.declared.labels.Taken.TheVariants as taken
use Rattle.sketch_text.specs.declared.labels.Victim.{Victim}
use Rattle.sketch_text.specs.declared.labels.Victim.TheVariants as victim
use Rattle.sketch_text.specs.declared.labels.Way.{Way}
use Rattle.sketch_text.specs.declared.labels.Way.TheVariants.{Straight, Capture, Promotion, CapturePromotion}

-- STEPS

-- the sign between the squares of a step: a cross where it captured
abbrev pub sign_of : Way → ℕ
sign_of Straight = 45
sign_of (Capture v n) = 120
sign_of Promotion = 45
sign_of (CapturePromotion t) = 120

-- who fell
abbrev pub victim_words : Victim → List ℕ
victim_words victim.Pawn = codes " (a pawn fell)"
victim_words victim.Bishop = codes " (a bishop fell)"
victim_words victim.Officer = codes " (a knight, rook or queen fell)"
victim_words victim.EnPassant = codes " en passant"

-- who fell where a pawn was promoted
abbrev pub taken_words : Taken → List ℕ
taken_words taken.Bishop = codes " with promotion (a bishop fell)"
taken_words taken.Officer = codes " with promotion (a knight, rook or queen fell)"

-- that other pawns of the file that the pawn left stood above it
abbrev pub above_words : ℕ → List ℕ
above_words n =
    cond (n == 0) [] (cond (n == 1) (codes " with another pawn above it on its file") (codes " with " ++ decimal n ++ codes " other pawns above it on its file"))

-- what stands behind the squares of a step
abbrev pub way_words : Way → List ℕ
way_words Straight = []
way_words (Capture v n) = victim_words v ++ above_words n
way_words Promotion = codes " with promotion"
way_words (CapturePromotion t) = taken_words t

-- the two squares of a step with a sign between them
abbrev pub squares_of : StepLabel → List ℕ
squares_of x = square_text x.from ++ sign_of x.way ∷ [] ++ square_text x.to

-- a step, as in `h3xg4 (a bishop fell)`
abbrev pub step_words : StepLabel → List ℕ
step_words x = squares_of x ++ way_words x.way

-- that a man was promoted, whoever fell
abbrev pub bare_way : Way → List ℕ
bare_way Straight = []
bare_way (Capture v n) = []
bare_way Promotion = codes " with promotion"
bare_way (CapturePromotion t) = codes " with promotion"

-- a step, whoever fell
abbrev pub bare_step : StepLabel → List ℕ
bare_step x = squares_of x ++ bare_way x.way

-- a kind of which a man may be
abbrev pub case_words : Officer → List ℕ
case_words Knight = codes "a knight"
case_words Rook = codes "a rook"
case_words Queen = codes "a queen"

-- what leads to a node
abbrev pub name_words : Label → List ℕ
name_words Now = []
name_words (Step x) = step_words x
name_words (Case k) = case_words k

-- the same, whoever fell
abbrev pub bare_words : Label → List ℕ
bare_words Now = []
bare_words (Step x) = bare_step x
bare_words (Case k) = case_words k

-- with who fell, or whoever fell
abbrev pub shown_words : Bool → Label → List ℕ
shown_words whole label = cond whole (bare_words label) (name_words label)

-- both are steps from one square to another
abbrev pub is_same_move : Label → Label → Bool
is_same_move Now b = false
is_same_move (Case k) b = false
is_same_move (Step x) Now = false
is_same_move (Step x) (Case k) = false
is_same_move (Step x) (Step y) = (x.from == y.from) && (x.to == y.to)

-- how what follows from it begins
abbrev pub lead_word : Label → List ℕ
lead_word Now = []
lead_word (Step x) = codes "Before "
lead_word (Case k) = codes "If it was "

-- SETS OF MEN

-- the squares of both sets
abbrev pub common : List Bool → List Bool → List Bool
common a b = squares_that (λ s. is_in a s && is_in b s)

-- the squares of the first that aren't in the second
abbrev pub without : List Bool → List Bool → List Bool
without a b = common a (squares_that (λ s. not (is_in b s)))

-- no square
abbrev pub nowhere : List Bool
nowhere = squares_that (λ s. false)

-- the homes of kings and rooks whose right to castle is held
abbrev pub held_homes : Rights → List Bool
held_homes held = squares_that (λ s. is_held_home held s)

-- the squares of a set, each after a space
abbrev pub set_words : List Bool → List ℕ
set_words set = squares_words (λ s. is_in set s)

-- the men on these squares, or the man on one
abbrev pub men_words : List ℕ → List ℕ
men_words list = cond (length list == 3) (codes " man on") (codes " men on") ++ list

-- FIGURES

-- the square on which a figure is fixed, after a space; nothing if he isn't
abbrev pub fixed_words : Figure → List ℕ
fixed_words f = squares_words (λ s. is_fixed_on s f)

-- where the figure with this number, counted from 0, stands in the diagram, if he does
abbrev pub now_words : Option Figure → List ℕ
now_words None = codes " (fallen)"
now_words (Some f) = codes " (now" ++ fixed_words f ++ codes ")"

-- a figure of a sketch before the diagram's: his square, if he has one alone, and otherwise where he stands in the diagram
abbrev pub figure_words : Sketch → ℕ → Figure → List ℕ
figure_words diagram i f = cond (length (fixed_words f) == 0) (now_words (figure_at diagram i)) (fixed_words f)

-- what an officer who is no bishop is called
abbrev pub officer_noun : Bool → Bool → List ℕ
officer_noun knight rook = cond (knight && rook) (codes "officer") (cond knight (codes "knight") (cond rook (codes "rook") (codes "queen")))

-- what a man is called by his kinds
abbrev pub noun_of : Figure → List ℕ
noun_of f =
    cond (may_be f kind.Pawn) (codes "pawn") (cond (may_be f kind.King) (codes "king") (cond (may_be f kind.Bishop) (codes "bishop") (officer_noun (may_be f kind.Knight) (may_be f kind.Rook))))

-- where a man stands in the diagram, if he does
abbrev pub later_words : Option Figure → List ℕ
later_words None = codes " who fell"
later_words (Some f) = codes " now on" ++ fixed_words f

-- where the figure with this number, counted from 0, stands: on his square, if he has one alone, and otherwise where he does in the diagram
abbrev pub place_words : Sketch → ℕ → Figure → List ℕ
place_words diagram i f = cond (length (fixed_words f) == 0) (later_words (figure_at diagram i)) (codes " on" ++ fixed_words f)

-- what a man is called by his kinds and where he stands, as in `the knight on h2`
abbrev pub called_words : Sketch → ℕ → Option Figure → List ℕ
called_words diagram i None = codes " a man"
called_words diagram i (Some f) = (codes " the " ++ noun_of f) ++ place_words diagram i f

-- the same bools
abbrev pub agree : Bool → Bool → Bool
agree true b = b
agree false b = not b

-- the same if he is a pawn, or if he is none
abbrev pub figure_if : Bool → Sketch → ℕ → Option Figure → List ℕ
figure_if pawns diagram i None = []
figure_if pawns diagram i (Some f) = cond (agree pawns (may_be f kind.Pawn)) (figure_words diagram i f) []

-- the pawns or the officers of the figures with these numbers, counted from 1
abbrev pub figures_words : Bool → Sketch → Sketch → List ℕ → List ℕ
figures_words pawns diagram S numbers = flat_map (λ n. figure_if pawns diagram (n - 1) (figure_at S (n - 1))) numbers
