-- The sentences that tell why no game comes to a sketch: what each says, and its words.
use Rattle.std.specs.Prelude.{ℕ, ◌≡◌, Bool, true, false, List, [], ◌∷◌, ◌++◌, codes, length, Some}
use Rattle.board_base.specs.declared.moves.Move.{Move}
use Rattle.figures.specs.Figures.{Figure, Sketch, figure_at, fixed_squares}
use Rattle.figures.specs.Homes.{may_be_array}
use Rattle.past_sketches.specs.Moments.{FitsGame}
use Rattle.sketch_account.specs.Basis.{IsClosedAt}
use Rattle.sketch_checker.specs.DueNodes.{Due}
use Rattle.sketch_grounds.specs.Frozen.{IsFrozenIn}
use Rattle.sketch_grounds.specs.FrozenSets.{greatest_frozen}
use Rattle.sketch_list.specs.Listed.{earlier}
use Rattle.sketch_proof.specs.Nodes.{IsFirstUnknown, IsLeastAbove}
use Rattle.sketch_proof.specs.Proofs.{AreForced, AtLine, Setting}
use Rattle.sketch_prose.specs.Foreigners.{IsForeignIn}
use Rattle.sketch_text.specs.Marks.{Marks}
use Rattle.sketch_words.specs.Denials.{denied_words}
use Rattle.sketch_words.specs.Crowds.{first_crowded, lacks_homes, why_words}
use Rattle.sketch_words.specs.Phrases.{Spot, foreign_words, fresh_words, heading_words, marked_words, settled_words, stepped_words, unknown_words}
use Rattle.sketch_words.specs.Words.{figures_words, set_words, without}
use Rattle.sketch_words.specs.declared.crowds.Lack.{Lack}
use Rattle.sketch_words.specs.declared.spots.Child.{Child}
use Rattle.sketch_words.specs.declared.spots.Flaw.{Flaw}
use Rattle.sketch_words.specs.declared.spots.Flaw.TheVariants.{Unbalanced, Foreign}

-- A sentence: what is told of a node, the first or one with this number; who never moved; which marks are forced; that there was a last
-- step, and whether there are any; who can't have moved since then, if any are listed; what ends a node; and which of
-- the nodes below it can't have been, for one flaw.
pub data Sentence : Type 0 where
  numbered : Spot → ℕ → Due → Sentence
  unmoved : List Bool → Sketch → Sentence
  marked : Marks → Sketch → Sentence
  stepped : Bool → Sketch → Sketch → ℕ → Sentence
  settled : Sketch → Sketch → ℕ → Sentence
  unknown : ℕ → Sketch → Sentence
  unbalanced : ℕ → Sketch → Sentence
  foreign : ℕ → Sketch → Sentence
  denied : Spot → List Child → List Due → Flaw → Sentence

-- no game in which these rights are held comes to a moment that the sketch fits
abbrev pub FitsNone : Setting → Sketch → Type 0
FitsNone g S = (m : List Move) → FitsGame g.odds m g.held S → ⊥

-- s is a square of men who never moved, and its figure, the first such one, can't stand for the man whom the array has there
abbrev pub IsForeign : Setting → Sketch → ℕ → Type 0
IsForeign g S s = IsForeignIn g.odds S (greatest_frozen g.held S) s

-- at a line of prices the account of the sketch is above 0
abbrev pub Unbalances : Setting → ℕ → Sketch → Type 0
Unbalances g k S = AtLine g k (λ p. IsClosedAt g.odds g.held S p)

-- a figure of T has no home, or too few homes, and is the one who is told
abbrev pub IsTooFew : List Bool → Sketch → Type 0
IsTooFew o T =
    (i : ℕ) × (f : Figure) × (lack : Lack) × (first_crowded o T ≡ Some i) × (figure_at T i ≡ Some f) × (lacks_homes lack o T f ≡ true)

-- the flaw is one of the sketch
abbrev pub IsSo : Setting → Flaw → Sketch → Type 0
IsSo g Unbalanced S = (k : ℕ) × Unbalances g k S
IsSo g (Foreign s) S = IsForeign g S s

-- these are the nodes that are due, in order, and each to whom it is given has this flaw
abbrev pub AreSo : Setting → Flaw → List Child → List Due → Type 0
AreSo g w [] ds = ds ≡ []
AreSo g w (c ∷ cs) [] = ⊥
AreSo g w (c ∷ cs) (d ∷ ds) = (c.label ≡ d.label) × (c.flaw ≡ Some w → IsSo g w d.sketch) × AreSo g w cs ds

-- What a sentence says. No game comes to what was before a step, or to a case. Each man on the greatest frozen set can't have come there
-- while the others stood, or his home it is in a right that is held. The account forces each mark. T can't be the array, since some men of
-- it have too few homes, so there was a step; and so many are listed. T is the least closed sketch above S: who has one square in it can't
-- have moved since the last step. A man is one of whom it isn't known whether he is a knight, a rook or a queen. The account is above 0. A man
-- who never moved isn't the array's. And one of both of what was before some of all steps, or of some of all cases.
abbrev pub Says : Setting → Sentence → Type 0
Says g (numbered at n d) = FitsNone g d.sketch
Says g (unmoved known S) = IsFrozenIn g.held S (greatest_frozen g.held S)
Says g (marked m S) = AreForced g S m
Says g (stepped first S T count) = (may_be_array g.odds T ≡ false) × IsTooFew g.odds T × (count ≡ length (earlier g.odds g.exact T))
Says g (settled S T count) = IsLeastAbove g.held g.exact S T
Says g (unknown s S) = (i : ℕ) × IsFirstUnknown S s i
Says g (unbalanced k S) = Unbalances g k S
Says g (foreign s S) = IsForeign g S s
Says g (denied at cs ds w) = AreSo g w cs ds

-- the words of a sentence; the diagram's sketch tells where men stand now
abbrev pub words_of : Setting → Sketch → Sentence → List ℕ
words_of g diagram (numbered at n d) = heading_words at n d.label
words_of g diagram (unmoved known S) = fresh_words g.held (without (greatest_frozen g.held S) known)
words_of g diagram (marked m S) = marked_words (figures_words false diagram S m.figures) (figures_words true diagram S m.figures)
words_of g diagram (stepped first S T count) = stepped_words first g.exact (why_words g.odds diagram S T (first_crowded g.odds T)) count
words_of g diagram (settled S T count) = settled_words (set_words (without (fixed_squares T) (greatest_frozen g.held S))) count
words_of g diagram (unknown s S) = unknown_words s
words_of g diagram (unbalanced k S) = codes " But the captures by pawns don't balance."
words_of g diagram (foreign s S) = foreign_words g.odds s
words_of g diagram (denied at cs ds w) = denied_words g.odds at cs w

-- each of the sentences holds
abbrev pub AllSay : Setting → List Sentence → Type 0
AllSay g [] = Unit {0}
AllSay g (s ∷ ss) = Says g s × AllSay g ss

-- the words of sentences, one after another
abbrev pub all_words : Setting → Sketch → List Sentence → List ℕ
all_words g diagram [] = []
all_words g diagram (s ∷ ss) = words_of g diagram s ++ all_words g diagram ss
