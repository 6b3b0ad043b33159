-- What a reader may rely on.
use Rattle.std.specs.Prelude.{ℕ, ◌≡◌, ◌<◌, ◌+◌, ◌-◌, ◌++◌, Bool, true, false, ◌&&◌, ◌||◌, ◌⊎◌, List, [], ◌∷◌, Option, Some, None, nat_lt, ◌==◌, length, slice_get, Any, IsTrue}
use Rattle.std.specs.List.{All}
use Rattle.board_base.specs.Board.{Places, at}
use Rattle.board_base.specs.declared.unmoves.Unmove.{Unmove}
use Rattle.proof_story.specs.Rendering.{castles_from, number_at, story_text}
use Rattle.proof_story.specs.Story.{below, looked_up, reference, walk}
use Rattle.proof_story.specs.declared.stories.Paragraph.{Paragraph}
use Rattle.proof_story.specs.declared.stories.Point.{Point}
use Rattle.proof_story.specs.declared.stories.Way.{Way}

-- whoever looks the node up finds what is said of it
abbrev pub IsFound : List Paragraph → Point → Type 0
IsFound story p = looked_up story p.path ≡ Some p.body

-- on the board of this paragraph the same man made the move that the retraction takes back
abbrev pub IsSameMan : List Paragraph → Places → ℕ → Unmove → Type 0
IsSameMan story board i u = (p : Paragraph) → slice_get story i ≡ Some p → at p.whence.board u.mv.to ≡ at board u.mv.to

-- so it is with the last retraction that leads to the node, in the paragraph that tells it
abbrev pub IsNamed : List Paragraph → Point → Type 0
IsNamed story p = (i : ℕ) (u : Unmove) → walk story 0 p.path ≡ Some i → slice_get p.path (length p.path - 1) ≡ Some u → IsSameMan story p.whence.board i u

-- the node is told
pub record IsTold (story : List Paragraph) (p : Point) : Type 0 where
  pub found : IsFound story p
  pub named : IsNamed story p

-- each node is
abbrev pub AnswersAll : List Paragraph → List Point → Type 0
AnswersAll story points = All (IsTold story) points

-- some node is told by this paragraph
abbrev pub IsNeeded : List Paragraph → List Point → ℕ → Type 0
IsNeeded story points i = Any (λ (p : Point). walk story 0 p.path ≡ Some i) points

-- each paragraph tells one of the nodes, so nothing else is told
abbrev pub TellsNothingElse : List Paragraph → List Point → Type 0
TellsNothingElse story points = (i : ℕ) → i < length story → IsNeeded story points i

-- numbers in the order of a book: a part before each of its own parts, and these before the next part
abbrev pub comes_before : List ℕ → List ℕ → Bool
comes_before [] [] = false
comes_before [] (n ∷ ns) = true
comes_before (m ∷ ms) [] = false
comes_before (m ∷ ms) (n ∷ ns) = nat_lt m n || ((m == n) && comes_before ms ns)

-- this paragraph of the story has the number of that part, counted from 0, of one with this number
abbrev pub IsPartAt : List Paragraph → List ℕ → ℕ → ℕ → Type 0
IsPartAt story whole j place = (j < length story) × (number_at story j ≡ whole ++ (place + 1) ∷ [])

-- the paragraphs below this one have its number and, behind it, their place there, from 1 on
abbrev pub IsNumbered : List Paragraph → ℕ → Type 0
IsNumbered story i = (k j : ℕ) → slice_get (below story i) k ≡ Some j → IsPartAt story (number_at story i) j k

-- what this paragraph refers to stands before it
abbrev pub RefersBack : List Paragraph → ℕ → Type 0
RefersBack story i = (j : ℕ) → reference story i ≡ Some j → j < i

-- it is one move, or none of them is a castling
abbrev pub IsUnmixed : Places → Way → Type 0
IsUnmixed board w = (length w.origins.items ≡ 1) ⊎ All (λ s. castles_from board w s ≡ false) w.origins.items

-- no castling is told with another move, as if that were one
abbrev pub TellsCastlings : Paragraph → Type 0
TellsCastlings p = All (λ b. All (IsUnmixed p.whence.board) b.ways.items) p.bundles.items

-- the paragraphs stand in the order of their numbers, each below another is numbered by its place there, references lead back, and what
-- is called a castling is one
pub record IsReadable (story : List Paragraph) : Type 0 where
  pub ordered : (i : ℕ) → i + 1 < length story → IsTrue (comes_before (number_at story i) (number_at story (i + 1)))
  pub numbered : (i : ℕ) → i < length story → IsNumbered story i
  pub back : (i : ℕ) → i < length story → RefersBack story i
  pub castlings : All TellsCastlings story

-- the story can be read, and tells each of the nodes, and nothing else
pub record IsStoryOf (points : List Point) (story : List Paragraph) : Type 0 where
  pub readable : IsReadable story
  pub answers : AnswersAll story points
  pub alone : TellsNothingElse story points

-- a text that tells the nodes, each by the words that are said of it
abbrev pub TellsPoints : List Point → List ℕ → Type 0
TellsPoints points text = (story : List Paragraph) × IsStoryOf points story × (text ≡ story_text story)
