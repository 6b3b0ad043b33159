-- The tree of retractions of a query, to a depth, as a text.
use Rattle.std.specs.Prelude.{ℕ, zero, suc, ◌+◌, ◌*◌, ◌≡◌, ◌≤◌, ◌<◌, List, [], ◌∷◌, ◌++◌, length, replicate, codes}
use Rattle.std.specs.Fmt.{decimal}
use Rattle.board_base.specs.Texts.{unmove_text}
use Rattle.board_base.specs.declared.unmoves.Unmove.{Unmove}
use Rattle.query_base.specs.Asked.{Asked}
use Rattle.query_base.specs.Reach.{Reaches}
use Rattle.query_base.specs.Ancestors.{GoesBack, IsCovered}
use Rattle.static_rules.specs.Supports.{IsClosed}
use Rattle.unmove_gen.specs.Listed.{unmoves}
use Rattle.unmove_gen.specs.Predecessor.{predecessor}
use Rattle.tree_browser.specs.declared.notes.Note.{Note}
use Rattle.tree_browser.specs.declared.notes.Note.TheVariants.{Closed, Back, Array, End, Expand}

-- What is said of a node: that some rule line supports its query; else how far above its nearest ancestor stands that covers it;
-- else that the game of no moves reaches it; else that it stands at the last depth; else how many unmoves it has.
abbrev pub IsNote : Note → Asked → List Asked → ℕ → Type 0
IsNote Closed q ancestors left = IsClosed q
IsNote (Back k) q ancestors left = (IsClosed q → ⊥) × GoesBack q ancestors k
IsNote Array q ancestors left = (IsClosed q → ⊥) × (IsCovered q ancestors → ⊥) × Reaches [] q
IsNote End q ancestors left = (IsClosed q → ⊥) × (IsCovered q ancestors → ⊥) × (Reaches [] q → ⊥) × (left ≡ 0)
IsNote (Expand n) q ancestors left =
    (IsClosed q → ⊥) × (IsCovered q ancestors → ⊥) × (Reaches [] q → ⊥) × (1 ≤ left) × (n ≡ length (unmoves q))

-- the words of a note
abbrev pub note_text : Note → List ℕ
note_text Closed = codes "closed"
note_text (Back k) = codes "back " ++ decimal k
note_text Array = codes "array"
note_text End = codes "end"
note_text (Expand n) = codes "expand " ++ decimal n

-- a line: two spaces for each level, the label, a space, the note, and the line end
unfoldable pub line : ℕ → List ℕ → Note → List ℕ
line level label note = replicate (2 * level) 32 ++ label ++ 32 ∷ note_text note ++ 10 ∷ []

-- the node's children follow it
abbrev pub Expands : Note → Type 0 → Type 0 → Type 0
Expands (Expand n) P Q = P
Expands _ P Q = Q

-- a text of n lines: the texts that these unmoves have by R, one after another
abbrev pub Each : (Unmove → ℕ → List ℕ → Type 0) → List Unmove → ℕ → List ℕ → Type 0
Each R [] n text = (n ≡ 0) × (text ≡ [])
Each R (u ∷ us) n text = (a : ℕ) × (b : ℕ) × (first : List ℕ) × (rest : List ℕ) × R u a first × Each R us b rest × (n ≡ a + b) × (text ≡ first ++ rest)

-- The text of n lines is that of the query's tree, with so many levels left and this label, below these ancestors, the parent
-- first. The node's line comes first, then the trees of its predecessors in the order of its unmoves, one level in.
abbrev pub IsTree : ℕ → Asked → List Asked → List ℕ → ℕ → List ℕ → Type 0
IsTree zero q ancestors label n text =
    (note : Note) × IsNote note q ancestors 0 × (n ≡ 1) × (text ≡ line (length ancestors) label note)
IsTree (suc left) q ancestors label n text =
    (note : Note) × (m : ℕ) × (rest : List ℕ) × IsNote note q ancestors (suc left) × Expands note (Each (λ u. IsTree left (predecessor q u) (q ∷ ancestors) (unmove_text u)) (unmoves q) m rest) ((m ≡ 0) × (rest ≡ [])) × (n ≡ suc m) × (text ≡ line (length ancestors) label note ++ rest)

-- the text of n lines is that of the query's tree to this depth
abbrev pub IsTreeText : Asked → ℕ → ℕ → List ℕ → Type 0
IsTreeText q depth n text = IsTree depth q [] (codes "root") n text

-- the query's tree to this depth has a text of more lines than so many
abbrev pub HasMoreLines : Asked → ℕ → ℕ → Type 0
HasMoreLines q depth limit = (n : ℕ) × (text : List ℕ) × IsTreeText q depth n text × (limit < n)
