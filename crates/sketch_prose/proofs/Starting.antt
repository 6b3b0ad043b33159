-- The first node of all.
use Rattle.std.proofs.Common.{◌≡◌, ℕ, List, [], ◌∷◌, ◌++◌, append-nil, refl, ap, sym, ◌∙◌, subst}
use Rattle.figures.specs.Figures.{Sketch, sketch_of}
use Rattle.query_base.specs.Asked.{Asked}
use Rattle.sketch_body.specs.Bodies.{Body}
use Rattle.sketch_checker.proofs.Going.{begins-able}
use Rattle.sketch_checker.proofs.Rooted.{root-begins}
use Rattle.sketch_checker.specs.DueNodes.{first_due}
use Rattle.sketch_checker.specs.Supports.{BodySupports}
use Rattle.sketch_proof.proofs.Whole.{board-whole}
use Rattle.sketch_proof.specs.Proofs.{Holds, Setting}
use Rattle.sketch_prose.specs.Bases.{AreKnown}
use Rattle.sketch_prose.specs.Levels.{AreLeft, IsFit, Level, TellsAll, ToldWhole, first_level}
use Rattle.sketch_prose.specs.Sentences.{Sentence}
use Rattle.sketch_prose.specs.Telling.{AddsSketch, TellsOne, exact_files, first_spot, setting_by}
use Rattle.sketch_text.specs.Trees.{Line, Node, Nodes, lines_of, more, none}
use Rattle.sketch_text.specs.declared.labels.Label.TheVariants.{Now}

pub root-fit : (q : Asked) (b : Body) → BodySupports q (exact_files b.files) b.prices b.lines → IsFit q.odds (sketch_of q.board)
root-fit q b (tree, written, it) = record { able = begins-able q.odds (sketch_of q.board) (root-begins q.odds q.board it.asked.root); whole = board-whole q.board }

first-left : (g : Setting) (S : Sketch) (tree : Node) (lines : List Line) → lines_of tree ≡ lines → Holds tree g Now S → IsFit g.odds S → AreLeft g (first_level S ∷ []) (more tree none ∷ []) lines
first-left g S tree lines written holds fit =
    ([], refl, (holds, tt), (fit, tt), sym written ∙ sym (append-nil (lines_of tree)) ∙ sym (append-nil (lines_of tree ++ [])), refl)

one-told : (g : Setting) (S : Sketch) (tree : Node) (said : List Sentence) → TellsAll g (first_level S ∷ []) (more tree none ∷ []) said → TellsOne tree g first_spot 1 (first_due S) said
one-told g S tree said (a, b, e, (own, rest, e1, one, none_), nothing) =
    subst (λ (l : List Sentence). TellsOne tree g first_spot 1 (first_due S) l)
    (sym (e ∙ ap (λ (l : List Sentence). a ++ l) nothing ∙ append-nil a ∙ e1 ∙ ap (λ (l : List Sentence). own ++ l) none_ ∙ append-nil own)) one

-- the nodes were told with these lines and levels, from the sketch of the board
pub sketch-told : (q : Asked) (b : Body) (g : Setting) (D : Sketch) (vs : List Level) (lines : List Line) (o r : List ℕ) → BodySupports q (exact_files b.files) b.prices b.lines → g ≡ setting_by q b → D ≡ sketch_of q.board → vs ≡ first_level D ∷ [] → lines ≡ b.lines → (AreKnown g.prices → (fs : List Nodes) → AreLeft g vs fs lines → ToldWhole g D vs fs o r) → AddsSketch q b o r
sketch-told q b g D vs lines o r (tree, written, it) setting diagram levels lines_are told =
    let S : Sketch = sketch_of q.board in
    let start : vs ≡ first_level S ∷ [] = levels ∙ ap (λ (T : Sketch). first_level T ∷ []) diagram in
    let left : AreLeft (setting_by q b) (first_level S ∷ []) (more tree none ∷ []) lines = first-left (setting_by q b) S tree lines (written ∙ sym lines_are) it.holds (root-fit q b (tree, written, it)) in
    let left_ : AreLeft g vs (more tree none ∷ []) lines =
    subst (λ (l : List Level). AreLeft g l (more tree none ∷ []) lines) (sym start) (subst (λ (h : Setting). AreLeft h (first_level S ∷ []) (more tree none ∷ []) lines) (sym setting) left) in
    let known : AreKnown g.prices = subst (λ (h : Setting). AreKnown h.prices) (sym setting) it.asked.known in
    let whole : ToldWhole (setting_by q b) S (first_level S ∷ []) (more tree none ∷ []) o r =
    subst (λ (h : Setting). ToldWhole h S (first_level S ∷ []) (more tree none ∷ []) o r) setting
    (subst (λ (l : List Level). ToldWhole g S l (more tree none ∷ []) o r) start (subst (λ (T : Sketch). ToldWhole g T vs (more tree none ∷ []) o r) diagram (told known (more tree none ∷ []) left_))) in
    (tree, whole.said, written, one-told (setting_by q b) S tree whole.said whole.tells, (whole.so, whole.text))
