-- What the walk over the lines of a sketch comes to, as that of a tree of a certificate.
use Rattle.std.proofs.Common.{◌≡◌, ℕ, ◌+◌, ◌<◌, ◌≤◌, ◌&&◌, Bool, true, inl, inr, nat_le, List, [], ◌∷◌, ◌++◌, append_assoc, get_or, length, map, take, refl, sym, ap, ◌∙◌, subst, arith}
use Rattle.std.proofs.lemmas.Bool.{and_parts, leb-true}
use Rattle.std.specs.Prelude.{IsTrue, None, Option}
use Rattle.std.specs.List.{Contains, list_all}
use Rattle.capture_prices.specs.Prices.{PriceList, are_prices}
use Rattle.board_base.specs.Board.{Places}
use Rattle.board_base.specs.Rights.{Rights}
use Rattle.board_base.specs.declared.men.Colour.TheVariants.{White, Black}
use Rattle.query_base.specs.Asked.{Asked}
use Rattle.past_sketches.specs.Figures.{Sketch, sketch_of}
use Rattle.general_lemmas.proofs.Lists.{contains-cases, contains-none}
use Rattle.general_lemmas.proofs.Splits.{up_to}
use Rattle.sketch_text.specs.Trees.{Line, Node, lines_of}
use Rattle.sketch_text.specs.Heads.{are_files, is_head}
use Rattle.sketch_body.specs.Bodies.{AreOfTree, Body, Item, head_of, items_of, of_line, of_prices}
use Rattle.sketch_body.specs.Texts.{is_item}
use Rattle.sketch_body.specs.Whole.{first_due as prices_first, is_body, runs_out}
use Rattle.sketch_body.proofs.Readings.{body_texts}
use Rattle.sketch_checker.specs.Proofs.{Setting}
use Rattle.sketch_checker.specs.DueNodes.{first_due}
use Rattle.sketch_checker.specs.LineWalk.{ComesTo, Walking as SketchWalking, WalksOn, begun, going, stopped}
use Rattle.sketch_checker.specs.Roots.{IsRoot}
use Rattle.sketch_checker.specs.Supports.{MayAsk, setting_of}
use Rattle.sketch_checker.specs.Walks.{Frame, Opened}
use Rattle.sketch_checker.specs.TreeWalk.{Walked as SketchWalked, Walks as WalksSketchTree, Wrong}
use Rattle.sketch_checker.specs.TreeWalk as sketches
use Rattle.sketch_checker.proofs.LinesWalked.{tree-walk}
use Rattle.sketch_checker.proofs.Rooted.{root-begins}
use Rattle.sketch_checker.proofs.Sides.{begun-low, both-sides, few-told}
use Rattle.cert_text.specs.Tree.{sketch}
use Rattle.cert_checker.specs.Sketches.{files_of, why_of}
use Rattle.cert_checker.specs.Walk.{Walks, fault_at, next_line, unsupported}
use Rattle.cert_checker.specs.declared.refusals.Why.{Why}
use Rattle.cert_checker.specs.declared.refusals.Why.TheVariants as why
use Rattle.cert_checker.specs.SketchLines.{AreDue}
use Rattle.cert_checker.proofs.SketchDue.{body-due}
use Rattle.cert_checker.proofs.SketchNumbers.{node-count}

-- the lines are those of a tree
pub body-tree : (b : Body) → is_body b ≡ true → AreOfTree b.lines
body-tree b known = let t = body_texts b known in t.tree

all-prices : (P : ℕ) (ps : List PriceList) (rest : List Item) → list_all (is_item P) (map (λ p. of_prices p) ps ++ rest) ≡ true → (p : PriceList) → Contains ps p → IsTrue (are_prices p)
all-prices P [] rest known p there = absurd (contains-none p there)
all-prices P (q ∷ ps) rest known p there =
    let parts = and_parts (are_prices q) (list_all (is_item P) (map (λ p. of_prices p) ps ++ rest)) known in
    elim (contains-cases q ps p there) [
      | inl same ↦ subst (λ (r : PriceList). are_prices r ≡ true) same parts.0
      | inr later ↦ all-prices P ps rest parts.1 p later
    ]

-- each line of prices is one
pub prices-known : (b : Body) → is_body b ≡ true → (p : PriceList) → Contains b.prices p → IsTrue (are_prices p)
prices-known b known =
    let P : ℕ = length b.prices in
    let rest = (and_parts (is_head (head_of b)) (list_all (is_item P) (items_of b) && runs_out (prices_first P) (items_of b)) known).1 in
    all-prices P b.prices (map (λ l. of_line l) b.lines) (and_parts (list_all (is_item P) (items_of b)) (runs_out (prices_first P) (items_of b)) rest).0

pub few-prices : (b : Body) → is_body b ≡ true → length b.prices ≤ 64
few-prices b known =
    let P : ℕ = length b.prices in
    let head = (and_parts (is_head (head_of b)) (list_all (is_item P) (items_of b) && runs_out (prices_first P) (items_of b)) known).0 in
    leb-true P 64 (and_parts (nat_le P 64) (are_files 0 b.files) head).0

-- no more figures than a sketch can hold
pub few-men : (o : List Bool) (board : Places) → IsRoot o board → length (sketch_of board) ≤ 32
few-men o board root =
    let S : Sketch = sketch_of board in
    let can = root-begins o board root in
    omega (arith, both-sides S, few-told o S White can.white, few-told o S Black can.black, begun-low o White, begun-low o Black)

-- one more line of prices
pub prices-next : (g h k : Setting) (ps all : List PriceList) (i : ℕ) (x : PriceList) → i < length all → x ≡ get_or all i x → h ≡ record g { prices = ps ++ take i all } → k ≡ record h { prices = h.prices ++ x ∷ [] } → k ≡ record g { prices = ps ++ take (i + 1) all }
prices-next g h k ps all i x inside here before after =
    after ∙ ap (λ (f : Setting). record f { prices = f.prices ++ x ∷ [] }) before
    ∙ ap (λ (l : List PriceList). record g { prices = l }) (append_assoc ps (take i all) (x ∷ []) ∙ ap (λ (l : List PriceList). ps ++ l) (sym (up_to all i x inside here)))

-- where the walk over the lines stops
stop-comes : (walked : SketchWalked) (m : ℕ) (w : Wrong) → ComesTo walked (stopped m w) → walked ≡ sketches.fault_at m w
stop-comes (sketches.fault_at n v) m w e = cc
stop-comes (sketches.next_line n) m w e = absurd cc

end-comes : (x : Node) (g : Setting) (n m : ℕ) (walked : SketchWalked) (S : Sketch) → m ≡ n + length (lines_of x) → WalksSketchTree x g (first_due S) n walked → ComesTo walked (going None []) → WalksSketchTree x g (first_due S) n (sketches.next_line m)
end-comes x g n m (sketches.fault_at k v) S e walks comes = absurd cc
end-comes x g n m (sketches.next_line k) S e walks comes =
    subst (λ (j : ℕ). WalksSketchTree x g (first_due S) n (sketches.next_line j)) (node-count x g (first_due S) n k walks ∙ sym e) walks

module _ (b : Body) (q : Asked) (ancestors : List Asked) (n : ℕ) (known : is_body b ≡ true) where
  abbrev place : ℕ
  place = n + 1 + length b.prices

  -- sketches may not be asked about the board
  pub none-asked : (IsRoot q.odds q.board → ⊥) → Walks (sketch b) q ancestors n (fault_at place (unsupported why.Rule))
  none-asked no_root =
      let t = body-tree b known in
      (sketches.fault_at place sketches.unsupported, (t.tree, t.written, inl (λ asked. no_root asked.root, refl)), refl)

  module _ (root : IsRoot q.odds q.board) where
    asked : MayAsk q b.prices
    asked = record { root = root; known = prices-known b known }

    over-tree : (last : SketchWalking) → WalksOn (setting_of q (files_of b.files) b.prices) (begun (sketch_of q.board)) place b.lines last → WalksOn (setting_of q (files_of b.files) b.prices) (begun (sketch_of q.board)) place (lines_of (body-tree b known).tree) last
    over-tree last walks = let t = body-tree b known in subst (λ (l : List Line). WalksOn (setting_of q (files_of b.files) b.prices) (begun (sketch_of q.board)) place l last) (sym t.written) walks

    -- the walk over all lines is at its end
    pub ended-walks : (m : ℕ) → m ≡ place + length b.lines → WalksOn (setting_of q (files_of b.files) b.prices) (begun (sketch_of q.board)) place b.lines (going None []) → Walks (sketch b) q ancestors n (next_line m)
    ended-walks m e walks =
        let t = body-tree b known in
        let g : Setting = setting_of q (files_of b.files) b.prices in
        let it = tree-walk t.tree g (sketch_of q.board) place (going None []) (over-tree (going None []) walks) in
        let size : m ≡ place + length (lines_of t.tree) = e ∙ ap (λ (l : List Line). place + length l) (sym t.written) in
        (sketches.next_line m, (t.tree, t.written, inr (asked, end-comes t.tree g place m it.0 (sketch_of q.board) size it.1 it.2)), refl)

    -- it has met a fault
    pub stopped-walks : (m : ℕ) (w : Wrong) (y : Why) → y ≡ why_of w → WalksOn (setting_of q (files_of b.files) b.prices) (begun (sketch_of q.board)) place b.lines (stopped m w) → Walks (sketch b) q ancestors n (fault_at m (unsupported y))
    stopped-walks m w y e walks =
        let t = body-tree b known in
        let g : Setting = setting_of q (files_of b.files) b.prices in
        let it = tree-walk t.tree g (sketch_of q.board) place (stopped m w) (over-tree (stopped m w) walks) in
        let fault = subst (λ (k : SketchWalked). WalksSketchTree t.tree g (first_due (sketch_of q.board)) place k) (stop-comes it.0 m w it.2) it.1 in
        (sketches.fault_at m w, (t.tree, t.written, inr (asked, fault)), ap (λ (v : Why). fault_at m (unsupported v)) e)

-- AS FUNCTIONS HAVE IT

-- what the walk rests on
pub set-up : (q : Asked) (b : Body) (odds : List Bool) (held : Rights) (exact : List Bool) (files : List ℕ) (ps : List PriceList) (g h k : Setting) → odds ≡ q.odds → held ≡ q.held → exact ≡ files_of files → files ≡ b.files → ps ≡ b.prices
    → g ≡ record { odds = odds; held = held; exact = exact; prices = [] } → h ≡ record g { prices = g.prices ++ ps } → k ≡ h → k ≡ setting_of q (files_of b.files) b.prices
set-up q b odds held exact files ps g h k same-odds same-held same-exact same-files same-prices e f i =
    i ∙ f ∙ ap (λ (s : Setting). record s { prices = s.prices ++ ps }) e
    ∙ ap (λ (o : List Bool). record { odds = o; held = held; exact = exact; prices = ps }) same-odds
    ∙ ap (λ (r : Rights). record { odds = q.odds; held = r; exact = exact; prices = ps }) same-held
    ∙ ap (λ (x : List Bool). record { odds = q.odds; held = q.held; exact = x; prices = ps }) (same-exact ∙ ap files_of same-files)
    ∙ ap (λ (l : List PriceList). record { odds = q.odds; held = q.held; exact = files_of b.files; prices = l }) same-prices

-- all lines are due, where the walk has begun
pub begun-due : (b : Body) (S : Sketch) (o : Option Opened) (fs : List Frame) (lines : List Line) → is_body b ≡ true → going o fs ≡ begun S → lines ≡ b.lines → AreDue o fs lines
begun-due b S o fs lines known first same =
    let none : o ≡ None = cc in
    let one : fs ≡ record { line = 0; announced = 1; due = first_due S ∷ [] } ∷ [] = cc in
    subst (λ (x : Option Opened). AreDue x fs lines) (sym none) (
    subst (λ (l : List Frame). AreDue None l lines) (sym one) (
    subst (λ (l : List Line). AreDue None (record { line = 0; announced = 1; due = first_due S ∷ [] } ∷ []) l) (sym same) (body-due b S known)))

-- the walk that was made
pub same-walk : (g k : Setting) (w v : SketchWalking) (first n : ℕ) (lines all : List Line) (last : SketchWalking) → k ≡ g → v ≡ w → first ≡ n → lines ≡ all → WalksOn k v first lines last → WalksOn g w n all last
same-walk g k w v first n lines all last setting start place same walks =
    subst (λ (s : Setting). WalksOn s w n all last) setting (
    subst (λ (x : SketchWalking). WalksOn k x n all last) start (
    subst (λ (j : ℕ). WalksOn k v j all last) place (
    subst (λ (l : List Line). WalksOn k v first l last) same walks)))
