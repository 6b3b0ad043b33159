-- Trees and their texts.
use Rattle.std.proofs.Common.{◌≡◌, ℕ, suc, ◌≤◌, ◌<◌, ◌==◌, ◌||◌, ◌&&◌, true, not, List, [], ◌∷◌, ◌++◌, length, map, refl, sym, ap, ◌∙◌, subst, arith, nat_lt, nat_le}
use Rattle.std.specs.List.{concat, onto_first}
use Rattle.std.proofs.lemmas.Bool.{and_parts, and_from, cond-false, leb-true, not-true}
use Rattle.std.proofs.lemmas.Bool.Decides.{nat_tests}
use Rattle.board_base.specs.Texts.{unmove_text}
use Rattle.fen_text.specs.Parts.{Free}
use Rattle.fen_text.proofs.PartLemmas.{free_append}
use Rattle.price_text.proofs.PriceTexts.{prices_free}
use Rattle.sketch_text.specs.Heads.{are_files, is_head}
use Rattle.sketch_text.specs.Trees.{of_marks, of_node}
use Rattle.sketch_text.proofs.PlainTexts.{plain_marks, plain_node}
use Rattle.sketch_body.specs.Bodies.{AreTextsOf, Body, Item, SayEach, head_of, items_of, of_line, of_prices}
use Rattle.sketch_body.specs.Texts.{is_item, item_text}
use Rattle.sketch_body.proofs.Closing.{says_is, texts_are}
use Rattle.sketch_body.proofs.Readings.{body_known, body_texts}
use Rattle.cert_text.specs.Tree.{Tree, Forest, rule, back, expand, sketch, none, more, count}
use Rattle.cert_text.specs.Lines.{cut, ended}
use Rattle.cert_text.specs.Certificate.{Lines, body_of, AreBelow, AreKids}
use Rattle.sketch_body.specs.Whole.{is_body}
use Rattle.cert_text.specs.Writable.{has_text, fits_depth, fits, all_fit}
use Rattle.cert_text.specs.NodeLines.{body_text, kid_text}
use Rattle.cert_text.specs.Written.{lines_below, lines_of}
use Rattle.cert_text.specs.declared.node_lines.BodyLine.TheVariants.{Expand}
use Rattle.cert_text.proofs.Frees.{body_free}
use Rattle.cert_text.proofs.SpelledLines.{kid_back, kid_read}
use Rattle.fen_text.proofs.MoveFrees.{unmove_free}

-- a text without a line end, with one after it
pub record IsLine (line : List ℕ) : Type 0 where
  pub text : List ℕ
  pub line_is : line ≡ ended text
  pub free : Free 10 text

abbrev pub AreWhole : Lines → Type 0
AreWhole [] = Unit {0}
AreWhole (line ∷ lines) = IsLine line × AreWhole lines

pub whole_both : (a b : Lines) → AreWhole a → AreWhole b → AreWhole (a ++ b)
whole_both [] b p q = q
whole_both (line ∷ a) b p q = (p.0, whole_both a b p.1 q)

pub cut_line : (text rest : List ℕ) → Free 10 text → cut (ended text ++ rest) ≡ ended text ∷ cut rest
cut_line [] rest free = refl
cut_line (b ∷ text) rest free =
    let parts = and_parts (not (b == 10)) _ free in
    cond-false (b == 10) ((b ∷ []) ∷ cut (ended text ++ rest)) (onto_first b (cut (ended text ++ rest))) (not-true (b == 10) parts.0) ∙ ap (onto_first b) (cut_line text rest parts.1)

-- lines that are put together are cut apart again
pub cut_back : (lines : Lines) → AreWhole lines → cut (concat lines) ≡ lines
cut_back [] whole = refl
cut_back (line ∷ lines) whole =
    let l = whole.0 in
    ap (λ (t : List ℕ). cut (t ++ concat lines)) l.line_is ∙ cut_line l.text (concat lines) l.free ∙ ap (λ (t : List ℕ). t ∷ cut (concat lines)) (sym l.line_is)
    ∙ ap (λ (ls : Lines). line ∷ ls) (cut_back lines whole.1)

item_free : (P : ℕ) (i : Item) → P ≤ 64 → is_item P i ≡ true → Free 10 (item_text i)
item_free P (of_prices p) low known = prices_free p known
item_free P (of_line (of_node x)) low known = (plain_node P x low known).free
item_free P (of_line (of_marks m)) low known = (plain_marks P m low known).free

said_whole : (P : ℕ) (texts : Lines) (items : List Item) → P ≤ 64 → SayEach P texts items → AreWhole (map ended texts)
said_whole P [] [] low said = tt
said_whole P [] (i ∷ items) low said = absurd said
said_whole P (text ∷ texts) [] low said = absurd said
said_whole P (text ∷ texts) (i ∷ items) low said =
    let is = says_is P text i said.0 in
    (record { text = text; line_is = refl; free = subst (Free 10) (sym is.text_is) (item_free P i low is.known) }, said_whole P texts items low said.1)

pub body_head : (b : Body) → is_body b ≡ true → is_head (head_of b) ≡ true
body_head b known = (and_parts (is_head (head_of b)) _ known).0

-- the lines below a node
pub record Below (tree : Tree) (depth : ℕ) : Type 0 where
  pub lines : Lines
  pub are : AreBelow tree depth lines
  pub whole : AreWhole lines

pub record Kids (kids : Forest) (depth : ℕ) : Type 0 where
  pub lines : Lines
  pub are : AreKids kids depth lines
  pub whole : AreWhole lines

pub fits_own : (tree : Tree) (depth : ℕ) → fits depth tree ≡ true → fits_depth depth (body_of tree) ≡ true
fits_own (rule r) depth fit = fit
fits_own (back k) depth fit = fit
fits_own (sketch b) depth fit = body_head b fit
fits_own (expand kids) depth fit = (and_parts (fits_depth depth (Expand (count kids))) (all_fit (suc depth) kids) fit).0

mutual
  -- a tree that the grammar admits has lines
  pub below_back : (tree : Tree) (depth : ℕ) → depth ≤ 255 → fits depth tree ≡ true → Below tree depth
  below_back (rule r) depth low fit = record { lines = []; are = refl; whole = tt }
  below_back (back k) depth low fit = record { lines = []; are = refl; whole = tt }
  below_back (sketch b) depth low fit =
      let t : AreTextsOf (map item_text (items_of b)) b = body_texts b fit in
      let few : length b.prices ≤ 64 = leb-true (length b.prices) 64 (and_parts (nat_le (length b.prices) 64) (are_files 0 b.files) (body_head b fit)).0 in
      record { lines = map ended (map item_text (items_of b)); are = (map item_text (items_of b), refl, t); whole = said_whole (length b.prices) (map item_text (items_of b)) (items_of b) few t.said }
  below_back (expand kids) depth low fit =
      let parts = and_parts (fits_depth depth (Expand (count kids))) (all_fit (suc depth) kids) fit in
      let room = and_parts ((count kids == 0) || nat_lt depth 255) (nat_le (count kids) 999999) parts.0 in
      let k : Kids kids (suc depth) = kids_back kids (suc depth) (λ some. grind (arith, nat_tests)) parts.1 in
      record { lines = k.lines; are = k.are; whole = k.whole }

  kids_back : (kids : Forest) (depth : ℕ) → (0 < count kids → depth ≤ 255) → all_fit depth kids ≡ true → Kids kids depth
  kids_back none depth low fit = record { lines = []; are = refl; whole = tt }
  kids_back (more label tree rest) depth room fit =
      let low : depth ≤ 255 = room (omega arith) in
      let last = and_parts (has_text label && fits depth tree) (all_fit depth rest) fit in
      let first = and_parts (has_text label) (fits depth tree) last.0 in
      let own = fits_own tree depth first.1 in
      let line : List ℕ = ended (kid_text label (body_of tree)) in
      let b : Below tree depth = below_back tree depth low first.1 in
      let k : Kids rest depth = kids_back rest depth (λ some. low) last.1 in
      let free : Free 10 (kid_text label (body_of tree)) = free_append 10 (unmove_text label) (32 ∷ body_text (body_of tree)) (unmove_free 10 label (omega arith)) (body_free depth (body_of tree) low own) in
      record {
        lines = line ∷ (b.lines ++ k.lines);
        are = (line, b.lines, k.lines, refl, kid_back depth label (body_of tree) low first.0 own, b.are, k.are);
        whole = (record { text = kid_text label (body_of tree); line_is = refl; free = free }, whole_both b.lines k.lines b.whole k.whole);
      }

mutual
  -- a tree that has lines is admitted
  pub below_fits : (tree : Tree) (depth : ℕ) (lines : Lines) → fits_depth depth (body_of tree) ≡ true → AreBelow tree depth lines → fits depth tree ≡ true
  below_fits (rule r) depth lines own are = own
  below_fits (back k) depth lines own are = own
  below_fits (sketch b) depth lines own are = body_known are.0 b own are.2
  below_fits (expand kids) depth lines own are = and_from _ _ own (kids_fit kids (suc depth) lines are)

  kids_fit : (kids : Forest) (depth : ℕ) (lines : Lines) → AreKids kids depth lines → all_fit depth kids ≡ true
  kids_fit none depth lines are = refl
  kids_fit (more label tree rest) depth lines are =
      let said = kid_read depth are.0 label (body_of tree) are.4 in
      and_from _ _ (and_from _ _ said.label (below_fits tree depth are.1 said.fits are.5)) (kids_fit rest depth are.2 are.6)

mutual
  -- the lines below a node are the ones that are written of it
  pub below_is : (tree : Tree) (depth : ℕ) (lines : Lines) → AreBelow tree depth lines → lines ≡ lines_below tree
  below_is (rule r) depth lines are = are
  below_is (back k) depth lines are = are
  below_is (sketch b) depth lines are = are.1 ∙ ap (map ended) (texts_are (length b.prices) are.0 (items_of b) are.2.said)
  below_is (expand kids) depth lines are = kids_are kids (suc depth) lines are

  kids_are : (kids : Forest) (depth : ℕ) (lines : Lines) → AreKids kids depth lines → lines ≡ lines_of kids
  kids_are none depth lines are = are
  kids_are (more label tree rest) depth lines are =
      let own : List ℕ = ended (kid_text label (body_of tree)) in
      are.3 ∙ ap (λ (l : List ℕ). l ∷ (are.1 ++ are.2)) (kid_read depth are.0 label (body_of tree) are.4).line_is
      ∙ ap (λ (ls : Lines). own ∷ (ls ++ are.2)) (below_is tree depth are.1 are.5)
      ∙ ap (λ (ls : Lines). own ∷ (lines_below tree ++ ls)) (kids_are rest depth are.2 are.6)
