-- Children one after another, how many lines a tree takes, and that its sketches have texts.
use Rattle.std.proofs.Common.{◌≡◌, ℕ, suc, ◌+◌, ◌&&◌, true, List, [], ◌∷◌, map, length, refl, ap, ◌∙◌, arith, length-append}
use Rattle.std.proofs.lemmas.Bool.{and_parts}
use Rattle.std.proofs.lemmas.List.{length-map}
use Rattle.std.specs.Prelude.{Some}
use Rattle.board_base.specs.declared.unmoves.Unmove.{Unmove}
use Rattle.capture_prices.specs.Prices.{PriceList}
use Rattle.sketch_text.specs.Trees.{Line}
use Rattle.sketch_body.specs.Bodies.{Body, Item, SayEach, items_of, of_line, of_prices}
use Rattle.cert_text.specs.Tree.{Tree, Forest, rule, back, expand, sketch, none, more, count, kid_at}
use Rattle.cert_text.specs.Sizes.{rest_of}
use Rattle.cert_text.specs.Lines.{ended}
use Rattle.cert_text.specs.Certificate.{Lines, AreBelow, AreKids}
use Rattle.cert_text.specs.Writable.{all_fit, fits, fits_depth, has_text}
use Rattle.cert_text.specs.declared.node_lines.BodyLine.TheVariants.{Expand}
use Rattle.cert_text.proofs.Forests.{rest-more}
use Rattle.cert_checker.specs.Walking.{HasSketches, HaveSketches, lines_in, lines_in_all}

-- the child at a place, and the children after it
pub rest-next : (f : Forest) (i : ℕ) (l : Unmove) (t : Tree) → kid_at f i ≡ Some (l, t) → rest_of f i ≡ more l t (rest_of f (i + 1))
rest-next f i l t here =
    let next : suc i ≡ i + 1 = omega arith in
    rest-more f i l t here ∙ ap (λ (j : ℕ). more l t (rest_of f j)) next

each-said : (P : ℕ) (texts : Lines) (items : List Item) → SayEach P texts items → length texts ≡ length items
each-said P [] [] said = refl
each-said P [] (i ∷ items) said = absurd said
each-said P (text ∷ texts) [] said = absurd said
each-said P (text ∷ texts) (i ∷ items) said = ap suc (each-said P texts items said.1)

sketch-lines : (b : Body) → length (items_of b) ≡ length b.prices + length b.lines
sketch-lines b = omega (arith, length-append (map (λ (p : PriceList). of_prices p) b.prices) (map (λ (l : Line). of_line l) b.lines), length-map b.prices (λ (p : PriceList). of_prices p), length-map b.lines (λ (l : Line). of_line l))

mutual
  -- a tree has its own line, and the lines below it
  pub tree-lines : (t : Tree) (depth : ℕ) (lines : Lines) → AreBelow t depth lines → lines_in t ≡ length lines + 1
  tree-lines (rule r) depth lines below = omega (arith, ap length below)
  tree-lines (back k) depth lines below = omega (arith, ap length below)
  tree-lines (expand kids) depth lines below = omega (arith, kids-lines kids (suc depth) lines below)
  tree-lines (sketch b) depth lines (texts, are, said) = omega (arith, ap length are, length-map texts ended, each-said (length b.prices) texts (items_of b) said.said, sketch-lines b)

  kids-lines : (f : Forest) (depth : ℕ) (lines : Lines) → AreKids f depth lines → lines_in_all f ≡ length lines
  kids-lines none depth lines kids = omega (arith, ap length kids)
  kids-lines (more label t rest) depth lines kids =
      omega (arith, ap length kids.3, length-append kids.1 kids.2, tree-lines t depth kids.1 kids.5, kids-lines rest depth kids.2 kids.6)

mutual
  -- what the grammar admits has sketches with texts
  pub sketches-fit : (t : Tree) (depth : ℕ) → fits depth t ≡ true → HasSketches t
  sketches-fit (rule r) depth fit = tt
  sketches-fit (back k) depth fit = tt
  sketches-fit (expand kids) depth fit = kids-fit kids (suc depth) (and_parts (fits_depth depth (Expand (count kids))) (all_fit (suc depth) kids) fit).1
  sketches-fit (sketch b) depth fit = fit

  kids-fit : (f : Forest) (depth : ℕ) → all_fit depth f ≡ true → HaveSketches f
  kids-fit none depth fit = tt
  kids-fit (more label t rest) depth fit =
      let both = and_parts (has_text label && fits depth t) (all_fit depth rest) fit in
      (sketches-fit t depth (and_parts (has_text label) (fits depth t) both.0).1, kids-fit rest depth both.1)
