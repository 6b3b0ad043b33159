-- Inner: no public clause cites this file.
-- Trees as lists, from which they can be had back: by this code a proof tells two of them apart.
use Rattle.std.specs.Prelude.{ℕ, ◌+◌, ◌≡◌, ◌⊎◌, List, [], ◌∷◌, refl}
use Rattle.std.specs.Coded.{Coded, code_by, coded×, coded⊎, coded_list, coded_ℕ}
use Rattle.std.proofs.Common.{zero, suc, ap, ◌∙◌, inl, inr, arith}
use Rattle.board_base.specs.declared.unmoves.Unmove.{Unmove}
use Rattle.board_base.specs.contracts.unmoves.Unmove as unmoves
use Rattle.cert_text.specs.declared.reasons.Reason.{Reason}
use Rattle.cert_text.specs.contracts.reasons.Reason as reasons
use Rattle.capture_prices.specs.Prices.{PriceList}
use Rattle.capture_prices.specs.contracts.prices.Prices as prices
use Rattle.sketch_text.specs.Marks.{Marks}
use Rattle.sketch_text.specs.Trees.{Line, of_marks, of_node}
use Rattle.sketch_text.specs.contracts.nodes.SketchNode as nodes
use Rattle.sketch_text.specs.declared.nodes.SketchNode.{SketchNode}
use Rattle.sketch_body.specs.Bodies.{Body}
use Rattle.cert_text.specs.Tree.{Tree, Forest, rule, back, expand, sketch, none, more}
use Rattle.cert_text.specs.Sizes.{size, size_all}

-- 0 for a list, or one more than a number of steps; a reason; a label; a sketch
abbrev pub Token : Type 0
Token = ℕ ⊎ (Reason ⊎ (Unmove ⊎ Body))

-- sketches as lists

abbrev marks_code : Coded Marks
marks_code = code_by (ℕ × List ℕ) (coded× coded_ℕ (coded_list coded_ℕ)) (λ m. (m.by, m.figures)) (λ p. record { by = p.0; figures = p.1 }) (λ _. refl)

abbrev parts_of : Line → SketchNode ⊎ Marks
parts_of (of_node x) = inl x
parts_of (of_marks m) = inr m

abbrev line_from : SketchNode ⊎ Marks → Line
line_from (inl x) = of_node x
line_from (inr m) = of_marks m

pub line_from-parts_of : (l : Line) → line_from (parts_of l) ≡ l
line_from-parts_of (of_node x) = refl
line_from-parts_of (of_marks m) = refl

abbrev line_code : Coded Line
line_code = code_by (SketchNode ⊎ Marks) (coded⊎ nodes.the_row.coded marks_code) parts_of line_from line_from-parts_of

abbrev body_code : Coded Body
body_code =
    code_by (List ℕ × (List PriceList × List Line)) (coded× (coded_list coded_ℕ) (coded× (coded_list prices.the_row.coded) (coded_list line_code))) (λ b. (b.files, (b.prices, b.lines))) (λ p. record { files = p.0; prices = p.1.0; lines = p.1.1 }) (λ _. refl)

-- a tree, in front of a list
abbrev mutual
  pub put : Tree → List Token → List Token
  put (rule r) xs = inr (inl r) ∷ xs
  put (back k) xs = inl (suc k) ∷ xs
  put (expand kids) xs = inl 0 ∷ put_all kids xs
  put (sketch b) xs = inr (inr (inr b)) ∷ xs

  pub put_all : Forest → List Token → List Token
  put_all none xs = inl 0 ∷ xs
  put_all (more label tree rest) xs = inr (inr (inl label)) ∷ put tree (put_all rest xs)

abbrev pub as_tree : Forest × List Token → Tree × List Token
as_tree p = (expand p.0, p.1)

abbrev pub joined : Unmove → Tree → Forest × List Token → Forest × List Token
joined label tree p = (more label tree p.0, p.1)

-- the tree that was put in front of a list, in at most so many steps
abbrev mutual
  pub get : ℕ → List Token → Tree × List Token
  get zero xs = (back 0, xs)
  get (suc n) [] = (back 0, [])
  get (suc n) (inl zero ∷ xs) = as_tree (get_all n xs)
  get (suc n) (inl (suc k) ∷ xs) = (back k, xs)
  get (suc n) (inr (inl r) ∷ xs) = (rule r, xs)
  get (suc n) (inr (inr (inl label)) ∷ xs) = (back 0, xs)
  get (suc n) (inr (inr (inr b)) ∷ xs) = (sketch b, xs)

  pub get_all : ℕ → List Token → Forest × List Token
  get_all zero xs = (none, xs)
  get_all (suc n) [] = (none, [])
  get_all (suc n) (inl k ∷ xs) = (none, xs)
  get_all (suc n) (inr (inl r) ∷ xs) = (none, xs)
  get_all (suc n) (inr (inr (inr b)) ∷ xs) = (none, xs)
  get_all (suc n) (inr (inr (inl label)) ∷ xs) = joined label (get n xs).0 (get_all n (get n xs).1)

one-more : (k : ℕ) → 1 + k ≡ suc k
one-more k = omega arith

suc-more : (n k : ℕ) → suc n + k ≡ suc (n + k)
suc-more n k = omega arith

more-more : (a b k : ℕ) → suc (a + b) + k ≡ suc (a + (b + k))
more-more a b k = omega arith

turn : (a b k : ℕ) → a + (b + k) ≡ b + (a + k)
turn a b k = omega arith

no-more : (n : ℕ) → n ≡ n + 0
no-more n = omega arith

mutual
  get-put : (t : Tree) (k : ℕ) (xs : List Token) → get (size t + k) (put t xs) ≡ (t, xs)
  get-put (rule r) k xs = rw one-more refl
  get-put (back n) k xs = rw one-more refl
  get-put (sketch b) k xs = rw one-more refl
  get-put (expand kids) k xs = rw (suc-more (size_all kids) k) (ap as_tree (get_all-put_all kids k xs))

  get_all-put_all : (f : Forest) (k : ℕ) (xs : List Token) → get_all (size_all f + k) (put_all f xs) ≡ (f, xs)
  get_all-put_all none k xs = rw one-more refl
  get_all-put_all (more label tree rest) k xs =
      rw (more-more (size tree) (size_all rest) k)
      (ap (λ (p : Tree × List Token). joined label p.0 (get_all (size tree + (size_all rest + k)) p.1)) (get-put tree (size_all rest + k) (put_all rest xs))
      ∙ ap (joined label tree) (ap (λ (n : ℕ). get_all n (put_all rest xs)) (turn (size tree) (size_all rest) k) ∙ get_all-put_all rest (size tree + k) xs))

-- a forest as its size and its list
abbrev pub tokens : Forest → ℕ × List Token
tokens f = (size_all f, put_all f [])

abbrev pub forest_from : ℕ × List Token → Forest
forest_from p = (get_all p.0 p.1).0

pub forest_from-tokens : (f : Forest) → forest_from (tokens f) ≡ f
forest_from-tokens f =
    ap (λ (n : ℕ). (get_all n (put_all f [])).0) (no-more (size_all f)) ∙ ap (λ (p : Forest × List Token). p.0) (get_all-put_all f 0 [])

abbrev pub forest_code : Coded Forest
forest_code =
    code_by (ℕ × List Token) (coded× coded_ℕ (coded_list (coded⊎ coded_ℕ (coded⊎ reasons.the_row.coded (coded⊎ unmoves.the_row.coded body_code))))) tokens forest_from forest_from-tokens
