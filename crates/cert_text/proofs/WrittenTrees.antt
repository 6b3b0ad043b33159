-- Lines that are put after one another.
use Rattle.std.proofs.Common.{◌≡◌, ℕ, zero, suc, ◌+◌, ◌<◌, ◌≤◌, ◌^◌, ◌==◌, ◌&&◌, ◌||◌, true, nat_lt, nat_le, List, [], ◌∷◌, ◌++◌, length, sym, ap, ◌∙◌, subst, arith}
use Rattle.std.specs.Prelude.{Some, None}
use Rattle.std.specs.List.{concat}
use Rattle.std.proofs.lemmas.Bool.{and_parts, leb-true}
use Rattle.std.proofs.lemmas.List.{append_assoc}
use Rattle.std.proofs.lemmas.List.Folds.{concat-append}
use Rattle.std.proofs.lemmas.Option.{some_pair_parts}
use Rattle.board_base.specs.declared.unmoves.Unmove.{Unmove}
use Rattle.sketch_text.specs.Heads.{Head, are_files}
use Rattle.sketch_body.specs.Bodies.{head_of}
use Rattle.cert_text.specs.Tree.{Tree, Forest, rule, back, expand, sketch, none, more, count, kid_at}
use Rattle.cert_text.specs.Sizes.{rest_of}
use Rattle.cert_text.specs.Lines.{ended}
use Rattle.cert_text.specs.Certificate.{Certificate, body_of}
use Rattle.cert_text.specs.NodeLines.{kid_body, root_body, root_text, kid_text, IsLine}
use Rattle.cert_text.specs.Writable.{all_fit, fits, fits_depth, has_text}
use Rattle.cert_text.specs.Written.{IsLabel, IsSketchLine, cert_lines, head_lines, lines_below, lines_of}
use Rattle.cert_text.specs.declared.node_lines.BodyLine.{BodyLine}
use Rattle.cert_text.specs.declared.node_lines.BodyLine.TheVariants.{Rule, Back, Expand, Sketch}
use Rattle.cert_text.specs.declared.node_lines.NodeLine.{NodeLine}
use Rattle.cert_text.proofs.Forests.{rest-more}
use Rattle.cert_text.proofs.SpelledLines.{kid_text_read, root_text_read}
use Rattle.board_base.proofs.TextLemmas.{mapped_some}
use Rattle.cert_text.proofs.TreeTexts.{body_head}

-- a child that the grammar admits
pub record IsAdmitted (depth : ℕ) (label : Unmove) (t : Tree) : Type 0 where
  pub label_fits : has_text label ≡ true
  pub tree_fits : fits depth t ≡ true

pub admitted : (f : Forest) (i depth : ℕ) (label : Unmove) (t : Tree) → all_fit depth f ≡ true → kid_at f i ≡ Some (label, t) → IsAdmitted depth label t
admitted none i depth label t fit e = absurd cc
admitted (more l s rest) zero depth label t fit e =
    let same = some_pair_parts l label s t e in
    let own = and_parts (has_text l) (fits depth s) (and_parts (has_text l && fits depth s) (all_fit depth rest) fit).0 in
    record { label_fits = ap has_text (sym same.0) ∙ own.0; tree_fits = ap (fits depth) (sym same.1) ∙ own.1 }
admitted (more l s rest) (suc i) depth label t fit e =
    admitted rest i depth label t (and_parts (has_text l && fits depth s) (all_fit depth rest) fit).1 e

-- the lines of a child and of those after it
pub lines_next : (f : Forest) (i : ℕ) (label : Unmove) (t : Tree) → kid_at f i ≡ Some (label, t) → concat (lines_of (rest_of f i)) ≡ ended (kid_text label (body_of t)) ++ (concat (lines_below t) ++ concat (lines_of (rest_of f (i + 1))))
lines_next f i label t e =
    let next : suc i ≡ i + 1 = omega arith in
    ap (λ (g : Forest). concat (lines_of g)) (rest-more f i label t e)
    ∙ ap (λ (l : List ℕ). ended (kid_text label (body_of t)) ++ l) (concat-append (lines_below t) (lines_of (rest_of f (suc i))) ∙ ap (λ (j : ℕ). concat (lines_below t) ++ concat (lines_of (rest_of f j))) next)

regrouped : (o a b r : List ℕ) → ((o ++ a) ++ b) ++ r ≡ o ++ (a ++ (b ++ r))
regrouped o a b r = simp append_assoc

-- where a child's own line and the lines below it were put after others, those of the other children are still to come
pub after_kid : (f : Forest) (i : ℕ) (label : Unmove) (t : Tree) (out own now : List ℕ) → kid_at f i ≡ Some (label, t) → own ≡ out ++ ended (kid_text label (body_of t)) → now ≡ own ++ concat (lines_below t) → now ++ concat (lines_of (rest_of f (i + 1))) ≡ out ++ concat (lines_of (rest_of f i))
after_kid f i label t out own now e first second =
    let a : List ℕ = ended (kid_text label (body_of t)) in
    let b : List ℕ = concat (lines_below t) in
    let r : List ℕ = concat (lines_of (rest_of f (i + 1))) in
    ap (λ (l : List ℕ). l ++ r) (second ∙ ap (λ (l : List ℕ). l ++ b) first) ∙ regrouped out a b r ∙ ap (λ (l : List ℕ). out ++ l) (sym (lines_next f i label t e))

-- the head, the root's line and the lines below it, put after one another, are the bytes of a certificate
pub put_together : (cert : Certificate) (head a b c d : List ℕ) → head ≡ concat (head_lines cert.claim cert.query) → a ≡ [] → b ≡ a ++ head → c ≡ b ++ ended (root_text (body_of cert.root)) → d ≡ c ++ concat (lines_below cert.root) → d ≡ concat (cert_lines cert)
put_together cert head a b c d is empty first second third =
    let own : List ℕ = ended (root_text (body_of cert.root)) in
    let below : List ℕ = concat (lines_below cert.root) in
    third ∙ ap (λ (l : List ℕ). l ++ below) (second ∙ ap (λ (l : List ℕ). l ++ own) (first ∙ ap (λ (l : List ℕ). l ++ head) empty ∙ is))
    ∙ append_assoc (concat (head_lines cert.claim cert.query)) own below ∙ sym (concat-append (head_lines cert.claim cert.query) (own ∷ lines_below cert.root))

-- what is read as a line has a label with a text
pub line_label : (n : NodeLine) → IsLine n → IsLabel n.label
line_label n (zero, text, e) =
    let m = mapped_some (λ (b : BodyLine). record { label = None; body = b }) (root_body text) n e in
    subst (λ (k : NodeLine). IsLabel k.label) m.2 tt
line_label n (suc depth, text, e) =
    let m = mapped_some (λ (k : Unmove × BodyLine). record { label = Some k.0; body = k.1 }) (kid_body (suc depth) text) n e in
    subst (λ (k : NodeLine). IsLabel k.label) m.2 (kid_text_read (suc depth) text m.0.0 m.0.1 m.1).label

-- a tree that the grammar admits has few children
pub few_children : (t : Tree) (depth n : ℕ) → fits depth t ≡ true → body_of t ≡ Expand n → n < 2 ^ 32
few_children (rule r) depth n fit e = absurd cc
few_children (back k) depth n fit e = absurd cc
few_children (sketch b) depth n fit e = absurd cc
few_children (expand kids) depth n fit e =
    let own = and_parts (fits_depth depth (Expand (count kids))) (all_fit (suc depth) kids) fit in
    let few = and_parts ((count kids == 0) || nat_lt depth 255) (nat_le (count kids) 999999) own.0 in
    let same : count kids ≡ n = cc in
    omega (arith, leb-true (count kids) 999999 few.1)

-- the sketch of a tree that the grammar admits has few lines of prices
pub few_prices : (t : Tree) (depth : ℕ) (h : Head) → fits depth t ≡ true → body_of t ≡ Sketch h → h.prices ≤ 64
few_prices (rule r) depth h fit e = absurd cc
few_prices (back k) depth h fit e = absurd cc
few_prices (expand kids) depth h fit e = absurd cc
few_prices (sketch b) depth h fit e =
    let same : head_of b ≡ h = cc in
    let few = leb-true (length b.prices) 64 (and_parts (nat_le (length b.prices) 64) (are_files 0 b.files) (body_head b fit)).0 in
    let size : length b.prices ≡ h.prices = ap (λ (x : Head). x.prices) same in
    omega arith

-- and a first line
pub sketch_line : (t : Tree) (depth : ℕ) → fits depth t ≡ true → IsSketchLine (body_of t)
sketch_line (rule r) depth fit = tt
sketch_line (back k) depth fit = tt
sketch_line (expand kids) depth fit = tt
sketch_line (sketch b) depth fit = body_head b fit

-- what is read as a line has one, if it begins a sketch
known_line : (b : BodyLine) (depth : ℕ) → fits_depth depth b ≡ true → IsSketchLine b
known_line (Rule r) depth fit = tt
known_line (Back k) depth fit = tt
known_line (Expand n) depth fit = tt
known_line (Sketch h) depth fit = fit

pub line_known : (n : NodeLine) → IsLine n → IsSketchLine n.body
line_known n (zero, text, e) =
    let m = mapped_some (λ (b : BodyLine). record { label = None; body = b }) (root_body text) n e in
    subst (λ (k : NodeLine). IsSketchLine k.body) m.2 (known_line m.0 0 (root_text_read text m.0 m.1).fits)
line_known n (suc depth, text, e) =
    let m = mapped_some (λ (k : Unmove × BodyLine). record { label = Some k.0; body = k.1 }) (kid_body (suc depth) text) n e in
    subst (λ (k : NodeLine). IsSketchLine k.body) m.2 (known_line m.0.1 (suc depth) (kid_text_read (suc depth) text m.0.0 m.0.1 m.1).fits)
