-- Lines of a sketch that are put after one another.
use Rattle.std.proofs.Common.{◌≡◌, ℕ, zero, suc, ◌+◌, ◌<◌, ◌≤◌, true, List, [], ◌∷◌, ◌++◌, length, map, drop, get_or, refl, sym, ap, ◌∙◌, arith, append_assoc, append-nil, drop-cons}
use Rattle.std.specs.List.{concat, list_all}
use Rattle.std.proofs.lemmas.Bool.{and_from, and_parts}
use Rattle.std.proofs.lemmas.List.{drop_all, map-append}
use Rattle.std.proofs.lemmas.List.Folds.{concat-append, list_all-append}
use Rattle.capture_prices.specs.Prices.{PriceList}
use Rattle.sketch_text.specs.Trees.{Line}
use Rattle.sketch_body.specs.Bodies.{Body, items_of, of_line, of_prices}
use Rattle.sketch_body.specs.Seen.{line_of}
use Rattle.sketch_body.specs.Texts.{is_item, item_text}
use Rattle.sketch_body.specs.Whole.{is_body}
use Rattle.sketch_body.specs.Taken.{is_line}
use Rattle.sketch_body.specs.declared.lines.SketchLine.{SketchLine}
use Rattle.cert_text.specs.Lines.{ended}
use Rattle.cert_text.specs.Certificate.{Lines}
use Rattle.cert_text.specs.Written.{line_texts, price_texts}

pub written_next : {A : Type 0} (f : A → List ℕ) (xs : List A) (i : ℕ) (x : A) (out now all : List ℕ) → i < length xs → x ≡ get_or xs i x → now ≡ out ++ f x → out ++ concat (map f (drop i xs)) ≡ all → now ++ concat (map f (drop (i + 1) xs)) ≡ all
written_next {A} f xs i x out now all inside here is so =
    let next : suc i ≡ i + 1 = omega arith in
    let rest : drop i xs ≡ x ∷ drop (i + 1) xs = drop-cons xs i x inside ∙ ap (λ (y : A). y ∷ drop (suc i) xs) (sym here) ∙ ap (λ (j : ℕ). x ∷ drop j xs) next in
    ap (λ (l : List ℕ). l ++ concat (map f (drop (i + 1) xs))) is ∙ append_assoc out (f x) (concat (map f (drop (i + 1) xs)))
    ∙ ap (λ (l : List A). out ++ concat (map f l)) (sym rest) ∙ so

pub written_end : {A : Type 0} (f : A → List ℕ) (xs : List A) (i : ℕ) (out all : List ℕ) → length xs ≤ i → out ++ concat (map f (drop i xs)) ≡ all → out ≡ all
written_end {A} f xs i out all past so = sym (append-nil out) ∙ ap (λ (l : List A). out ++ concat (map f l)) (sym (drop_all i xs past)) ∙ so

all_known : (P : ℕ) (lines : List Line) → list_all (is_item P) (map (λ l. of_line l) lines) ≡ true → list_all (is_line P) lines ≡ true
all_known P [] known = refl
all_known P (l ∷ lines) known = let parts = and_parts (is_line P l) (list_all (is_item P) (map (λ l. of_line l) lines)) known in and_from _ _ parts.0 (all_known P lines parts.1)

-- the lines of a sketch that has texts have them
pub lines_known : (b : Body) → is_body b ≡ true → list_all (is_line (length b.prices)) b.lines ≡ true
lines_known b known =
    let P : ℕ = length b.prices in
    let rest = and_parts (list_all (is_item P) (items_of b)) _ (and_parts _ _ known).1 in
    all_known P b.lines (and_parts (list_all (is_item P) (map (λ p. of_prices p) b.prices)) (list_all (is_item P) (map (λ l. of_line l) b.lines)) (sym (list_all-append (is_item P) (map (λ p. of_prices p) b.prices) (map (λ l. of_line l) b.lines)) ∙ rest.0)).1

pub line_at : (P : ℕ) (lines : List SketchLine) (i : ℕ) (x : SketchLine) → list_all (is_line P) (map line_of lines) ≡ true → i < length lines → x ≡ get_or lines i x → is_line P (line_of x) ≡ true
line_at P [] i x known inside here = absurd (omega arith)
line_at P (l ∷ lines) zero x known inside here = ap (λ (y : SketchLine). is_line P (line_of y)) here ∙ (and_parts (is_line P (line_of l)) (list_all (is_line P) (map line_of lines)) known).0
line_at P (l ∷ lines) (suc i) x known inside here = line_at P lines i x (and_parts (is_line P (line_of l)) (list_all (is_line P) (map line_of lines)) known).1 (omega arith) here

prices_put : (ps : List PriceList) → map ended (map item_text (map (λ p. of_prices p) ps)) ≡ price_texts ps
prices_put [] = refl
prices_put (p ∷ ps) = ap (λ (ls : Lines). ended (item_text (of_prices p)) ∷ ls) (prices_put ps)

lines_put : (lines : List SketchLine) → map ended (map item_text (map (λ l. of_line l) (map line_of lines))) ≡ line_texts lines
lines_put [] = refl
lines_put (l ∷ lines) = ap (λ (ls : Lines). ended (item_text (of_line (line_of l))) ∷ ls) (lines_put lines)

-- both, one after the other
pub sketch_put : (b : Body) (lines : List SketchLine) (ps : List PriceList) (old middle now : List ℕ) → ps ≡ b.prices → map line_of lines ≡ b.lines → middle ≡ old ++ concat (price_texts ps) → now ≡ middle ++ concat (line_texts lines) → now ≡ old ++ concat (map ended (map item_text (items_of b)))
sketch_put b lines ps old middle now same are first second =
    let whole : map ended (map item_text (items_of b)) ≡ price_texts ps ++ line_texts lines =
    ap (map ended) (map-append item_text (map (λ p. of_prices p) b.prices) (map (λ l. of_line l) b.lines))
    ∙ map-append ended (map item_text (map (λ p. of_prices p) b.prices)) (map item_text (map (λ l. of_line l) b.lines))
    ∙ ap (λ (l : Lines). l ++ map ended (map item_text (map (λ l. of_line l) b.lines))) (prices_put b.prices ∙ ap price_texts (sym same))
    ∙ ap (λ (l : Lines). price_texts ps ++ l) (ap (λ (ls : List Line). map ended (map item_text (map (λ l. of_line l) ls))) (sym are) ∙ lines_put lines) in
    second ∙ ap (λ (l : List ℕ). l ++ concat (line_texts lines)) first ∙ append_assoc old (concat (price_texts ps)) (concat (line_texts lines))
    ∙ ap (λ (l : List ℕ). old ++ l) (sym (ap concat whole ∙ concat-append (price_texts ps) (line_texts lines)))
