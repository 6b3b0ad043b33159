-- The lines of a sketch that are written one after another.
use Rattle.std.proofs.Common.{◌≡◌, ℕ, suc, ◌+◌, ◌<◌, ◌≤◌, List, [], ◌∷◌, ◌++◌, length, map, drop, get_or, refl, sym, ap, ◌∙◌, subst, arith, drop-cons}
use Rattle.std.specs.Prelude.{Option}
use Rattle.std.specs.Io.KnownBytes.{Appends}
use Rattle.std.specs.List.{concat}
use Rattle.std.proofs.lemmas.List.{drop_all}
use Rattle.capture_prices.specs.Prices.{PriceList}
use Rattle.cert_text.specs.Lines.{ended}
use Rattle.cert_text.specs.Written.{line_texts, price_texts}
use Rattle.cert_text.proofs.SketchWritten.{sketch_put}
use Rattle.sketch_body.specs.Bodies.{Body, items_of}
use Rattle.sketch_body.specs.Seen.{line_of}
use Rattle.sketch_body.specs.Texts.{item_text}
use Rattle.sketch_body.specs.declared.lines.SketchLine.{SketchLine}
use Rattle.retro_ports.proofs.Pieces.{StillToCome, all_written, nothing_written, piece_written}

-- the next line comes before those after it
pub at_line : {A : Type 0} (f : A → List ℕ) (a b : Option (List ℕ)) (n m : ℕ) (text : List ℕ) (xs : List A) (i : ℕ) (x : A) → i < length xs → x ≡ get_or xs i x → StillToCome a b n m text (concat (map f (drop i xs))) → StillToCome a b n m text (f x ++ concat (map f (drop (i + 1) xs)))
at_line {A} f a b n m text xs i x inside here so_far =
    let next : suc i ≡ i + 1 = omega arith in
    let rest : drop i xs ≡ x ∷ drop (i + 1) xs = drop-cons xs i x inside ∙ ap (λ (y : A). y ∷ drop (suc i) xs) (sym here) ∙ ap (λ (j : ℕ). x ∷ drop j xs) next in
    subst (λ (l : List A). StillToCome a b n m text (concat (map f l))) rest so_far

-- where none is left, all were written
pub lines_end : {A : Type 0} (f : A → List ℕ) (a b : Option (List ℕ)) (n m : ℕ) (text : List ℕ) (xs : List A) (i : ℕ) → length xs ≤ i → StillToCome a b n m text (concat (map f (drop i xs))) → Appends a b text
lines_end {A} f a b n m text xs i past so_far = all_written a b n m text (subst (λ (l : List A). StillToCome a b n m text (concat (map f l))) (drop_all i xs past) so_far)

-- before all others are written
pub none_written : (s : Body) (lines : List SketchLine) (ps : List PriceList) (a : Option (List ℕ)) (n : ℕ) → ps ≡ s.prices → map line_of lines ≡ s.lines → StillToCome a a n n (concat (map ended (map item_text (items_of s)))) (concat (price_texts ps) ++ concat (line_texts lines))
none_written s lines ps a n same are =
    let text : List ℕ = concat (map ended (map item_text (items_of s))) in
    let whole : concat (price_texts ps) ++ concat (line_texts lines) ≡ text = sketch_put s lines ps [] (concat (price_texts ps)) (concat (price_texts ps) ++ concat (line_texts lines)) same are refl refl in
    subst (StillToCome a a n n text) (sym whole) (nothing_written a n text)

-- where the lines of prices were written, those of nodes and of marks are still to come
pub prices_written : (s : Body) (lines : List SketchLine) (ps : List PriceList) (a b : Option (List ℕ)) (n m : ℕ) → ps ≡ s.prices → map line_of lines ≡ s.lines → Appends a b (concat (price_texts ps)) → m ≡ n → StillToCome a b n m (concat (map ended (map item_text (items_of s)))) (concat (line_texts lines))
prices_written s lines ps a b n m same are taken kept =
    piece_written a a b n n m (concat (map ended (map item_text (items_of s)))) (concat (price_texts ps)) (concat (line_texts lines)) (none_written s lines ps a n same are) taken kept
