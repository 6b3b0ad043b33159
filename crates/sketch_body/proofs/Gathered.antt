-- Sketches that are put together line by line.
use Rattle.std.proofs.Common.{◌≡◌, List, [], ◌∷◌, ◌++◌, map, ℕ, refl, sym, ap, ◌∙◌, append_assoc, append-nil}
use Rattle.capture_prices.specs.Prices.{PriceList}
use Rattle.sketch_text.specs.Trees.{Line}
use Rattle.sketch_body.specs.Bodies.{Body, Item, items_of, of_line, of_prices}
use Rattle.sketch_body.specs.Gathered.{gathered}
use Rattle.sketch_body.specs.Seen.{with_item}

pub gathered_more : (b : Body) (is : List Item) (i : Item) → gathered b (is ++ i ∷ []) ≡ with_item (gathered b is) i
gathered_more b [] i = refl
gathered_more b (j ∷ is) i = gathered_more (with_item b j) is i

gathered_lines : (b : Body) (lines : List Line) → gathered b (map (λ l. of_line l) lines) ≡ record b { lines = b.lines ++ lines }
gathered_lines b [] = λ i. record { files = b.files; prices = b.prices; lines = sym (append-nil b.lines) i }
gathered_lines b (l ∷ lines) =
    gathered_lines (with_item b (of_line l)) lines ∙ (λ i. record { files = b.files; prices = b.prices; lines = append_assoc b.lines (l ∷ []) lines i })

gathered_prices : (b : Body) (ps : List PriceList) (rest : List Item) → gathered b (map (λ p. of_prices p) ps ++ rest) ≡ gathered (record b { prices = b.prices ++ ps }) rest
gathered_prices b [] rest = ap (λ (c : Body). gathered c rest) (λ i. record { files = b.files; prices = sym (append-nil b.prices) i; lines = b.lines })
gathered_prices b (p ∷ ps) rest =
    gathered_prices (with_item b (of_prices p)) ps rest ∙ ap (λ (c : Body). gathered c rest) (λ i. record { files = b.files; prices = append_assoc b.prices (p ∷ []) ps i; lines = b.lines })

-- its own lines make a sketch
pub gathered_all : (b : Body) → gathered (record { files = b.files; prices = []; lines = [] }) (items_of b) ≡ b
gathered_all b =
    gathered_prices (record { files = b.files; prices = []; lines = [] }) b.prices (map (λ l. of_line l) b.lines) ∙ gathered_lines (record { files = b.files; prices = b.prices; lines = [] }) b.lines
