-- The text of prices, as it is written.
use Rattle.std.proofs.Common.{◌≡◌, ℕ, ◌+◌, ◌*◌, ◌<◌, ◌≤◌, ◌/◌, ◌%◌, zero, suc, true, List, [], ◌∷◌, ◌++◌, length, take, get_or, map, refl, sym, ap, ◌∙◌, arith, append_assoc, append-nil, length-append, take_all}
use Rattle.std.specs.Prelude.{codes}
use Rattle.std.specs.Fmt.{decimal}
use Rattle.std.specs.List.{join_with_byte, list_all}
use Rattle.std.proofs.lemmas.Bool.{and_parts, leb-true, ltb-true}
use Rattle.std.proofs.lemmas.List.{take_more}
use Rattle.board_base.specs.Texts.{square_text}
use Rattle.capture_prices.specs.Prices.{PriceList, are_ascending, are_prices, is_low}
use Rattle.capture_prices.specs.declared.prices.Gate.{Gate}
use Rattle.price_text.specs.PriceTexts.{gate_words, prices_text}
use Rattle.price_text.specs.Spaced.{with_spaces_before, with_spaces_behind}
use Rattle.price_text.proofs.PriceTexts.{first_parts, known_parts, low_short}

joined_before : (w : List ℕ) (ws : List (List ℕ)) → join_with_byte 32 (w ∷ ws) ≡ w ++ with_spaces_before ws
joined_before w [] = sym (append-nil w)
joined_before w (v ∷ ws) = ap (λ (l : List ℕ). w ++ 32 ∷ l) (joined_before v ws)

joined_behind : (ws : List (List ℕ)) (v : List ℕ) (vs : List (List ℕ)) → join_with_byte 32 (ws ++ v ∷ vs) ≡ with_spaces_behind ws ++ join_with_byte 32 (v ∷ vs)
joined_behind [] v vs = refl
joined_behind (w ∷ []) v vs = sym (append_assoc w (32 ∷ []) (join_with_byte 32 (v ∷ vs)))
joined_behind (w ∷ u ∷ ws) v vs =
    ap (λ (l : List ℕ). w ++ 32 ∷ l) (joined_behind (u ∷ ws) v vs) ∙ sym (append_assoc w (32 ∷ with_spaces_behind (u ∷ ws)) (join_with_byte 32 (v ∷ vs)))

joined_more : (w : List ℕ) (ws : List (List ℕ)) (v : List ℕ) (vs : List (List ℕ)) → join_with_byte 32 (w ∷ (ws ++ v ∷ vs)) ≡ w ++ 32 ∷ join_with_byte 32 (ws ++ v ∷ vs)
joined_more w [] v vs = refl
joined_more w (u ∷ ws) v vs = refl

-- the text of prices by its parts
pub in_parts : (p : PriceList) → prices_text p ≡ with_spaces_behind (map decimal p.white) ++ 47 ∷ 32 ∷ (with_spaces_behind (map decimal p.black) ++ 47 ∷ with_spaces_before (gate_words p.gates))
unfolding prices_text
in_parts p =
    let whites : List (List ℕ) = map decimal p.white in
    let blacks : List (List ℕ) = map decimal p.black in
    joined_behind whites (codes "/") (blacks ++ codes "/" ∷ gate_words p.gates)
    ∙ ap (λ (l : List ℕ). with_spaces_behind whites ++ l) (joined_more (codes "/") blacks (codes "/") (gate_words p.gates)
    ∙ ap (λ (l : List ℕ). 47 ∷ 32 ∷ l) (joined_behind blacks (codes "/") (gate_words p.gates) ∙ ap (λ (l : List ℕ). with_spaces_behind blacks ++ l) (joined_before (codes "/") (gate_words p.gates))))

-- how long it is

takes_short : (xs : List ℕ) → list_all is_low xs ≡ true → length (with_spaces_behind (map decimal xs)) ≤ 3 * length xs
takes_short [] known = omega arith
takes_short (x ∷ xs) known =
    let parts = and_parts (is_low x) (list_all is_low xs) known in
    omega (arith, low_short x (leb-true x 96 parts.0), takes_short xs parts.1, length-append (decimal x) (32 ∷ with_spaces_behind (map decimal xs)))

gates_short : (least : ℕ) (gates : List Gate) → are_ascending least gates ≡ true → length (with_spaces_before (gate_words gates)) ≤ 6 * length gates
gates_short least [] known = omega arith
gates_short least (g ∷ gates) known =
    let parts = first_parts least g gates known in
    omega (arith, low_short g.toll (leb-true g.toll 96 parts.one.known), gates_short (g.square + 1) gates parts.others, length-append (decimal g.toll) (with_spaces_before (gate_words gates)))

pub prices_short : (p : PriceList) → are_prices p ≡ true → length (prices_text p) ≤ 195
prices_short p known =
    let k = known_parts p known in
    let white = k.white_size in
    let black = k.black_size in
    let few = k.few in
    omega (arith, ap length (in_parts p), takes_short p.white k.white, takes_short p.black k.black, gates_short 0 p.gates k.ascending, length-append (with_spaces_behind (map decimal p.white)) (47 ∷ 32 ∷ (with_spaces_behind (map decimal p.black) ++ 47 ∷ with_spaces_before (gate_words p.gates))), length-append (with_spaces_behind (map decimal p.black)) (47 ∷ with_spaces_before (gate_words p.gates)))

-- the prices of a side, one after another

takes_more : (xs : List ℕ) (x : ℕ) → with_spaces_behind (map decimal (xs ++ x ∷ [])) ≡ with_spaces_behind (map decimal xs) ++ (decimal x ++ 32 ∷ [])
takes_more [] x = refl
takes_more (y ∷ xs) x =
    ap (λ (l : List ℕ). decimal y ++ 32 ∷ l) (takes_more xs x) ∙ sym (append_assoc (decimal y) (32 ∷ with_spaces_behind (map decimal xs)) (decimal x ++ 32 ∷ []))

-- how far they were written
pub record TakesWritten (xs : List ℕ) (i : ℕ) (old now : List ℕ) : Type 0 where
  pub text : now ≡ old ++ with_spaces_behind (map decimal (take i xs))
  pub room : length now ≤ length old + 3 * i

pub takes_begun : (xs old : List ℕ) → TakesWritten xs 0 old old
takes_begun xs old = record { text = sym (append-nil old); room = omega arith }

pub takes_next : (xs : List ℕ) (i : ℕ) (old now next : List ℕ) (x : ℕ) → i < length xs → x ≡ get_or xs i 0 → next ≡ now ++ decimal x → length next ≤ length now + 2 → TakesWritten xs i old now → TakesWritten xs (i + 1) old (next ++ 32 ∷ [])
takes_next xs i old now next x inside here e short w =
    let room = w.room in
    record {
      text = ap (λ (l : List ℕ). l ++ 32 ∷ []) (e ∙ ap (λ (l : List ℕ). l ++ decimal x) w.text) ∙ append_assoc (old ++ with_spaces_behind (map decimal (take i xs))) (decimal x) (32 ∷ []) ∙ append_assoc old (with_spaces_behind (map decimal (take i xs))) (decimal x ++ 32 ∷ [])
          ∙ ap (λ (l : List ℕ). old ++ l) (sym (takes_more (take i xs) x) ∙ ap (λ (y : ℕ). with_spaces_behind (map decimal (take i xs ++ y ∷ []))) here ∙ ap (λ (l : List ℕ). with_spaces_behind (map decimal l)) (sym (take_more xs i 0 inside)));
      room = omega (arith, length-append next (32 ∷ []));
    }

pub takes_done : (xs : List ℕ) (i : ℕ) (old now : List ℕ) → length xs ≤ i → TakesWritten xs i old now → now ≡ old ++ with_spaces_behind (map decimal xs)
takes_done xs i old now high w = w.text ∙ ap (λ (l : List ℕ). old ++ with_spaces_behind (map decimal l)) (take_all i xs high)

pub price_within : (xs : List ℕ) (i : ℕ) → list_all is_low xs ≡ true → i < length xs → get_or xs i 0 ≤ 96
price_within [] i known inside = absurd (omega arith)
price_within (x ∷ xs) zero known inside = leb-true x 96 (and_parts (is_low x) (list_all is_low xs) known).0
price_within (x ∷ xs) (suc i) known inside = price_within xs i (and_parts (is_low x) (list_all is_low xs) known).1 (omega arith)

-- gates, one after another

gates_more : (gates : List Gate) (g : Gate) → with_spaces_before (gate_words (gates ++ g ∷ [])) ≡ with_spaces_before (gate_words gates) ++ 32 ∷ (square_text g.square ++ 32 ∷ decimal g.toll)
gates_more [] g = ap (λ (l : List ℕ). 32 ∷ (square_text g.square ++ 32 ∷ l)) (append-nil (decimal g.toll))
gates_more (h ∷ gates) g =
    ap (λ (l : List ℕ). 32 ∷ (square_text h.square ++ 32 ∷ (decimal h.toll ++ l))) (gates_more gates g)
    ∙ ap (λ (l : List ℕ). 32 ∷ (square_text h.square ++ 32 ∷ l)) (sym (append_assoc (decimal h.toll) (with_spaces_before (gate_words gates)) (32 ∷ (square_text g.square ++ 32 ∷ decimal g.toll))))

-- how far they were written
pub record GatesWritten (gates : List Gate) (i : ℕ) (old now : List ℕ) : Type 0 where
  pub text : now ≡ old ++ with_spaces_before (gate_words (take i gates))
  pub room : length now ≤ length old + 6 * i

pub gates_begun : (gates : List Gate) (old : List ℕ) → GatesWritten gates 0 old old
gates_begun gates old = record { text = sym (append-nil old); room = omega arith }

pub gates_next : (gates : List Gate) (i : ℕ) (old now next : List ℕ) (g d : Gate) → i < length gates → g ≡ get_or gates i d → next ≡ now ++ 32 ∷ (square_text g.square ++ 32 ∷ decimal g.toll) → length (decimal g.toll) ≤ 2 → GatesWritten gates i old now → GatesWritten gates (i + 1) old next
gates_next gates i old now next g d inside here e short w =
    let room = w.room in
    record {
      text = e ∙ ap (λ (l : List ℕ). l ++ 32 ∷ (square_text g.square ++ 32 ∷ decimal g.toll)) w.text ∙ append_assoc old (with_spaces_before (gate_words (take i gates))) (32 ∷ (square_text g.square ++ 32 ∷ decimal g.toll))
          ∙ ap (λ (l : List ℕ). old ++ l) (sym (gates_more (take i gates) g) ∙ ap (λ (y : Gate). with_spaces_before (gate_words (take i gates ++ y ∷ []))) here ∙ ap (λ (l : List Gate). with_spaces_before (gate_words l)) (sym (take_more gates i d inside)));
      room = omega (arith, ap length e, length-append now (32 ∷ (square_text g.square ++ 32 ∷ decimal g.toll)));
    }

pub gates_done : (gates : List Gate) (i : ℕ) (old now : List ℕ) → length gates ≤ i → GatesWritten gates i old now → now ≡ old ++ with_spaces_before (gate_words gates)
gates_done gates i old now high w = w.text ∙ ap (λ (l : List Gate). old ++ with_spaces_before (gate_words l)) (take_all i gates high)

pub record IsInRange (g : Gate) : Type 0 where
  pub square : g.square < 64
  pub toll : g.toll ≤ 96

pub gate_within : (least : ℕ) (gates : List Gate) (i : ℕ) (d : Gate) → are_ascending least gates ≡ true → i < length gates → IsInRange (get_or gates i d)
gate_within least [] i d known inside = absurd (omega arith)
gate_within least (g ∷ gates) zero d known inside =
    let parts = first_parts least g gates known in
    record { square = ltb-true g.square 64 parts.one.on_board; toll = leb-true g.toll 96 parts.one.known }
gate_within least (g ∷ gates) (suc i) d known inside = gate_within (g.square + 1) gates i d (first_parts least g gates known).others (omega arith)

-- what stands where no gate is
abbrev pub no_gate : Gate
no_gate = record { square = 0; toll = 0 }

-- a gate that was written byte by byte
pub pushed : (old a b c d now : List ℕ) (s : ℕ) (toll : List ℕ) → a ≡ old ++ 32 ∷ [] → b ≡ a ++ (97 + s % 8) ∷ [] → c ≡ b ++ (49 + s / 8) ∷ [] → d ≡ c ++ 32 ∷ [] → now ≡ d ++ toll → now ≡ old ++ 32 ∷ (square_text s ++ 32 ∷ toll)
pushed old a b c d now s toll first second third fourth last =
    last ∙ ap (λ (l : List ℕ). l ++ toll) (fourth ∙ ap (λ (l : List ℕ). l ++ 32 ∷ []) (third ∙ ap (λ (l : List ℕ). l ++ (49 + s / 8) ∷ []) (second ∙ ap (λ (l : List ℕ). l ++ (97 + s % 8) ∷ []) first)))
    ∙ simp append_assoc

regrouped : (o a b g : List ℕ) → (((((o ++ a) ++ 47 ∷ []) ++ 32 ∷ []) ++ b) ++ 47 ∷ []) ++ g ≡ o ++ (a ++ 47 ∷ 32 ∷ (b ++ 47 ∷ g))
regrouped o a b g = simp append_assoc

-- the parts of prices, put after one another
pub put_together : (p : PriceList) (old a b c d e now white black : List ℕ) (gates : List Gate) → white ≡ p.white → black ≡ p.black → gates ≡ p.gates
    → a ≡ old ++ with_spaces_behind (map decimal white) → b ≡ a ++ 47 ∷ [] → c ≡ b ++ 32 ∷ [] → d ≡ c ++ with_spaces_behind (map decimal black) → e ≡ d ++ 47 ∷ [] → now ≡ e ++ with_spaces_before (gate_words gates) → now ≡ old ++ prices_text p
put_together p old a b c d e now white black gates whites blacks all first second third fourth fifth last =
    last ∙ ap (λ (l : List ℕ). l ++ with_spaces_before (gate_words gates)) (fifth ∙ ap (λ (l : List ℕ). l ++ 47 ∷ []) (fourth ∙ ap (λ (l : List ℕ). l ++ with_spaces_behind (map decimal black)) (third ∙ ap (λ (l : List ℕ). l ++ 32 ∷ []) (second ∙ ap (λ (l : List ℕ). l ++ 47 ∷ []) first))))
    ∙ regrouped old (with_spaces_behind (map decimal white)) (with_spaces_behind (map decimal black)) (with_spaces_before (gate_words gates))
    ∙ ap (λ (l : List ℕ). old ++ (with_spaces_behind (map decimal l) ++ 47 ∷ 32 ∷ (with_spaces_behind (map decimal black) ++ 47 ∷ with_spaces_before (gate_words gates)))) whites
    ∙ ap (λ (l : List ℕ). old ++ (with_spaces_behind (map decimal p.white) ++ 47 ∷ 32 ∷ (with_spaces_behind (map decimal l) ++ 47 ∷ with_spaces_before (gate_words gates)))) blacks
    ∙ ap (λ (l : List Gate). old ++ (with_spaces_behind (map decimal p.white) ++ 47 ∷ 32 ∷ (with_spaces_behind (map decimal p.black) ++ 47 ∷ with_spaces_before (gate_words l)))) all
    ∙ ap (λ (l : List ℕ). old ++ l) (sym (in_parts p))
