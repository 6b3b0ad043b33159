-- Prices, gates and their texts.
use Rattle.std.proofs.Common.{◌≡◌, ℕ, zero, suc, ◌+◌, ◌-◌, ◌/◌, ◌%◌, ◌<◌, ◌≤◌, ◌==◌, ◌&&◌, true, not, List, [], ◌∷◌, ◌++◌, length, map, Option, Some, None, refl, sym, ap, ◌∙◌, arith, length-append, nat_le, nat_lt}
use Rattle.std.specs.Prelude.{codes}
use Rattle.std.proofs.lemmas.Bool.{and_parts, and_from, cond-true, eq-eqb, eqb-true, le-leb, leb-true, lt-ltb, ltb-true, ne_eqb}
use Rattle.std.proofs.lemmas.Fmt.{digits_decimal, length-decimal-le}
use Rattle.std.proofs.lemmas.List.Folds.{list_all-append}
use Rattle.std.proofs.lemmas.List.Splits.{join_with_byte-slice_split}
use Rattle.std.proofs.lemmas.Option.{cond_some, same_Some, option_and_then_some}
use Rattle.std.proofs.lemmas.Slice.Eq.{bytes_eq-Decides}
use Rattle.std.specs.Fmt.{decimal}
use Rattle.std.specs.List.{join_with_byte, list_all}
use Rattle.std.specs.Option.{option_map, option_and_then}
use Rattle.board_base.specs.Texts.{square_text}
use Rattle.board_base.proofs.OneText.{square_text_of}
use Rattle.board_base.proofs.TextLemmas.{mapped_some, square_back}
use Rattle.capture_prices.specs.Prices.{PriceList, are_ascending, are_prices, is_low, priced}
use Rattle.capture_prices.specs.declared.prices.Gate.{Gate}
use Rattle.fen_text.specs.Parts.{Free}
use Rattle.fen_text.specs.Numbers.{number}
use Rattle.fen_text.proofs.Decimals.{model, number_back, number_read}
use Rattle.fen_text.proofs.MoveFrees.{square_free}
use Rattle.fen_text.proofs.NumberLemmas.{digits_free}
use Rattle.price_text.specs.Words.{is_slash, words}
use Rattle.price_text.specs.PriceTexts.{black_in, from_least, gate_at, gate_of, gate_words, gates_from, gates_in, low, price_of, price_words, prices_of, prices_text, square_of, takes_from}
use Rattle.price_text.proofs.WordLemmas.{all_back_words, are_free, joined_free}

-- the parts of what is known of prices
pub record AreKnown (p : PriceList) : Type 0 where
  pub white_size : length p.white ≡ 16
  pub white : list_all is_low p.white ≡ true
  pub black_size : length p.black ≡ 16
  pub black : list_all is_low p.black ≡ true
  pub few : length p.gates ≤ 16
  pub ascending : are_ascending 0 p.gates ≡ true

pub known_parts : (p : PriceList) → are_prices p ≡ true → AreKnown p
known_parts p known =
    let sixth = and_parts _ (are_ascending 0 p.gates) known in
    let fifth = and_parts _ (nat_le (length p.gates) 16) sixth.0 in
    let fourth = and_parts _ (list_all is_low p.black) fifth.0 in
    let third = and_parts _ (length p.black == 16) fourth.0 in
    let first = and_parts (length p.white == 16) (list_all is_low p.white) third.0 in
    record {
      white_size = eqb-true (length p.white) 16 first.0;
      white = first.1;
      black_size = eqb-true (length p.black) 16 third.1;
      black = fourth.1;
      few = leb-true (length p.gates) 16 fifth.1;
      ascending = sixth.1;
    }

pub known_whole : (p : PriceList) → AreKnown p → are_prices p ≡ true
known_whole p k =
    and_from _ _ (and_from _ _ (and_from _ _ (and_from _ _ (and_from _ _ (eq-eqb (length p.white) 16 k.white_size) k.white) (eq-eqb (length p.black) 16 k.black_size)) k.black) (le-leb (length p.gates) 16 k.few)) k.ascending

-- one price

price_back : (x : ℕ) → is_low x ≡ true → price_of (decimal x) ≡ Some x
unfolding price_of
price_back x known =
    let few : x ≤ 96 = leb-true x 96 known in
    ap (option_and_then low) (number_back x (omega arith)) ∙ cond-true (is_low x) (Some x) None known

record IsTextOfPrice (text : List ℕ) (x : ℕ) : Type 0 where
  text_is : text ≡ decimal x
  known : is_low x ≡ true

price_read : (text : List ℕ) (x : ℕ) → price_of text ≡ Some x → IsTextOfPrice text x
unfolding price_of
price_read text x e =
    option_and_then_some low (number text) x e (λ n is stands.
    let kept = cond_some (is_low n) n x stands in
    record { text_is = (number_read text n is).text_is ∙ ap decimal kept.1; known = ap is_low (sym kept.1) ∙ kept.0 })

low_free : (c x : ℕ) → c < 48 → is_low x ≡ true → Free c (decimal x)
low_free c x under known =
    let few : x ≤ 96 = leb-true x 96 known in
    digits_free c (decimal x) under (digits_decimal model x (omega arith))

pub low_short : (x : ℕ) → x ≤ 96 → length (decimal x) ≤ 2
low_short x few = length-decimal-le 2 x (omega arith) (omega arith) (omega arith)

-- the prices of a side

takes_back : (k : ℕ) (xs : List ℕ) (ws : List (List ℕ)) → length xs ≡ k → list_all is_low xs ≡ true → takes_from k (map decimal xs ++ codes "/" ∷ ws) ≡ Some (xs, ws)
takes_back zero [] ws size known = refl
takes_back zero (x ∷ xs) ws size known = absurd (omega arith)
takes_back (suc k) [] ws size known = absurd (omega arith)
takes_back (suc k) (x ∷ xs) ws size known =
    let parts = and_parts (is_low x) (list_all is_low xs) known in
    let others : length xs ≡ k = omega arith in
    ap (option_and_then (λ (y : ℕ). option_map (λ (p : List ℕ × List (List ℕ)). (y ∷ p.0, p.1)) (takes_from k (map decimal xs ++ codes "/" ∷ ws)))) (price_back x parts.0)
    ∙ ap (option_map (λ (p : List ℕ × List (List ℕ)). (x ∷ p.0, p.1))) (takes_back k xs ws others parts.1)

-- words are those of so many prices and a /, and others behind them
record AreTakes (k : ℕ) (ws : List (List ℕ)) (p : List ℕ × List (List ℕ)) : Type 0 where
  whole : ws ≡ map decimal p.0 ++ codes "/" ∷ p.1
  size : length p.0 ≡ k
  known : list_all is_low p.0 ≡ true

takes_read : (k : ℕ) (ws : List (List ℕ)) (p : List ℕ × List (List ℕ)) → takes_from k ws ≡ Some p → AreTakes k ws p
takes_read zero [] p e = absurd cc
takes_read zero (w ∷ ws) p e =
    let kept = cond_some (is_slash w) ([], ws) p e in
    let same = kept.1 in
    record {
      whole = ap (λ (l : List ℕ). l ∷ ws) ((bytes_eq-Decides w (codes "/")).0 kept.0) ∙ ap (λ (q : List ℕ × List (List ℕ)). map decimal q.0 ++ codes "/" ∷ q.1) same;
      size = ap (λ (q : List ℕ × List (List ℕ)). length q.0) (sym same);
      known = ap (λ (q : List ℕ × List (List ℕ)). list_all is_low q.0) (sym same);
    }
takes_read (suc k) [] p e = absurd cc
takes_read (suc k) (w ∷ ws) p e =
    option_and_then_some (λ (x : ℕ). option_map (λ (q : List ℕ × List (List ℕ)). (x ∷ q.0, q.1)) (takes_from k ws)) (price_of w) p e (λ x is stands.
    let m = mapped_some (λ (q : List ℕ × List (List ℕ)). (x ∷ q.0, q.1)) (takes_from k ws) p stands in
    let one = price_read w x is in
    let rest = takes_read k ws m.0 m.1 in
    let others = rest.size in
    record {
      whole = ap (λ (l : List ℕ). l ∷ ws) one.text_is ∙ ap (λ (l : List (List ℕ)). decimal x ∷ l) rest.whole ∙ ap (λ (q : List ℕ × List (List ℕ)). map decimal q.0 ++ codes "/" ∷ q.1) m.2;
      size = ap (λ (q : List ℕ × List (List ℕ)). length q.0) (sym m.2) ∙ omega arith;
      known = ap (λ (q : List ℕ × List (List ℕ)). list_all is_low q.0) (sym m.2) ∙ and_from _ _ one.known rest.known;
    })

takes_free : (c : ℕ) (xs : List ℕ) → c < 48 → list_all is_low xs ≡ true → are_free c (map decimal xs) ≡ true
takes_free c [] under known = refl
takes_free c (x ∷ xs) under known =
    let parts = and_parts (is_low x) (list_all is_low xs) known in
    and_from _ _ (low_free c x under parts.0) (takes_free c xs under parts.1)

-- gates

-- the text of a square
record IsSquareText (text : List ℕ) (s : ℕ) : Type 0 where
  text_is : text ≡ square_text s
  on_board : s < 64

square_read : (text : List ℕ) (s : ℕ) → square_of text ≡ Some s → IsSquareText text s
square_read [] s e = absurd cc
square_read (a ∷ []) s e = absurd cc
square_read (a ∷ b ∷ []) s e =
    let t = square_text_of a b s e in
    record { text_is = ap (λ (x : ℕ). x ∷ b ∷ []) t.file ∙ ap (λ (x : ℕ). (97 + s % 8) ∷ x ∷ []) t.rank; on_board = t.on_board }
square_read (a ∷ b ∷ c ∷ rest) s e = absurd cc

-- the parts of what is known of the first gate of some
pub record IsGate (least : ℕ) (g : Gate) : Type 0 where
  pub from : nat_le least g.square ≡ true
  pub on_board : nat_lt g.square 64 ≡ true
  pub some : nat_le 1 g.toll ≡ true
  pub known : is_low g.toll ≡ true

pub record AreFirst (least : ℕ) (g : Gate) (gates : List Gate) : Type 0 where
  pub one : IsGate least g
  pub others : are_ascending (g.square + 1) gates ≡ true

pub first_parts : (least : ℕ) (g : Gate) (gates : List Gate) → are_ascending least (g ∷ gates) ≡ true → AreFirst least g gates
first_parts least g gates known =
    let last = and_parts _ (are_ascending (g.square + 1) gates) known in
    let fourth = and_parts _ (is_low g.toll) last.0 in
    let third = and_parts _ (nat_le 1 g.toll) fourth.0 in
    let first = and_parts (nat_le least g.square) (nat_lt g.square 64) third.0 in
    record { one = record { from = first.0; on_board = first.1; some = third.1; known = fourth.1 }; others = last.1 }

first_whole : (least : ℕ) (g : Gate) (gates : List Gate) → IsGate least g → are_ascending (g.square + 1) gates ≡ true → are_ascending least (g ∷ gates) ≡ true
first_whole least g gates one others = and_from _ _ (and_from _ _ (and_from _ _ (and_from _ _ one.from one.on_board) one.some) one.known) others

gate_back : (least : ℕ) (g : Gate) → IsGate least g → gate_of least (square_text g.square) (decimal g.toll) ≡ Some g
unfolding gate_of
gate_back least g one =
    let few : g.toll ≤ 96 = leb-true g.toll 96 one.known in
    ap (λ (o : Option ℕ). option_and_then (λ (s : ℕ). option_and_then (gate_at s) (number (decimal g.toll))) (option_and_then (from_least least) o)) (square_back g.square (ltb-true g.square 64 one.on_board))
    ∙ ap (option_and_then (λ (s : ℕ). option_and_then (gate_at s) (number (decimal g.toll)))) (cond-true (nat_le least g.square) (Some g.square) None one.from)
    ∙ ap (option_and_then (gate_at g.square)) (number_back g.toll (omega arith))
    ∙ cond-true (nat_le 1 g.toll && is_low g.toll) (Some g) None (and_from _ _ one.some one.known)

pub record IsTextOfGate (least : ℕ) (w v : List ℕ) (g : Gate) : Type 0 where
  pub square_is : w ≡ square_text g.square
  pub toll_is : v ≡ decimal g.toll
  pub one : IsGate least g

pub gate_read : (least : ℕ) (w v : List ℕ) (g : Gate) → gate_of least w v ≡ Some g → IsTextOfGate least w v g
unfolding gate_of
gate_read least w v g e =
    option_and_then_some (λ (s : ℕ). option_and_then (gate_at s) (number v)) (option_and_then (from_least least) (square_of w)) g e (λ s first second.
    option_and_then_some (from_least least) (square_of w) s first (λ t is kept.
    option_and_then_some (gate_at s) (number v) g second (λ n stands made.
    let from = cond_some (nat_le least t) t s kept in
    let gate = cond_some (nat_le 1 n && is_low n) (record { square = s; toll = n }) g made in
    let toll = and_parts (nat_le 1 n) (is_low n) gate.0 in
    let place = square_read w t is in
    let same : t ≡ g.square = from.1 ∙ ap (λ (x : Gate). x.square) gate.1 in
    let tolls : n ≡ g.toll = ap (λ (x : Gate). x.toll) gate.1 in
    record {
      square_is = place.text_is ∙ ap square_text same;
      toll_is = (number_read v n stands).text_is ∙ ap decimal tolls;
      one = record {
        from = ap (nat_le least) (sym same) ∙ from.0;
        on_board = ap (λ (x : ℕ). nat_lt x 64) (sym same) ∙ lt-ltb t 64 place.on_board;
        some = ap (nat_le 1) (sym tolls) ∙ toll.0;
        known = ap is_low (sym tolls) ∙ toll.1;
      };
    })))

gates_back : (n least : ℕ) (gates : List Gate) → length gates ≤ n → are_ascending least gates ≡ true → gates_from n least (gate_words gates) ≡ Some gates
gates_back n least [] few known = refl
gates_back zero least (g ∷ gates) few known = absurd (omega arith)
gates_back (suc n) least (g ∷ gates) few known =
    let parts = first_parts least g gates known in
    ap (option_and_then (λ (x : Gate). option_map (λ (others : List Gate). x ∷ others) (gates_from n (x.square + 1) (gate_words gates)))) (gate_back least g parts.one)
    ∙ ap (option_map (λ (others : List Gate). g ∷ others)) (gates_back n (g.square + 1) gates (omega arith) parts.others)

-- words are those of so many gates at most
record AreGates (n least : ℕ) (ws : List (List ℕ)) (gates : List Gate) : Type 0 where
  words_are : ws ≡ gate_words gates
  few : length gates ≤ n
  known : are_ascending least gates ≡ true

gates_read : (n least : ℕ) (ws : List (List ℕ)) (gates : List Gate) → gates_from n least ws ≡ Some gates → AreGates n least ws gates
gates_read n least [] gates e =
    let same : [] ≡ gates = same_Some [] gates e in
    record { words_are = ap gate_words same; few = omega (arith, ap length same); known = ap (are_ascending least) (sym same) }
gates_read zero least (w ∷ ws) gates e = absurd cc
gates_read (suc n) least (w ∷ []) gates e = absurd cc
gates_read (suc n) least (w ∷ v ∷ ws) gates e =
    option_and_then_some (λ (g : Gate). option_map (λ (others : List Gate). g ∷ others) (gates_from n (g.square + 1) ws)) (gate_of least w v) gates e (λ g is stands.
    let m = mapped_some (λ (others : List Gate). g ∷ others) (gates_from n (g.square + 1) ws) gates stands in
    let one = gate_read least w v g is in
    let rest = gates_read n (g.square + 1) ws m.0 m.1 in
    let few = rest.few in
    record {
      words_are = ap (λ (l : List ℕ). l ∷ v ∷ ws) one.square_is ∙ ap (λ (l : List ℕ). square_text g.square ∷ l ∷ ws) one.toll_is ∙ ap (λ (l : List (List ℕ)). square_text g.square ∷ decimal g.toll ∷ l) rest.words_are ∙ ap gate_words m.2;
      few = omega (arith, ap length m.2);
      known = ap (are_ascending least) (sym m.2) ∙ first_whole least g m.0 one.one rest.known;
    })

gates_free : (c least : ℕ) (gates : List Gate) → c < 48 → are_ascending least gates ≡ true → are_free c (gate_words gates) ≡ true
gates_free c least [] under known = refl
gates_free c least (g ∷ gates) under known =
    let parts = first_parts least g gates known in
    and_from _ _ (square_free c g.square under) (and_from _ _ (low_free c g.toll under parts.one.known) (gates_free c (g.square + 1) gates under parts.others))

-- prices

slash_free : (c : ℕ) → c < 47 → are_free c (codes "/" ∷ []) ≡ true
slash_free c under = and_from _ _ (and_from _ _ (ap not (ne_eqb 47 c (λ e. omega arith))) refl) refl

behind_slash : (c : ℕ) (ws : List (List ℕ)) → c < 47 → are_free c ws ≡ true → are_free c (codes "/" ∷ ws) ≡ true
behind_slash c ws under free = and_from _ _ (and_parts _ _ (slash_free c under)).0 free

words_free : (c : ℕ) (p : PriceList) → c < 47 → AreKnown p → are_free c (price_words p) ≡ true
words_free c p under k =
    list_all-append (λ (w : List ℕ). list_all (λ b. not (b == c)) w) (map decimal p.white) (codes "/" ∷ (map decimal p.black ++ codes "/" ∷ gate_words p.gates))
    ∙ and_from _ _ (takes_free c p.white (omega arith) k.white) (behind_slash c (map decimal p.black ++ codes "/" ∷ gate_words p.gates) under (
    list_all-append (λ (w : List ℕ). list_all (λ b. not (b == c)) w) (map decimal p.black) (codes "/" ∷ gate_words p.gates)
    ∙ and_from _ _ (takes_free c p.black (omega arith) k.black) (behind_slash c (gate_words p.gates) under (gates_free c 0 p.gates (omega arith) k.ascending))))

-- the prices of words
pub in_words : (text : List ℕ) → prices_of text ≡ option_and_then black_in (takes_from 16 (words text))
unfolding prices_of
in_words text = refl

-- the text of prices stands for them
pub prices_back : (p : PriceList) → are_prices p ≡ true → prices_of (prices_text p) ≡ Some p
unfolding prices_text
prices_back p known =
    let k = known_parts p known in
    let some : 1 ≤ length (price_words p) = omega (arith, length-append (map decimal p.white) (codes "/" ∷ (map decimal p.black ++ codes "/" ∷ gate_words p.gates))) in
    in_words (join_with_byte 32 (price_words p)) ∙ ap (λ (ws : List (List ℕ)). option_and_then black_in (takes_from 16 ws)) (all_back_words (price_words p) (words_free 32 p (omega arith) k) some)
    ∙ ap (option_and_then black_in) (takes_back 16 p.white (map decimal p.black ++ codes "/" ∷ gate_words p.gates) k.white_size k.white)
    ∙ ap (option_and_then (gates_in p.white)) (takes_back 16 p.black (gate_words p.gates) k.black_size k.black)
    ∙ ap (option_map (λ (gates : List Gate). priced p.white p.black gates)) (gates_back 16 0 p.gates k.few k.ascending)

-- a text is the one of prices
pub record IsTextOfPrices (text : List ℕ) (p : PriceList) : Type 0 where
  pub text_is : text ≡ prices_text p
  pub known : are_prices p ≡ true

pub prices_read : (text : List ℕ) (p : PriceList) → prices_of text ≡ Some p → IsTextOfPrices text p
unfolding prices_text
prices_read text p e =
    option_and_then_some black_in (takes_from 16 (words text)) p (sym (in_words text) ∙ e) (λ a first more.
    option_and_then_some (gates_in a.0) (takes_from 16 a.1) p more (λ b second rest.
    let m = mapped_some (λ (gates : List Gate). priced a.0 b.0 gates) (gates_from 16 0 b.1) p rest in
    let white = takes_read 16 (words text) a first in
    let black = takes_read 16 a.1 b second in
    let gates = gates_read 16 0 b.1 m.0 m.1 in
    record {
      text_is = sym (join_with_byte-slice_split 32 text) ∙ ap (join_with_byte 32) (white.whole ∙ ap (λ (l : List (List ℕ)). map decimal a.0 ++ codes "/" ∷ l) (black.whole ∙ ap (λ (l : List (List ℕ)). map decimal b.0 ++ codes "/" ∷ l) gates.words_are))
          ∙ ap (λ (q : PriceList). join_with_byte 32 (price_words q)) m.2;
      known = ap are_prices (sym m.2) ∙ known_whole (priced a.0 b.0 m.0) (record { white_size = white.size; white = white.known; black_size = black.size; black = black.known; few = gates.few; ascending = gates.known });
    }))

pub prices_free : (p : PriceList) → are_prices p ≡ true → Free 10 (prices_text p)
unfolding prices_text
prices_free p known = joined_free (price_words p) (words_free 10 p (omega arith) (known_parts p known))
