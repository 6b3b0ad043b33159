-- Prices and gates that are read one after another.
use Rattle.std.proofs.Common.{◌≡◌, ℕ, zero, suc, ◌+◌, ◌-◌, ◌<◌, ◌≤◌, true, false, List, [], ◌∷◌, ◌++◌, length, set, take, Option, Some, None, Bor, refl, sym, ap, ◌∙◌, arith, append-nil, append_assoc, length-append, take_all}
use Rattle.std.specs.Prelude.{MatchOption, is_some}
use Rattle.std.proofs.lemmas.Bool.{cond-true, cond-false}
use Rattle.std.proofs.lemmas.List.{length-set, take_more_set}
use Rattle.std.specs.Option.{option_map, option_and_then}
use Rattle.capture_prices.specs.Prices.{priced}
use Rattle.capture_prices.specs.declared.prices.Gate.{Gate}
use Rattle.fen_text.specs.Parts.{Free}
use Rattle.price_text.specs.Words.{is_slash, words}
use Rattle.price_text.specs.PriceTexts.{black_in, gate_of, gates_from, gates_in, price_of, prices_of, takes_from}
use Rattle.price_text.proofs.WordLemmas.{cut_word, left, some_words}
use Rattle.price_text.proofs.PriceTexts.{in_words}

-- the prices of a side

-- prices in front of others
abbrev before_takes : List ℕ → Option (List ℕ × List (List ℕ)) → Option (List ℕ × List (List ℕ))
before_takes xs o = option_map (λ (p : List ℕ × List (List ℕ)). (xs ++ p.0, p.1)) o

-- how far the prices were read
pub record TakesSoFar (text : List ℕ) (i : ℕ) (rest : List ℕ) (takes : List ℕ) : Type 0 where
  pub size : length takes ≡ 16
  pub few : i ≤ 16
  pub read : takes_from 16 (words text) ≡ before_takes (take i takes) (takes_from (16 - i) (words rest))

before_none : (o : Option (List ℕ × List (List ℕ))) → o ≡ before_takes [] o
before_none None = refl
before_none (Some p) = refl

pub takes_begun : (text takes : List ℕ) → length takes ≡ 16 → TakesSoFar text 0 text takes
takes_begun text takes size = record { size = size; few = omega arith; read = before_none (takes_from 16 (words text)) }

takes_at : (k : ℕ) (w : List ℕ) (ws : List (List ℕ)) (x : ℕ) → price_of w ≡ Some x → takes_from (suc k) (w ∷ ws) ≡ option_map (λ (p : List ℕ × List (List ℕ)). (x ∷ p.0, p.1)) (takes_from k ws)
takes_at k w ws x e = ap (option_and_then (λ (y : ℕ). option_map (λ (p : List ℕ × List (List ℕ)). (y ∷ p.0, p.1)) (takes_from k ws))) e

before_more : (xs : List ℕ) (x : ℕ) (o : Option (List ℕ × List (List ℕ))) → before_takes xs (option_map (λ (p : List ℕ × List (List ℕ)). (x ∷ p.0, p.1)) o) ≡ before_takes (xs ++ x ∷ []) o
before_more xs x None = refl
before_more xs x (Some p) = ap (λ (l : List ℕ). let q : Option (List ℕ × List (List ℕ)) = Some (l, p.1) in q) (sym (append_assoc xs (x ∷ []) p.0))

one_less : (i : ℕ) → i < 16 → 16 - i ≡ suc (16 - (i + 1))
one_less i low = omega arith

-- the words that are left, and how many prices they are to have
at_rest : (text : List ℕ) (i : ℕ) (rest takes : List ℕ) (k : ℕ) (ws : List (List ℕ)) → 16 - i ≡ k → words rest ≡ ws → TakesSoFar text i rest takes → takes_from 16 (words text) ≡ before_takes (take i takes) (takes_from k ws)
at_rest text i rest takes k ws size here s =
    s.read ∙ ap (λ (n : ℕ). before_takes (take i takes) (takes_from n (words rest))) size ∙ ap (λ (l : List (List ℕ)). before_takes (take i takes) (takes_from k l)) here

pub takes_next : (text : List ℕ) (i : ℕ) (rest more takes w : List ℕ) (x : ℕ) → i < 16 → words rest ≡ w ∷ words more → price_of w ≡ Some x → TakesSoFar text i rest takes → TakesSoFar text (i + 1) more (set takes i x)
takes_next text i rest more takes w x low here good s =
    let size = s.size in
    record {
      size = length-set takes i x ∙ s.size;
      few = omega arith;
      read = at_rest text i rest takes (suc (16 - (i + 1))) (w ∷ words more) (one_less i low) here s
          ∙ ap (before_takes (take i takes)) (takes_at (16 - (i + 1)) w (words more) x good)
          ∙ before_more (take i takes) x (takes_from (16 - (i + 1)) (words more))
          ∙ ap (λ (l : List ℕ). before_takes l (takes_from (16 - (i + 1)) (words more))) (sym (take_more_set takes i x (omega arith)));
    }

pub takes_bad : (text : List ℕ) (i : ℕ) (rest takes w : List ℕ) (ws : List (List ℕ)) → i < 16 → words rest ≡ w ∷ ws → price_of w ≡ None → TakesSoFar text i rest takes → takes_from 16 (words text) ≡ None
takes_bad text i rest takes w ws low here bad s =
    at_rest text i rest takes (suc (16 - (i + 1))) (w ∷ ws) (one_less i low) here s
    ∙ ap (λ (o : Option ℕ). before_takes (take i takes) (option_and_then (λ (y : ℕ). option_map (λ (p : List ℕ × List (List ℕ)). (y ∷ p.0, p.1)) (takes_from (16 - (i + 1)) ws)) o)) bad

takes_none : (k : ℕ) → takes_from k [] ≡ None
takes_none zero = refl
takes_none (suc k) = refl

none_after : {A : Type 0} (o : Option A) → option_and_then (λ (a : A). let n : Option (List ℕ × List (List ℕ)) = None in n) o ≡ None
none_after None = refl
none_after (Some a) = refl

-- the last word isn't followed by a /
pub takes_short : (text : List ℕ) (i : ℕ) (rest takes w : List ℕ) → i < 16 → words rest ≡ w ∷ [] → TakesSoFar text i rest takes → takes_from 16 (words text) ≡ None
takes_short text i rest takes w low here s =
    at_rest text i rest takes (suc (16 - (i + 1))) (w ∷ []) (one_less i low) here s
    ∙ ap (λ (o : Option (List ℕ × List (List ℕ))). before_takes (take i takes) (option_and_then (λ (y : ℕ). option_map (λ (p : List ℕ × List (List ℕ)). (y ∷ p.0, p.1)) o) (price_of w))) (takes_none (16 - (i + 1)))
    ∙ ap (before_takes (take i takes)) (none_after (price_of w))

pub takes_slash : (text : List ℕ) (i : ℕ) (rest takes w : List ℕ) (ws : List (List ℕ)) → 16 ≤ i → words rest ≡ w ∷ ws → is_slash w ≡ true → TakesSoFar text i rest takes → takes_from 16 (words text) ≡ Some (takes, ws)
takes_slash text i rest takes w ws high here slash s =
    let size = s.size in
    at_rest text i rest takes zero (w ∷ ws) (omega arith) here s
    ∙ ap (before_takes (take i takes)) (cond-true (is_slash w) (Some ([], ws)) None slash)
    ∙ ap (λ (l : List ℕ). let q : Option (List ℕ × List (List ℕ)) = Some (l, ws) in q) (append-nil (take i takes) ∙ take_all i takes (omega arith))

pub takes_other : (text : List ℕ) (i : ℕ) (rest takes w : List ℕ) (ws : List (List ℕ)) → 16 ≤ i → words rest ≡ w ∷ ws → is_slash w ≡ false → TakesSoFar text i rest takes → takes_from 16 (words text) ≡ None
takes_other text i rest takes w ws high here other s =
    at_rest text i rest takes zero (w ∷ ws) (omega arith) here s
    ∙ ap (before_takes (take i takes)) (cond-false (is_slash w) (Some ([], ws)) None other)

-- gates

-- how far the gates were read
pub record GatesSoFar (text : List ℕ) (n least : ℕ) (rest : Option (Bor (List ℕ))) (gates : List Gate) : Type 0 where
  pub size : length gates ≡ n
  pub few : n ≤ 16
  pub low : least ≤ 64
  pub read : gates_from 16 0 (words text) ≡ option_map (λ (others : List Gate). gates ++ others) (gates_from (16 - n) least (left rest))

no_more : (o : Option (List Gate)) → o ≡ option_map (λ (others : List Gate). [] ++ others) o
no_more None = refl
no_more (Some gates) = refl

pub gates_begun : (text : List ℕ) (b : Bor (List ℕ)) → b.now ≡ text → GatesSoFar text 0 0 (Some b) []
gates_begun text b e = record {
  size = refl;
  few = omega arith;
  low = omega arith;
  read = no_more (gates_from 16 0 (words text)) ∙ ap (λ (t : List ℕ). option_map (λ (others : List Gate). [] ++ others) (gates_from 16 0 (words t))) (sym e);
}

gates_rest : (text : List ℕ) (n least : ℕ) (rest : Option (Bor (List ℕ))) (gates : List Gate) (k : ℕ) (ws : List (List ℕ)) → 16 - n ≡ k → left rest ≡ ws → GatesSoFar text n least rest gates → gates_from 16 0 (words text) ≡ option_map (λ (others : List Gate). gates ++ others) (gates_from k least ws)
gates_rest text n least rest gates k ws size here s =
    s.read ∙ ap (λ (m : ℕ). option_map (λ (others : List Gate). gates ++ others) (gates_from m least (left rest))) size ∙ ap (λ (l : List (List ℕ)). option_map (λ (others : List Gate). gates ++ others) (gates_from k least l)) here

no_words : (n least : ℕ) → gates_from n least [] ≡ Some []
no_words zero least = refl
no_words (suc n) least = refl

pub gates_done : (text : List ℕ) (n least : ℕ) (rest : Option (Bor (List ℕ))) (gates : List Gate) → rest ≡ None → GatesSoFar text n least rest gates → gates_from 16 0 (words text) ≡ Some gates
gates_done text n least rest gates e s =
    gates_rest text n least rest gates (16 - n) [] refl (ap left e) s ∙ ap (option_map (λ (others : List Gate). gates ++ others)) (no_words (16 - n) least)
    ∙ ap (λ (l : List Gate). Some l) (append-nil gates)

pub gates_odd : (text : List ℕ) (n least : ℕ) (rest : Option (Bor (List ℕ))) (gates : List Gate) (w : List ℕ) → n < 16 → left rest ≡ w ∷ [] → GatesSoFar text n least rest gates → gates_from 16 0 (words text) ≡ None
gates_odd text n least rest gates w low here s = gates_rest text n least rest gates (suc (16 - (n + 1))) (w ∷ []) (one_less n low) here s

pub gates_bad : (text : List ℕ) (n least : ℕ) (rest : Option (Bor (List ℕ))) (gates : List Gate) (w v : List ℕ) (ws : List (List ℕ)) → n < 16 → left rest ≡ w ∷ v ∷ ws → gate_of least w v ≡ None → GatesSoFar text n least rest gates → gates_from 16 0 (words text) ≡ None
gates_bad text n least rest gates w v ws low here bad s =
    gates_rest text n least rest gates (suc (16 - (n + 1))) (w ∷ v ∷ ws) (one_less n low) here s
    ∙ ap (λ (o : Option Gate). option_map (λ (others : List Gate). gates ++ others) (option_and_then (λ (g : Gate). option_map (λ (l : List Gate). g ∷ l) (gates_from (16 - (n + 1)) (g.square + 1) ws)) o)) bad

gates_more : (gates : List Gate) (g : Gate) (o : Option (List Gate)) → option_map (λ (others : List Gate). gates ++ others) (option_map (λ (l : List Gate). g ∷ l) o) ≡ option_map (λ (others : List Gate). (gates ++ g ∷ []) ++ others) o
gates_more gates g None = refl
gates_more gates g (Some l) = ap (λ (x : List Gate). Some x) (sym (append_assoc gates (g ∷ []) l))

pub gates_next : (text : List ℕ) (n least : ℕ) (rest after : Option (Bor (List ℕ))) (gates : List Gate) (w v : List ℕ) (g : Gate) → n < 16 → left rest ≡ w ∷ v ∷ left after → gate_of least w v ≡ Some g → g.square < 64 → GatesSoFar text n least rest gates → GatesSoFar text (n + 1) (g.square + 1) after (gates ++ g ∷ [])
gates_next text n least rest after gates w v g low here good on_board s =
    let size = s.size in
    record {
      size = length-append gates (g ∷ []) ∙ omega arith;
      few = omega arith;
      low = omega arith;
      read = gates_rest text n least rest gates (suc (16 - (n + 1))) (w ∷ v ∷ left after) (one_less n low) here s
          ∙ ap (λ (o : Option Gate). option_map (λ (others : List Gate). gates ++ others) (option_and_then (λ (x : Gate). option_map (λ (l : List Gate). x ∷ l) (gates_from (16 - (n + 1)) (x.square + 1) (left after))) o)) good
          ∙ gates_more gates g (gates_from (16 - (n + 1)) (g.square + 1) (left after));
    }

gates_full : (least : ℕ) (ws : List (List ℕ)) → 1 ≤ length ws → gates_from zero least ws ≡ None
gates_full least [] some = absurd (omega arith)
gates_full least (w ∷ ws) some = refl

some_left : (o : Option (Bor (List ℕ))) → is_some o ≡ true → 1 ≤ length (left o)
some_left None e = absurd cc
some_left (Some b) e = some_words b.now

-- words are left behind sixteen gates
pub gates_over : (text : List ℕ) (n least : ℕ) (rest : Option (Bor (List ℕ))) (gates : List Gate) → 16 ≤ n → is_some rest ≡ true → GatesSoFar text n least rest gates → gates_from 16 0 (words text) ≡ None
gates_over text n least rest gates high some s =
    gates_rest text n least rest gates zero (left rest) (omega arith) refl s ∙ ap (option_map (λ (others : List Gate). gates ++ others)) (gates_full least (left rest) (some_left rest some))

-- what is left, cut into a word and what is left behind it
pub cut_left : (rest : Option (Bor (List ℕ))) (b : Bor (List ℕ)) (word : List ℕ) (after : Option (Bor (List ℕ))) → rest ≡ Some b → Free 32 word → MatchOption after (b.now ≡ word) (λ r. b.now ≡ word ++ 32 ∷ r.now) → left rest ≡ word ∷ left after
cut_left rest b word after e free cut = ap left e ∙ cut_word b.now word after free cut

-- both sides

pub read_with : (ws : List (List ℕ)) (takes : List ℕ) (after : Option (Bor (List ℕ))) → MatchOption after (takes_from 16 ws ≡ Some (takes, [])) (λ r. takes_from 16 ws ≡ Some (takes, words r.now)) → takes_from 16 ws ≡ Some (takes, left after)
read_with ws takes None e = e
read_with ws takes (Some r) e = e

pub no_white : (text : List ℕ) → takes_from 16 (words text) ≡ None → prices_of text ≡ None
no_white text e = in_words text ∙ ap (option_and_then black_in) e

pub after_white : (text white : List ℕ) (ws : List (List ℕ)) → takes_from 16 (words text) ≡ Some (white, ws) → prices_of text ≡ option_and_then (gates_in white) (takes_from 16 ws)
after_white text white ws e = in_words text ∙ ap (option_and_then black_in) e

pub after_black : (text white black : List ℕ) (ws vs : List (List ℕ)) → takes_from 16 (words text) ≡ Some (white, ws) → takes_from 16 ws ≡ Some (black, vs) → prices_of text ≡ option_map (λ (gates : List Gate). priced white black gates) (gates_from 16 0 vs)
after_black text white black ws vs e f = after_white text white ws e ∙ ap (option_and_then (gates_in white)) f

pub gates_some : (gates : List Gate) (o : Option (Bor (List ℕ))) → MatchOption o (gates ≡ []) (λ t. gates_from 16 0 (words t.now) ≡ Some gates) → gates_from 16 0 (left o) ≡ Some gates
gates_some gates None e = ap (λ (l : List Gate). Some l) (sym e)
gates_some gates (Some t) e = e

pub gates_none : (o : Option (Bor (List ℕ))) → MatchOption o ⊥ (λ t. gates_from 16 0 (words t.now) ≡ None) → gates_from 16 0 (left o) ≡ None
gates_none None e = absurd e
gates_none (Some t) e = e
