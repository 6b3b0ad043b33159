-- Attacks and moves on boards that are empty on the same squares, or of which one has more men.
use Rattle.std.proofs.Common.{◌≡◌, ◌≢◌, ℕ, zero, suc, ◌+◌, ◌<◌, ◌≤◌, ◌==◌, Bool, true, false, ◌&&◌, ◌||◌, not, inl, inr, List, [], ◌∷◌, refl, ap, sym, ◌∙◌, subst, arith}
use Rattle.std.proofs.lemmas.Bool.{and_parts, and_from, and_left, and_right, both_ways, cases_Bool, cases_eq, eqb-true, eq-eqb, false_from_ne_true, true_from_ne_false}
use Rattle.std.specs.Prelude.{Option, Some, None}
use Rattle.std.specs.List.{list_all, list_any, range_with_len}
use Rattle.board_base.specs.Board.{Places, at, is_a, is_empty, is_of, is_the, opponent, file, rank}
use Rattle.board_base.specs.Attacks.{attacks, attacks_from, files_apart, is_open, kind_attacks, on_one_diagonal, on_one_line, on_the_way, one_ahead, ranks_apart}
use Rattle.board_base.specs.Legal.{in_check, is_officer, last_rank, man_moves, pawn_captures, pawn_doubles, pawn_rank, pawn_steps, promotion_fits}
use Rattle.board_base.specs.declared.men.Man.{Man}
use Rattle.board_base.specs.declared.men.Colour.{Colour}
use Rattle.board_base.specs.declared.men.Kind.{Kind}
use Rattle.board_base.specs.declared.men.Kind.TheVariants.{Pawn, Knight, Bishop, Rook, Queen, King}
use Rattle.board_base.specs.declared.moves.Move.{Move}
use Rattle.play_rules.proofs.Attacked.{none_in_range}
use Rattle.unmove_gen.specs.Plain.{goes_plainly}

all-same : (p q : ℕ → Bool) → ((k : ℕ) → p k ≡ q k) → (ks : List ℕ) → list_all p ks ≡ list_all q ks
all-same p q same [] = refl
all-same p q same (k ∷ ks) = ap (λ (b : Bool). b && list_all p ks) (same k) ∙ ap (λ (b : Bool). q k && b) (all-same p q same ks)

all-more : (p q : ℕ → Bool) → ((k : ℕ) → p k ≡ true → q k ≡ true) → (ks : List ℕ) → list_all p ks ≡ true → list_all q ks ≡ true
all-more p q more [] h = refl
all-more p q more (k ∷ ks) h = let parts = and_parts _ _ h in and_from _ _ (more k parts.0) (all-more p q more ks parts.1)

-- no number of a range passes a test that none of them passes
pub any-none : (p : ℕ → Bool) (k n i : ℕ) → list_any p (range_with_len k n) ≡ false → k ≤ i → i < k + n → p i ≡ false
any-none p k zero i h low high = absurd (omega arith)
any-none p k (suc n) i h low high = elim (cases_Bool (p k)) [
  | inl passes ↦ absurd (both_ways _ h (ap (λ (b : Bool). b || list_any p (range_with_len (k + 1) n)) passes))
  | inr fails ↦ elim (cases_eq k i) [
    | inl same ↦ subst (λ (x : ℕ). p x ≡ false) same fails
    | inr other ↦ any-none p (k + 1) n i (ap (λ (b : Bool). b || list_any p (range_with_len (k + 1) n)) (sym fails) ∙ h) (omega arith) (omega arith)
  ]
]

open-same : (a b : Places) (s t : ℕ) → ((x : ℕ) → is_empty (at a x) ≡ is_empty (at b x)) → is_open a s t ≡ is_open b s t
open-same a b s t same = all-same _ _ (λ k. same (on_the_way s t k)) _

open-more : (a b : Places) (s t : ℕ) → ((x : ℕ) → is_empty (at a x) ≡ true → is_empty (at b x) ≡ true) → is_open a s t ≡ true → is_open b s t ≡ true
open-more a b s t more h = all-more _ _ (λ k. more (on_the_way s t k)) _ h

kind-same : (a b : Places) (c : Colour) (k : Kind) (s t : ℕ) → ((x : ℕ) → is_empty (at a x) ≡ is_empty (at b x)) → kind_attacks a c k s t ≡ kind_attacks b c k s t
unfolding kind_attacks
kind-same a b c Pawn s t same = refl
kind-same a b c Knight s t same = refl
kind-same a b c Bishop s t same = ap (λ (x : Bool). not (s == t) && on_one_diagonal s t && x) (open-same a b s t same)
kind-same a b c Rook s t same = ap (λ (x : Bool). not (s == t) && on_one_line s t && x) (open-same a b s t same)
kind-same a b c Queen s t same = ap (λ (x : Bool). not (s == t) && (on_one_line s t || on_one_diagonal s t) && x) (open-same a b s t same)
kind-same a b c King s t same = refl

kind-more : (a b : Places) (c : Colour) (k : Kind) (s t : ℕ) → ((x : ℕ) → is_empty (at a x) ≡ true → is_empty (at b x) ≡ true) → kind_attacks a c k s t ≡ true → kind_attacks b c k s t ≡ true
unfolding kind_attacks
kind-more a b c Pawn s t more h = h
kind-more a b c Knight s t more h = h
kind-more a b c Bishop s t more h = let parts = and_parts _ _ h in and_from _ _ parts.0 (open-more a b s t more parts.1)
kind-more a b c Rook s t more h = let parts = and_parts _ _ h in and_from _ _ parts.0 (open-more a b s t more parts.1)
kind-more a b c Queen s t more h = let parts = and_parts _ _ h in and_from _ _ parts.0 (open-more a b s t more parts.1)
kind-more a b c King s t more h = h

-- the attack of what stands on the place
abbrev pub place_attacks : Places → Option Man → ℕ → ℕ → Bool
place_attacks board place s t = elim place as (λ _. Bool) [ None ↦ false | Some m ↦ kind_attacks board m.colour m.kind s t ]

place-same : (a b : Places) (place : Option Man) (s t : ℕ) → ((x : ℕ) → is_empty (at a x) ≡ is_empty (at b x)) → place_attacks a place s t ≡ place_attacks b place s t
place-same a b None s t same = refl
place-same a b (Some m) s t same = kind-same a b m.colour m.kind s t same

place-more : (a b : Places) (place : Option Man) (s t : ℕ) → ((x : ℕ) → is_empty (at a x) ≡ true → is_empty (at b x) ≡ true) → place_attacks a place s t ≡ true → place_attacks b place s t ≡ true
place-more a b None s t more h = h
place-more a b (Some m) s t more h = kind-more a b m.colour m.kind s t more h

-- a man goes so, by what stands on the origin and the target and between them
unfoldable pub goes_as : Colour → Move → Option Man → Bool → Bool → Bool → Bool → Bool
goes_as c m place hits empty clear foe =
    elim m.promo as (λ _. Bool) [ None ↦ not (is_a Pawn place && (rank m.to == last_rank c)) | Some k ↦ is_a Pawn place && (rank m.to == last_rank c) && is_officer k ]
    && ((not (is_a Pawn place) && hits)
    || (is_a Pawn place && one_ahead c m.from m.to && (file m.from == file m.to) && empty)
    || (is_a Pawn place && (rank m.from == pawn_rank c) && (file m.from == file m.to) && (ranks_apart m.from m.to == 2) && clear && empty)
    || (is_a Pawn place && one_ahead c m.from m.to && (files_apart m.from m.to == 1) && foe))

pub goes-as : (board : Places) (c : Colour) (m : Move) → goes_plainly board c m ≡ goes_as c m (at board m.from) (place_attacks board (at board m.from) m.from m.to) (is_empty (at board m.to)) (is_open board m.from m.to) (is_of (opponent c) (at board m.to))
unfolding goes_as promotion_fits man_moves pawn_steps pawn_doubles pawn_captures attacks_from
goes-as board c m = refl

-- a man goes on one board as on another that is empty on the same squares
pub goes-same : (a b : Places) (c : Colour) (m : Move) → at a m.from ≡ at b m.from → is_of (opponent c) (at a m.to) ≡ is_of (opponent c) (at b m.to) → ((x : ℕ) → is_empty (at a x) ≡ is_empty (at b x)) → goes_plainly a c m ≡ goes_plainly b c m
goes-same a b c m man foe same =
    goes-as a c m
    ∙ ap (λ (p : Option Man). goes_as c m p (place_attacks a p m.from m.to) (is_empty (at a m.to)) (is_open a m.from m.to) (is_of (opponent c) (at a m.to))) man
    ∙ ap (λ (h : Bool). goes_as c m (at b m.from) h (is_empty (at a m.to)) (is_open a m.from m.to) (is_of (opponent c) (at a m.to))) (place-same a b (at b m.from) m.from m.to same)
    ∙ ap (λ (e : Bool). goes_as c m (at b m.from) (place_attacks b (at b m.from) m.from m.to) e (is_open a m.from m.to) (is_of (opponent c) (at a m.to))) (same m.to)
    ∙ ap (λ (o : Bool). goes_as c m (at b m.from) (place_attacks b (at b m.from) m.from m.to) (is_empty (at b m.to)) o (is_of (opponent c) (at a m.to))) (open-same a b m.from m.to same)
    ∙ ap (goes_as c m (at b m.from) (place_attacks b (at b m.from) m.from m.to) (is_empty (at b m.to)) (is_open b m.from m.to)) foe
    ∙ sym (goes-as b c m)

-- with more men on a board, a side's men attack no more, if none of these is its own
pub attacks-less : (a b : Places) (s : ℕ) (c : Colour) → ((x : ℕ) → is_of c (at a x) ≡ true → at a x ≡ at b x) → ((x : ℕ) → is_empty (at a x) ≡ true → is_empty (at b x) ≡ true) → attacks b s c ≡ false → attacks a s c ≡ false
unfolding attacks attacks_from
attacks-less a b s c own more none =
    none_in_range (λ from. is_of c (at a from) && place_attacks a (at a from) from s) 0 64 (λ i below. false_from_ne_true _ (λ hit.
    let parts = and_parts _ _ hit in
    let e : at a i ≡ at b i = own i parts.0 in
    let mine : is_of c (at b i) ≡ true = ap (is_of c) (sym e) ∙ parts.0 in
    let hits : place_attacks b (at b i) i s ≡ true = ap (λ (p : Option Man). place_attacks b p i s) (sym e) ∙ place-more a b (at a i) i s more parts.1 in
    both_ways _ (any-none (λ from. is_of c (at b from) && place_attacks b (at b from) from s) 0 64 i none (omega arith) (omega arith)) (and_from _ _ mine hits)))

-- the same where a man on one square is its own, and doesn't attack
pub attacks-but : (a b : Places) (s f : ℕ) (c : Colour) → ((x : ℕ) → x ≢ f → is_of c (at a x) ≡ true → at a x ≡ at b x) → ((x : ℕ) → is_empty (at a x) ≡ true → is_empty (at b x) ≡ true) → attacks_from a f s ≡ false → attacks b s c ≡ false → attacks a s c ≡ false
unfolding attacks attacks_from
attacks-but a b s f c own more quiet none =
    none_in_range (λ from. is_of c (at a from) && place_attacks a (at a from) from s) 0 64 (λ i below. elim (cases_eq i f) [
      | inl same ↦ and_right _ _ (subst (λ (x : ℕ). place_attacks a (at a x) x s ≡ false) (sym same) quiet)
      | inr apart ↦ false_from_ne_true _ (λ hit.
          let parts = and_parts (is_of c (at a i)) _ hit in
          let e : at a i ≡ at b i = own i apart parts.0 in
          let mine : is_of c (at b i) ≡ true = ap (is_of c) (sym e) ∙ parts.0 in
          let hits : place_attacks b (at b i) i s ≡ true = ap (λ (p : Option Man). place_attacks b p i s) (sym e) ∙ place-more a b (at a i) i s more parts.1 in
          both_ways _ (any-none (λ from. is_of c (at b from) && place_attacks b (at b from) from s) 0 64 i none (omega arith) (omega arith)) (and_from _ _ mine hits))
    ])

-- with one king alone, his side is in check exactly where he is attacked
pub check-is : (board : Places) (c : Colour) (king : ℕ) → king < 64 → ((s : ℕ) → s < 64 → is_the c King (at board s) ≡ (s == king)) → in_check board c ≡ attacks board king (opponent c)
unfolding in_check
check-is board c king small alone = elim (cases_Bool (attacks board king (opponent c))) [
  | inl hit ↦ true_from_ne_false _ (λ none. both_ways _ (any-none (λ s. is_the c King (at board s) && attacks board s (opponent c)) 0 64 king none (omega arith) (omega arith)) (and_from _ _ (alone king small ∙ eq-eqb king king refl) hit)) ∙ sym hit
  | inr free ↦ none_in_range (λ s. is_the c King (at board s) && attacks board s (opponent c)) 0 64 (λ i below. elim (cases_Bool (i == king)) [
    | inl same ↦ and_right _ _ (subst (λ (s : ℕ). attacks board s (opponent c) ≡ false) (sym (eqb-true i king same)) free)
    | inr other ↦ and_left _ _ (alone i (omega arith) ∙ other)
  ]) ∙ sym free
]
