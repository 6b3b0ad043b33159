-- In every game the men of a side needed no more moves than the side made, but for castling.
use Rattle.std.proofs.Common.{◌≡◌, ◌≢◌, ℕ, ◌+◌, ◌%◌, ◌≤◌, ◌==◌, Bool, true, false, cond, ◌||◌, inl, inr, List, [], ◌∷◌, ◌++◌, length, refl, ap, sym, ◌∙◌, subst, arith}
use Rattle.std.specs.Prelude.{Option, Some, None}
use Rattle.std.specs.List.{sum_by, range_with_len}
use Rattle.std.proofs.lemmas.Bool.{and_parts, both_ways, cases_Bool, cond-true, cond-false, eqb-true, eqb-false, eq-eqb}
use Rattle.std.proofs.lemmas.List.{length-append}
use Rattle.std.proofs.lemmas.List.Sums.{sum_by-le-sum_by}
use Rattle.board_base.specs.Board.{Places, array_of, at, same_colour}
use Rattle.board_base.specs.Play.{play, castling, king_home, side}
use Rattle.board_base.specs.Game.{IsGame, board_after, turn_after, unmoved, last_move, touches}
use Rattle.board_base.specs.declared.men.Colour.{Colour}
use Rattle.board_base.specs.declared.men.Colour.TheVariants.{White, Black}
use Rattle.board_base.specs.declared.moves.Move.{Move}
use Rattle.board_base.specs.declared.castles.Castle.{Castle}
use Rattle.board_base.specs.declared.castles.Castle.TheVariants.{WhiteShort, WhiteLong, BlackShort, BlackLong}
use Rattle.board_base.proofs.KindsOfMen.{colour_is, same_colour-self}
use Rattle.play_rules.proofs.Legality.{Legality, legality}
use Rattle.play_rules.proofs.Games.{in_every_game, board_after-more, unmoved-before}
use Rattle.play_rules.proofs.Kings.{length-after, castle-ends, two-castles}
use Rattle.men_account.specs.Labels.{label_at, first_labels, relabelled, labels_after}
use Rattle.men_account.proofs.Labelled.{first-is, labels_after-more, length-labels}
use Rattle.length_bound.specs.MoveCosts.{move_cost}
use Rattle.length_bound.specs.SideBounds.{moves_of, man_cost, side_cost}
use Rattle.length_bound.proofs.OneMan.{at-home-none}
use Rattle.length_bound.proofs.OneMove.{cost-bound, side-adds, other-adds, plain-adds, castling-adds}

-- Whether a side has castled: if not, its men needed no more moves than it made; else at most two more, and it may castle no more.
pub data Spent (o : List Bool) (c : Colour) (g : List Move) : Type 0 where
  not_castled : side_cost o c (board_after o g) (labels_after o g) ≤ moves_of c (length g) → Spent o c g
  has_castled : side_cost o c (board_after o g) (labels_after o g) ≤ moves_of c (length g) + 2 → ((x : Castle) → side x ≡ c → unmoved o g x ≡ false) → Spent o c g

first-cost : (o : List Bool) (c : Colour) → side_cost o c (array_of o) (first_labels o) ≤ 0
unfolding side_cost
first-cost o c =
    let none = sum_by-le-sum_by (λ s. man_cost o c (at (array_of o) s) (label_at (first_labels o) s) s) (λ _. 0) (range_with_len 0 64) (λ s. cost-bound o c (at (array_of o) s) (label_at (first_labels o) s) s 0 (λ l man label there own.
    let here : move_cost o man s l ≡ 0 = ap (move_cost o man s) (sym (first-is o s l label)) ∙ at-home-none o man s there in
    omega arith)) in
    let zeros : sum_by (λ (_ : ℕ). 0) (range_with_len 0 64) ≡ 0 = refl in
    omega arith

-- whose move is next
turn-even : (n : ℕ) (c : Colour) → same_colour c (cond (n % 2 == 0) White Black) ≡ true → moves_of c (n + 1) ≡ moves_of c n + 1
turn-even n White mine = elim (cases_Bool (n % 2 == 0)) [
  | inl even ↦ let e : n % 2 ≡ 0 = eqb-true _ _ even in omega arith
  | inr odd ↦ absurd (both_ways _ (ap (same_colour White) (cond-false _ White Black odd)) mine)
]
turn-even n Black mine = elim (cases_Bool (n % 2 == 0)) [
  | inl even ↦ absurd (both_ways _ (ap (same_colour Black) (cond-true _ White Black even)) mine)
  | inr odd ↦ let e : n % 2 ≢ 0 = eqb-false _ _ odd in omega arith
]

moves-grow : (c : Colour) (n : ℕ) → moves_of c n ≤ moves_of c (n + 1)
moves-grow White n = omega arith
moves-grow Black n = omega arith

lost-still : (o : List Bool) (g : List Move) (m : Move) (x : Castle) → unmoved o g x ≡ false → unmoved o (g ++ m ∷ []) x ≡ false
lost-still o g m x before = elim (cases_Bool (unmoved o (g ++ m ∷ []) x)) [
  | inl held ↦ absurd (both_ways _ before (unmoved-before o g m x held).0)
  | inr lost ↦ lost
]

same-home : (x y : Castle) → side x ≡ side y → king_home x ≡ king_home y
same-home WhiteShort WhiteShort e = refl
same-home WhiteShort WhiteLong e = refl
same-home WhiteLong WhiteShort e = refl
same-home WhiteLong WhiteLong e = refl
same-home BlackShort BlackShort e = refl
same-home BlackShort BlackLong e = refl
same-home BlackLong BlackShort e = refl
same-home BlackLong BlackLong e = refl
same-home WhiteShort BlackShort e = cc
same-home WhiteShort BlackLong e = cc
same-home WhiteLong BlackShort e = cc
same-home WhiteLong BlackLong e = cc
same-home BlackShort WhiteShort e = cc
same-home BlackShort WhiteLong e = cc
same-home BlackLong WhiteShort e = cc
same-home BlackLong WhiteLong e = cc

first-or : (a b c d : Bool) → a ≡ true → (a || b || c || d) ≡ true
first-or true b c d h = refl
first-or false b c d h = absurd (both_ways false refl h)

-- a move of the king from his home loses both rights of his side
home-lost : (o : List Bool) (g : List Move) (m : Move) (x y : Castle) → king_home x ≡ m.from → side y ≡ side x → unmoved o (g ++ m ∷ []) y ≡ false
home-lost o g m x y from same = elim (cases_Bool (unmoved o (g ++ m ∷ []) y)) [
  | inl held ↦
      let touched : touches m y ≡ true = first-or (m.from == king_home y) _ _ _ (eq-eqb _ _ (sym from ∙ same-home x y (sym same))) in
      absurd (both_ways _ (unmoved-before o g m y held).1 touched)
  | inr lost ↦ lost
]

longer : (o : List Bool) (c : Colour) (g : List Move) (m : Move) → length (g ++ m ∷ []) ≡ length g + 1
longer o c g m = length-append g (m ∷ [])

cost-more : (o : List Bool) (c : Colour) (g : List Move) (m : Move) (n : ℕ) → side_cost o c (play (board_after o g) m) (relabelled (board_after o g) (labels_after o g) m) ≤ n → side_cost o c (board_after o (g ++ m ∷ [])) (labels_after o (g ++ m ∷ [])) ≤ n
cost-more o c g m n h = rw (board_after-more o g m) (rw (labels_after-more o g m) h)

spent-other : (o : List Bool) (c : Colour) (g : List Move) (m : Move) → side_cost o c (play (board_after o g) m) (relabelled (board_after o g) (labels_after o g) m) ≤ side_cost o c (board_after o g) (labels_after o g) + 0 + 0 → Spent o c g → Spent o c (g ++ m ∷ [])
spent-other o c g m more (not_castled h) = not_castled (cost-more o c g m _ (omega (arith, more, h, ap (moves_of c) (longer o c g m), moves-grow c (length g))))
spent-other o c g m more (has_castled h lost) = has_castled (cost-more o c g m _ (omega (arith, more, h, ap (moves_of c) (longer o c g m), moves-grow c (length g)))) (λ x mine. lost-still o g m x (lost x mine))

spent-plain : (o : List Bool) (c : Colour) (g : List Move) (m : Move) → same_colour c (turn_after g) ≡ true → side_cost o c (play (board_after o g) m) (relabelled (board_after o g) (labels_after o g) m) ≤ side_cost o c (board_after o g) (labels_after o g) + 1 + 0 → Spent o c g → Spent o c (g ++ m ∷ [])
spent-plain o c g m mine more (not_castled h) = not_castled (cost-more o c g m _ (omega (arith, more, h, ap (moves_of c) (longer o c g m), turn-even (length g) c mine)))
spent-plain o c g m mine more (has_castled h lost) = has_castled (cost-more o c g m _ (omega (arith, more, h, ap (moves_of c) (longer o c g m), turn-even (length g) c mine))) (λ x own. lost-still o g m x (lost x own))

spent-castling : (o : List Bool) (c : Colour) (g : List Move) (m : Move) (x : Castle) → same_colour c (turn_after g) ≡ true → side x ≡ c → unmoved o g x ≡ true → king_home x ≡ m.from → side_cost o c (play (board_after o g) m) (relabelled (board_after o g) (labels_after o g) m) ≤ side_cost o c (board_after o g) (labels_after o g) + 2 + 1 → Spent o c g → Spent o c (g ++ m ∷ [])
spent-castling o c g m x mine own held from more (not_castled h) = has_castled (cost-more o c g m _ (omega (arith, more, h, ap (moves_of c) (longer o c g m), turn-even (length g) c mine))) (λ y side_y. home-lost o g m x y from (side_y ∙ sym own))
spent-castling o c g m x mine own held from more (has_castled h lost) = absurd (both_ways _ (lost x own) held)

-- the rights that a castling needs
castling-rights : (board : Places) (c : Colour) (rights : Castle → Bool) (last : Option Move) (m : Move) (x : Castle) → castling board m ≡ Some x → Legality board c rights last m → (side x ≡ c) × (rights x ≡ true)
castling-rights board c rights last m x is legal =
    let may = two-castles board c rights last m x is legal.manner in
    let p = (and_parts _ _ (and_parts _ _ (and_parts _ _ (and_parts _ _ (and_parts _ _ (and_parts _ _ may).0).0).0).0).0).0 in
    (sym (colour_is c (side x) (and_parts _ _ p).0), (and_parts _ _ p).1)

spent-more : (o : List Bool) (c : Colour) (g : List Move) (m : Move) (castle : Option Castle) → IsGame o g → Legality (board_after o g) (turn_after g) (unmoved o g) (last_move g) m → castling (board_after o g) m ≡ castle → c ≡ turn_after g → Spent o c g → Spent o c (g ++ m ∷ [])
spent-more o c g m None game legal is mine before =
    let legal' : Legality (board_after o g) c (unmoved o g) (last_move g) m = subst (λ (d : Colour). Legality (board_after o g) d (unmoved o g) (last_move g) m) (sym mine) legal in
    let adds = plain-adds o c (board_after o g) (unmoved o g) (last_move g) m (length-after o g game) legal' is in
    spent-plain o c g m (subst (λ (d : Colour). same_colour c d ≡ true) mine (same_colour-self c)) (side-adds o c c (board_after o g) (labels_after o g) (unmoved o g) (last_move g) m 1 0 0 (length-after o g game) (length-labels o g game) legal' adds) before
spent-more o c g m (Some x) game legal is mine before =
    let legal' : Legality (board_after o g) c (unmoved o g) (last_move g) m = subst (λ (d : Colour). Legality (board_after o g) d (unmoved o g) (last_move g) m) (sym mine) legal in
    let adds = castling-adds o c (board_after o g) (unmoved o g) (last_move g) m x legal' is in
    let needs = castling-rights (board_after o g) c (unmoved o g) (last_move g) m x is legal' in
    spent-castling o c g m x (subst (λ (d : Colour). same_colour c d ≡ true) mine (same_colour-self c)) needs.0 needs.1 (castle-ends (board_after o g) m x is).from (side-adds o c c (board_after o g) (labels_after o g) (unmoved o g) (last_move g) m 2 1 _ (length-after o g game) (length-labels o g game) legal' adds) before

-- in every game
pub spent : (o : List Bool) (c : Colour) (g : List Move) → IsGame o g → Spent o c g
spent o c = in_every_game o (Spent o c)
    (not_castled (omega (arith, first-cost o c)))
    (λ g m game allowed before.
    let legal = legality _ _ _ _ _ allowed in
    elim (cases_Bool (same_colour c (turn_after g))) [
      | inl mine ↦ spent-more o c g m (castling (board_after o g) m) game legal refl (colour_is c (turn_after g) mine) before
      | inr other ↦ spent-other o c g m (side-adds o c (turn_after g) (board_after o g) (labels_after o g) (unmoved o g) (last_move g) m 0 0 0 (length-after o g game) (length-labels o g game) legal (other-adds o c (turn_after g) (board_after o g) (unmoved o g) (last_move g) m legal other)) before
    ])
