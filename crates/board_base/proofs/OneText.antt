-- What is read as a value is the value's one text.
use Rattle.std.proofs.Common.{◌≡◌, ℕ, ◌+◌, ◌-◌, ◌*◌, ◌/◌, ◌%◌, ◌<◌, ◌≤◌, ◌==◌, Bool, true, false, cond, ◌&&◌, List, [], ◌∷◌, ◌++◌, refl, sym, ap, ◌∙◌, arith, option_map, subst, Option, Some, None, is_none}
use Rattle.std.proofs.lemmas.Bool.{and_parts, cond_both, leb-true, eqb-true}
use Rattle.std.proofs.lemmas.Option.{cond_some, same_Some}
use Rattle.std.specs.Prelude.{nat_le}
use Rattle.board_base.specs.declared.men.Kind.{Kind}
use Rattle.board_base.specs.declared.men.Kind.TheVariants.{Pawn, Knight, Bishop, Rook, Queen, King}
use Rattle.board_base.specs.declared.moves.Move.{Move}
use Rattle.board_base.specs.declared.unmoves.Unmove.{Unmove}
use Rattle.board_base.specs.Texts.{◌>>=◌, square_at, officer_of, taken_of, promo_of, move_of, letter_of, promo_text, move_text, promo_head, after_promo, capture_of, unmove_as, unmove_from, capture_text, unmove_text, can_promote, can_capture}

-- o and then f of its value give y, through this value
record Through {A B : Type 0} (o : Option A) (f : A → Option B) (y : B) : Type 0 where
  pub value : A
  pub is : o ≡ Some value
  pub gives : f value ≡ Some y

through : {A B : Type 0} (o : Option A) (f : A → Option B) (y : B) → (o >>= f) ≡ Some y → Through o f y
through None f y e = absurd cc
through (Some x) f y e = record { value = x; is = refl; gives = e }

through_map : {A B : Type 0} (o : Option A) (f : A → B) (y : B) → option_map f o ≡ Some y → Through o (λ x. Some (f x)) y
through_map None f y e = absurd cc
through_map (Some x) f y e = record { value = x; is = refl; gives = e }

-- a letter that was tested for
letter_from : (b n : ℕ) (j k : Kind) → letter_of j ≡ n → (b == n) ≡ true → Some j ≡ Some k → b ≡ letter_of k
letter_from b n j k l e h = eqb-true b n e ∙ sym l ∙ ap letter_of (same_Some j k h)

abbrev LetterOf : ℕ → Kind → Option Kind → Type 0
LetterOf b k o = o ≡ Some k → b ≡ letter_of k

-- what is read of a letter is the kind with this letter
officer_letter : (b : ℕ) (k : Kind) → officer_of b ≡ Some k → b ≡ letter_of k
officer_letter b k =
    cond_both (b == 110) (Some Knight) _ (LetterOf b k) (letter_from b 110 Knight k refl)
    (λ n. cond_both (b == 98) (Some Bishop) _ (LetterOf b k) (letter_from b 98 Bishop k refl)
    (λ n. cond_both (b == 114) (Some Rook) _ (LetterOf b k) (letter_from b 114 Rook k refl)
    (λ n. cond_both (b == 113) (Some Queen) None (LetterOf b k) (letter_from b 113 Queen k refl) (λ n e. absurd cc))))

taken_letter : (b : ℕ) (k : Kind) → taken_of b ≡ Some k → b ≡ letter_of k
taken_letter b k = cond_both (b == 112) (Some Pawn) (officer_of b) (LetterOf b k) (letter_from b 112 Pawn k refl) (λ n. officer_letter b k)

-- two bytes are the text of a square
pub record SquareText (a b s : ℕ) : Type 0 where
  pub file : a ≡ 97 + s % 8
  pub rank : b ≡ 49 + s / 8
  pub on_board : s < 64

-- what is read as a square is its text
pub square_text_of : (a b s : ℕ) → square_at a b ≡ Some s → SquareText a b s
square_text_of a b s e =
    let parts = cond_some (nat_le 97 a && nat_le a 104 && nat_le 49 b && nat_le b 56) (8 * (b - 49) + (a - 97)) s e in
    let last = and_parts (nat_le 97 a && nat_le a 104 && nat_le 49 b) (nat_le b 56) parts.0 in
    let third = and_parts (nat_le 97 a && nat_le a 104) (nat_le 49 b) last.0 in
    let first = and_parts (nat_le 97 a) (nat_le a 104) third.0 in
    let file_low : 97 ≤ a = leb-true 97 a first.0 in
    let file_high : a ≤ 104 = leb-true a 104 first.1 in
    let rank_low : 49 ≤ b = leb-true 49 b third.1 in
    let rank_high : b ≤ 56 = leb-true b 56 last.1 in
    let number : 8 * (b - 49) + (a - 97) ≡ s = parts.1 in
    record { file = omega arith; rank = omega arith; on_board = omega arith }

-- the texts of two squares, then the rest
four : (a b c d from to : ℕ) (rest end : List ℕ) → SquareText a b from → SquareText c d to → rest ≡ end → a ∷ b ∷ c ∷ d ∷ rest ≡ (97 + from % 8) ∷ (49 + from / 8) ∷ (97 + to % 8) ∷ (49 + to / 8) ∷ end
four a b c d from to rest end f t e = cc (f.file, f.rank, t.file, t.rank, e)

-- the letter of a promotion, if there is one, and what follows it
promo_split : (text : List ℕ) → text ≡ promo_text (promo_head text) ++ after_promo text
promo_split [] = refl
promo_split (b ∷ rest) = split (officer_of b) (officer_letter b)
  where
    split : (o : Option Kind) → ((k : Kind) → o ≡ Some k → b ≡ letter_of k) → b ∷ rest ≡ promo_text o ++ cond (is_none o) (b ∷ rest) rest
    split None letter = refl
    split (Some k) letter = ap (λ (n : ℕ). n ∷ rest) (letter k refl)

abbrev MayPromoteTo : Option Kind → Type 0
MayPromoteTo o = can_promote o ≡ true

-- what a letter of a promotion stands for may be promoted to
officer_promotes : (b : ℕ) → MayPromoteTo (officer_of b)
officer_promotes b =
    cond_both (b == 110) (Some Knight) _ MayPromoteTo (λ e. refl)
    (λ n. cond_both (b == 98) (Some Bishop) _ MayPromoteTo (λ e. refl)
    (λ n. cond_both (b == 114) (Some Rook) _ MayPromoteTo (λ e. refl)
    (λ n. cond_both (b == 113) (Some Queen) None MayPromoteTo (λ e. refl) (λ n. refl))))

-- so may what begins a text
head_promotes : (text : List ℕ) → MayPromoteTo (promo_head text)
head_promotes [] = refl
head_promotes (b ∷ rest) = officer_promotes b

-- the text is that of this promotion, which may be written
record IsTextOfPromo (text : List ℕ) (promo : Option Kind) : Type 0 where
  pub spelling : text ≡ promo_text promo
  pub fits : can_promote promo ≡ true

promo_read : (text : List ℕ) (promo : Option Kind) → promo_of text ≡ Some promo → IsTextOfPromo text promo
promo_read [] promo e = subst (IsTextOfPromo []) (same_Some None promo e) (record { spelling = refl; fits = refl })
promo_read (b ∷ []) promo e =
    let t = through_map (officer_of b) (λ k. Some k) promo e in
    subst (IsTextOfPromo (b ∷ [])) (same_Some (Some t.value) promo t.gives) (record {
      spelling = ap (λ (n : ℕ). n ∷ []) (officer_letter b t.value t.is);
      fits = ap can_promote (sym t.is) ∙ officer_promotes b;
    })
promo_read (b ∷ c ∷ rest) promo e = absurd cc

-- en passant, without a promotion, a pawn is captured
none_captures : (promo : Option Kind) → is_none promo ≡ true → can_capture promo (Some Pawn) true ≡ true
none_captures None e = refl
none_captures (Some k) e = absurd cc

-- a move may capture nothing
nothing_captured : (promo : Option Kind) → can_capture promo None false ≡ true
nothing_captured promo = refl

-- a move may capture all but a king
captures : (promo : Option Kind) (k : Kind) → (k ≡ King → ⊥) → can_capture promo (Some k) false ≡ true
captures promo Pawn other = refl
captures promo Knight other = refl
captures promo Bishop other = refl
captures promo Rook other = refl
captures promo Queen other = refl
captures promo King other = absurd (other refl)

-- no letter stands for a captured king
no_king_taken : (b : ℕ) (k : Kind) → taken_of b ≡ Some k → k ≡ King → ⊥
no_king_taken b k e king =
    let letter : b ≡ 107 = taken_letter b k e ∙ ap letter_of king in
    let none : taken_of b ≡ None = ap taken_of letter in
    cc

-- the text is that of this capture, which may be written where this is promoted
record IsTextOfCapture (promo : Option Kind) (text : List ℕ) (x : Option Kind × Bool) : Type 0 where
  pub spelling : text ≡ capture_text x.0 x.1
  pub fits : can_capture promo x.0 x.1 ≡ true

abbrev ReadsCapture : Option Kind → List ℕ → Option Kind × Bool → Option (Option Kind × Bool) → Type 0
ReadsCapture promo text x o = o ≡ Some x → IsTextOfCapture promo text x

capture_read : (promo : Option Kind) (text : List ℕ) (x : Option Kind × Bool) → capture_of promo text ≡ Some x → IsTextOfCapture promo text x
capture_read promo [] x e = subst (IsTextOfCapture promo []) (same_Some (None, false) x e) (record { spelling = refl; fits = nothing_captured promo })
capture_read promo (a ∷ []) x e = absurd cc
capture_read promo (a ∷ b ∷ []) x e =
    cond_both (a == 120) _ _ (ReadsCapture promo (a ∷ b ∷ []) x) captured
    (λ n. cond_both ((a == 101) && (b == 112) && is_none promo) (Some (Some Pawn, true)) None (ReadsCapture promo (a ∷ b ∷ []) x) en_passant (λ n h. absurd cc)) e
  where
    captured : (a == 120) ≡ true → ReadsCapture promo (a ∷ b ∷ []) x (option_map (λ k. (Some k, false)) (taken_of b))
    captured h e =
        let t = through_map (taken_of b) (λ k. (Some k, false)) x e in
        subst (IsTextOfCapture promo (a ∷ b ∷ [])) (same_Some (Some t.value, false) x t.gives) (record {
          spelling = ap (λ (n : ℕ). n ∷ b ∷ []) (eqb-true a 120 h) ∙ ap (λ (n : ℕ). 120 ∷ n ∷ []) (taken_letter b t.value t.is);
          fits = captures promo t.value (no_king_taken b t.value t.is);
        })

    en_passant : ((a == 101) && (b == 112) && is_none promo) ≡ true → ReadsCapture promo (a ∷ b ∷ []) x (Some (Some Pawn, true))
    en_passant h e =
        let alone = and_parts ((a == 101) && (b == 112)) (is_none promo) h in
        let letters = and_parts (a == 101) (b == 112) alone.0 in
        subst (IsTextOfCapture promo (a ∷ b ∷ [])) (same_Some (Some Pawn, true) x e) (record {
          spelling = ap (λ (n : ℕ). n ∷ b ∷ []) (eqb-true a 101 letters.0) ∙ ap (λ (n : ℕ). 101 ∷ n ∷ []) (eqb-true b 112 letters.1);
          fits = none_captures promo alone.1;
        })
capture_read promo (a ∷ b ∷ c ∷ rest) x e = absurd cc

-- the text is this move's, which may be written
pub record IsTextOfMove (text : List ℕ) (m : Move) : Type 0 where
  pub spelling : text ≡ move_text m
  pub promotion : can_promote m.promo ≡ true

move_from_parts : (a b c d from to : ℕ) (rest : List ℕ) (promo : Option Kind) (m : Move) → SquareText a b from → SquareText c d to → IsTextOfPromo rest promo → Some (record { from = from; to = to; promo = promo }) ≡ Some m → IsTextOfMove (a ∷ b ∷ c ∷ d ∷ rest) m
move_from_parts a b c d from to rest promo m f t p e =
    subst (IsTextOfMove (a ∷ b ∷ c ∷ d ∷ rest)) (same_Some (record { from = from; to = to; promo = promo }) m e) (record { spelling = four a b c d from to rest (promo_text promo) f t p.spelling; promotion = p.fits })

pub move_read : (text : List ℕ) (m : Move) → move_of text ≡ Some m → IsTextOfMove text m
unfolding move_of
move_read [] m e = absurd cc
move_read (a ∷ []) m e = absurd cc
move_read (a ∷ b ∷ []) m e = absurd cc
move_read (a ∷ b ∷ c ∷ []) m e = absurd cc
move_read (a ∷ b ∷ c ∷ d ∷ rest) m e =
    let f = through (square_at a b) (λ from. square_at c d >>= (λ to. option_map (λ p. record { from = from; to = to; promo = p }) (promo_of rest))) m e in
    let t = through (square_at c d) (λ to. option_map (λ p. record { from = f.value; to = to; promo = p }) (promo_of rest)) m f.gives in
    let p = through_map (promo_of rest) (λ p. record { from = f.value; to = t.value; promo = p }) m t.gives in
    move_from_parts a b c d f.value t.value rest p.value m (square_text_of a b f.value f.is) (square_text_of c d t.value t.is) (promo_read rest p.value p.is) p.gives

-- the text is this unmove's, which may be written
pub record IsTextOfUnmove (text : List ℕ) (u : Unmove) : Type 0 where
  pub spelling : text ≡ unmove_text u
  pub promotion : can_promote u.mv.promo ≡ true
  pub capture : can_capture u.mv.promo u.captured u.ep ≡ true

unmove_from_parts : (a b c d from to : ℕ) (rest : List ℕ) (x : Option Kind × Bool) (u : Unmove) → SquareText a b from → SquareText c d to → IsTextOfCapture (promo_head rest) (after_promo rest) x → Some (unmove_as from to (promo_head rest) x) ≡ Some u → IsTextOfUnmove (a ∷ b ∷ c ∷ d ∷ rest) u
unmove_from_parts a b c d from to rest x u f t capture e =
    let ends : rest ≡ promo_text (promo_head rest) ++ capture_text x.0 x.1 = promo_split rest ∙ ap (λ (l : List ℕ). promo_text (promo_head rest) ++ l) capture.spelling in
    subst (IsTextOfUnmove (a ∷ b ∷ c ∷ d ∷ rest)) (same_Some (unmove_as from to (promo_head rest) x) u e) (record {
      spelling = four a b c d from to rest (promo_text (promo_head rest) ++ capture_text x.0 x.1) f t ends;
      promotion = head_promotes rest;
      capture = capture.fits;
    })

pub unmove_read : (text : List ℕ) (u : Unmove) → unmove_from text ≡ Some u → IsTextOfUnmove text u
unfolding unmove_from
unmove_read [] u e = absurd cc
unmove_read (a ∷ []) u e = absurd cc
unmove_read (a ∷ b ∷ []) u e = absurd cc
unmove_read (a ∷ b ∷ c ∷ []) u e = absurd cc
unmove_read (a ∷ b ∷ c ∷ d ∷ rest) u e =
    let p : Option Kind = promo_head rest in
    let f = through (square_at a b) (λ from. square_at c d >>= (λ to. option_map (unmove_as from to p) (capture_of p (after_promo rest)))) u e in
    let t = through (square_at c d) (λ to. option_map (unmove_as f.value to p) (capture_of p (after_promo rest))) u f.gives in
    let x = through_map (capture_of p (after_promo rest)) (unmove_as f.value t.value p) u t.gives in
    unmove_from_parts a b c d f.value t.value rest x.value u (square_text_of a b f.value f.is) (square_text_of c d t.value t.is) (capture_read p (after_promo rest) x.value x.is) x.gives
