-- Which moves are listed that may be taken back by hand.
use Rattle.std.proofs.Common.{◌≡◌, ℕ, ◌+◌, ◌<◌, ◌==◌, Bool, true, false, ◌&&◌, ◌||◌, ◌⊎◌, not, List, length, inl, inr, refl, ap, sym, ◌∙◌, subst, arith}
use Rattle.std.proofs.lemmas.Bool.{and_parts, and_from, and_left, and_right, both_ways, cases_eq, eq-eqb, false_from_ne_true, lt-ltb, not-true, not_from_false, or_cases, or_left, or_right}
use Rattle.std.specs.Prelude.{Option, Some, None}
use Rattle.board_base.specs.Board.{Places, at, is_a, is_empty, is_of, is_the, opponent, same_colour}
use Rattle.board_base.specs.Attacks.{attacks, attacks_from}
use Rattle.board_base.specs.Play.{castling, goes_en_passant, play}
use Rattle.board_base.specs.Legal.{in_check, king_castles, legal_on, man_moves, may_go, pawn_captures, pawn_doubles, pawn_steps, promotion_fits}
use Rattle.board_base.specs.Parts.{castles_as}
use Rattle.board_base.specs.declared.men.Man.{Man}
use Rattle.board_base.specs.declared.men.Colour.{Colour}
use Rattle.board_base.specs.declared.men.Colour.TheVariants.{White, Black}
use Rattle.board_base.specs.declared.men.Kind.{Kind}
use Rattle.board_base.specs.declared.men.Kind.TheVariants.{Pawn, Bishop, King}
use Rattle.board_base.specs.declared.moves.Move.{Move}
use Rattle.board_base.specs.declared.castles.Castle.{Castle}
use Rattle.board_base.specs.declared.unmoves.Unmove.{Unmove}
use Rattle.board_base.proofs.KindsOfMen.{another_kind, opponent-twice}
use Rattle.men_account.specs.Account.{accounts_for, is_any, is_light, men}
use Rattle.men_account.proofs.Bishops.{bishop-steps}
use Rattle.unmove_gen.specs.declared.facts.QueryFacts.{QueryFacts}
use Rattle.general_lemmas.proofs.Counts.{one_if}
use Rattle.play_rules.specs.Kings.{kings}
use Rattle.play_rules.specs.Laws.{HasNoPawnOnEnds, has_no_pawn_on_ends, is_end}
use Rattle.play_rules.proofs.Legality.{Manner, moves, steps, doubles, takes, passes, castles, Legality, legality}
use Rattle.play_rules.proofs.NoPawns.{answers_law}
use Rattle.query_base.specs.Asked.{Asked}
use Rattle.unmove_gen.specs.Listed.{before, every_right, fits_ends, is_legal_before, is_retraction, is_marked, leads_here, mover, obeys, same_places, taking}
use Rattle.unmove_gen.specs.Plain.{AreFacts, IsPlain, goes_plainly, put_back}
use Rattle.unmove_gen.specs.Sane.{is_sane}
use Rattle.unmove_gen.specs.TakenBack.{captured_by}
use Rattle.unmove_gen.proofs.Between.{and-under}
use Rattle.unmove_gen.proofs.Equal.{places_self}
use Rattle.general_lemmas.proofs.Truth.{same_truth}
use Rattle.unmove_gen.proofs.Marking.{unmarked}
use Rattle.unmove_gen.proofs.Marks.{goes-captures, none-answers}
use Rattle.unmove_gen.proofs.Opened.{check-is}
use Rattle.unmove_gen.proofs.PutBack.{at-origin, at-other, at-target, before-is, length-put, no-castling, play-forth}
use Rattle.unmove_gen.proofs.PutCounts.{account-own, men-put}
use Rattle.unmove_gen.proofs.SaneGames.{men-kings}

-- what was captured, if anything, is no man of the side that moved, and no king
pub record IsTaken (c : Colour) (taken : Option Man) : Type 0 where
  pub not_own : is_of c taken ≡ false
  pub no_king : is_a King taken ≡ false

four : (a b d e : Bool) → (a || b || d || e) ≡ true → ((a ≡ true) ⊎ (b ≡ true)) ⊎ ((d ≡ true) ⊎ (e ≡ true))
four a b d e h = elim (or_cases _ _ h) [
  | inr w ↦ inr (inr w)
  | inl h2 ↦ elim (or_cases _ _ h2) [
    | inr w ↦ inr (inl w)
    | inl h1 ↦ elim (or_cases _ _ h1) [ inr w ↦ inl (inr w) | inl w ↦ inl (inl w) ]
  ]
]

-- a man who goes plainly goes in one of the manners
pub plain-manner : (board : Places) (c : Colour) (m : Move) → goes_plainly board c m ≡ true → Manner board c every_right None m
plain-manner board c m h = elim (four _ _ _ _ (and_parts _ _ h).1) [
  | inl x ↦ elim x [ inl w ↦ moves w | inr w ↦ steps w ]
  | inr x ↦ elim x [ inl w ↦ doubles w | inr w ↦ takes w ]
]

manner-plain : (board : Places) (c : Colour) (m : Move) → castling board m ≡ None → Manner board c every_right None m → (man_moves board m || pawn_steps board c m || pawn_doubles board c m || pawn_captures board c m) ≡ true
unfolding king_castles
manner-plain board c m none (moves h) = or_left _ _ (or_left _ _ (or_left _ _ h))
manner-plain board c m none (steps h) = or_left _ _ (or_left _ _ (or_right _ _ h))
manner-plain board c m none (doubles h) = or_left _ _ (or_right _ _ h)
manner-plain board c m none (takes h) = or_right _ _ h
manner-plain board c m none (passes h) = absurd (both_ways _ (none-answers board c m) h)
manner-plain board c m none (castles h) =
    let P : Option Castle → Type 0 = λ o. castles_as board c every_right o ≡ true in
    absurd (both_ways false refl (subst P none h))

-- the test of the list, on this board before the move
tested : Asked → Unmove → Places → Bool
tested q u board = fits_ends q u && obeys q u.mv && is_marked board (mover q) u && is_legal_before board (mover q) u && leads_here board q u.mv && is_sane q.odds board (mover q)

as-tested : (q : Asked) (u : Unmove) → is_retraction q u ≡ tested q u (before q u)
unfolding is_retraction tested
as-tested q u = refl

no-passing : (board : Places) (c : Colour) (m : Move) → castling board m ≡ None → goes_plainly board c m ≡ true → goes_en_passant board m ≡ false
no-passing board c m none goes = false_from_ne_true _ (λ t. both_ways _ (none-answers board c m) (goes-captures board c every_right None m none t (plain-manner board c m goes)))

listed-as : (q : Asked) (m : Move) (captured : Option Kind) (taken : Option Man) → taken ≡ captured_by (at q.board m.to) captured → IsPlain q.board (mover q) m → obeys q m ≡ true → in_check q.board (mover q) ≡ false → IsTaken (mover q) taken → tested q (taking m captured) (put_back q.board m taken) ≡ (goes_plainly (put_back q.board m taken) (mover q) m && is_sane q.odds (put_back q.board m taken) (mover q))
unfolding tested legal_on may_go
listed-as q m captured taken is p asked safe k =
    let c : Colour = mover q in
    let board : Places = put_back q.board m taken in
    let none : castling board m ≡ None = no-castling q.board c m taken p in
    same_truth _ _
    (λ h.
    let p4 = and_parts _ _ h in
    let p3 = and_parts _ _ p4.0 in
    let p2 = and_parts _ _ p3.0 in
    let l : Legality board c every_right None m = legality _ _ _ _ _ p2.1 in
    and_from _ _ (and_from _ _ l.promotion (manner-plain board c m none l.manner)) p4.1)
    (λ h.
    let parts = and_parts _ _ h in
    let goes = and_parts _ _ parts.0 in
    let played : play board m ≡ q.board = play-forth q.board c m taken p (no-passing board c m none parts.0) in
    let fits : fits_ends q (taking m captured) ≡ true = and_from _ _ (ap is_empty p.origin) p.own in
    let mine : is_of c (at board m.from) ≡ true = ap (is_of c) (at-origin q.board c m taken p) ∙ p.own in
    let other : is_of c (at board m.to) ≡ false = ap (is_of c) (at-target q.board c m taken p) ∙ k.not_own in
    let quiet : is_a King (at board m.to) ≡ false = ap (is_a King) (at-target q.board c m taken p) ∙ k.no_king in
    let kept : in_check (play board m) c ≡ false = ap (λ (b : Places). in_check b c) played ∙ safe in
    let legal : legal_on board c every_right None m ≡ true =
    and_from _ _ (and_from _ _ (and_from _ _ (and_from _ _ (and_from _ _ (and_from _ _ (lt-ltb m.to 64 p.to) mine) (not_from_false _ other)) (not_from_false _ quiet)) goes.0) (or_left _ _ (or_left _ _ goes.1))) (not_from_false _ kept) in
    let leads : same_places (play board m) q.board ≡ true = ap (λ (b : Places). same_places b q.board) played ∙ places_self q.board in
    and_from _ _ (and_from _ _ (and_from _ _ (and_from _ _ (and_from _ _ fits asked) (sym (unmarked board c (taking m captured) refl))) legal) leads) parts.1)

-- pawns on rank 1 or 8 of the board before
pub ends-put : (board : Places) (c : Colour) (m : Move) (taken : Option Man) → IsPlain board c m → HasNoPawnOnEnds board → has_no_pawn_on_ends (put_back board m taken) ≡ (not (is_a Pawn (at board m.to) && is_end m.from) && not (is_a Pawn taken && is_end m.to))
ends-put board c m taken p none =
    let after : Places = put_back board m taken in
    let law = answers_law after (has_no_pawn_on_ends after) refl in
    same_truth _ _
    (λ h.
    let free : HasNoPawnOnEnds after = law.0 h in
    and_from _ _
    (not_from_false _ (false_from_ne_true _ (λ w. let x = and_parts _ _ w in both_ways _ (free m.from x.1) (ap (is_a Pawn) (at-origin board c m taken p) ∙ x.0))))
    (not_from_false _ (false_from_ne_true _ (λ w. let x = and_parts _ _ w in both_ways _ (free m.to x.1) (ap (is_a Pawn) (at-target board c m taken p) ∙ x.0)))))
    (λ h.
    let parts = and_parts _ _ h in
    law.1 (λ s end. elim (cases_eq s m.from) [
      | inl same ↦ false_from_ne_true _ (λ pawn. both_ways _ (not-true _ parts.0) (and_from _ _ (sym (ap (is_a Pawn) (ap (at after) same ∙ at-origin board c m taken p)) ∙ pawn) (ap is_end (sym same) ∙ end)))
      | inr f ↦ elim (cases_eq s m.to) [
        | inl same ↦ false_from_ne_true _ (λ pawn. both_ways _ (not-true _ parts.1) (and_from _ _ (sym (ap (is_a Pawn) (ap (at after) same ∙ at-target board c m taken p)) ∙ pawn) (ap is_end (sym same) ∙ end)))
        | inr t ↦ ap (is_a Pawn) (at-other board m taken s f t) ∙ none s end
      ]
    ]))

and-yes : (b : Bool) → ((b && true) && true) ≡ b
and-yes true = refl
and-yes false = refl

sane-as : (o : List Bool) (board : Places) (c : Colour) → ((d : Colour) → kings d board ≡ 1) → accounts_for o board c ≡ true → is_sane o board c ≡ (accounts_for o board (opponent c) && has_no_pawn_on_ends board && not (in_check board (opponent c)))
unfolding is_sane
sane-as o board White one own = rw (eq-eqb _ 1 (one White), eq-eqb _ 1 (one Black), own) refl
sane-as o board Black one own =
    let w : (kings White board == 1) ≡ true = eq-eqb _ 1 (one White) in
    let b : (kings Black board == 1) ≡ true = eq-eqb _ 1 (one Black) in
    ap (λ (x : Bool). x && accounts_for o board White && (kings Black board == 1) && accounts_for o board Black && has_no_pawn_on_ends board && not (in_check board White)) w
    ∙ ap (λ (x : Bool). accounts_for o board White && x && accounts_for o board Black && has_no_pawn_on_ends board && not (in_check board White)) b
    ∙ ap (λ (x : Bool). accounts_for o board White && true && x && has_no_pawn_on_ends board && not (in_check board White)) own
    ∙ ap (λ (x : Bool). x && has_no_pawn_on_ends board && not (in_check board White)) (and-yes (accounts_for o board White))

pub other-colour : (c : Colour) (place : Option Man) → is_of (opponent c) place ≡ true → is_of c place ≡ false
other-colour c None h = refl
other-colour White (Some m) h = elim m.colour as (λ d. same_colour Black d ≡ true → same_colour White d ≡ false) [ White ↦ λ e. cc | Black ↦ λ e. refl ] h
other-colour Black (Some m) h = elim m.colour as (λ d. same_colour White d ≡ true → same_colour Black d ≡ false) [ White ↦ λ e. refl | Black ↦ λ e. cc ] h

cancel : (a b x t : ℕ) → a + x ≡ b + x + t → t ≡ 0 → a ≡ b
cancel a b x t e z = omega arith

-- the king of the side to move stands where he stood, alone
king-stays : (q : Asked) (f : QueryFacts) (m : Move) (taken : Option Man) → AreFacts q f → IsPlain q.board (mover q) m → IsTaken (mover q) taken → (s : ℕ) → s < 64 → is_the q.turn King (at (put_back q.board m taken) s) ≡ (s == f.king)
king-stays q f m taken n p k s small =
    let other : is_of q.turn (at q.board m.to) ≡ false = other-colour q.turn (at q.board m.to) p.own in
    elim (cases_eq s m.from) [
      | inl same ↦
          ap (is_the q.turn King) (ap (at (put_back q.board m taken)) same ∙ at-origin q.board (mover q) m taken p) ∙ and_left _ _ other
          ∙ sym (ap (is_the q.turn King) p.origin) ∙ n.king_is m.from p.from ∙ ap (λ (x : ℕ). x == f.king) (sym same)
      | inr away ↦ elim (cases_eq s m.to) [
        | inl same ↦
            ap (is_the q.turn King) (ap (at (put_back q.board m taken)) same ∙ at-target q.board (mover q) m taken p) ∙ and_right _ _ k.no_king
            ∙ sym (and_left _ _ other) ∙ n.king_is m.to p.to ∙ ap (λ (x : ℕ). x == f.king) (sym same)
        | inr t ↦ ap (is_the q.turn King) (at-other q.board m taken s away t) ∙ n.king_is s small
      ]
    ]

kings-stay : (q : Asked) (f : QueryFacts) (m : Move) (taken : Option Man) → AreFacts q f → IsPlain q.board (mover q) m → IsTaken (mover q) taken → (d : Colour) → kings d (put_back q.board m taken) ≡ 1
kings-stay q f m taken n p k d =
    let board : Places = put_back q.board m taken in
    let len : length board ≡ 64 = length-put q.board m taken ∙ n.whole in
    let was : men d King is_any q.board ≡ 1 = men-kings d q.board n.whole ∙ n.kings d in
    let none : one_if (is_the d King taken && is_any m.to) ≡ 0 = ap one_if (and_left _ _ (and_right _ _ k.no_king)) in
    sym (men-kings d board len) ∙ cancel _ _ _ _ (men-put d (mover q) King is_any q.board m taken p) none ∙ was

moves-light : (board : Places) (m : Move) → is_a Bishop (at board m.from) ≡ true → man_moves board m ≡ true → is_light m.from ≡ is_light m.to
unfolding man_moves attacks_from
moves-light board m bishop h = bishop-steps board (at board m.from) m.from m.to bishop (and_parts _ _ h).1

steps-pawn : (board : Places) (c : Colour) (m : Move) → pawn_steps board c m ≡ true → is_a Pawn (at board m.from) ≡ true
unfolding pawn_steps
steps-pawn board c m h = (and_parts _ _ (and_parts _ _ (and_parts _ _ h).0).0).0

doubles-pawn : (board : Places) (c : Colour) (m : Move) → pawn_doubles board c m ≡ true → is_a Pawn (at board m.from) ≡ true
unfolding pawn_doubles
doubles-pawn board c m h = (and_parts _ _ (and_parts _ _ (and_parts _ _ (and_parts _ _ (and_parts _ _ h).0).0).0).0).0

takes-pawn : (board : Places) (c : Colour) (m : Move) → pawn_captures board c m ≡ true → is_a Pawn (at board m.from) ≡ true
unfolding pawn_captures
takes-pawn board c m h = (and_parts _ _ (and_parts _ _ (and_parts _ _ h).0).0).0

bishop-goes : (board : Places) (c : Colour) (m : Move) → goes_plainly board c m ≡ true → is_a Bishop (at board m.from) ≡ true → is_light m.from ≡ is_light m.to
bishop-goes board c m goes bishop =
    let pawn : is_a Pawn (at board m.from) ≡ false = another_kind Pawn Bishop _ bishop in
    elim (four (man_moves board m) (pawn_steps board c m) (pawn_doubles board c m) (pawn_captures board c m) (and_parts (promotion_fits board c m) _ goes).1) [
      | inl x ↦ elim x [ inl h ↦ moves-light board m bishop h | inr h ↦ absurd (both_ways _ pawn (steps-pawn board c m h)) ]
      | inr x ↦ elim x [ inl h ↦ absurd (both_ways _ pawn (doubles-pawn board c m h)) | inr h ↦ absurd (both_ways _ pawn (takes-pawn board c m h)) ]
    ]

-- the board before is sane where the account of the side to move holds, no pawn comes to an end, and its king isn't attacked
sane-plain : (q : Asked) (f : QueryFacts) (m : Move) (taken : Option Man) → AreFacts q f → IsPlain q.board (mover q) m → IsTaken (mover q) taken → goes_plainly (put_back q.board m taken) (mover q) m ≡ true → is_sane q.odds (put_back q.board m taken) (mover q) ≡ (accounts_for q.odds (put_back q.board m taken) q.turn && (not (is_a Pawn (at q.board m.to) && is_end m.from) && not (is_a Pawn taken && is_end m.to)) && not (attacks (put_back q.board m taken) f.king (mover q)))
sane-plain q f m taken n p k goes =
    let c : Colour = mover q in
    let board : Places = put_back q.board m taken in
    let light : is_a Bishop (at q.board m.to) ≡ true → is_light m.to ≡ is_light m.from = λ bishop. sym (bishop-goes board c m goes (ap (is_a Bishop) (at-origin q.board c m taken p) ∙ bishop)) in
    let own : accounts_for q.odds board c ≡ true = account-own q.odds c q.board m taken p k.not_own light ∙ n.own in
    let turn : opponent c ≡ q.turn = opponent-twice q.turn in
    sane-as q.odds board c (kings-stay q f m taken n p k) own
    ∙ ap (λ (d : Colour). accounts_for q.odds board d && has_no_pawn_on_ends board && not (in_check board d)) turn
    ∙ ap (λ (b : Bool). accounts_for q.odds board q.turn && b && not (in_check board q.turn)) (ends-put q.board c m taken p n.ends)
    ∙ ap (λ (b : Bool). accounts_for q.odds board q.turn && (not (is_a Pawn (at q.board m.to) && is_end m.from) && not (is_a Pawn taken && is_end m.to)) && not b) (check-is board q.turn f.king n.on_board (king-stays q f m taken n p k))

-- a plain unmove is listed where its man goes so, and the board before is sane
pub listed-plain : (q : Asked) (f : QueryFacts) (m : Move) (captured : Option Kind) (taken : Option Man) → taken ≡ captured_by (at q.board m.to) captured → AreFacts q f → IsPlain q.board (mover q) m → obeys q m ≡ true → IsTaken (mover q) taken → is_retraction q (taking m captured) ≡ (goes_plainly (put_back q.board m taken) (mover q) m && (accounts_for q.odds (put_back q.board m taken) q.turn && (not (is_a Pawn (at q.board m.to) && is_end m.from) && not (is_a Pawn taken && is_end m.to)) && not (attacks (put_back q.board m taken) f.king (mover q))))
listed-plain q f m captured taken is n p asked k =
    as-tested q (taking m captured)
    ∙ ap (tested q (taking m captured)) (before-is q.board (mover q) m captured p ∙ ap (put_back q.board m) (sym is))
    ∙ listed-as q m captured taken is p asked n.safe k
    ∙ and-under _ _ _ (sane-plain q f m taken n p k)
