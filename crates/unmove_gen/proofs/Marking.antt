-- What the code tests of boards and marks is what the list asks of them.
use Rattle.std.proofs.Common.{◌≡◌, Bool, true, false, cond, ◌&&◌, refl, ap, sym, ◌∙◌}
use Rattle.std.proofs.lemmas.Bool.{and_from, and_parts, cond-true, cond-false}
use Rattle.std.specs.Prelude.{Option, Some, None, IsTrue, ◌↔◌}
use Rattle.std.specs.Bool.{beq}
use Rattle.board_base.specs.Board.{Places, at, is_a, is_empty, is_the, opponent}
use Rattle.board_base.specs.Play.{double_of}
use Rattle.board_base.specs.Legal.{pawn_captures_en_passant}
use Rattle.board_base.specs.declared.men.Colour.{Colour}
use Rattle.board_base.specs.declared.men.Kind.{Kind}
use Rattle.board_base.specs.declared.men.Kind.TheVariants.{Pawn}
use Rattle.board_base.specs.declared.moves.Move.{Move}
use Rattle.board_base.specs.declared.unmoves.Unmove.{Unmove}
use Rattle.unmove_gen.specs.Listed.{answered, has_left, is_marked, same_places, took_pawn}
use Rattle.board_base.proofs.Equal.{move_self}
use Rattle.unmove_gen.proofs.Equal.{places_are, places_self}
use Rattle.general_lemmas.proofs.Truth.{same_truth}
use Rattle.unmove_gen.proofs.Marks.{has_passed, none-answers}

-- boards that are compared as wholes are compared place by place
pub same-boards : (a b : Places) (r : Bool) → IsTrue r ↔ (a ≡ b) → r ≡ same_places a b
same-boards a b r same = same_truth r (same_places a b) (λ h. ap (same_places a) (sym (same.0 h)) ∙ places_self a) (λ h. same.1 (places_are a b h))

marked_as : Places → Colour → Unmove → Bool → Option Move → Bool
marked_as board c u ep o = beq ep (pawn_captures_en_passant board c o u.mv) && cond ep (took_pawn u && has_left o board) true

as-marked : (board : Places) (c : Colour) (u : Unmove) (ep : Bool) (o : Option Move) → u.ep ≡ ep → answered u c ≡ o → is_marked board c u ≡ marked_as board c u ep o
unfolding marked_as
as-marked board c u ep o e a = ap (λ (b : Bool). marked_as board c u b (answered u c)) e ∙ ap (marked_as board c u ep) a

pub unmarked : (board : Places) (c : Colour) (u : Unmove) → u.ep ≡ false → true ≡ is_marked board c u
unfolding marked_as
unmarked board c u plain =
    sym (as-marked board c u false None plain (cond-false u.ep (double_of u.mv c) None plain) ∙ and_from _ _ (ap (beq false) (none-answers board c u.mv)) refl)

pub wrongly-marked : (board : Places) (c : Colour) (u : Unmove) → u.ep ≡ true → double_of u.mv c ≡ None → false ≡ is_marked board c u
unfolding marked_as
wrongly-marked board c u ep none =
    sym (as-marked board c u true None ep (cond-true u.ep (double_of u.mv c) None ep ∙ none) ∙ ap (λ (b : Bool). beq true b && (took_pawn u && true)) (none-answers board c u.mv))

same-true : (b : Bool) → beq true b ≡ b
same-true true = refl
same-true false = refl

-- what is marked is a capture en passant
pub marked-passes : (board : Places) (c : Colour) (m : Move) (captured : Option Kind) → is_marked board c (record { mv = m; captured = captured; ep = true }) ≡ true → pawn_captures_en_passant board c (double_of m c) m ≡ true
marked-passes board c m captured h =
    sym (same-true (pawn_captures_en_passant board c (double_of m c) m)) ∙ (and_parts (beq true (pawn_captures_en_passant board c (double_of m c) m)) _ h).0

regrouped : (a b d e : Bool) → (a && b && d && e) ≡ ((a && b) && (d && e))
regrouped true b d e = elim b as (λ x. (x && d && e) ≡ (x && (d && e))) [ true ↦ refl | false ↦ refl ]
regrouped false b d e = refl

captures-self : (board : Places) (c : Colour) (m d : Move) → double_of m c ≡ Some d → pawn_captures_en_passant board c (Some d) m ≡ (is_a Pawn (at board m.from) && is_empty (at board m.to) && is_the (opponent c) Pawn (at board d.to))
unfolding pawn_captures_en_passant
captures-self board c m d e =
    ap (λ (o : Option Move). is_a Pawn (at board m.from) && is_empty (at board m.to) && has_passed board c (Some d) o) e
    ∙ ap (λ (b : Bool). is_a Pawn (at board m.from) && is_empty (at board m.to) && (b && is_the (opponent c) Pawn (at board d.to))) (move_self d)

pub rightly-marked : (board : Places) (c : Colour) (u : Unmove) (d : Move) → u.ep ≡ true → double_of u.mv c ≡ Some d → (is_a Pawn (at board u.mv.from) && is_empty (at board u.mv.to) && is_the (opponent c) Pawn (at board d.to) && took_pawn u && is_empty (at board d.from)) ≡ is_marked board c u
unfolding marked_as
rightly-marked board c u d ep e =
    regrouped (is_a Pawn (at board u.mv.from) && is_empty (at board u.mv.to)) (is_the (opponent c) Pawn (at board d.to)) (took_pawn u) (is_empty (at board d.from))
    ∙ ap (λ (b : Bool). b && (took_pawn u && is_empty (at board d.from))) (sym (captures-self board c u.mv d e) ∙ sym (same-true _))
    ∙ sym (as-marked board c u true (Some d) ep (cond-true u.ep (double_of u.mv c) None ep ∙ e))
