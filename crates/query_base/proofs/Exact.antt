-- Queries that compare equal are equal.
use Rattle.std.proofs.Common.{◌≡◌, true, ◌&&◌, refl}
use Rattle.std.specs.Prelude.{nat_eq}
use Rattle.std.specs.Bool.{beq}
use Rattle.std.specs.Option.{option_eq}
use Rattle.std.specs.Cmp.Lexicographic.{pointwise}
use Rattle.std.proofs.lemmas.Bool.{and_parts, and_from}
use Rattle.board_base.specs.contracts.men.ColourPartialEq.TheImpl as colours
use Rattle.board_base.proofs.Settled.{boards_decide, colours_decide, man_eq, move_eq, moves_decide, rights_decide, rights_eq}
use Rattle.board_base.specs.SameSets.{sets_decide}
use Rattle.query_base.proofs.Settled.{clocks_decide}
use Rattle.query_base.specs.Asked.{Asked}
use Rattle.query_base.specs.contracts.queries.QueryPartialEq.TheImpl as queries

same_asked : (a b : Asked) → a.board ≡ b.board → a.turn ≡ b.turn → a.odds ≡ b.odds → a.held ≡ b.held → a.only ≡ b.only → a.barred ≡ b.barred → a.clock ≡ b.clock → a ≡ b
same_asked a b p q o r s t u = λ i. record { board = p i; turn = q i; odds = o i; held = r i; only = s i; barred = t i; clock = u i }

pub exact : (a b : Asked) → queries.eq-value.it a b ≡ true → a ≡ b
exact a b e =
    let whole : (pointwise (option_eq man_eq) a.board b.board && (colours.ghosts.eq a.turn b.turn && (pointwise beq a.odds b.odds && (rights_eq a.held b.held && (option_eq move_eq a.only b.only && (option_eq move_eq a.barred b.barred && option_eq nat_eq a.clock b.clock)))))) ≡ true = e in
    let p1 = and_parts _ _ whole in
    let p2 = and_parts _ _ p1.1 in
    let p3 = and_parts _ _ p2.1 in
    let p4 = and_parts _ _ p3.1 in
    let p5 = and_parts _ _ p4.1 in
    let p6 = and_parts _ _ p5.1 in
    same_asked a b ((boards_decide a.board b.board).0 p1.0) ((colours_decide a.turn b.turn).0 p2.0) ((sets_decide a.odds b.odds).0 p3.0) ((rights_decide a.held b.held).0 p4.0) ((moves_decide a.only b.only).0 p5.0) ((moves_decide a.barred b.barred).0 p6.0) ((clocks_decide a.clock b.clock).0 p6.1)

pub itself : (a : Asked) → queries.eq-value.it a a ≡ true
itself a =
    and_from _ _ ((boards_decide a.board a.board).1 refl) (and_from _ _ ((colours_decide a.turn a.turn).1 refl) (and_from _ _ ((sets_decide a.odds a.odds).1 refl) (and_from _ _ ((rights_decide a.held a.held).1 refl) (and_from _ _ ((moves_decide a.only a.only).1 refl) (and_from _ _ ((moves_decide a.barred a.barred).1 refl) ((clocks_decide a.clock a.clock).1 refl))))))
