-- What can be settled: whether a query covers another, and whether the game of no moves reaches it.
use Rattle.std.proofs.Common.{rules, ◌≡◌, ℕ, true, false, inl, inr, [], refl}
use Rattle.std.specs.Bool.{Decides}
use Rattle.std.specs.Cmp.{unsigned_Decides}
use Rattle.std.specs.Option.{option_eq}
use Rattle.std.specs.Prelude.{nat_eq, IfSome, IsTrue, Option, Some, None, is_some}
use Rattle.std.proofs.lemmas.Bool.{both_ways}
use Rattle.general_lemmas.proofs.Settling.{Settled, both, by_test, implied, same, test}
use Rattle.board_base.specs.Board.{AreOdds, array_of}
use Rattle.board_base.specs.Game.{unmoved}
use Rattle.board_base.specs.Rights.{holds}
use Rattle.board_base.specs.declared.men.Colour.TheVariants.{White}
use Rattle.board_base.specs.declared.moves.Move.{Move}
use Rattle.board_base.specs.SameSets.{sets_decide}
use Rattle.board_base.proofs.Settled.{boards_decide, colours_decide, each_castle, moves_decide, odds_settled}
use Rattle.query_base.specs.Asked.{Asked}
use Rattle.query_base.specs.Ends.{IsWithin}
use Rattle.query_base.specs.Reach.{Reaches}
use Rattle.query_base.specs.Targets.{Covers}
use Rattle.query_base.proofs.Meeting.{AreThere, reaches_nothing}

pub clocks_decide : (a b : Option ℕ) → Decides (option_eq nat_eq a b) (a ≡ b)
clocks_decide a b = search rules

kept-clock : (o p : Option ℕ) → Settled (IfSome o (λ n. p ≡ Some n))
kept-clock None p = inl tt
kept-clock (Some n) p = by_test _ _ (clocks_decide p (Some n))

kept-move : (o p : Option Move) → Settled (IfSome o (λ m. p ≡ Some m))
kept-move None p = inl tt
kept-move (Some m) p = by_test _ _ (moves_decide p (Some m))

pub covers_settled : (a q : Asked) → Settled (Covers a q)
covers_settled a q =
    let within = each_castle (λ x. IsTrue (holds a.held x) → IsTrue (holds q.held x)) (λ x. implied _ _ (test (holds a.held x)) (test (holds q.held x))) in
    let last = both (IfSome a.only (λ m. q.only ≡ Some m)) (IfSome a.barred (λ m. q.barred ≡ Some m)) (kept-move a.only q.only) (kept-move a.barred q.barred) in
    let asked = both _ (IfSome a.clock (λ n. q.clock ≡ Some n)) last (kept-clock a.clock q.clock) in
    let seen = both (a.board ≡ q.board) (a.turn ≡ q.turn) (by_test _ _ (boards_decide a.board q.board)) (by_test _ _ (colours_decide a.turn q.turn)) in
    let named = by_test (a.odds ≡ q.odds) _ (sets_decide a.odds q.odds) in
    same (((a.board ≡ q.board × a.turn ≡ q.turn) × (a.odds ≡ q.odds)) × (IsWithin a.held q.held × ((IfSome a.only (λ m. q.only ≡ Some m) × IfSome a.barred (λ m. q.barred ≡ Some m)) × IfSome a.clock (λ n. q.clock ≡ Some n)))) (Covers a q)
    (λ h. record { board = h.0.0.0; turn = h.0.0.1; odds = h.0.1; held = h.1.0; only = h.1.1.0.0; barred = h.1.1.0.1; clock = h.1.1.1 })
    (λ c. (((c.board, c.turn), c.odds), (c.held, ((c.only, c.barred), c.clock)))) (both _ _ (both _ _ seen named) (both _ _ within asked))

nothing-asked : (o : Option Move) (P : Move → Type 0) → ((m : Move) → P m → ⊥) → IfSome o P → is_some o ≡ false
nothing-asked None P never h = refl
nothing-asked (Some m) P never h = absurd (never m h)

is-none : (o : Option Move) → Settled (is_some o ≡ false)
is-none None = inl refl
is-none (Some m) = inr (λ e. both_ways true e refl)

none-yet : (o : Option ℕ) → Settled (IfSome o (λ n. 0 ≡ n))
none-yet None = inl tt
none-yet (Some n) = by_test _ _ (unsigned_Decides 0 n)

pub array_settled : (q : Asked) → Settled (Reaches [] q)
array_settled q =
    let seen = both (array_of q.odds ≡ q.board) (White ≡ q.turn) (by_test _ _ (boards_decide (array_of q.odds) q.board)) (by_test _ _ (colours_decide White q.turn)) in
    let there = each_castle (λ x. IsTrue (holds q.held x) → IsTrue (unmoved q.odds [] x)) (λ x. implied _ _ (test (holds q.held x)) (test (unmoved q.odds [] x))) in
    let asked = both _ (IfSome q.clock (λ n. 0 ≡ n)) (both (AreThere q) (is_some q.only ≡ false) there (is-none q.only)) (none-yet q.clock) in
    same ((AreOdds q.odds × (array_of q.odds ≡ q.board × White ≡ q.turn)) × ((AreThere q × (is_some q.only ≡ false)) × IfSome q.clock (λ n. 0 ≡ n))) (Reaches [] q)
    (λ h. reaches_nothing q h.0.0 h.0.1.0 h.0.1.1 h.1.0.0 h.1.0.1 h.1.1)
    (λ r. ((r.odds, (r.board, r.turn)), ((r.held, nothing-asked q.only _ (λ m h. absurd (let e = h.0 in cc)) r.only), r.clock))) (both _ _ (both _ _ (odds_settled q.odds) seen) asked)
