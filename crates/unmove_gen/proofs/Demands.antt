-- What a query asks of the last move, and its predecessor of the game before.
use Rattle.std.proofs.Common.{◌≡◌, Bool, true, false, ◌&&◌, not, inl, inr, List, [], ◌∷◌, ◌++◌, refl, ap, sym, ◌∙◌, subst}
use Rattle.std.proofs.lemmas.Bool.{and_parts, and_from, and_right, and_cases, not-true, not_from_false, both_ways, cases_Bool, false_from_ne_true}
use Rattle.std.proofs.lemmas.Option.{same_Some}
use Rattle.std.specs.Prelude.{Option, Some, None, IsTrue, IfSome, ◌⊎◌}
use Rattle.board_base.specs.Board.{Places, at, is_a}
use Rattle.board_base.specs.Legal.{is_move}
use Rattle.board_base.specs.Game.{touches}
use Rattle.board_base.specs.Rights.{Rights, holds}
use Rattle.board_base.specs.declared.men.Kind.TheVariants.{Pawn}
use Rattle.board_base.specs.declared.moves.Move.{Move}
use Rattle.board_base.specs.declared.castles.Castle.{Castle}
use Rattle.board_base.proofs.EachCastle.{castle-each, each-castle}
use Rattle.board_base.proofs.Rights.{held_or_added, holds_kept}
use Rattle.play_rules.proofs.Doubles.{last_move-more}
use Rattle.query_base.specs.Asked.{Asked}
use Rattle.query_base.specs.Reach.{EndsWith}
use Rattle.unmove_gen.specs.Listed.{keeps_held, obeys_only, obeys_barred}
use Rattle.unmove_gen.specs.Predecessor.{with_castle}
use Rattle.board_base.proofs.Equal.{move_is, move_self}

-- no home of a right that is held is touched
pub untouched : (q : Asked) (m : Move) → keeps_held q m ≡ true → (x : Castle) → holds q.held x ≡ true → touches m x ≡ false
untouched q m h x has = elim (and_cases _ _ (not-true _ (each-castle (λ y. not (holds q.held y && touches m y)) h x))) [
  | inl lacks ↦ absurd (both_ways _ lacks has)
  | inr quiet ↦ quiet
]

pub keeps-all : (q : Asked) (m : Move) → ((x : Castle) → holds q.held x ≡ true → touches m x ≡ false) → keeps_held q m ≡ true
keeps-all q m h = castle-each (λ y. not (holds q.held y && touches m y)) (λ x. elim (cases_Bool (holds q.held x)) [
  | inl has ↦ not_from_false _ (and_right _ _ (h x has))
  | inr lacks ↦ subst (λ (b : Bool). not (b && touches m x) ≡ true) (sym lacks) refl
])

-- a move that is demanded, or barred
pub only-met : (o : Option Move) (board : Places) (g : List Move) (m : Move) → obeys_only o board m ≡ true → IfSome o (λ n. EndsWith (g ++ m ∷ []) n × IsTrue (is_a Pawn (at board n.to)))
only-met None board g m h = tt
only-met (Some n) board g m h =
    let parts = and_parts _ _ h in
    let same : n ≡ m = move_is n m parts.0 in
    (last_move-more g m ∙ ap Some (sym same), subst (λ (k : Move). is_a Pawn (at board k.to) ≡ true) (sym same) parts.1)

pub only-from : (o : Option Move) (board : Places) (g : List Move) (m : Move) → IfSome o (λ n. EndsWith (g ++ m ∷ []) n × IsTrue (is_a Pawn (at board n.to))) → obeys_only o board m ≡ true
only-from None board g m h = refl
only-from (Some n) board g m h =
    let same : n ≡ m = same_Some _ _ (sym h.0 ∙ last_move-more g m) in
    and_from _ _ (subst (λ (k : Move). is_move (Some n) k ≡ true) same (move_self n)) (subst (λ (k : Move). is_a Pawn (at board k.to) ≡ true) same h.1)

pub barred-met : (o : Option Move) (g : List Move) (m : Move) → obeys_barred o m ≡ true → IfSome o (λ n. EndsWith (g ++ m ∷ []) n → ⊥)
barred-met None g m h = tt
barred-met (Some n) g m h = λ ends.
    let same : m ≡ n = same_Some _ _ (sym (last_move-more g m) ∙ ends) in
    both_ways _ (not-true _ h) (subst (λ (k : Move). is_move (Some k) m ≡ true) same (move_self m))

pub barred-from : (o : Option Move) (g : List Move) (m : Move) → IfSome o (λ n. EndsWith (g ++ m ∷ []) n → ⊥) → obeys_barred o m ≡ true
barred-from None g m h = refl
barred-from (Some n) g m h = not_from_false _ (false_from_ne_true _ (λ same. h (last_move-more g m ∙ ap Some (sym (move_is n m same)))))

pub held-keeps : (held : Rights) (o : Option Castle) (x : Castle) → holds held x ≡ true → holds (with_castle held o) x ≡ true
held-keeps held None x h = h
held-keeps held (Some y) x h = holds_kept held y x h

pub held-from : (held : Rights) (o : Option Castle) (x : Castle) → holds (with_castle held o) x ≡ true → (holds held x ≡ true) ⊎ (o ≡ Some x)
held-from held None x h = inl h
held-from held (Some y) x h = elim (held_or_added held y x h) [
  | inl same ↦ inr (ap Some (sym same))
  | inr has ↦ inl has
]
