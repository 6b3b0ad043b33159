-- What a pawn pays and which gates he passes, by his way.
use Rattle.std.proofs.Common.{◌≡◌, ℕ, ◌+◌, ◌==◌, Bool, true, false, ◌||◌, inl, inr, List, [], ◌∷◌, ap, sym, ◌∙◌, arith}
use Rattle.std.proofs.lemmas.Bool.{and_from, and_left, and_right, cases_Bool, cond-true, cond-false}
use Rattle.std.specs.List.{sum_by}
use Rattle.board_base.specs.Board.{array_of, at, is_of, is_the, rank}
use Rattle.board_base.specs.Legal.{last_rank}
use Rattle.board_base.specs.declared.men.Colour.{Colour}
use Rattle.board_base.specs.declared.men.Kind.TheVariants.{Pawn}
use Rattle.board_base.specs.declared.moves.Move.{Move}
use Rattle.men_account.specs.Labels.{labels_after}
use Rattle.men_fates.specs.Deeds.{strikes, way_of}
use Rattle.board_base.specs.Game.{IsGame}
use Rattle.men_fates.proofs.WayLists.{straight-none}
use Rattle.men_fates.proofs.Strikes.{way-captures}
use Rattle.men_ledger.proofs.Facing.{own-side}
use Rattle.men_ledger.specs.Files.{gates_passed, is_there, keeps_file}
use Rattle.men_ledger.specs.Ledger.{paid}
use Rattle.men_fates.specs.Ways.{fee, is_straight, toll, way_end}

-- what he pays is the fee of his way
pub fee-paid : (o : List Bool) (g : List Move) (c : Colour) (price : ℕ → ℕ) (h : ℕ) → IsGame o g → is_of c (at (array_of o) h) ≡ true → fee price h (way_of o g h) ≡ paid price (strikes o g c) h
fee-paid o g c price h game home = ap (sum_by price) (way-captures o g c h game home)

-- With the gates that he passes it is the toll of his way, where he is on the board or was promoted.
pub toll-paid : (o : List Bool) (g : List Move) (c : Colour) (price gate : ℕ → ℕ) (h : ℕ) → IsGame o g → is_the c Pawn (at (array_of o) h) ≡ true → (is_there (labels_after o g) h || (rank (way_end h (way_of o g h)) == last_rank c)) ≡ true → toll price gate h (way_of o g h) ≡ paid price (strikes o g c) h + gates_passed gate o g c h
toll-paid o g c price gate h game home here = elim (cases_Bool (is_straight h (way_of o g h))) [
  | inl straight ↦
      let keeps : keeps_file o g c h ≡ true = and_from _ _ (and_from _ _ home straight) here in
      let free : paid price (strikes o g c) h ≡ 0 = ap (sum_by price) (sym (way-captures o g c h game (own-side o c h home)) ∙ straight-none h (way_of o g h) straight) in
      let gates : gates_passed gate o g c h ≡ sum_by gate (h ∷ way_of o g h) = ap (sum_by gate) (cond-true (keeps_file o g c h) (h ∷ way_of o g h) [] keeps) in
      let all : toll price gate h (way_of o g h) ≡ sum_by gate (h ∷ way_of o g h) = cond-true (is_straight h (way_of o g h)) (sum_by gate (h ∷ way_of o g h)) (fee price h (way_of o g h)) straight in
      omega (arith, free, gates, all)
  | inr aside ↦
      let keeps : keeps_file o g c h ≡ false = and_left _ _ (and_right _ _ aside) in
      let gates : gates_passed gate o g c h ≡ 0 = ap (sum_by gate) (cond-false (keeps_file o g c h) (h ∷ way_of o g h) [] keeps) in
      let all : toll price gate h (way_of o g h) ≡ fee price h (way_of o g h) = cond-false (is_straight h (way_of o g h)) (sum_by gate (h ∷ way_of o g h)) (fee price h (way_of o g h)) aside in
      omega (arith, gates, all, fee-paid o g c price h game (own-side o c h home))
]
