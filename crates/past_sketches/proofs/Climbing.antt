-- Each move before a moment is quiet for the figures or a step of the sketch; so no game comes to a closed one that can't be the array
-- and before whose steps there is none.
use Rattle.std.proofs.Common.{◌≡◌, ℕ, ◌==◌, ◌⊎◌, inl, inr, Bool, true, false, not, List, ◌++◌, refl, ap, sym, ◌∙◌, subst}
use Rattle.std.proofs.lemmas.Bool.{and_parts, and_from, both_ways, cases_Bool, eqb-true}
use Rattle.std.proofs.lemmas.List.Folds.{list_all-append}
use Rattle.std.proofs.lemmas.Option.{same_Some}
use Rattle.std.specs.Prelude.{Option, Some, None}
use Rattle.board_base.specs.Board.{at, is_a, rank}
use Rattle.board_base.specs.Play.{goes_en_passant}
use Rattle.board_base.specs.Legal.{last_rank, promotion_fits}
use Rattle.board_base.specs.Game.{IsGame, board_after, lacks_home, last_move, touches, turn_after, unmoved}
use Rattle.board_base.specs.Rights.{Rights, holds}
use Rattle.board_base.specs.declared.men.Kind.{Kind}
use Rattle.board_base.specs.declared.men.Kind.TheVariants.{Pawn}
use Rattle.board_base.specs.declared.moves.Move.{Move}
use Rattle.board_base.specs.declared.castles.Castle.{Castle}
use Rattle.board_base.proofs.KindsOfMen.{full-of}
use Rattle.play_rules.proofs.Games.{game_more, in_every_game, unmoved-before}
use Rattle.men_account.specs.Labels.{label_at, labels_after}
use Rattle.men_account.proofs.Labelled.{labels-each_man}
use Rattle.cage_rules.proofs.Histories.{game-begins}
use Rattle.men_fates.proofs.Strikes.{label-some}
use Rattle.men_fates.proofs.Treads.{Tread, capture, double, single, tread}
use Rattle.past_sketches.specs.Closed.{IsClosed}
use Rattle.past_sketches.specs.Figures.{Figure, Sketch, figure_at}
use Rattle.past_sketches.specs.Homes.{may_be_array}
use Rattle.past_sketches.specs.Steps.{Step, is_deed, is_step, taken_back}
use Rattle.past_sketches.specs.Touching.{side_checks}
use Rattle.past_sketches.specs.Trimmed.{trims}
use Rattle.past_sketches.specs.Fits.{Fits}
use Rattle.past_sketches.specs.Moments.{FitsGame, FitsStep}
use Rattle.past_sketches.proofs.Checks.{step-calm}
use Rattle.past_sketches.proofs.Moments.{Moment, earlier, legal}
use Rattle.past_sketches.proofs.Back.{find-label, fits-before}
use Rattle.past_sketches.proofs.Deeds.{turned, was-pawn}
use Rattle.past_sketches.proofs.Taken.{capture-step, double-short, promoted-last, straight-step}
use Rattle.past_sketches.proofs.Advances.{double-advance, single-advance}
use Rattle.past_sketches.proofs.Passed.{en_passant-step}
use Rattle.past_sketches.proofs.Wanted.{array-begins}

module _ (o : List Bool) (p : List Move) (m : Move) (held : Rights) (exact : List Bool) (T : Sketch) (it : Moment o p m held exact T) where
  promoted-on : (k : Kind) → m.promo ≡ Some k → (rank m.to == last_rank (turn_after p)) ≡ true
  unfolding promotion_fits
  promoted-on k some = promoted-last m.promo k (is_a Pawn (at (board_after o p) m.from)) (rank m.to == last_rank (turn_after p)) some (legal o p m held exact T it).promotion

  -- a deed of a figure's man is a step
  deed-step : (deed : is_deed exact (board_after o p) m ≡ true) (j : ℕ) (f : Figure) (found : figure_at T j ≡ Some f) (his : label_at (labels_after o p) m.from ≡ Some (it.fits.label j)) → (promo : Option Kind) → m.promo ≡ promo → Tread (board_after o p) (turn_after p) m → FitsStep o p exact T
  deed-step deed j f found his None none (single one up same free) = single-advance o p m held exact T it deed j f found his none same up free (turned o p m held exact T it deed none same)
  deed-step deed j f found his (Some k) some (single one up same free) = straight-step o p m held exact T it deed j f found his k some same up
  deed-step deed j f found his None none (double two home same crossed_free free) = double-advance o p m held exact T it deed j f found his none same two home crossed_free (turned o p m held exact T it deed none same)
  deed-step deed j f found his (Some k) some (double two home same crossed_free free) = absurd (double-short (turn_after p) m.from m.to two home (eqb-true _ _ (promoted-on k some)))
  deed-step deed j f found his promo is (capture one up aside enemy) = elim (cases_Bool (goes_en_passant (board_after o p) m)) [
    | inl past ↦ en_passant-step o p m held exact T it deed j f found his past
    | inr plain ↦ capture-step o p m held exact T it deed j f found his plain up aside enemy
  ]

  -- one move back
  pub steps-back : Fits o p T ⊎ FitsStep o p exact T
  steps-back = elim (cases_Bool (is_deed exact (board_after o p) m)) [
    | inr quiet ↦ inl (fits-before o p m held exact T it (λ i f found label. quiet))
    | inl deed ↦
        let lawful = legal o p m held exact T it in
        let label = label-some (label_at (labels_after o p) m.from) (labels-each_man o p (earlier o p m held exact T it) m.from ∙ full-of (turn_after p) (at (board_after o p) m.from) lawful.mover) in
        elim (find-label T it.fits.label label.0) [
          | inr none ↦ inl (fits-before o p m held exact T it (λ i f found his. absurd (none i f found (same_Some _ _ (sym his ∙ label.1)))))
          | inl has ↦ inr (deed-step deed has.number has.figure has.found (label.1 ∙ ap Some (sym has.same)) m.promo refl
              (tread (board_after o p) (turn_after p) (unmoved o p) (last_move p) m (was-pawn o p m held exact T it deed) lawful.on_board lawful.manner))
        ]
  ]

unmoved-begins : (o : List Bool) (first rest : List Move) (x : Castle) → unmoved o (first ++ rest) x ≡ true → unmoved o first x ≡ true
unmoved-begins o first rest x h =
    let parts = and_parts (not (lacks_home o x)) _ h in
    and_from _ _ parts.0 (and_parts _ _ (sym (list_all-append (λ m. not (touches m x)) first rest) ∙ parts.1)).0

-- a beginning of a game that a sketch fits, by the moment of a step
first-fits : (o : List Bool) (p : List Move) (held : Rights) (exact : List Bool) (T : Sketch) → IsGame o p → ((x : Castle) → holds held x ≡ true → unmoved o p x ≡ true) → (by : FitsStep o p exact T) → FitsGame o by.first held (taken_back T by.step)
first-fits o p held exact T game rights by = record {
  game = game-begins o by.first by.rest (subst (IsGame o) by.split game);
  rights = λ x has. unmoved-begins o by.first by.rest x (ap (λ (g : List Move). unmoved o g x) (sym by.split) ∙ rights x has);
  fits = by.fits;
}

-- a closed sketch that can't be the array, and all of whose steps come from no game
pub climb : (o : List Bool) (held : Rights) (exact : List Bool) (T : Sketch) (rounds : Step → ℕ) → IsClosed held exact T → may_be_array o T ≡ false → ((x : Step) → is_step exact T x ≡ true → side_checks (trims (rounds x) (taken_back T x)) (figure_at T x.by) ≡ false → (q : List Move) → FitsGame o q held (taken_back T x) → ⊥) → (p : List Move) → IsGame o p → ((x : Castle) → holds held x ≡ true → unmoved o p x ≡ true) → Fits o p T → ⊥
climb o held exact T rounds closed away none =
    in_every_game o (λ p. ((x : Castle) → holds held x ≡ true → unmoved o p x ≡ true) → Fits o p T → ⊥)
    (λ rights fits. both_ways _ away (array-begins o T fits))
    (λ p m game lawful before rights fits.
    let rights' : (x : Castle) → holds held x ≡ true → unmoved o p x ≡ true = λ x has. (unmoved-before o p m x (rights x has)).0 in
    elim (steps-back o p m held exact T (record { game = game_more o p m game lawful; rights = rights; fits = fits; closed = closed })) [
      | inl same ↦ before rights' same
      | inr by ↦ let first = first-fits o p held exact T game rights' by in none by.step by.made (step-calm o p exact T (rounds by.step) by first.game) by.first first
    ])
