-- In a game in which the men of a set stay, ways go past them, and where a way is known the man stands where it brings him.
use Rattle.std.proofs.Common.{◌≡◌, ℕ, ◌⊎◌, inl, inr, Bool, true, false, List, [], ◌∷◌, ◌++◌, refl, ap, ◌∙◌, subst}
use Rattle.std.proofs.lemmas.Bool.{and_from, both_ways, cases_Bool, eq-eqb, false_from_ne_true}
use Rattle.std.proofs.lemmas.List.{append_assoc}
use Rattle.std.specs.Prelude.{Some}
use Rattle.board_base.specs.Board.{Places, array_of, at, is_a, is_in, is_of}
use Rattle.board_base.specs.Game.{IsGame, board_after, turn_after, unmoved, last_move}
use Rattle.board_base.specs.declared.men.Colour.{Colour}
use Rattle.board_base.specs.declared.men.Kind.TheVariants.{Pawn}
use Rattle.board_base.specs.declared.moves.Move.{Move}
use Rattle.play_rules.proofs.Legality.{Legality, legality}
use Rattle.play_rules.proofs.Games.{in_every_game}
use Rattle.men_account.specs.Labels.{Labels, label_at, labels_after}
use Rattle.men_account.proofs.Captured.{same-side}
use Rattle.cage_rules.specs.Laws.{Walled}
use Rattle.cage_rules.proofs.Histories.{game-begins}
use Rattle.cage_rules.proofs.WalledGames.{walled-full, walled-stays}
use Rattle.men_fates.specs.Deeds.{is_label, way_by, way_of}
use Rattle.men_fates.specs.Ways.{is_way, way_end}
use Rattle.men_fates.proofs.WayLists.{way-append}
use Rattle.men_fates.proofs.MoreDeeds.{label-is, label-told, mover-goes, other-rests, piece-rests, way-more}
use Rattle.men_fates.proofs.Goings.{pawn-ends}
use Rattle.men_fates.proofs.Strikes.{side-of}
use Rattle.men_fates.proofs.Treads.{Tread, tread, trodden-way}

-- no move of the game enters the set
pub target-free : (o : List Bool) (g k after : List Move) (m : Move) (set : List Bool) → Walled o g set → g ≡ k ++ m ∷ after → is_in set m.to ≡ false
target-free o g k after m set walled e = false_from_ne_true _ (λ member. both_ways _ (walled-stays o g k after m set walled e m.to member).elsewhere (eq-eqb m.to m.to refl))

-- what a move adds to a way is none, or it is made by the pawn whose way it is
pub his-or-none : (h : ℕ) (board : Places) (labels : Labels) (m : Move) → ((is_a Pawn (at board m.from) ≡ true) × (label_at labels m.from ≡ Some h)) ⊎ (way_by h board labels m ≡ [])
his-or-none h board labels m = elim (cases_Bool (is_a Pawn (at board m.from))) [
  | inr piece ↦ inr (piece-rests h board labels m piece)
  | inl pawn ↦ elim (cases_Bool (is_label (label_at labels m.from) h)) [
    | inl his ↦ inl (pawn, label-told (label_at labels m.from) h his)
    | inr other ↦ inr (other-rests h board labels m (λ label. both_ways _ other (label-is (label_at labels m.from) h label)))
  ]
]

-- the pawn of the side to move
pub mover-tread : (o : List Bool) (g : List Move) (m : Move) (c : Colour) → Legality (board_after o g) (turn_after g) (unmoved o g) (last_move g) m → is_of c (at (board_after o g) m.from) ≡ true → is_a Pawn (at (board_after o g) m.from) ≡ true → Tread (board_after o g) c m
mover-tread o g m c legal side pawn =
    subst (λ (x : Colour). Tread (board_after o g) x m) (same-side (turn_after g) c (at (board_after o g) m.from) legal.mover side) (tread (board_after o g) (turn_after g) (unmoved o g) (last_move g) m pawn legal.on_board legal.manner)

way-more-past : (o : List Bool) (g k after : List Move) (m : Move) (set : List Bool) (c : Colour) (h : ℕ) → Walled o g set → g ≡ k ++ m ∷ after → IsGame o k → Legality (board_after o k) (turn_after k) (unmoved o k) (last_move k) m → is_of c (at (array_of o) h) ≡ true → is_way c set (way_end h (way_of o k h)) (way_by h (board_after o k) (labels_after o k) m) ≡ true
way-more-past o g k after m set c h walled e game legal first =
    let board : Places = board_after o k in
    let labels : Labels = labels_after o k in
    elim (his-or-none h board labels m) [
      | inr none ↦ ap (is_way c set (way_end h (way_of o k h))) none
      | inl his ↦
          let goes : Tread board c m = mover-tread o k m c legal (side-of o k c m.from h game first his.1) his.0 in
          ap (λ (s : ℕ). is_way c set s (way_by h board labels m)) (pawn-ends o k game m.from h his.1 his.0)
          ∙ ap (is_way c set m.from) (mover-goes h board labels m his.0 his.1)
          ∙ trodden-way board c m set (walled-full o g k (m ∷ after) set walled e) (target-free o g k after m set walled e) legal.on_board goes
    ]

way-past-all : (o : List Bool) (g : List Move) (set : List Bool) (c : Colour) (h : ℕ) → Walled o g set → is_of c (at (array_of o) h) ≡ true → (k : List Move) → IsGame o k → (after : List Move) → g ≡ k ++ after → is_way c set h (way_of o k h) ≡ true
way-past-all o g set c h walled first =
    in_every_game o (λ k. (after : List Move) → g ≡ k ++ after → is_way c set h (way_of o k h) ≡ true) (λ after e. refl)
    (λ k m game allowed here after whole.
    let e : g ≡ k ++ m ∷ after = whole ∙ append_assoc k (m ∷ []) after in
    ap (is_way c set h) (way-more o k m h) ∙ way-append c set h (way_of o k h) (way_by h (board_after o k) (labels_after o k) m)
    ∙ and_from _ _ (here (m ∷ after) e) (way-more-past o g k after m set c h walled e game (legality _ _ _ _ _ allowed) first))

-- at each moment of the game
pub way-past : (o : List Bool) (g before after : List Move) (set : List Bool) (c : Colour) (h : ℕ) → Walled o g set → g ≡ before ++ after → is_of c (at (array_of o) h) ≡ true → is_way c set h (way_of o before h) ≡ true
way-past o g before after set c h walled e first = way-past-all o g set c h walled first before (game-begins o before after (subst (IsGame o) e walled.game)) after e
