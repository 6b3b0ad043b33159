-- In every game the squares over which a man went as a pawn are a way from his home, which ends on the last rank once he was promoted.
use Rattle.std.proofs.Common.{◌≡◌, ℕ, ◌==◌, Bool, true, false, ◌&&◌, not, inl, inr, List, [], ◌∷◌, ◌++◌, refl, ap, sym, ◌∙◌, subst}
use Rattle.std.proofs.lemmas.Bool.{and_from, and_parts, both_ways, cases_Bool, eqb-true}
use Rattle.std.specs.Prelude.{Option, Some, None}
use Rattle.board_base.specs.Board.{Places, array_of, at, is_of, is_a, is_the, rank}
use Rattle.board_base.specs.Play.{rook_home}
use Rattle.board_base.specs.Legal.{is_officer, last_rank, promotion_fits}
use Rattle.board_base.specs.Game.{IsGame, board_after, turn_after, unmoved, last_move}
use Rattle.board_base.specs.declared.men.Colour.{Colour}
use Rattle.board_base.specs.declared.men.Kind.{Kind}
use Rattle.board_base.specs.declared.men.Kind.TheVariants.{Pawn}
use Rattle.board_base.specs.declared.men.Man.{Man}
use Rattle.board_base.specs.declared.moves.Move.{Move}
use Rattle.board_base.proofs.CastleSquares.{rook_home-not-home}
use Rattle.play_rules.proofs.Legality.{Legality, legality}
use Rattle.play_rules.proofs.Games.{in_every_game, board_after-more}
use Rattle.play_rules.proofs.Kings.{castle-ends, length-after}
use Rattle.men_account.specs.Labels.{label_at, labels_after}
use Rattle.men_account.proofs.Labelled.{first-is, labels_after-more, length-labels}
use Rattle.men_account.proofs.Captured.{same-side}
use Rattle.men_account.proofs.Origins.{Came, stayed, moved_here, with_the_king, before, promoted_man}
use Rattle.men_fates.specs.Deeds.{way_by, way_of}
use Rattle.men_fates.specs.Ways.{is_way, way_end}
use Rattle.men_fates.proofs.WayLists.{way-append}
use Rattle.men_fates.proofs.MoreDeeds.{mover-goes, piece-rests, way-more}
use Rattle.men_fates.proofs.Goings.{apart-rests, end-goes, pawn-ends, way-rests}
use Rattle.men_fates.proofs.Roads.{his-or-none, mover-tread}
use Rattle.men_fates.proofs.Strikes.{side-of}
use Rattle.men_fates.proofs.Treads.{Tread}
use Rattle.men_ledger.proofs.Lines.{treads-way}

-- what a move adds to a man's way goes on from its end
way-added : (o : List Bool) (c : Colour) (h : ℕ) (g : List Move) (m : Move) → is_of c (at (array_of o) h) ≡ true → IsGame o g → Legality (board_after o g) (turn_after g) (unmoved o g) (last_move g) m → is_way c [] (way_end h (way_of o g h)) (way_by h (board_after o g) (labels_after o g) m) ≡ true
way-added o c h g m home game legal = elim (his-or-none h (board_after o g) (labels_after o g) m) [
  | inr none ↦ ap (is_way c [] (way_end h (way_of o g h))) none
  | inl his ↦
      let tread : Tread (board_after o g) c m = mover-tread o g m c legal (side-of o g c m.from h game home his.1) his.0 in
      ap (λ (s : ℕ). is_way c [] s (way_by h (board_after o g) (labels_after o g) m)) (pawn-ends o g game m.from h his.1 his.0)
      ∙ ap (is_way c [] m.from) (mover-goes h (board_after o g) (labels_after o g) m his.0 his.1)
      ∙ treads-way (board_after o g) c m legal.on_board tread
]

pub ways : (o : List Bool) (c : Colour) (h : ℕ) → is_of c (at (array_of o) h) ≡ true → (g : List Move) → IsGame o g → is_way c [] h (way_of o g h) ≡ true
ways o c h home = in_every_game o (λ g. is_way c [] h (way_of o g h) ≡ true) refl
    (λ g m game allowed here.
    ap (is_way c [] h) (way-more o g m h) ∙ way-append c [] h (way_of o g h) (way_by h (board_after o g) (labels_after o g) m)
    ∙ and_from _ _ here (way-added o c h g m home game (legality _ _ _ _ _ allowed)))

-- the man with the label h is no pawn, if he is on the board: his way has ended on the last rank
abbrev Promoted : List Bool → Colour → ℕ → List Move → Type 0
Promoted o c h g = (s : ℕ) (man : Man) → label_at (labels_after o g) s ≡ Some h → at (board_after o g) s ≡ Some man → is_a Pawn (Some man) ≡ false → rank (way_end h (way_of o g h)) ≡ last_rank c

promotes-last : (c : Colour) (promo : Option Kind) (man : Man) (pawn : Bool) (t : ℕ) → elim promo as (λ _. Bool) [ None ↦ not (pawn && (rank t == last_rank c)) | Some k ↦ (pawn && (rank t == last_rank c)) && is_officer k ] ≡ true → is_a Pawn (Some man) ≡ true → is_a Pawn (Some (promoted_man promo man)) ≡ false → rank t ≡ last_rank c
promotes-last c None man pawn t fits was is = absurd (both_ways _ is was)
promotes-last c (Some k) man pawn t fits was is = eqb-true _ _ (and_parts _ _ (and_parts _ _ fits).0).1

-- a pawn who is none after his move has come to the last rank
becomes-officer : (board : Places) (c : Colour) (m : Move) (man : Man) → promotion_fits board c m ≡ true → is_a Pawn (Some man) ≡ true → is_a Pawn (Some (promoted_man m.promo man)) ≡ false → rank m.to ≡ last_rank c
unfolding promotion_fits
becomes-officer board c m man fits was is = promotes-last c m.promo man (is_a Pawn (at board m.from)) m.to fits was is

last-rests : (o : List Bool) (c : Colour) (h : ℕ) (g : List Move) (m : Move) → way_by h (board_after o g) (labels_after o g) m ≡ [] → rank (way_end h (way_of o g h)) ≡ last_rank c → rank (way_end h (way_of o (g ++ m ∷ []) h)) ≡ last_rank c
last-rests o c h g m none last = ap (λ (w : List ℕ). rank (way_end h w)) (way-rests o g m h none) ∙ last

promoted-more : (o : List Bool) (c : Colour) (h : ℕ) (g : List Move) (m : Move) (u s : ℕ) (after : Man) → is_of c (at (array_of o) h) ≡ true → IsGame o g → Legality (board_after o g) (turn_after g) (unmoved o g) (last_move g) m → Promoted o c h g → is_a Pawn (Some after) ≡ false → Came (board_after o g) (labels_after o g) m u s h after → rank (way_end h (way_of o (g ++ m ∷ []) h)) ≡ last_rank c
promoted-more o c h g m u s after home game legal here officer (stayed same not_to not_from label there) =
    last-rests o c h g m (apart-rests o g m s h game label not_from) (here s after label there officer)
promoted-more o c h g m u s after home game legal here officer (moved_here man from to label there is) = elim (cases_Bool (is_a Pawn (Some man))) [
  | inl pawn ↦
      let mover : is_a Pawn (at (board_after o g) m.from) ≡ true = ap (is_a Pawn) there ∙ pawn in
      let side : turn_after g ≡ c = same-side (turn_after g) c (at (board_after o g) m.from) legal.mover (side-of o g c m.from h game home label) in
      ap rank (end-goes o g m h mover label (pawn-ends o g game m.from h label mover))
      ∙ becomes-officer (board_after o g) c m man (subst (λ (x : Colour). promotion_fits (board_after o g) x m ≡ true) side legal.promotion) pawn (ap (λ (k : Man). is_a Pawn (Some k)) (sym is) ∙ officer)
  | inr piece ↦ last-rests o c h g m (piece-rests h (board_after o g) (labels_after o g) m (ap (is_a Pawn) there ∙ piece)) (here m.from man label there piece)
]
promoted-more o c h g m u s after home game legal here officer (with_the_king x castles from to label there) =
    let ends = castle-ends (board_after o g) m x castles in
    last-rests o c h g m (apart-rests o g m (rook_home x) h game label (λ e. rook_home-not-home x (e ∙ sym ends.from))) (here (rook_home x) after label there officer)

pub promoted-last : (o : List Bool) (c : Colour) (h : ℕ) → is_the c Pawn (at (array_of o) h) ≡ true → (g : List Move) → IsGame o g → (s : ℕ) (man : Man) → label_at (labels_after o g) s ≡ Some h → at (board_after o g) s ≡ Some man → is_a Pawn (Some man) ≡ false → rank (way_end h (way_of o g h)) ≡ last_rank c
promoted-last o c h home = in_every_game o (Promoted o c h)
    (λ s man label there officer. absurd (both_ways _ officer (ap (is_a Pawn) (sym there) ∙ subst (λ (t : ℕ). is_a Pawn (at (array_of o) t) ≡ true) (sym (first-is o s h label)) (and_parts (is_of c (at (array_of o) h)) (is_a Pawn (at (array_of o) h)) home).1)))
    (λ g m game allowed here s after label there officer.
    let legal = legality _ _ _ _ _ allowed in
    let was = before (board_after o g) (labels_after o g) (turn_after g) (unmoved o g) (last_move g) m (length-after o g game) (length-labels o g game) legal s h after (rw labels_after-more at label) (rw board_after-more at there) in
    promoted-more o c h g m was.square s after (and_parts (is_of c (at (array_of o) h)) (is_a Pawn (at (array_of o) h)) home).0 game legal here officer was.came)
