-- In every game two pawns of one file, one of each side, stay one behind the other as long as both keep to the file.
use Rattle.std.proofs.Common.{◌≡◌, ◌⊎◌, ℕ, ◌<◌, Bool, true, false, inl, inr, List, [], ◌∷◌, ◌++◌, refl, ap, sym, ◌∙◌, subst, arith}
use Rattle.std.proofs.lemmas.Bool.{and_parts, cases_Bool}
use Rattle.std.proofs.lemmas.Option.{same_Some}
use Rattle.std.specs.Prelude.{Some}
use Rattle.board_base.specs.Board.{Places, array_of, at, is_of, is_a, is_the, is_empty, opponent, file, rank}
use Rattle.board_base.specs.Play.{castling, goes_en_passant}
use Rattle.board_base.specs.Legal.{last_rank, pawn_rank}
use Rattle.board_base.specs.Game.{IsGame, board_after, turn_after, unmoved, last_move}
use Rattle.board_base.specs.declared.men.Colour.{Colour}
use Rattle.board_base.specs.declared.men.Colour.TheVariants.{White, Black}
use Rattle.board_base.specs.declared.men.Kind.TheVariants.{Pawn}
use Rattle.board_base.specs.declared.moves.Move.{Move}
use Rattle.play_rules.proofs.Legality.{Legality, legality}
use Rattle.play_rules.proofs.Games.{in_every_game}
use Rattle.play_rules.proofs.Kings.{length-after, within}
use Rattle.men_account.specs.Labels.{Labels, label_at, labels_after, relabelled}
use Rattle.men_account.proofs.Moved.{moved_from, label-moved}
use Rattle.men_account.proofs.Labelled.{labels_after-more, length-labels, labels-each_man, on-label}
use Rattle.men_account.proofs.Captured.{man-there, opponent-differs}
use Rattle.men_account.proofs.FilesLeft.{array-pawn}
use Rattle.men_account.proofs.PawnWays.{Forward}
use Rattle.men_fates.specs.Deeds.{squares_trodden, way_by, way_of}
use Rattle.men_fates.specs.Ways.{is_straight, way_end}
use Rattle.men_fates.proofs.MoreDeeds.{mover-goes, other-rests, way-more}
use Rattle.men_fates.proofs.Goings.{end-goes, pawn-ends, way-rests}
use Rattle.men_fates.proofs.Roads.{his-or-none, mover-tread}
use Rattle.men_fates.proofs.Strikes.{side-of}
use Rattle.men_fates.proofs.Treads.{Tread}
use Rattle.men_ledger.proofs.Lines.{UpTo, end-beyond, passes-nobody, straight-append, straight-end}
use Rattle.men_ledger.proofs.Courses.{promoted-last, ways}

-- the man who began on h captured nowhere as a pawn, and is on the board or was promoted
pub record Keeps (o : List Bool) (c : Colour) (h : ℕ) (g : List Move) : Type 0 where
  pub straight : is_straight h (way_of o g h) ≡ true
  pub there : ((s : ℕ) × (label_at (labels_after o g) s ≡ Some h)) ⊎ (rank (way_end h (way_of o g h)) ≡ last_rank c)

-- a label on the board after a move was there before it
label-before : (o : List Bool) (g : List Move) (m : Move) (s l : ℕ) → IsGame o g → Legality (board_after o g) (turn_after g) (unmoved o g) (last_move g) m → label_at (labels_after o (g ++ m ∷ [])) s ≡ Some l → (u : ℕ) × (label_at (labels_after o g) u ≡ Some l)
unfolding relabelled
label-before o g m s l game legal label =
    let board : Places = board_after o g in
    let labels : Labels = labels_after o g in
    let f : m.from < 64 = rw (← length-after o g game) (within (is_of (turn_after g)) board m.from refl legal.mover) in
    let here : label_at (relabelled board labels m) s ≡ Some l = subst (λ (x : Labels). label_at x s ≡ Some l) (labels_after-more o g m) label in
    let was = on-label labels (moved_from m (castling board m) (goes_en_passant board m) s) l (sym (label-moved m (castling board m) (goes_en_passant board m) labels s (length-labels o g game) f legal.on_board) ∙ here) in
    (was.0, was.2)

-- who keeps to his file after a move kept to it before
there-before : (o : List Bool) (c : Colour) (h : ℕ) (g : List Move) (m : Move) → IsGame o g → Legality (board_after o g) (turn_after g) (unmoved o g) (last_move g) m → Keeps o c h (g ++ m ∷ []) → ((s : ℕ) × (label_at (labels_after o g) s ≡ Some h)) ⊎ (rank (way_end h (way_of o g h)) ≡ last_rank c)
there-before o c h g m game legal keeps = elim (his-or-none h (board_after o g) (labels_after o g) m) [
  | inl his ↦ inl (m.from, his.1)
  | inr none ↦ elim keeps.there [
    | inl here ↦ inl (label-before o g m here.0 h game legal here.1)
    | inr last ↦ inr (subst (λ (w : List ℕ). rank (way_end h w) ≡ last_rank c) (way-rests o g m h none) last)
  ]
]

pub straight-both : (o : List Bool) (h : ℕ) (g : List Move) (m : Move) → is_straight h (way_of o (g ++ m ∷ []) h) ≡ true → (is_straight h (way_of o g h) ≡ true) × (is_straight (way_end h (way_of o g h)) (way_by h (board_after o g) (labels_after o g) m) ≡ true)
straight-both o h g m straight = straight-append h (way_of o g h) (way_by h (board_after o g) (labels_after o g) m) (ap (is_straight h) (sym (way-more o g m h)) ∙ straight)

keeps-before : (o : List Bool) (c : Colour) (h : ℕ) (g : List Move) (m : Move) → IsGame o g → Legality (board_after o g) (turn_after g) (unmoved o g) (last_move g) m → Keeps o c h (g ++ m ∷ []) → Keeps o c h g
keeps-before o c h g m game legal keeps = record { straight = (straight-both o h g m keeps.straight).0; there = there-before o c h g m game legal keeps }

-- homes of two pawns, one of each side, on one file
pub record Opposed (o : List Bool) (c : Colour) (h k : ℕ) : Type 0 where
  pub home : is_the c Pawn (at (array_of o) h) ≡ true
  pub other : is_the (opponent c) Pawn (at (array_of o) k) ≡ true
  pub line : file h ≡ file k

short-of-last : (c : Colour) (e f k : ℕ) → rank k ≡ pawn_rank (opponent c) → UpTo (opponent c) k f → Forward c e f → rank e ≡ last_rank c → ⊥
short-of-last White e f k home beyond before last = omega arith
short-of-last Black e f k home beyond before last = omega arith

pub own-side : (o : List Bool) (c : Colour) (h : ℕ) → is_the c Pawn (at (array_of o) h) ≡ true → is_of c (at (array_of o) h) ≡ true
own-side o c h home = (and_parts (is_of c (at (array_of o) h)) (is_a Pawn (at (array_of o) h)) home).0

-- where he stands who keeps to his file and has the other before him
record Holds (o : List Bool) (h : ℕ) (g : List Move) (s : ℕ) : Type 0 where
  label : label_at (labels_after o g) s ≡ Some h
  full : is_empty (at (board_after o g) s) ≡ false

holds : (o : List Bool) (c : Colour) (h k : ℕ) (g : List Move) → Opposed o c h k → IsGame o g → Keeps o c h g → Forward c (way_end h (way_of o g h)) (way_end k (way_of o g k)) → Holds o h g (way_end h (way_of o g h))
holds o c h k g opposed game keeps before =
    let short = short-of-last c (way_end h (way_of o g h)) (way_end k (way_of o g k)) k (array-pawn o (opponent c) k opposed.other) (end-beyond (opponent c) [] k (way_of o g k) (ways o (opponent c) k (own-side o (opponent c) k opposed.other) g game)) before in
    elim keeps.there [
      | inr last ↦ absurd (short last)
      | inl here ↦
          let man = man-there (board_after o g) (labels_after o g) here.0 h (labels-each_man o g game) here.1 in
          elim (cases_Bool (is_a Pawn (Some man.0))) [
            | inr officer ↦ absurd (short (promoted-last o c h opposed.home g game here.0 man.0 here.1 man.1 officer))
            | inl pawn ↦
                let end : way_end h (way_of o g h) ≡ here.0 = pawn-ends o g game here.0 h here.1 (ap (is_a Pawn) man.1 ∙ pawn) in
                record {
                  label = subst (λ (s : ℕ). label_at (labels_after o g) s ≡ Some h) (sym end) here.1;
                  full = ap (λ (s : ℕ). is_empty (at (board_after o g) s)) end ∙ ap is_empty man.1;
                }
          ]
    ]

turned : (c : Colour) (s t : ℕ) → Forward c s t → Forward (opponent c) t s
turned White s t h = h
turned Black s t h = h

-- the pawn who moves stays behind the other
moves-behind : (o : List Bool) (c : Colour) (h k : ℕ) (g : List Move) (m : Move) → Opposed o c h k → Opposed o (opponent c) k h → IsGame o g → Legality (board_after o g) (turn_after g) (unmoved o g) (last_move g) m → Keeps o (opponent c) k g → is_straight h (way_of o (g ++ m ∷ []) h) ≡ true → Forward c (way_end h (way_of o g h)) (way_end k (way_of o g k)) → is_a Pawn (at (board_after o g) m.from) ≡ true → label_at (labels_after o g) m.from ≡ Some h → Forward c (way_end h (way_of o (g ++ m ∷ []) h)) (way_end k (way_of o g k))
moves-behind o c h k g m opposed back game legal keeps straight before pawn label =
    let board : Places = board_after o g in
    let end : way_end h (way_of o g h) ≡ m.from = pawn-ends o g game m.from h label pawn in
    let tread : Tread board c m = mover-tread o g m c legal (side-of o g c m.from h game (own-side o c h opposed.home) label) pawn in
    let both = straight-both o h g m straight in
    let added : is_straight m.from (squares_trodden m) ≡ true = ap (is_straight m.from) (sym (mover-goes h board (labels_after o g) m pawn label)) ∙ ap (λ (e : ℕ). is_straight e (way_by h board (labels_after o g) m)) (sym end) ∙ both.1 in
    let full = (holds o (opponent c) k h g back game keeps (turned c _ _ before)).full in
    let line : file (way_end k (way_of o g k)) ≡ file m.from = straight-end k (way_of o g k) keeps.straight ∙ sym opposed.line ∙ sym (straight-end h (way_of o g h) both.0) ∙ ap file end in
    subst (λ (e : ℕ). Forward c e (way_end k (way_of o g k))) (sym (end-goes o g m h pawn label end))
    (passes-nobody board c m (way_end k (way_of o g k)) legal.on_board tread added line full (subst (λ (e : ℕ). Forward c e (way_end k (way_of o g k))) end before))

-- the two homes differ
homes-differ : (o : List Bool) (c : Colour) (h k : ℕ) → Opposed o c h k → h ≡ k → ⊥
homes-differ o c h k opposed same =
    opponent-differs c (at (array_of o) h) (and_parts _ _ opposed.home).0 (subst (λ (l : ℕ). is_of (opponent c) (at (array_of o) l) ≡ true) (sym same) (and_parts _ _ opposed.other).0)

-- the one is behind the other
abbrev pub Behind : List Bool → Colour → ℕ → ℕ → List Move → Type 0
Behind o c h k g = Forward c (way_end h (way_of o g h)) (way_end k (way_of o g k))

-- they are so as long as both keep to the file
abbrev pub Facing : List Bool → Colour → ℕ → ℕ → List Move → Type 0
Facing o c h k g = Keeps o c h g → Keeps o (opponent c) k g → Behind o c h k g

-- the move of one of them, or of neither
facing-goes : (o : List Bool) (h k : ℕ) (g : List Move) (m : Move) → Opposed o White h k → Opposed o Black k h → IsGame o g → Legality (board_after o g) (turn_after g) (unmoved o g) (last_move g) m → Keeps o White h g → Keeps o Black k g → is_straight h (way_of o (g ++ m ∷ []) h) ≡ true → is_straight k (way_of o (g ++ m ∷ []) k) ≡ true → Behind o White h k g → Behind o White h k (g ++ m ∷ [])
facing-goes o h k g m opposed back game legal white black line_white line_black before = elim (his-or-none h (board_after o g) (labels_after o g) m) [
  | inl his ↦
      let rests = other-rests k (board_after o g) (labels_after o g) m (λ label. homes-differ o White h k opposed (same_Some _ _ (sym his.1 ∙ label))) in
      subst (λ (w : List ℕ). Forward White (way_end h (way_of o (g ++ m ∷ []) h)) (way_end k w)) (sym (way-rests o g m k rests))
      (moves-behind o White h k g m opposed back game legal black line_white before his.0 his.1)
  | inr none ↦
      subst (λ (w : List ℕ). Forward White (way_end h w) (way_end k (way_of o (g ++ m ∷ []) k))) (sym (way-rests o g m h none))
      (elim (his-or-none k (board_after o g) (labels_after o g) m) [
        | inl his ↦ moves-behind o Black k h g m back opposed game legal white line_black before his.0 his.1
        | inr rests ↦ subst (λ (w : List ℕ). Forward White (way_end h (way_of o g h)) (way_end k w)) (sym (way-rests o g m k rests)) before
      ])
]

first-behind : (h k : ℕ) → rank h ≡ pawn_rank White → rank k ≡ pawn_rank Black → Forward White h k
first-behind h k a b = omega arith

pub facing : (o : List Bool) (h k : ℕ) → Opposed o White h k → (g : List Move) → IsGame o g → Facing o White h k g
facing o h k opposed = in_every_game o (Facing o White h k)
    (λ white black. first-behind h k (array-pawn o White h opposed.home) (array-pawn o Black k opposed.other))
    (λ g m game allowed before next_white next_black.
    let legal = legality _ _ _ _ _ allowed in
    let white = keeps-before o White h g m game legal next_white in
    let black = keeps-before o Black k g m game legal next_black in
    let back : Opposed o Black k h = record { home = opposed.other; other = opposed.home; line = sym opposed.line } in
    facing-goes o h k g m opposed back game legal white black next_white.straight next_black.straight (before white black))
