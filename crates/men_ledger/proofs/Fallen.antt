-- In every game a pawn whose label is on the board no more was taken as a pawn, or had been promoted.
use Rattle.std.proofs.Common.{◌≡◌, ◌≢◌, ◌⊎◌, ℕ, ◌<◌, ◌==◌, Bool, true, false, inl, inr, List, [], ◌∷◌, ◌++◌, length, refl, ap, sym, ◌∙◌, subst, arith}
use Rattle.std.proofs.lemmas.Bool.{and_from, and_parts, both_ways, cases_Bool, cases_eq, cases_lt, cond-true, cond-false, eq-eqb, ne_eqb, or_left, or_right}
use Rattle.std.proofs.lemmas.List.{append_assoc, get_or_past}
use Rattle.std.proofs.lemmas.Option.{none-some}
use Rattle.std.specs.Prelude.{Option, Some, None}
use Rattle.board_base.specs.Board.{Places, array_of, at, is_of, is_a, is_the, rank}
use Rattle.board_base.specs.Texts.{◌>>=◌}
use Rattle.board_base.specs.Play.{castling, crossed, en_passant_victim, goes_en_passant, king_target, rook_home}
use Rattle.board_base.specs.Legal.{last_rank}
use Rattle.board_base.specs.Game.{IsGame, board_after, turn_after, unmoved, last_move}
use Rattle.board_base.specs.declared.men.Colour.{Colour}
use Rattle.board_base.specs.declared.men.Colour.TheVariants.{White, Black}
use Rattle.board_base.specs.declared.men.Kind.TheVariants.{Pawn, King}
use Rattle.board_base.specs.declared.moves.Move.{Move}
use Rattle.board_base.specs.declared.castles.Castle.{Castle}
use Rattle.board_base.proofs.EachCastle.{each-castle}
use Rattle.board_base.proofs.KindsOfMen.{another_kind, full-of}
use Rattle.general_lemmas.proofs.Ranges.{any-found}
use Rattle.play_rules.specs.Laws.{is_end, HasNoPawnOnEnds}
use Rattle.play_rules.proofs.Legality.{Legality, legality}
use Rattle.play_rules.proofs.Games.{in_every_game, no_moves}
use Rattle.play_rules.proofs.Ends.{no_pawn_on_ends, is_end-rook_home}
use Rattle.play_rules.proofs.Kings.{castle-ends, empty-not, length-after, within}
use Rattle.men_account.specs.Labels.{Labels, label_at, first_labels, labels_after, relabelled}
use Rattle.men_account.specs.Captures.{taken_on}
use Rattle.men_account.proofs.Moved.{carried_from, moved_from, label-moved, on_square}
use Rattle.men_account.proofs.Labelled.{first-is, labels_after-more, length-labels, labels-each_man}
use Rattle.men_account.proofs.Captured.{man-there}
use Rattle.men_account.proofs.PawnWays.{Forward, PawnWay, straight, aslant, ahead-forward, pawn-way}
use Rattle.men_fates.proofs.Lasting.{carried-elsewhere, carried-there}
use Rattle.men_fates.specs.Deeds.{is_label, way_of}
use Rattle.men_fates.specs.Ways.{is_straight, way_end}
use Rattle.men_fates.proofs.MoreDeeds.{label-is}
use Rattle.men_fates.proofs.Goings.{way-rests}
use Rattle.men_fates.proofs.Roads.{his-or-none}
use Rattle.men_fates.proofs.Strikes.{label-some}
use Rattle.men_ledger.specs.Files.{IsTakenAsPawn, is_there, keeps_file}
use Rattle.men_ledger.proofs.Courses.{promoted-last}

is_end-king_target : (x : Castle) → is_end (king_target x) ≡ true
is_end-king_target = each-castle (λ x. is_end (king_target x)) refl

is_end-crossed : (x : Castle) → is_end (crossed x) ≡ true
is_end-crossed = each-castle (λ x. is_end (crossed x)) refl

-- a square from which a pawn's label goes on, or the square of a man who is taken
abbrev Follows : Places → Move → Option Castle → Bool → ℕ → Type 0
Follows board m castle past u = ((s : ℕ) × (moved_from m castle past s ≡ Some u)) ⊎ (taken_on board m ≡ u)

off-ends : (board : Places) (u e : ℕ) → HasNoPawnOnEnds board → is_a Pawn (at board u) ≡ true → is_end e ≡ true → u ≢ e
off-ends board u e ends pawn end = λ same. both_ways _ (ends e end) (subst (λ (s : ℕ). is_a Pawn (at board s) ≡ true) same pawn)

victim-rank : (m : Move) → rank (en_passant_victim m) ≡ rank m.from
victim-rank m = omega arith

not-victim : (c : Colour) (m : Move) → Forward c m.from m.to → m.to ≢ en_passant_victim m
not-victim White m on = λ same. let e : rank m.to ≡ rank m.from = ap rank same ∙ victim-rank m in omega arith
not-victim Black m on = λ same. let e : rank m.to ≡ rank m.from = ap rank same ∙ victim-rank m in omega arith

mover-follows : (board : Places) (c : Colour) (m : Move) (past : Bool) → Forward c m.from m.to → moved_from m None past m.to ≡ Some m.from
mover-follows board c m false on = carried-there m.from m.to
mover-follows board c m true on = cond-false (m.to == en_passant_victim m) None _ (ne_eqb _ _ (not-victim c m on)) ∙ carried-there m.from m.to

other-follows : (board : Places) (m : Move) (u : ℕ) (past : Bool) → goes_en_passant board m ≡ past → is_a Pawn (at board u) ≡ true → u ≢ m.from → Follows board m None past u
other-follows board m u false is pawn not_from = elim (cases_eq m.to u) [
  | inl same ↦ inr (cond-false (goes_en_passant board m) (en_passant_victim m) m.to is ∙ same)
  | inr other ↦ inl (u, carried-elsewhere m.from m.to u not_from (λ e. other (sym e)))
]
other-follows board m u true is pawn not_from = elim (cases_eq (en_passant_victim m) u) [
  | inl same ↦ inr (cond-true (goes_en_passant board m) (en_passant_victim m) m.to is ∙ same)
  | inr other ↦
      let not_to : u ≢ m.to = λ e. both_ways _ (empty-not (is_a Pawn) (at board m.to) refl (and_parts _ _ is).1) (subst (λ (s : ℕ). is_a Pawn (at board s) ≡ true) e pawn) in
      inl (u, cond-false (u == en_passant_victim m) None _ (ne_eqb _ _ (λ e. other (sym e))) ∙ carried-elsewhere m.from m.to u not_from not_to)
]

way-forward : (board : Places) (c : Colour) (m : Move) → PawnWay board c m → Forward c m.from m.to
way-forward board c m (straight same on free) = on
way-forward board c m (aslant one ahead enemy) = ahead-forward c m.from m.to ahead

follows-as : (board : Places) (c : Colour) (rights : Castle → Bool) (last : Option Move) (m : Move) (u : ℕ) (castle : Option Castle) → castling board m ≡ castle → HasNoPawnOnEnds board → Legality board c rights last m → is_a Pawn (at board u) ≡ true → Follows board m castle (goes_en_passant board m) u
follows-as board c rights last m u None is ends legal pawn = elim (cases_eq u m.from) [
  | inl same ↦
      let mover : is_a Pawn (at board m.from) ≡ true = subst (λ (s : ℕ). is_a Pawn (at board s) ≡ true) same pawn in
      let on : Forward c m.from m.to = way-forward board c m (pawn-way board c rights last m mover legal.on_board legal.manner) in
      inl (m.to, mover-follows board c m (goes_en_passant board m) on ∙ ap Some (sym same))
  | inr other ↦ other-follows board m u (goes_en_passant board m) refl pawn other
]
follows-as board c rights last m u (Some x) is ends legal pawn =
    let king = castle-ends board m x is in
    let not_from : u ≢ m.from = λ same. both_ways _ (another_kind King Pawn (at board m.from) (subst (λ (s : ℕ). is_a Pawn (at board s) ≡ true) same pawn)) king.king in
    let not_to : u ≢ m.to = λ same. off-ends board u (king_target x) ends pawn (is_end-king_target x) (same ∙ sym king.to) in
    let rook = carried-elsewhere (rook_home x) (crossed x) u (off-ends board u (rook_home x) ends pawn (is_end-rook_home x)) (off-ends board u (crossed x) ends pawn (is_end-crossed x)) in
    inl (u, ap (λ (y : Option ℕ). y >>= carried_from m.from m.to) rook ∙ carried-elsewhere m.from m.to u not_from not_to)

-- a pawn's label is on the board after a legal move, unless the move takes him
follows : (o : List Bool) (g : List Move) (m : Move) (u l : ℕ) → IsGame o g → Legality (board_after o g) (turn_after g) (unmoved o g) (last_move g) m → is_a Pawn (at (board_after o g) u) ≡ true → label_at (labels_after o g) u ≡ Some l → ((s : ℕ) × (label_at (labels_after o (g ++ m ∷ [])) s ≡ Some l)) ⊎ (taken_on (board_after o g) m ≡ u)
unfolding relabelled
follows o g m u l game legal pawn label =
    let board : Places = board_after o g in
    let labels : Labels = labels_after o g in
    let f : m.from < 64 = rw (← length-after o g game) (within (is_of (turn_after g)) board m.from refl legal.mover) in
    elim (follows-as board (turn_after g) (unmoved o g) (last_move g) m u (castling board m) refl (no_pawn_on_ends o g game) legal pawn) [
      | inl led ↦ inl (led.0, ap (λ (x : Labels). label_at x led.0) (labels_after-more o g m) ∙ label-moved m (castling board m) (goes_en_passant board m) labels led.0 (length-labels o g game) f legal.on_board ∙ ap (on_square labels) led.1 ∙ label)
      | inr taken ↦ inr taken
    ]

-- a pawn is on the board, was promoted, or was taken as a pawn
data Fate (o : List Bool) (c : Colour) (h : ℕ) (g : List Move) : Type 0 where
  stands : (s : ℕ) → label_at (labels_after o g) s ≡ Some h → Fate o c h g
  promoted_once : rank (way_end h (way_of o g h)) ≡ last_rank c → Fate o c h g
  fallen : IsTakenAsPawn o g h → Fate o c h g

taken-more : (o : List Bool) (g : List Move) (m : Move) (h : ℕ) → IsTakenAsPawn o g h → IsTakenAsPawn o (g ++ m ∷ []) h
taken-more o g m h t = (t.0, t.1, t.2 ++ m ∷ [], ap (λ (x : List Move). x ++ m ∷ []) t.3 ∙ append_assoc t.0 (t.1 ∷ t.2) (m ∷ []), t.4, t.5)

-- a pawn on the board before the move
pawn-fate : (o : List Bool) (c : Colour) (h : ℕ) (g : List Move) (m : Move) (u : ℕ) → IsGame o g → Legality (board_after o g) (turn_after g) (unmoved o g) (last_move g) m → is_a Pawn (at (board_after o g) u) ≡ true → label_at (labels_after o g) u ≡ Some h → Fate o c h (g ++ m ∷ [])
pawn-fate o c h g m u game legal pawn label = elim (follows o g m u h game legal pawn label) [
  | inl here ↦ stands here.0 here.1
  | inr taken ↦ fallen (g, m, [], refl, subst (λ (s : ℕ). label_at (labels_after o g) s ≡ Some h) (sym taken) label, subst (λ (s : ℕ). is_a Pawn (at (board_after o g) s) ≡ true) (sym taken) pawn)
]

fate-goes : (o : List Bool) (c : Colour) (h : ℕ) (g : List Move) (m : Move) → is_the c Pawn (at (array_of o) h) ≡ true → IsGame o g → Legality (board_after o g) (turn_after g) (unmoved o g) (last_move g) m → Fate o c h g → Fate o c h (g ++ m ∷ [])
fate-goes o c h g m home game legal (fallen t) = fallen (taken-more o g m h t)
fate-goes o c h g m home game legal (promoted_once last) = elim (his-or-none h (board_after o g) (labels_after o g) m) [
  | inl his ↦ pawn-fate o c h g m m.from game legal his.0 his.1
  | inr none ↦ promoted_once (ap (λ (w : List ℕ). rank (way_end h w)) (way-rests o g m h none) ∙ last)
]
fate-goes o c h g m home game legal (stands s label) = elim (cases_Bool (is_a Pawn (at (board_after o g) s))) [
  | inl pawn ↦ pawn-fate o c h g m s game legal pawn label
  | inr piece ↦ elim (his-or-none h (board_after o g) (labels_after o g) m) [
    | inl his ↦ pawn-fate o c h g m m.from game legal his.0 his.1
    | inr none ↦
        let man = man-there (board_after o g) (labels_after o g) s h (labels-each_man o g game) label in
        promoted_once (ap (λ (w : List ℕ). rank (way_end h w)) (way-rests o g m h none) ∙ promoted-last o c h home g game s man.0 label man.1 (ap (is_a Pawn) (sym man.1) ∙ piece))
  ]
]

fate-first : (o : List Bool) (c : Colour) (h : ℕ) → is_the c Pawn (at (array_of o) h) ≡ true → Fate o c h []
fate-first o c h home =
    let own = label-some (label_at (first_labels o) h) (labels-each_man o [] (no_moves o) h ∙ full-of c (at (array_of o) h) (and_parts (is_of c (at (array_of o) h)) (is_a Pawn (at (array_of o) h)) home).0) in
    stands h (own.1 ∙ ap Some (sym (first-is o h own.0 own.1)))

fates : (o : List Bool) (c : Colour) (h : ℕ) → is_the c Pawn (at (array_of o) h) ≡ true → (g : List Move) → IsGame o g → Fate o c h g
fates o c h home = in_every_game o (Fate o c h) (fate-first o c h home)
    (λ g m game allowed fate. fate-goes o c h g m home game (legality _ _ _ _ _ allowed) fate)

label-found : (labels : Labels) (s h : ℕ) → length labels ≡ 64 → label_at labels s ≡ Some h → is_there labels h ≡ true
label-found labels s h size label = elim (cases_lt s 64) [
  | inl inside ↦ any-found (λ t. is_label (label_at labels t) h) 0 64 s (omega arith) (omega arith) (label-is (label_at labels s) h label)
  | inr past ↦ absurd (none-some h (sym (get_or_past labels s None (omega (arith, size))) ∙ label))
]

-- a pawn who captured nowhere and was never taken as a pawn keeps to his file
pub untaken-keeps : (o : List Bool) (g : List Move) (c : Colour) (h : ℕ) → IsGame o g → is_the c Pawn (at (array_of o) h) ≡ true → is_straight h (way_of o g h) ≡ true → (IsTakenAsPawn o g h → ⊥) → keeps_file o g c h ≡ true
untaken-keeps o g c h game home line untaken = and_from _ _ (and_from _ _ home line) (elim (fates o c h home g game) [
  | stands s label ↦ or_left _ _ (label-found (labels_after o g) s h (length-labels o g game) label)
  | promoted_once last ↦ or_right _ _ (eq-eqb _ _ last)
  | fallen taken ↦ absurd (untaken taken)
])
