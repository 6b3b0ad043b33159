-- In a game that leads to a query, where pawns took the men of a side.
use Rattle.std.proofs.Common.{◌≡◌, ◌⊎◌, ℕ, ◌+◌, ◌-◌, ◌==◌, inl, inr, Bool, true, false, List, [], ◌∷◌, ◌++◌, refl, ap, sym, ◌∙◌, subst, arith}
use Rattle.std.proofs.lemmas.Bool.{and_parts, both_ways, cases_Bool, cond-false, cond-true, eq-eqb, eqb-true, ne_eqb}
use Rattle.std.proofs.lemmas.List.{append_assoc, append-nil}
use Rattle.std.proofs.lemmas.Option.{none-some, same_Some}
use Rattle.std.specs.Prelude.{Some}
use Rattle.std.specs.List.{Contains}
use Rattle.board_base.specs.Board.{Places, array_of, at, file, is_a, is_in, is_of, is_the, opponent, rank}
use Rattle.board_base.specs.Attacks.{distance, on_the_way, ranks_apart, toward}
use Rattle.board_base.specs.Play.{en_passant_victim, goes_en_passant, rook_home}
use Rattle.board_base.specs.Legal.{last_rank}
use Rattle.board_base.specs.Game.{IsGame, board_after, turn_after, unmoved, last_move}
use Rattle.board_base.specs.declared.men.Colour.{Colour}
use Rattle.board_base.specs.declared.men.Colour.TheVariants.{White, Black}
use Rattle.board_base.specs.declared.men.Kind.{Kind}
use Rattle.board_base.specs.declared.men.Kind.TheVariants.{Pawn, Rook}
use Rattle.board_base.specs.declared.men.Man.{Man}
use Rattle.board_base.specs.declared.moves.Move.{Move}
use Rattle.board_base.proofs.Equal.{last_is}
use Rattle.board_base.proofs.KindsOfMen.{another_kind}
use Rattle.board_base.proofs.Passing.{MayPass, double-en_passant_victim}
use Rattle.board_base.proofs.Ways.{toward-up, toward-down, toward-same}
use Rattle.play_rules.proofs.Legality.{Legality, legality}
use Rattle.play_rules.proofs.Doubles.{last_move-more}
use Rattle.play_rules.proofs.Games.{board_after-more, game_before, legal_last}
use Rattle.play_rules.proofs.Kings.{length-after}
use Rattle.general_lemmas.proofs.Lists.{by_last}
use Rattle.men_account.specs.Labels.{label_at, labels_after}
use Rattle.men_account.specs.Captures.{taken_on}
use Rattle.men_account.specs.Homes.{is_officer_of}
use Rattle.men_account.proofs.Bishops.{pawn-label}
use Rattle.men_account.proofs.Captured.{man-there, same-side}
use Rattle.men_account.proofs.InRegions.{officer-no-pawn}
use Rattle.men_account.proofs.Labelled.{labels_after-more, labels-each_man, labels-promotions, length-labels}
use Rattle.men_account.proofs.Origins.{Came, stayed, moved_here, with_the_king, before, rook-there}
use Rattle.men_account.proofs.PawnWays.{victim-pawn}
use Rattle.cage_rules.specs.Laws.{Walled}
use Rattle.cage_rules.specs.Regions.{region}
use Rattle.cage_rules.proofs.Refuted.{home-there}
use Rattle.cage_rules.proofs.Roamers.{in-region}
use Rattle.men_fates.specs.Deeds.{Strike, strikes, way_of}
use Rattle.men_fates.specs.Fates.{FellOn, may_fall}
use Rattle.men_fates.specs.Ways.{captures_on, is_way, way_end}
use Rattle.men_fates.proofs.WayLists.{captures-append, end-append, way-append}
use Rattle.men_fates.proofs.MoreDeeds.{mover-goes, way-more}
use Rattle.men_fates.proofs.Goings.{pawn-before}
use Rattle.men_fates.proofs.Treads.{Passes, passes-on, two-trodden}
use Rattle.men_fates.proofs.Roads.{way-past}
use Rattle.men_fates.proofs.Brought.{brings-pawn, brought}
use Rattle.men_fates.proofs.Blows.{Blow, falling-rests, fallen-rests, falls, in-each-blow}

-- the squares of a capture en passant: the double step that it answers crossed the target, which isn't on the last rank
record Crossed (c : Colour) (x : ℕ) (step : Move) : Type 0 where
  apart : ranks_apart step.from step.to ≡ 2
  over : on_the_way step.from step.to 1 ≡ x
  same_file : file x ≡ file step.to
  short : (rank x == last_rank c) ≡ false

crossed-by : (c d : Colour) (m step : Move) → d ≡ opponent c → MayPass m d step → Crossed c m.to step
unfolding distance on_the_way
crossed-by White White m step e may = cc
crossed-by Black Black m step e may = cc
crossed-by Black White m step e may =
    let up : rank m.to ≡ rank m.from + 1 = eqb-true _ _ may.ahead_is in
    let at_rank : rank m.from ≡ 4 = may.rank_is in
    let f : m.to + 8 ≡ step.from = ap (λ (x : Move). x.from) may.double in
    let t : m.to - 8 ≡ step.to = ap (λ (x : Move). x.to) may.double in
    let down : toward (rank step.from) (rank step.to) 1 ≡ rank step.from - 1 = toward-down (rank step.from) (rank step.to) 1 (omega arith) in
    let on : toward (file step.from) (file step.to) 1 ≡ file step.from = toward-same (file step.from) (file step.to) 1 (omega arith) in
    record { apart = omega arith; over = omega arith; same_file = omega arith; short = ne_eqb (rank m.to) 0 (λ last. omega arith) }
crossed-by White Black m step e may =
    let down : rank m.from ≡ rank m.to + 1 = eqb-true _ _ may.ahead_is in
    let at_rank : rank m.from ≡ 3 = may.rank_is in
    let f : m.to - 8 ≡ step.from = ap (λ (x : Move). x.from) may.double in
    let t : m.to + 8 ≡ step.to = ap (λ (x : Move). x.to) may.double in
    let up : toward (rank step.from) (rank step.to) 1 ≡ rank step.from + 1 = toward-up (rank step.from) (rank step.to) 1 (omega arith) in
    let on : toward (file step.from) (file step.to) 1 ≡ file step.from = toward-same (file step.from) (file step.to) 1 (omega arith) in
    record { apart = omega arith; over = omega arith; same_file = omega arith; short = ne_eqb (rank m.to) 7 (λ last. omega arith) }

-- who stands as a pawn on the target of a move of two ranks has just crossed the square between
came-double : (o : List Bool) (k : List Move) (l : Move) (u h : ℕ) (who : Man) → Legality (board_after o k) (turn_after k) (unmoved o k) (last_move k) l → ranks_apart l.from l.to ≡ 2 → is_a Pawn (Some who) ≡ true → Came (board_after o k) (labels_after o k) l u l.to h who → way_of o (k ++ l ∷ []) h ≡ way_of o k h ++ on_the_way l.from l.to 1 ∷ l.to ∷ []
came-double o k l u h who legal two pawn (stayed same not_to not_from label there) = absurd (not_to refl)
came-double o k l u h who legal two pawn (moved_here was from to label there is) =
    let kind = pawn-before (board_after o k) (turn_after k) (unmoved o k) (last_move k) l was legal (subst (λ (x : Man). is_a Pawn (Some x) ≡ true) is pawn) in
    way-more o k l h ∙ ap (λ (w : List ℕ). way_of o k h ++ w) (mover-goes h (board_after o k) (labels_after o k) l (ap (is_a Pawn) there ∙ kind) label ∙ two-trodden l two)
came-double o k l u h who legal two pawn (with_the_king x castles from to label there) =
    absurd (both_ways _ (another_kind Pawn Rook (at (board_after o k) (rook_home x)) (rook-there (board_after o k) (turn_after k) (unmoved o k) (last_move k) l x castles legal)) (ap (is_a Pawn) there ∙ pawn))

double-way : (o : List Bool) (k : List Move) (l : Move) (h : ℕ) → IsGame o (k ++ l ∷ []) → ranks_apart l.from l.to ≡ 2 → label_at (labels_after o (k ++ l ∷ [])) l.to ≡ Some h → is_a Pawn (at (board_after o (k ++ l ∷ [])) l.to) ≡ true → way_of o (k ++ l ∷ []) h ≡ way_of o k h ++ on_the_way l.from l.to 1 ∷ l.to ∷ []
double-way o k l h game two label pawn =
    let game' : IsGame o k = game_before o k l game in
    let legal : Legality (board_after o k) (turn_after k) (unmoved o k) (last_move k) l = legality _ _ _ _ _ (legal_last o k l game) in
    let who = man-there (board_after o (k ++ l ∷ [])) (labels_after o (k ++ l ∷ [])) l.to h (labels-each_man o (k ++ l ∷ []) game) label in
    let was = before (board_after o k) (labels_after o k) (turn_after k) (unmoved o k) (last_move k) l (length-after o k game') (length-labels o k game') legal l.to h who.0 (rw labels_after-more at label) (ap (λ (b : Places). at b l.to) (sym (board_after-more o k l)) ∙ who.1) in
    came-double o k l was.square h who.0 legal two (sym (ap (is_a Pawn) who.1) ∙ pawn) was.came

-- a way that ends by crossing a square, straight on
fell-crossing : (set : List Bool) (c : Colour) (h : ℕ) (whole w : List ℕ) (x v : ℕ) → whole ≡ w ++ x ∷ v ∷ [] → is_way c set h whole ≡ true → file x ≡ file v → (rank x == last_rank c) ≡ false → FellOn set c h whole x
fell-crossing set c h whole w x v e goes same short =
    let begins : whole ≡ (w ++ x ∷ []) ++ v ∷ [] = e ∙ sym (append_assoc w (x ∷ []) (v ∷ [])) in
    let ends : way_end h (w ++ x ∷ []) ≡ x = end-append h w (x ∷ []) in
    let none : captures_on (way_end h (w ++ x ∷ [])) (v ∷ []) ≡ [] = ap (λ (s : ℕ). captures_on s (v ∷ [])) ends ∙ cond-true _ [] (v ∷ []) (eq-eqb _ _ same) in
    record {
      way = w ++ x ∷ [];
      rest = v ∷ [];
      kind = Pawn;
      begins = begins;
      crossing = inr refl;
      captures = sym (ap (captures_on h) begins ∙ captures-append h (w ++ x ∷ []) (v ∷ []) ∙ ap (λ (l : List ℕ). captures_on h (w ++ x ∷ []) ++ l) none ∙ append-nil (captures_on h (w ++ x ∷ [])));
      goes = (and_parts _ _ (sym (way-append c set h (w ++ x ∷ []) (v ∷ [])) ∙ ap (is_way c set h) (sym begins) ∙ goes)).0;
      brought = brings-pawn set c h (w ++ x ∷ []) Pawn x refl ends short;
    }

fell-crossing-kind : (set : List Bool) (c : Colour) (h : ℕ) (whole w : List ℕ) (x v : ℕ) (e : whole ≡ w ++ x ∷ v ∷ []) (goes : is_way c set h whole ≡ true) (same : file x ≡ file v) (short : (rank x == last_rank c) ≡ false) → (fell-crossing set c h whole w x v e goes same short).kind ≡ Pawn
unfolding fell-crossing
fell-crossing-kind set c h whole w x v e goes same short = refl

fell-moved : (set : List Bool) (c : Colour) (h : ℕ) (old new : List ℕ) (s t : ℕ) → old ≡ new → s ≡ t → FellOn set c h old s → FellOn set c h new t
fell-moved set c h old new s t e f fell = subst (FellOn set c h new) f (subst (λ (w : List ℕ). FellOn set c h w s) e fell)

-- whom a move takes past its target, has just crossed the target by a double step
passed-way : (o : List Bool) (k : List Move) (m : Move) (c : Colour) (h : ℕ) → IsGame o k → Passes (board_after o k) (opponent c) (last_move k) m → label_at (labels_after o k) (en_passant_victim m) ≡ Some h → (w : List ℕ) × (v : ℕ) × (way_of o k h ≡ w ++ m.to ∷ v ∷ []) × (file m.to ≡ file v) × ((rank m.to == last_rank c) ≡ false)
passed-way o k m c h game passes label = elim (by_last k) [
  | inl none ↦ absurd (none-some passes.step (ap last_move (sym none) ∙ last_is (last_move k) passes.step passes.was_last))
  | inr (ys, l, split) ↦
      let same : l ≡ passes.step = same_Some l passes.step (sym (last_move-more ys l) ∙ ap last_move (sym split) ∙ last_is (last_move k) passes.step passes.was_last) in
      let squares : Crossed c m.to l = subst (Crossed c m.to) (sym same) (crossed-by c (opponent c) m passes.step refl passes.may) in
      let behind : l.to ≡ en_passant_victim m = ap (λ (x : Move). x.to) same ∙ double-en_passant_victim m passes.step (opponent c) passes.answers in
      let game' : IsGame o (ys ++ l ∷ []) = subst (IsGame o) split game in
      let there : label_at (labels_after o (ys ++ l ∷ [])) l.to ≡ Some h = ap (λ (g : List Move). label_at (labels_after o g) l.to) (sym split) ∙ ap (label_at (labels_after o k)) behind ∙ label in
      let pawn : is_a Pawn (at (board_after o (ys ++ l ∷ [])) l.to) ≡ true =
      ap (λ (g : List Move). is_a Pawn (at (board_after o g) l.to)) (sym split) ∙ ap (λ (x : Move). is_a Pawn (at (board_after o k) x.to)) same
      ∙ (and_parts (is_of (opponent (opponent c)) (at (board_after o k) passes.step.to)) (is_a Pawn (at (board_after o k) passes.step.to)) passes.pawn).1 in
      let way : way_of o (ys ++ l ∷ []) h ≡ way_of o ys h ++ m.to ∷ l.to ∷ [] = double-way o ys l h game' squares.apart there pawn ∙ ap (λ (x : ℕ). way_of o ys h ++ x ∷ l.to ∷ []) squares.over in
      (way_of o ys h, l.to, ap (λ (g : List Move). way_of o g h) split ∙ way, squares.same_file, squares.short)
]

-- the man of a home on a square, of this kind, at the end of this way
pub record TakenThere (o : List Bool) (k : List Move) (s h : ℕ) (way : List ℕ) (kind : Kind) : Type 0 where
  pub who : Man
  pub label : label_at (labels_after o k) s ≡ Some h
  pub there : at (board_after o k) s ≡ Some who
  pub his : kind ≡ who.kind
  pub whole : way ≡ way_of o k h

-- how a pawn's home is left by its man when a pawn takes him: past the target he is a pawn, and else he stands there
pub fell-now : (o : List Bool) (g k after : List Move) (m : Move) (set : List Bool) (c : Colour) (x : Strike) → Walled o g set → g ≡ k ++ m ∷ after → IsGame o k → Legality (board_after o k) (turn_after k) (unmoved o k) (last_move k) m → is_the c Pawn (at (array_of o) x.of) ≡ true → Blow (board_after o k) (labels_after o k) (opponent c) m x → (fell : FellOn set c x.of (way_of o k x.of) m.to) × ((fell.kind ≡ Pawn) ⊎ TakenThere o k m.to x.of fell.way fell.kind)
fell-now o g k after m set c x walled e game legal first b =
    let board : Places = board_after o k in
    let goes : is_way c set x.of (way_of o k x.of) ≡ true = way-past o g k (m ∷ after) set c x.of walled e (and_parts (is_of c (at (array_of o) x.of)) (is_a Pawn (at (array_of o) x.of)) first).0 in
    elim (cases_Bool (goes_en_passant board m)) [
      | inl past ↦
          let side : turn_after k ≡ opponent c = same-side (turn_after k) (opponent c) (at board m.from) legal.mover (and_parts (is_of (opponent c) (at board m.from)) (is_a Pawn (at board m.from)) b.pawn).0 in
          let passes : Passes board (opponent c) (last_move k) m = subst (λ (d : Colour). Passes board d (last_move k) m) side (passes-on board (turn_after k) (unmoved o k) (last_move k) m past legal.manner) in
          let label : label_at (labels_after o k) (en_passant_victim m) ≡ Some x.of = ap (label_at (labels_after o k)) (sym (cond-true (goes_en_passant board m) (en_passant_victim m) m.to past)) ∙ b.of in
          let way = passed-way o k m c x.of game passes label in
          (fell-crossing set c x.of (way_of o k x.of) way.0 m.to way.1 way.2 goes way.3 way.4, inl (fell-crossing-kind set c x.of (way_of o k x.of) way.0 m.to way.1 way.2 goes way.3 way.4))
      | inr plain ↦
          let label : label_at (labels_after o k) m.to ≡ Some x.of = ap (label_at (labels_after o k)) (sym (cond-false (goes_en_passant board m) (en_passant_victim m) m.to plain)) ∙ b.of in
          let who = man-there board (labels_after o k) m.to x.of (labels-each_man o k game) label in (
            record {
              way = way_of o k x.of;
              rest = [];
              kind = who.0.kind;
              begins = sym (append-nil (way_of o k x.of));
              crossing = inl refl;
              captures = refl;
              goes = goes;
              brought = brought o g k (m ∷ after) set c x.of m.to who.0 walled e first label who.1;
            },
            inr (record { who = who.0; label = label; there = who.1; his = refl; whole = refl }),
          )
    ]

-- where a pawn took a man of this side, he may fall
pub each-exposed : (o : List Bool) (g : List Move) (set : List Bool) (c : Colour) → Walled o g set → (x : Strike) → Contains (strikes o g (opponent c)) x → may_fall set c x.on ≡ true
each-exposed o g set c walled =
    in-each-blow o g (opponent c) (λ k x. may_fall set c x.on ≡ true) (λ k after m x e game old here. here)
    (λ k after m x e game legal b. falls o g k after m set c x walled e game legal b)
    walled.game

-- if he began as a pawn, a beginning of his way brings him there
pub each-pawn-fell : (o : List Bool) (g : List Move) (set : List Bool) (c : Colour) → Walled o g set → (x : Strike) → Contains (strikes o g (opponent c)) x → is_the c Pawn (at (array_of o) x.of) ≡ true → FellOn set c x.of (way_of o g x.of) x.on
each-pawn-fell o g set c walled =
    in-each-blow o g (opponent c) (λ k x. is_the c Pawn (at (array_of o) x.of) ≡ true → FellOn set c x.of (way_of o k x.of) x.on)
    (λ k after m x e game old here first. fell-moved set c x.of (way_of o k x.of) (way_of o (k ++ m ∷ []) x.of) x.on x.on (sym (fallen-rests o k m (opponent c) x game old)) refl (here first))
    (λ k after m x e game legal b first.
    fell-moved set c x.of (way_of o k x.of) (way_of o (k ++ m ∷ []) x.of) m.to x.on (sym (falling-rests o k m c x game (and_parts (is_of c (at (array_of o) x.of)) (is_a Pawn (at (array_of o) x.of)) first).0 b)) b.on
    (fell-now o g k after m set c x walled e game legal first b).0)
    walled.game

-- who began as no pawn is taken on the target
pub plain-victim : (o : List Bool) (k : List Move) (m : Move) (h : ℕ) → IsGame o k → Legality (board_after o k) (turn_after k) (unmoved o k) (last_move k) m → is_a Pawn (at (array_of o) h) ≡ false → label_at (labels_after o k) (taken_on (board_after o k) m) ≡ Some h → label_at (labels_after o k) m.to ≡ Some h
plain-victim o k m h game legal no_pawn label =
    let board : Places = board_after o k in
    elim (cases_Bool (goes_en_passant board m)) [
      | inl past ↦
          let there : label_at (labels_after o k) (en_passant_victim m) ≡ Some h = ap (label_at (labels_after o k)) (sym (cond-true (goes_en_passant board m) (en_passant_victim m) m.to past)) ∙ label in
          let who = man-there board (labels_after o k) (en_passant_victim m) h (labels-each_man o k game) there in
          let pawn = (and_parts (is_of (opponent (turn_after k)) (at board (en_passant_victim m))) (is_a Pawn (at board (en_passant_victim m))) (victim-pawn board (turn_after k) (unmoved o k) (last_move k) m past legal.manner)).1 in
          absurd (both_ways _ no_pawn (pawn-label (array_of o) (en_passant_victim m) h who.0 (labels-promotions o k game (en_passant_victim m) h who.0 there who.1) (sym (ap (is_a Pawn) who.1) ∙ pawn)))
      | inr plain ↦ ap (label_at (labels_after o k)) (sym (cond-false (goes_en_passant board m) (en_passant_victim m) m.to plain)) ∙ label
    ]

-- if he began as an officer, it was in his region
pub each-officer-fell : (o : List Bool) (g : List Move) (set : List Bool) (c : Colour) → Walled o g set → (x : Strike) → Contains (strikes o g (opponent c)) x → is_officer_of c (at (array_of o) x.of) ≡ true → is_in (region set x.of) x.on ≡ true
each-officer-fell o g set c walled =
    in-each-blow o g (opponent c) (λ k x. is_officer_of c (at (array_of o) x.of) ≡ true → is_in (region set x.of) x.on ≡ true) (λ k after m x e game old here. here)
    (λ k after m x e game legal b officer.
    let home = home-there o c x.of officer in
    let label = plain-victim o k m x.of game legal (officer-no-pawn c (at (array_of o) x.of) officer) b.of in
    ap (is_in (region set x.of)) (sym b.on) ∙ (in-region o g set x.of walled home.1 home.0 k (m ∷ after, e) m.to label).0)
    walled.game
