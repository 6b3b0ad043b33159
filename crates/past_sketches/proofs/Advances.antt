-- On an exact file a pawn's move straight on is a step.
use Rattle.std.proofs.Common.{◌≡◌, ℕ, ◌==◌, Bool, true, false, ◌&&◌, not, List, [], ◌∷◌, ◌++◌, refl, ap, sym, ◌∙◌, subst, arith}
use Rattle.std.proofs.lemmas.Bool.{and_from, and_right, both_ways, eq-eqb, false_from_ne_true, lt-ltb, ne_eqb, not_from_false, not-true, or_left, or_right}
use Rattle.std.proofs.lemmas.List.{append-nil}
use Rattle.std.specs.Prelude.{Option, Some, None}
use Rattle.std.specs.List.{list_all}
use Rattle.board_base.specs.Board.{at, file, is_a, is_empty, is_in, rank}
use Rattle.board_base.specs.Attacks.{one_ahead, on_the_way, ranks_apart}
use Rattle.board_base.specs.Legal.{is_officer, last_rank, pawn_rank, promotion_fits}
use Rattle.board_base.specs.Game.{board_after, turn_after}
use Rattle.board_base.specs.Rights.{Rights}
use Rattle.board_base.specs.declared.men.Colour.{Colour}
use Rattle.board_base.specs.declared.men.Kind.{Kind}
use Rattle.board_base.specs.declared.men.Kind.TheVariants.{Pawn}
use Rattle.board_base.specs.declared.men.Man.{Man}
use Rattle.board_base.specs.declared.moves.Move.{Move}
use Rattle.board_base.proofs.KindsOfMen.{kind_is}
use Rattle.play_rules.specs.Laws.{is_end}
use Rattle.play_rules.proofs.Ends.{no_pawn_on_ends}
use Rattle.men_account.specs.Labels.{label_at, labels_after}
use Rattle.men_account.proofs.Origins.{promoted_man}
use Rattle.past_sketches.specs.Closed.{goes_straight}
use Rattle.past_sketches.specs.Figures.{Figure, Sketch, figure_at, may_be}
use Rattle.past_sketches.specs.FileOrder.{leaves_room}
use Rattle.past_sketches.specs.Steps.{Step, changed_by, is_deed, is_step, made_by, pawn_before}
use Rattle.past_sketches.specs.Fits.{Fits, IsManOf, Stands, is_plain}
use Rattle.past_sketches.specs.Moments.{FitsStep, IsCalm}
use Rattle.past_sketches.proofs.Changed.{fits-changed}
use Rattle.past_sketches.proofs.Deeds.{Mover, no-castling, was-pawn}
use Rattle.past_sketches.proofs.Moments.{Moment, earlier, from-within, legal, plain-before}
use Rattle.past_sketches.proofs.Quiet.{calm-now, from-free, pawn-sides, pawns-leave}
use Rattle.past_sketches.proofs.Taken.{PlaceBetween, one-rank, back-found, bystander-stands, in-order, mover-before, pawn-stays, plain-clear, side, stands-changed, stayed-here, stayed-inside, still, turns-pawn, who}

-- who isn't promoted stays short of the last rank
short-of : (board-pawn reaches : Bool) (promo : Option Kind) → promo ≡ None → board-pawn ≡ true → elim promo as (λ _. Bool) [ None ↦ not (board-pawn && reaches) | Some k ↦ board-pawn && reaches && is_officer k ] ≡ true → reaches ≡ false
short-of pawn reaches None none is h = false_from_ne_true _ (λ r. both_ways _ (not-true _ h) (and_from _ _ is r))
short-of pawn reaches (Some k) none is h = cc

module _ (o : List Bool) (p : List Move) (m : Move) (held : Rights) (exact : List Bool) (T : Sketch) (it : Moment o p m held exact T) (deed : is_deed exact (board_after o p) m ≡ true) (j : ℕ) (f : Figure) (found : figure_at T j ≡ Some f) (his : label_at (labels_after o p) m.from ≡ Some (it.fits.label j)) where
  move : Step
  move = record { by = j; from = m.from; to = m.to; taken = None; passing = false; place = f.place }

  was : is_a Pawn (at (board_after o p) m.from) ≡ true
  was = was-pawn o p m held exact T it deed

  mover : Mover o p m f (it.fits.label j)
  mover = who o p m held exact T it deed j f found his

  -- he is the man who he was
  same-man : m.promo ≡ None → promoted_man m.promo mover.man ≡ mover.man
  same-man none = ap (λ (k : Option Kind). promoted_man k mover.man) none

  now-pawn : m.promo ≡ None → IsManOf o (p ++ m ∷ []) f (it.fits.label j) m.to mover.man
  now-pawn none = subst (IsManOf o (p ++ m ∷ []) f (it.fits.label j) m.to) (same-man none) mover.now

  pawn-kind : mover.man.kind ≡ Pawn
  pawn-kind = sym (kind_is Pawn mover.man.kind (ap (is_a Pawn) (sym mover.there) ∙ was))

  mark-before : m.promo ≡ None → f.marked ≡ true → is_plain o p (it.fits.label j) mover.man ≡ true
  mark-before none marked = plain-before o p m (it.fits.label j) mover.man ((now-pawn none).mark marked)

  sides-in : m.promo ≡ None → file m.from ≡ file m.to → PlaceBetween o p m held exact T it deed j f found his f.place
  sides-in none same i g e apart s on small level =
      let after = pawn-stays o p m held exact T it deed j f found his i g e apart s on in
      let me = turns-pawn o p m held exact T it deed j f found his none in
      let beside = pawn-sides o p m held exact T it was same s level after.2 after.1 (full-pawn (at (board_after o p) s) on.pawn) in (
        λ lower. it.fits.order i j g f s m.to e found after.0 me (level ∙ same) (beside.down lower),
        λ higher. let order = it.fits.order j i f g m.to s found e me after.0 (sym (level ∙ same)) (beside.up higher) in omega (arith, order),
      )
    where
      full-pawn : (place : Option Man) → is_a Pawn place ≡ true → is_empty place ≡ false
      full-pawn None h = cc
      full-pawn (Some man) h = refl

  stands : m.promo ≡ None → ((w : ℕ) → is_empty (at (board_after o p) w) ≡ false → ((ranks_apart m.from m.to == 2) && (w == on_the_way m.from m.to 1)) ≡ false) → (i : ℕ) (g : Figure) → figure_at T i ≡ Some g → Stands o p (changed_by f.colour move i g) (it.fits.label i)
  unfolding move mover
  stands none crossed i g e =
      stands-changed o p f.colour move i (it.fits.label i) g (λ same. (m.from, mover.man, moved-back same)) (λ apart.
      let s = stayed-here o p m held exact T it deed j f found his i g e apart in
      bystander-stands o p f.colour move g (it.fits.label i) s.square s.man (stayed-inside o p m held exact T it deed j f found his g (it.fits.label i) s) (plain-clear f.colour move s.square refl (crossed s.square (ap is_empty s.there)) s.not_from s.not_to) (still o p m held exact T it deed j f found his g (it.fits.label i) s))
    where
      moved-back : i ≡ j → IsManOf o p (pawn_before move g) (it.fits.label i) m.from mover.man
      moved-back same =
          let b = mover-before o p m held exact T it deed j f found his i g None false e same (mark-before none) in
          record { label = b.label; there = b.there; colour = b.colour; kind = b.kind; square = b.square; mark = b.mark }

  advance : m.promo ≡ None → file m.from ≡ file m.to → ((w : ℕ) → is_empty (at (board_after o p) w) ≡ false → ((ranks_apart m.from m.to == 2) && (w == on_the_way m.from m.to 1)) ≡ false) → goes_straight (turn_after p) m.from m.to ≡ true → is_in exact (file m.from) ≡ true → FitsStep o p exact T
  unfolding move is_step promotion_fits
  advance none same crossed goes on_exact =
      let own = side o p m held exact T it deed j f found his in
      let now = now-pawn none in
      let lawful = legal o p m held exact T it in
      let inner : is_end m.from ≡ false = false_from_ne_true _ (λ end. both_ways _ (no_pawn_on_ends o p (earlier o p m held exact T it) m.from end) was) in
      let short : (rank m.to == last_rank f.colour) ≡ false = subst (λ (c : Colour). (rank m.to == last_rank c) ≡ false) own (short-of (is_a Pawn (at (board_after o p) m.from)) (rank m.to == last_rank (turn_after p)) m.promo none was lawful.promotion) in
      let room : list_all (leaves_room f m.from) T ≡ true = pawns-leave o p m held exact T it (no-castling o p m held exact T it deed) j f mover.man found now pawn-kind his m.from same (λ w level. pawn-sides o p m held exact T it was same w level) in
      record {
        step = move;
        made =
            ap (λ (g : Option Figure). made_by exact T g move) found
            ∙ or_right _ _ (and_from _ _ (and_from _ _ (and_from _ _ (and_from _ _ (and_from _ _ on_exact
            (and_from _ _ (and_from _ _ (and_from _ _ (and_from _ _ now.square (lt-ltb _ _ (legal o p m held exact T it).on_board)) (lt-ltb _ _ (from-within o p m held exact T it))) (not_from_false _ inner)) (not_from_false _ (from-free o p m held exact T it))))
            (subst (λ (k : Kind). may_be f k ≡ true) pawn-kind now.kind)) (not_from_false _ short)) (subst (λ (c : Colour). goes_straight c m.from m.to ≡ true) own goes))
            (and_from _ _ (and_from _ _ (and_from _ _ refl refl) (eq-eqb f.place f.place refl)) room));
        mover = f;
        moved = found;
        calm = subst (IsCalm (board_after o p)) own (calm-now o p m held exact T it);
        first = p;
        rest = [];
        split = sym (append-nil p);
        fits = subst (Fits o p) (sym (back-found T move f found)) (fits-changed o (p ++ m ∷ []) p T (changed_by f.colour move) it.fits (stands none crossed) (in-order o p m held exact T it deed j f found his p move refl (sides-in none same) (λ i s g e on. on)));
      }

  pub single-advance : m.promo ≡ None → file m.from ≡ file m.to → one_ahead (turn_after p) m.from m.to ≡ true → is_empty (at (board_after o p) m.to) ≡ true → is_in exact (file m.from) ≡ true → FitsStep o p exact T
  single-advance none same up free on_exact = advance none same (λ w full. one-rank (turn_after p) m.from m.to w up) (and_from _ _ (eq-eqb _ _ same) (or_left _ _ up)) on_exact

  pub double-advance : m.promo ≡ None → file m.from ≡ file m.to → ranks_apart m.from m.to ≡ 2 → rank m.from ≡ pawn_rank (turn_after p) → is_empty (at (board_after o p) (on_the_way m.from m.to 1)) ≡ true → is_in exact (file m.from) ≡ true → FitsStep o p exact T
  double-advance none same two home crossed_free on_exact =
      advance none same (λ w full. and_right (ranks_apart m.from m.to == 2) (w == on_the_way m.from m.to 1) (ne_eqb _ _ (λ e. both_ways _ full (ap (λ (s : ℕ). is_empty (at (board_after o p) s)) e ∙ crossed_free))))
      (and_from _ _ (eq-eqb _ _ same) (or_right (one_ahead (turn_after p) m.from m.to) _ (and_from _ _ (eq-eqb _ _ home) (eq-eqb _ _ two)))) on_exact
