-- A capture en passant is a step that takes back two moves, the double step too.
use Rattle.std.proofs.Common.{◌≡◌, ◌≢◌, ℕ, ◌+◌, ◌<◌, inl, inr, Bool, true, false, not, List, [], ◌∷◌, ◌++◌, refl, ap, sym, ◌∙◌, subst, arith}
use Rattle.play_rules.proofs.Ends.{no_pawn_on_ends}
use Rattle.play_rules.specs.Laws.{is_end}
use Rattle.past_sketches.proofs.Order.{other-rank}
use Rattle.cage_rules.proofs.PawnEntries.{inner}
use Rattle.past_sketches.proofs.Quiet.{calm-now, files-differ}
use Rattle.std.proofs.lemmas.Bool.{and_left, and_parts, and_from, and_right, both_ways, eqb-true, eq-eqb, cases_eq, false_from_ne_true, ne_eqb}
use Rattle.std.proofs.lemmas.Option.{none-some, same_Some}
use Rattle.std.specs.Prelude.{Option, Some, None}
use Rattle.board_base.specs.Board.{Places, at, is_a, is_empty, is_of, is_the, opponent, rank, file, same_colour}
use Rattle.board_base.specs.Attacks.{distance, files_apart, one_ahead, ranks_apart}
use Rattle.board_base.specs.Play.{ahead, behind, castling, moved, play, promoted, en_passant_rank, en_passant_victim, goes_en_passant, king_target}
use Rattle.board_base.specs.Parts.{double_step}
use Rattle.board_base.specs.Game.{IsGame, board_after, last_move, turn_after, unmoved}
use Rattle.board_base.specs.Rights.{Rights}
use Rattle.board_base.specs.declared.men.Colour.{Colour}
use Rattle.board_base.specs.declared.men.Colour.TheVariants.{White, Black}
use Rattle.board_base.specs.declared.men.Kind.{Kind}
use Rattle.board_base.specs.declared.men.Kind.TheVariants.{King, Pawn}
use Rattle.board_base.specs.declared.men.Man.{Man}
use Rattle.board_base.specs.declared.moves.Move.{Move}
use Rattle.board_base.specs.declared.castles.Castle.{Castle}
use Rattle.board_base.proofs.CastleSquares.{castle-one-rank}
use Rattle.board_base.proofs.Equal.{last_is}
use Rattle.board_base.proofs.KindsOfMen.{another_kind, colour_is, full-of, kind_is, same_colour-self}
use Rattle.board_base.proofs.Passing.{double-en_passant_victim}
use Rattle.general_lemmas.proofs.Lists.{by_last}
use Rattle.play_rules.proofs.Doubles.{last_move-more}
use Rattle.play_rules.proofs.Games.{board_after-more, game_before, legal_last}
use Rattle.play_rules.proofs.Kings.{castle-ends, length-after, within}
use Rattle.play_rules.proofs.Legality.{Legality, legality}
use Rattle.men_account.specs.Labels.{label_at, labels_after}
use Rattle.men_account.proofs.Captured.{man-there, opponent-differs}
use Rattle.men_account.proofs.Labelled.{promoted-none, labels-each_man, labels_after-more, length-labels, labels-apart}
use Rattle.men_account.proofs.Moved.{arrived, at-moved, carried_from, moved_from, on_square}
use Rattle.men_account.proofs.Origins.{Came, before, moved_here, origin-not-victim, promoted_man, stayed, with_the_king}
use Rattle.men_fates.proofs.Strikes.{label-some}
use Rattle.men_fates.proofs.Treads.{Passes, Tread, capture, double, passes-on, single, tread}
use Rattle.men_fates.proofs.Lasting.{carried-elsewhere}
use Rattle.past_sketches.specs.Figures.{Figure, Sketch, figure_at}
use Rattle.past_sketches.specs.Steps.{Step, bystander, changed_by, is_deed, pawn_before, victim_on}
use Rattle.past_sketches.specs.Fits.{Fits, IsManOf, Stands, IsPawnOn, is_plain}
use Rattle.past_sketches.specs.Moments.{FitsStep, IsCalm}
use Rattle.past_sketches.proofs.Moments.{Moment, earlier, legal, plain-before}
use Rattle.past_sketches.proofs.Changed.{fits-with}
use Rattle.past_sketches.proofs.Deeds.{is-step, no-castling, unmarked}
use Rattle.past_sketches.proofs.Taken.{back-found, bystander-stands, mover-before, past-clear, side, stands-changed, stayed-here, stayed-inside, still, taken-new, victim-stands, who, between, in-order, next-place, turns-pawn, leaves-place, next-between, one-rank}
use Rattle.past_sketches.proofs.Wider.{man-inside}

-- the double step goes two ranks
two-ranks : (m : Move) (c : Colour) → rank m.from ≡ en_passant_rank c → one_ahead c m.from m.to ≡ true → ranks_apart (ahead c m.to) (behind c m.to) ≡ 2
unfolding distance
two-ranks m White r up = let e : rank m.to ≡ rank m.from + 1 = eqb-true _ _ up in omega arith
two-ranks m Black r up = let e : rank m.from ≡ rank m.to + 1 = eqb-true _ _ up in omega arith

-- a pawn on the file of a capture en passant, other than its three, is on one side of the target and of the home
ep-sides : (c : Colour) (m : Move) (s : ℕ) → rank m.from ≡ en_passant_rank c → one_ahead c m.from m.to ≡ true → s < 64 → file s ≡ file (ahead c m.to) → s ≢ m.to → is_end s ≡ false → (rank s < rank (ahead c m.to) → rank s < rank m.to) × (rank (ahead c m.to) < rank s → rank m.to < rank s)
ep-sides White m s r up small level other free =
    let e : rank m.to ≡ rank m.from + 1 = eqb-true _ _ up in
    let ends = inner s free in
    let apart : rank s ≢ rank m.to = other-rank s m.to (omega (arith, level)) other in
    let last = ends.1 in
    (λ lower. omega (arith, lower, apart, r, e), λ higher. omega (arith, higher, last, r, e, small))
ep-sides Black m s r up small level other free =
    let e : rank m.from ≡ rank m.to + 1 = eqb-true _ _ up in
    let ends = inner s free in
    let apart : rank s ≢ rank m.to = other-rank s m.to (omega (arith, level, r, e)) other in
    let first = ends.0 in
    (λ lower. omega (arith, lower, first, r, e), λ higher. omega (arith, higher, apart, r, e))

home-file : (c : Colour) (m : Move) → rank m.from ≡ en_passant_rank c → one_ahead c m.from m.to ≡ true → file (ahead c m.to) ≡ file m.to
home-file White m r up = omega arith
home-file Black m r up = let e : rank m.from ≡ rank m.to + 1 = eqb-true _ _ up in omega (arith, r, e)

-- a move of two ranks after these: whoever doesn't stand on its target stood where he stands, off its origin
pub record Stood (o : List Bool) (q : List Move) (d : Move) (f : Figure) (l s : ℕ) (man : Man) : Type 0 where
  pub was : IsManOf o q f l s man
  pub not_from : s ≢ d.from

module _ (o : List Bool) (q : List Move) (d : Move) (game : IsGame o (q ++ d ∷ [])) (two : ranks_apart d.from d.to ≡ 2) where
  game-first : IsGame o q
  game-first = game_before o q d game

  lawful : Legality (board_after o q) (turn_after q) (unmoved o q) (last_move q) d
  lawful = legality _ _ _ _ _ (legal_last o q d game)

  not-castle : (x : Castle) → castling (board_after o q) d ≡ Some x → ⊥
  not-castle x e =
      let ends = castle-ends (board_after o q) d x e in
      both_ways _ (castle-one-rank x) (eq-eqb _ 2 (ap (λ (s : ℕ). ranks_apart s (king_target x)) ends.from ∙ ap (ranks_apart d.from) ends.to ∙ two))

  stood-came : (f : Figure) (l s u : ℕ) (man : Man) → s ≢ d.to → IsManOf o (q ++ d ∷ []) f l s man → Came (board_after o q) (labels_after o q) d u s l man → Stood o q d f l s man
  stood-came f l s u man away now (stayed same a b label there) =
      record { was = record { label = label; there = there; colour = now.colour; kind = now.kind; square = now.square; mark = λ marked. plain-before o q d l man (now.mark marked) }; not_from = b }
  stood-came f l s u man away now (moved_here was from to label there is) = absurd (away to)
  stood-came f l s u man away now (with_the_king x castles from to label there) = absurd (not-castle x castles)

  pub stood-still : (f : Figure) (l s : ℕ) (man : Man) → s ≢ d.to → IsManOf o (q ++ d ∷ []) f l s man → Stood o q d f l s man
  stood-still f l s man away now =
      let back = before (board_after o q) (labels_after o q) (turn_after q) (unmoved o q) (last_move q) d (length-after o q game-first) (length-labels o q game-first) lawful s l man (rw labels_after-more at now.label) (rw board_after-more at now.there) in
      stood-came f l s back.square man away now back.came

  -- who stands off its origin stays, since nobody stood on its target
  stood-place : is_a Pawn (at (board_after o q) d.from) ≡ true → (s : ℕ) → s ≢ d.from → is_empty (at (board_after o q) s) ≡ false → at (board_after o (q ++ d ∷ [])) s ≡ at (board_after o q) s
  unfolding play
  stood-place pawn s other full =
      goes (tread (board_after o q) (turn_after q) (unmoved o q) (last_move q) d pawn lawful.on_board lawful.manner)
    where
      none : castling (board_after o q) d ≡ None
      none = elim (castling (board_after o q) d) as (λ x. castling (board_after o q) d ≡ x → x ≡ None) [ None ↦ λ e. refl | Some x ↦ λ e. absurd (not-castle x e) ] refl

      goes : Tread (board_after o q) (turn_after q) d → at (board_after o (q ++ d ∷ [])) s ≡ at (board_after o q) s
      goes (single one up same free) = absurd (both_ways _ one (eq-eqb _ _ two))
      goes (capture one up aside enemy) = absurd (both_ways _ one (eq-eqb _ _ two))
      goes (double far home same crossed_free free) =
          let board : Places = board_after o q in
          let away : s ≢ d.to = λ here. both_ways _ full (ap (λ (t : ℕ). is_empty (at board t)) here ∙ free) in
          let plain : goes_en_passant board d ≡ false = and_left _ (is_empty (at board d.to)) (and_right (is_a Pawn (at board d.from)) _ (ap not (eq-eqb _ _ same))) in
          let small : d.from < 64 = rw (← length-after o q game-first) (within (is_of (turn_after q)) board d.from refl lawful.mover) in
          ap (λ (b : Places). at b s) (board_after-more o q d)
          ∙ ap (λ (x : Option Castle). at (moved (promoted d.promo) d x (goes_en_passant board d) board) s) none
          ∙ ap (λ (b : Bool). at (moved (promoted d.promo) d None b board) s) plain
          ∙ at-moved (promoted d.promo) d None false board s (promoted-none d.promo) (length-after o q game-first) small lawful.on_board
          ∙ ap (λ (b : Bool). arrived (promoted d.promo) None b (on_square board (carried_from d.from d.to s))) (ne_eqb _ _ away)
          ∙ ap (λ (x : Option ℕ). arrived (promoted d.promo) None false (on_square board x)) (carried-elsewhere d.from d.to s other away)

  -- so who gives no check after it gave none before
  pub calm-before : (c : Colour) → is_the (opponent c) Pawn (at (board_after o q) d.from) ≡ true → IsCalm (board_after o (q ++ d ∷ [])) c → IsCalm (board_after o q) c
  calm-before c his calm e k man there own king near =
      let board : Places = board_after o q in
      let pawn = and_parts (is_of (opponent c) (at board d.from)) (is_a Pawn (at board d.from)) his in
      let mine : is_of c (at board e) ≡ true = ap (is_of c) there ∙ ap (λ (x : Colour). same_colour c x) (sym own) ∙ same_colour-self c in
      let kings = and_parts (is_of (opponent c) (at board k)) (is_a King (at board k)) king in
      let e_stays = stood-place pawn.1 e (λ same. opponent-differs c (at board d.from) (subst (λ (t : ℕ). is_of c (at board t) ≡ true) same mine) pawn.0) (full-of c (at board e) mine) in
      let k_stays = stood-place pawn.1 k (λ same. both_ways _ (another_kind King Pawn (at board d.from) pawn.1) (subst (λ (t : ℕ). is_a King (at board t) ≡ true) same kings.1)) (full-of (opponent c) (at board k) kings.0) in
      calm e k man (e_stays ∙ there) own (ap (is_the (opponent c) King) k_stays ∙ king) near

  stepped-came : (l s u : ℕ) (man : Man) → s ≡ d.to → d.promo ≡ None → Came (board_after o q) (labels_after o q) d u s l man → (label_at (labels_after o q) d.from ≡ Some l) × (at (board_after o q) d.from ≡ Some man)
  stepped-came l s u man e none (stayed same a b label there) = absurd (a e)
  stepped-came l s u man e none (with_the_king x castles from to label there) = absurd (not-castle x castles)
  stepped-came l s u man e none (moved_here was from to label there is) = (label, there ∙ ap Some (sym (is ∙ ap (λ (k : Option Kind). promoted_man k was) none)))

  -- who stands on its target stood on its origin
  pub stepped-from : (l : ℕ) (man : Man) → d.promo ≡ None → label_at (labels_after o (q ++ d ∷ [])) d.to ≡ Some l → at (board_after o (q ++ d ∷ [])) d.to ≡ Some man → (label_at (labels_after o q) d.from ≡ Some l) × (at (board_after o q) d.from ≡ Some man)
  stepped-from l man none label there =
      let back = before (board_after o q) (labels_after o q) (turn_after q) (unmoved o q) (last_move q) d (length-after o q game-first) (length-labels o q game-first) lawful d.to l man (rw labels_after-more at label) (rw board_after-more at there) in
      stepped-came l d.to back.square man refl none back.came

module _ (o : List Bool) (p : List Move) (m : Move) (held : Rights) (exact : List Bool) (T : Sketch) (it : Moment o p m held exact T) (deed : is_deed exact (board_after o p) m ≡ true) (j : ℕ) (f : Figure) (found : figure_at T j ≡ Some f) (his : label_at (labels_after o p) m.from ≡ Some (it.fits.label j)) where
  -- the squares of the double step
  passing-step : (q : List Move) (d : Move) → p ≡ q ++ d ∷ [] → d.from ≡ ahead f.colour m.to → d.to ≡ behind f.colour m.to → d.promo ≡ None → ranks_apart d.from d.to ≡ 2 → d.to ≡ en_passant_victim m → goes_en_passant (board_after o p) m ≡ true → is_the (opponent (turn_after p)) Pawn (at (board_after o p) d.to) ≡ true → one_ahead (turn_after p) m.from m.to ≡ true → files_apart m.from m.to ≡ 1 → rank m.from ≡ en_passant_rank f.colour → m.promo ≡ None → FitsStep o p exact T
  passing-step q d split at_from at_to none two victim past enemy up aside at_rank plain =
      record {
        step = x;
        made = is-step o p m held exact T it deed j f None true x.place off found his up (and_from _ _ (and_from _ _ (eq-eqb _ 1 aside) (eq-eqb _ _ at_rank)) refl) (next-place o p m held exact T it deed j f found his).next (leaves-place o p m held exact T it deed j f found his off x refl refl);
        mover = f;
        moved = found;
        calm = calm-first;
        first = q;
        rest = d ∷ [];
        split = split;
        fits = subst (Fits o q) (sym (back-found T x f found)) (fits-with o (p ++ m ∷ []) q T (changed_by f.colour x) it.fits stands (in-order o p m held exact T it deed j f found his q x refl (next-between o p m held exact T it deed j f found his) same) game-q (victim_on f Pawn (ahead f.colour m.to)) label.0 victim-there
            (taken-new o p m held exact T it deed j f found his d.to label.0 label.1 away-from away)
            (between o p m held exact T it deed j f found his q x Pawn (ahead f.colour m.to) (ahead f.colour m.to) label.0 refl game-q (subst (λ (s : ℕ). label_at (labels_after o q) s ≡ Some label.0) at_from origin.0) same (home-file f.colour m at_rank up')
            (λ on. turns-pawn o p m held exact T it deed j f found his plain) (λ e. files-differ m.from m.to aside (e ∙ home-file f.colour m at_rank up')) sides-of));
      }
    where
      x : Step
      x = record { by = j; from = m.from; to = m.to; taken = None; passing = true; place = (next-place o p m held exact T it deed j f found his).number }

      game : IsGame o p
      game = earlier o p m held exact T it

      game' : IsGame o (q ++ d ∷ [])
      game' = subst (IsGame o) split game

      game-q : IsGame o q
      game-q = game_before o q d game'

      off : m.promo ≡ None → file m.from ≡ file m.to → ⊥
      off promo level = files-differ m.from m.to aside level

      no-mark : f.marked ≡ true → is_plain o p (it.fits.label j) (who o p m held exact T it deed j f found his).man ≡ true
      no-mark marked = absurd (both_ways _ (unmarked o p m held exact T it deed f (it.fits.label j) off his (who o p m held exact T it deed j f found his)) marked)

      up' : one_ahead f.colour m.from m.to ≡ true
      up' = subst (λ (c : Colour). one_ahead c m.from m.to ≡ true) (side o p m held exact T it deed j f found his) up

      parts : (is_of (opponent (turn_after p)) (at (board_after o p) d.to) ≡ true) × (is_a Pawn (at (board_after o p) d.to) ≡ true)
      parts = and_parts (is_of (opponent (turn_after p)) (at (board_after o p) d.to)) _ enemy

      label : (l : ℕ) × (label_at (labels_after o p) d.to ≡ Some l)
      label = label-some (label_at (labels_after o p) d.to) (labels-each_man o p game d.to ∙ full-of (opponent (turn_after p)) (at (board_after o p) d.to) parts.0)

      man : (w : Man) × (at (board_after o p) d.to ≡ Some w)
      man = man-there (board_after o p) (labels_after o p) d.to label.0 (labels-each_man o p game) label.1

      away-from : d.to ≢ m.from
      away-from same = opponent-differs (turn_after p) (at (board_after o p) m.from) (legal o p m held exact T it).mover (subst (λ (s : ℕ). is_of (opponent (turn_after p)) (at (board_after o p) s) ≡ true) same parts.0)

      away : (i : ℕ) (g : Figure) (e : figure_at T i ≡ Some g) (apart : i ≢ j) → (stayed-here o p m held exact T it deed j f found his i g e apart).square ≢ d.to
      away i g e apart same =
          let s = stayed-here o p m held exact T it deed j f found his i g e apart in
          let led : moved_from m None true s.square ≡ Some s.origin = ap (λ (b : Bool). moved_from m None b s.square) (sym past) ∙ ap (λ (c : Option Castle). moved_from m c (goes_en_passant (board_after o p) m) s.square) (sym (no-castling o p m held exact T it deed)) ∙ s.led in
          origin-not-victim m s.square s.origin led (same ∙ victim)

      stood-at : (g : Figure) (l s : ℕ) (w : Man) → s ≢ d.to → IsManOf o p g l s w → Stood o q d g l s w
      stood-at g l s w other now = stood-still o q d game' two g l s w other (subst (λ (k : List Move). IsManOf o k g l s w) split now)

      bystander-at : (i : ℕ) (g : Figure) → figure_at T i ≡ Some g → i ≢ j → Stands o q (bystander f.colour x g) (it.fits.label i)
      bystander-at i g e apart =
          let s = stayed-here o p m held exact T it deed j f found his i g e apart in
          let was = stood-at g (it.fits.label i) s.square s.man (away i g e apart) (still o p m held exact T it deed j f found his g (it.fits.label i) s) in
          bystander-stands o q f.colour x g (it.fits.label i) s.square s.man (stayed-inside o p m held exact T it deed j f found his g (it.fits.label i) s)
          (past-clear f.colour x s.square (one-rank (turn_after p) m.from m.to s.square up) s.not_from s.not_to (λ same. away i g e apart (same ∙ sym at_to)) (λ same. was.not_from (same ∙ sym at_from))) was.was

      mover-at : (i : ℕ) (g : Figure) → figure_at T i ≡ Some g → i ≡ j → Stands o q (pawn_before x g) (it.fits.label i)
      mover-at i g e same =
          let w = who o p m held exact T it deed j f found his in
          (m.from, w.man, (stood-at (pawn_before x g) (it.fits.label i) m.from w.man (λ at_target. away-from (sym at_target)) (mover-before o p m held exact T it deed j f found his i g None true e same no-mark)).was)

      stands : (i : ℕ) (g : Figure) → figure_at T i ≡ Some g → Stands o q (changed_by f.colour x i g) (it.fits.label i)
      stands i g e = stands-changed o q f.colour x i (it.fits.label i) g (mover-at i g e) (bystander-at i g e)

      origin : (label_at (labels_after o q) d.from ≡ Some label.0) × (at (board_after o q) d.from ≡ Some man.0)
      origin = stepped-from o q d game' two label.0 man.0 none (subst (λ (k : List Move). label_at (labels_after o k) d.to ≡ Some label.0) split label.1) (subst (λ (k : List Move). at (board_after o k) d.to ≡ Some man.0) split man.1)

      calm-first : IsCalm (board_after o q) f.colour
      calm-first =
          let own = side o p m held exact T it deed j f found his in
          let pawn : is_the (opponent f.colour) Pawn (at (board_after o q) d.from) ≡ true = ap (is_the (opponent f.colour) Pawn) (origin.1 ∙ sym man.1) ∙ subst (λ (c : Colour). is_the (opponent c) Pawn (at (board_after o p) d.to) ≡ true) own enemy in
          calm-before o q d game' two f.colour pawn (subst (λ (g : List Move). IsCalm (board_after o g) f.colour) split (subst (IsCalm (board_after o p)) own (calm-now o p m held exact T it)))

      as-before : (g : Figure) (l u s : ℕ) (w : Man) → IsManOf o p g l u w → IsManOf o q g l u w → IsPawnOn o q l s → IsPawnOn o p l s × (s ≡ u)
      as-before g l u s w now was on =
          let here : s ≡ u = labels-apart o q game-q s u l on.label was.label in
          (record { label = ap (label_at (labels_after o p)) here ∙ now.label; pawn = ap (λ (t : ℕ). is_a Pawn (at (board_after o p) t)) here ∙ ap (is_a Pawn) (now.there ∙ sym was.there) ∙ ap (λ (t : ℕ). is_a Pawn (at (board_after o q) t)) (sym here) ∙ on.pawn }, here)

      stayed-before : (i s : ℕ) (g : Figure) (e : figure_at T i ≡ Some g) (apart : i ≢ j) → IsPawnOn o q (it.fits.label i) s → IsPawnOn o p (it.fits.label i) s × (s ≡ (stayed-here o p m held exact T it deed j f found his i g e apart).square)
      stayed-before i s g e apart on =
          let y = stayed-here o p m held exact T it deed j f found his i g e apart in
          let now = still o p m held exact T it deed j f found his g (it.fits.label i) y in
          as-before g (it.fits.label i) y.square s y.man now (stood-at g (it.fits.label i) y.square y.man (away i g e apart) now).was on

      same : (i s : ℕ) (g : Figure) → figure_at T i ≡ Some g → IsPawnOn o q (it.fits.label i) s → IsPawnOn o p (it.fits.label i) s
      same i s g e on = elim (cases_eq i j) [
        | inr apart ↦ (stayed-before i s g e apart on).0
        | inl is_j ↦
            let now = mover-before o p m held exact T it deed j f found his i g None true e is_j no-mark in
            (as-before (pawn_before x g) (it.fits.label i) m.from s (who o p m held exact T it deed j f found his).man now (stood-at (pawn_before x g) (it.fits.label i) m.from (who o p m held exact T it deed j f found his).man (λ at_target. away-from (sym at_target)) now).was on).0
      ]

      sides-of : (i s : ℕ) (g : Figure) → figure_at T i ≡ Some g → i ≢ j → IsPawnOn o q (it.fits.label i) s → file s ≡ file (ahead f.colour m.to) → (rank s < rank (ahead f.colour m.to) → rank s < rank m.to) × (rank (ahead f.colour m.to) < rank s → rank m.to < rank s)
      sides-of i s g e apart on level =
          let y = stayed-here o p m held exact T it deed j f found his i g e apart in
          let at_y = (stayed-before i s g e apart on).1 in
          let small : s < 64 = let w = stayed-inside o p m held exact T it deed j f found his g (it.fits.label i) y in rw at_y w in
          ep-sides f.colour m s at_rank up' small level (λ z. y.not_to (sym at_y ∙ z)) (false_from_ne_true _ (λ end. both_ways _ (no_pawn_on_ends o q game-q s end) on.pawn))

      victim-there : Stands o q (victim_on f Pawn (ahead f.colour m.to)) label.0
      victim-there =
          let was = origin in
          let colour : man.0.colour ≡ opponent f.colour = sym (colour_is (opponent (turn_after p)) man.0.colour (ap (is_of (opponent (turn_after p))) (sym man.1) ∙ parts.0)) ∙ ap opponent (side o p m held exact T it deed j f found his) in
          let pawn : Pawn ≡ man.0.kind = kind_is Pawn man.0.kind (ap (is_a Pawn) (sym man.1) ∙ parts.1) in
          let inside : d.from < 64 = man-inside (board_after o q) d.from man.0 (length-after o q (game_before o q d game')) was.1 in
          subst (λ (s : ℕ). Stands o q (victim_on f Pawn s) label.0) at_from (subst (λ (k : Kind). Stands o q (victim_on f k d.from) label.0) (sym pawn) (victim-stands o q f d.from label.0 man.0 inside was.0 was.1 colour))

  -- the double step was the last move before
  pub en_passant-step : goes_en_passant (board_after o p) m ≡ true → FitsStep o p exact T
  en_passant-step past = elim (by_last p) [
    | inl none ↦ absurd (none-some by.step (ap last_move (sym none) ∙ last_is (last_move p) by.step by.was_last))
    | inr (q, d, split) ↦
        let same : d ≡ by.step = same_Some d by.step (sym (last_move-more q d) ∙ ap last_move (sym split) ∙ last_is (last_move p) by.step by.was_last) in
        let double : d ≡ double_step m f.colour = same ∙ sym by.may.double ∙ ap (double_step m) own in
        passing-step q d split (ap (λ (x : Move). x.from) double) (ap (λ (x : Move). x.to) double) (ap (λ (x : Move). x.promo) double)
        (ap (λ (x : Move). ranks_apart x.from x.to) double ∙ two-ranks m f.colour (by.may.rank_is ∙ ap en_passant_rank own) (subst (λ (c : Colour). one_ahead c m.from m.to ≡ true) own by.may.ahead_is))
        (ap (λ (x : Move). x.to) same ∙ double-en_passant_victim m by.step (turn_after p) by.answers) past (ap (λ (x : Move). is_the (opponent (turn_after p)) Pawn (at (board_after o p) x.to)) same ∙ by.pawn)
        by.may.ahead_is by.may.files (by.may.rank_is ∙ ap en_passant_rank own) by.may.promo
  ]
    where
      by : Passes (board_after o p) (turn_after p) (last_move p) m
      by = passes-on (board_after o p) (turn_after p) (unmoved o p) (last_move p) m past (legal o p m held exact T it).manner

      own : turn_after p ≡ f.colour
      own = side o p m held exact T it deed j f found his
