-- A capture by the pawn of a figure, or his promotion, is a step of the sketch.
use Rattle.std.proofs.Common.{◌≡◌, ◌≢◌, ℕ, ◌==◌, inl, inr, Bool, true, false, cond, ◌&&◌, not, List, [], ◌∷◌, ◌++◌, refl, ap, sym, ◌∙◌, subst, ◌||◌}
use Rattle.std.specs.List.{list_all}
use Rattle.std.proofs.lemmas.Bool.{and_parts, and_from, or_cases, both_ways, cond-true, cond-false, eqb-true, eq-eqb, false_from_ne_true, lt-ltb, not_from_false, not-true, or_left}
use Rattle.std.proofs.lemmas.Option.{none-some}
use Rattle.std.specs.Prelude.{Option, Some, None, is_some}
use Rattle.board_base.specs.Board.{Places, array_of, at, file, is_a, rank, same_kind, is_in}
use Rattle.board_base.specs.Attacks.{one_ahead}
use Rattle.board_base.specs.Play.{castling, goes_en_passant}
use Rattle.board_base.specs.Legal.{is_officer, last_rank, promotion_fits}
use Rattle.board_base.specs.Game.{board_after, last_move, turn_after, unmoved}
use Rattle.board_base.specs.Rights.{Rights}
use Rattle.board_base.specs.declared.men.Colour.{Colour}
use Rattle.board_base.specs.declared.men.Kind.{Kind}
use Rattle.board_base.specs.declared.men.Kind.TheVariants.{Pawn, King}
use Rattle.board_base.specs.declared.men.Man.{Man}
use Rattle.board_base.specs.declared.moves.Move.{Move}
use Rattle.board_base.proofs.KindsOfMen.{another_kind, kind_is, no_officer}
use Rattle.play_rules.specs.Laws.{is_end}
use Rattle.play_rules.proofs.Ends.{no_pawn_on_ends}
use Rattle.play_rules.proofs.Kings.{castle-ends}
use Rattle.men_account.specs.Labels.{label_at, labels_after}
use Rattle.men_account.proofs.Labelled.{labels-apart}
use Rattle.men_account.proofs.Moved.{moved_from}
use Rattle.men_account.proofs.Origins.{Came, moved_here, promoted_man, stayed, with_the_king}
use Rattle.men_fates.specs.Deeds.{way_of}
use Rattle.men_fates.specs.Ways.{is_straight, way_end}
use Rattle.men_fates.proofs.Goings.{mover-home, pawn-ends}
use Rattle.men_fates.proofs.MoreDeeds.{mover-goes, way-more}
use Rattle.men_fates.proofs.Treads.{Tread, capture, double, one-trodden, single, tread}
use Rattle.past_sketches.specs.Figures.{Figure, Sketch, figure_at, may_be}
use Rattle.past_sketches.specs.Steps.{Step, arrives, is_deed, is_next_place, is_step, leaves_place, made_by, passes, takes}
use Rattle.past_sketches.specs.Fits.{IsManOf}
use Rattle.past_sketches.proofs.Sketches.{kind-any}
use Rattle.past_sketches.proofs.Moments.{Moment, earlier, from-within, legal, man-of}
use Rattle.past_sketches.proofs.Quiet.{files-differ, from-free, mover-colour}

-- the man of a figure who made the move as a pawn
pub record Mover (o : List Bool) (p : List Move) (m : Move) (f : Figure) (l : ℕ) : Type 0 where
  pub man : Man
  pub there : at (board_after o p) m.from ≡ Some man
  pub now : IsManOf o (p ++ m ∷ []) f l m.to (promoted_man m.promo man)

-- the man of a figure who stayed where he was
pub record Stayed (o : List Bool) (p : List Move) (m : Move) (f : Figure) (l : ℕ) : Type 0 where
  pub square : ℕ
  pub man : Man
  pub now : IsManOf o (p ++ m ∷ []) f l square man
  pub not_to : square ≢ m.to
  pub not_from : square ≢ m.from
  pub label : label_at (labels_after o p) square ≡ Some l
  pub there : at (board_after o p) square ≡ Some man
  pub origin : ℕ
  pub led : moved_from m (castling (board_after o p) m) (goes_en_passant (board_after o p) m) square ≡ Some origin

straight-last : (s : ℕ) (a : List ℕ) (t : ℕ) → is_straight s (a ++ t ∷ []) ≡ true → file (way_end s a) ≡ file t
straight-last s [] t h = eqb-true _ _ (and_parts _ _ h).0
straight-last s (u ∷ a) t h = straight-last u a t (and_parts _ _ h).1

-- as what he arrives
arrives-as : (f : Figure) (t : ℕ) (promo : Option Kind) (was : Man) (pawn : Bool) → pawn ≡ true → same_kind Pawn was.kind ≡ true → elim promo as (λ _. Bool) [ None ↦ not (pawn && (rank t == last_rank f.colour)) | Some k ↦ pawn && (rank t == last_rank f.colour) && is_officer k ] ≡ true → may_be f (promoted_man promo was).kind ≡ true → arrives f t ≡ true
arrives-as f t None was pawn is kind fits may =
    let short : (rank t == last_rank f.colour) ≡ false = false_from_ne_true _ (λ last. both_ways _ (not-true _ fits) (and_from _ _ is last)) in
    cond-false (rank t == last_rank f.colour) _ (may_be f Pawn) short ∙ subst (λ (k : Kind). may_be f k ≡ true) (sym (kind_is Pawn was.kind kind)) may
arrives-as f t (Some k) was pawn is kind fits may =
    let parts = and_parts (pawn && (rank t == last_rank f.colour)) (is_officer k) fits in
    cond-true (rank t == last_rank f.colour) _ _ (and_parts pawn _ parts.0).1 ∙ kind-any f.kinds is_officer k may parts.1

arrives-here : (board : Places) (f : Figure) (m : Move) (was : Man) → promotion_fits board f.colour m ≡ true → is_a Pawn (at board m.from) ≡ true → same_kind Pawn was.kind ≡ true → may_be f (promoted_man m.promo was).kind ≡ true → arrives f m.to ≡ true
unfolding promotion_fits
arrives-here board f m was fits pawn kind may = arrives-as f m.to m.promo was (is_a Pawn (at board m.from)) pawn kind fits may

-- a mark says otherwise
plain-no : (array : Option Man) (l : ℕ) (way : List ℕ) (promo : Option Kind) (was : Man) (pawn reaches : Bool) → same_kind Pawn was.kind ≡ true → is_a Pawn array ≡ true → (promo ≡ None → is_straight l way ≡ true → ⊥) → elim promo as (λ _. Bool) [ None ↦ not (pawn && reaches) | Some k ↦ pawn && reaches && is_officer k ] ≡ true → cond (same_kind Pawn (promoted_man promo was).kind) (is_straight l way) (not (is_a Pawn array)) ≡ true → ⊥
plain-no array l way None was pawn reaches kind home turns fits h = turns refl (sym (cond-true (same_kind Pawn was.kind) (is_straight l way) _ kind) ∙ h)
plain-no array l way (Some k) was pawn reaches kind home turns fits h =
    let officer : is_officer k ≡ true = (and_parts (pawn && reaches) _ fits).1 in
    both_ways _ (not-true _ (sym (cond-false (same_kind Pawn k) (is_straight l way) _ (no_officer Pawn k refl officer)) ∙ h)) home

module _ (o : List Bool) (p : List Move) (m : Move) (held : Rights) (exact : List Bool) (T : Sketch) (it : Moment o p m held exact T) (deed : is_deed exact (board_after o p) m ≡ true) where
  pub was-pawn : is_a Pawn (at (board_after o p) m.from) ≡ true
  unfolding is_deed
  was-pawn = (and_parts (is_a Pawn (at (board_after o p) m.from)) _ deed).0

  pub turned : m.promo ≡ None → file m.from ≡ file m.to → is_in exact (file m.from) ≡ true
  unfolding is_deed
  turned none same =
      let two = (and_parts (is_a Pawn (at (board_after o p) m.from)) _ deed).1 in
      elim (or_cases (is_some m.promo || not (file m.from == file m.to)) (is_in exact (file m.from)) two) [
        | inr on_exact ↦ on_exact
        | inl first ↦ elim (or_cases (is_some m.promo) (not (file m.from == file m.to)) first) [
          | inl some ↦ absurd (both_ways _ (ap is_some none) some)
          | inr other ↦ absurd (both_ways _ (not-true _ other) (eq-eqb _ _ same))
        ]
      ]

  pub no-castling : castling (board_after o p) m ≡ None
  no-castling = elim (castling (board_after o p) m) as (λ x. castling (board_after o p) m ≡ x → x ≡ None) [
    | None ↦ λ e. refl
    | Some x ↦ λ e. absurd (both_ways _ (another_kind King Pawn (at (board_after o p) m.from) was-pawn) (castle-ends (board_after o p) m x e).king)
  ] refl

  mover-came : (i : ℕ) (f : Figure) (l s u : ℕ) (man : Man) → label_at (labels_after o p) m.from ≡ Some l → IsManOf o (p ++ m ∷ []) f l s man → Came (board_after o p) (labels_after o p) m u s l man → Mover o p m f l
  mover-came i f l s u man his now (stayed same a b label there) = absurd (b (labels-apart o p (earlier o p m held exact T it) s m.from l label his))
  mover-came i f l s u man his now (with_the_king x castles from to label there) = absurd (none-some x (sym no-castling ∙ castles))
  mover-came i f l s u man his now (moved_here was from to label there is) =
      record { man = was; there = there; now = subst (IsManOf o (p ++ m ∷ []) f l m.to) is (subst (λ (t : ℕ). IsManOf o (p ++ m ∷ []) f l t man) to now) }

  -- who made the move
  pub mover : (i : ℕ) (f : Figure) → figure_at T i ≡ Some f → label_at (labels_after o p) m.from ≡ Some (it.fits.label i) → Mover o p m f (it.fits.label i)
  mover i f found his = let who = man-of o p m held exact T it i f found in mover-came i f (it.fits.label i) who.0 who.1.back.square who.1.man his who.1.now who.1.back.came

  other-came : (f : Figure) (l s u : ℕ) (man : Man) → (label_at (labels_after o p) m.from ≡ Some l → ⊥) → IsManOf o (p ++ m ∷ []) f l s man → moved_from m (castling (board_after o p) m) (goes_en_passant (board_after o p) m) s ≡ Some u → Came (board_after o p) (labels_after o p) m u s l man → Stayed o p m f l
  other-came f l s u man other now led (stayed same a b label there) = record { square = s; man = man; now = now; not_to = a; not_from = b; label = label; there = there; origin = u; led = led }
  other-came f l s u man other now led (with_the_king x castles from to label there) = absurd (none-some x (sym no-castling ∙ castles))
  other-came f l s u man other now led (moved_here was from to label there is) = absurd (other label)

  -- and who didn't
  pub other : (i : ℕ) (f : Figure) → figure_at T i ≡ Some f → (label_at (labels_after o p) m.from ≡ Some (it.fits.label i) → ⊥) → Stayed o p m f (it.fits.label i)
  other i f found not_his = let who = man-of o p m held exact T it i f found in other-came f (it.fits.label i) who.0 who.1.back.square who.1.man not_his who.1.now who.1.back.led who.1.back.came

  mover-kind : (f : Figure) (l : ℕ) (who : Mover o p m f l) → same_kind Pawn who.man.kind ≡ true
  mover-kind f l who = ap (is_a Pawn) (sym who.there) ∙ was-pawn

  pub mover-side : (f : Figure) (l : ℕ) (who : Mover o p m f l) → turn_after p ≡ f.colour
  mover-side f l who = mover-colour o p m held exact T it who.man who.there ∙ sym (promoted-same m.promo who.man) ∙ who.now.colour
    where
      promoted-same : (promo : Option Kind) (man : Man) → (promoted_man promo man).colour ≡ man.colour
      promoted-same None man = refl
      promoted-same (Some k) man = refl

  pub unmarked : (f : Figure) (l : ℕ) → (m.promo ≡ None → file m.from ≡ file m.to → ⊥) → label_at (labels_after o p) m.from ≡ Some l → Mover o p m f l → f.marked ≡ false
  unfolding promotion_fits
  unmarked f l off his who = false_from_ne_true _ (λ marked.
      plain-no (at (array_of o) l) l (way_of o (p ++ m ∷ []) l) m.promo who.man (is_a Pawn (at (board_after o p) m.from)) (rank m.to == last_rank (turn_after p)) (mover-kind f l who) (mover-home o p m l (earlier o p m held exact T it) was-pawn his)
      (λ none straight. turns none (tread (board_after o p) (turn_after p) (unmoved o p) (last_move p) m was-pawn (legal o p m held exact T it).on_board (legal o p m held exact T it).manner) straight)
      (legal o p m held exact T it).promotion (who.now.mark marked))
    where
      turns : m.promo ≡ None → Tread (board_after o p) (turn_after p) m → is_straight l (way_of o (p ++ m ∷ []) l) ≡ true → ⊥
      turns none (single one ahead_is same free) straight = off none same
      turns none (double two home same crossed_free free) straight = off none same
      turns none (capture one ahead_is aside enemy) straight =
          let went = way-more o p m l ∙ ap (λ (w : List ℕ). way_of o p l ++ w) (mover-goes l (board_after o p) (labels_after o p) m was-pawn his ∙ one-trodden m one) in
          let ends = pawn-ends o p (earlier o p m held exact T it) m.from l his was-pawn in
          files-differ m.from m.to aside (ap file (sym ends) ∙ straight-last l (way_of o p l) m.to (sym (ap (is_straight l) went) ∙ straight))

  pub is-step : (j : ℕ) (f : Figure) (taken : Option Kind) (passing : Bool) (place : ℕ) → (m.promo ≡ None → file m.from ≡ file m.to → ⊥) → figure_at T j ≡ Some f → label_at (labels_after o p) m.from ≡ Some (it.fits.label j) → one_ahead (turn_after p) m.from m.to ≡ true → cond passing (passes f.colour m.from m.to taken) (takes f.colour m.from m.to taken) ≡ true → is_next_place T place ≡ true → list_all (leaves_place (record { by = j; from = m.from; to = m.to; taken = taken; passing = passing; place = place })) T ≡ true → is_step exact T (record { by = j; from = m.from; to = m.to; taken = taken; passing = passing; place = place }) ≡ true
  unfolding is_step
  is-step j f taken passing place off found his up aims next room =
      let x : Step = record { by = j; from = m.from; to = m.to; taken = taken; passing = passing; place = place } in
      let who = mover j f found his in
      let own = mover-side f (it.fits.label j) who in
      let inner : is_end m.from ≡ false = false_from_ne_true _ (λ end. both_ways _ (no_pawn_on_ends o p (earlier o p m held exact T it) m.from end) was-pawn) in
      let fits : promotion_fits (board_after o p) f.colour m ≡ true = subst (λ (c : Colour). promotion_fits (board_after o p) c m ≡ true) own (legal o p m held exact T it).promotion in
      ap (λ (g : Option Figure). made_by exact T g x) found
      ∙ or_left _ _ (and_from _ _ (and_from _ _ (and_from _ _ (and_from _ _ (and_from _ _ (not_from_false _ (unmarked f (it.fits.label j) off his who))
      (and_from _ _ (and_from _ _ (and_from _ _ (and_from _ _ who.now.square (lt-ltb _ _ (legal o p m held exact T it).on_board)) (lt-ltb _ _ (from-within o p m held exact T it))) (not_from_false _ inner)) (not_from_false _ (from-free o p m held exact T it))))
      (subst (λ (c : Colour). one_ahead c m.from m.to ≡ true) own up)) (arrives-here (board_after o p) f m who.man fits was-pawn (mover-kind f (it.fits.label j) who) who.now.kind)) aims) (and_from _ _ next room))
