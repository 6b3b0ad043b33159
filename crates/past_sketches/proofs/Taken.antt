-- Before a step of a sketch the sketch fits that the step is taken back to.
use Rattle.std.proofs.Common.{◌≡◌, ◌≢◌, ℕ, ◌+◌, ◌*◌, ◌<◌, ◌≤◌, ◌==◌, ◌⊎◌, inl, inr, Bool, true, false, ◌&&◌, not, List, [], ◌∷◌, ◌++◌, refl, ap, sym, ◌∙◌, subst, arith}
use Rattle.past_sketches.proofs.Order.{other-rank, pawn-file, room-by}
use Rattle.past_sketches.specs.Figures.{Figure, Sketch, figure_at}
use Rattle.past_sketches.specs.FileOrder.{is_pawn_on}
use Rattle.past_sketches.specs.Steps.{Step, back_by, bystander, changed_by, is_cleared, is_deed, leaves_place, pawn_before, taken_back, victim_on}
use Rattle.past_sketches.proofs.Quiet.{calm-now, files-differ}
use Rattle.men_account.proofs.Origins.{promoted_man}
use Rattle.men_fates.proofs.MoreDeeds.{label-is, label-told}
use Rattle.men_fates.specs.Deeds.{is_label}
use Rattle.general_lemmas.proofs.Ranges.{any-found, any-one}
use Rattle.std.specs.List.{list_any, range_with_len, list_all}
use Rattle.std.proofs.lemmas.Bool.{and_parts, and_from, both_ways, cases_eq, cond-true, cond-false, eqb-true, eq-eqb, false_from_ne_true, lt-ltb, ltb-true, ne_eqb, not_from_false, not-true, or_left, or_right, cases_lt, and_left}
use Rattle.std.proofs.lemmas.List.{append-nil}
use Rattle.std.proofs.lemmas.Option.{same_Some, none-some}
use Rattle.std.specs.Prelude.{Option, Some, None, nat_lt}
use Rattle.board_base.specs.Board.{at, file, is_a, is_in, is_of, opponent, rank, same_kind, is_empty}
use Rattle.board_base.specs.Attacks.{distance, files_apart, one_ahead, ranks_apart, on_the_way}
use Rattle.board_base.specs.Play.{ahead, behind, en_passant_victim, goes_en_passant}
use Rattle.board_base.specs.Legal.{is_officer, last_rank, pawn_rank, promotion_fits}
use Rattle.board_base.specs.Game.{IsGame, board_after, turn_after}
use Rattle.board_base.specs.Rights.{Rights}
use Rattle.board_base.specs.declared.men.Colour.{Colour}
use Rattle.board_base.specs.declared.men.Colour.TheVariants.{White, Black}
use Rattle.board_base.specs.declared.men.Kind.{Kind}
use Rattle.board_base.specs.declared.men.Kind.TheVariants.{Pawn, King}
use Rattle.board_base.specs.declared.men.Man.{Man}
use Rattle.board_base.specs.declared.moves.Move.{Move}
use Rattle.board_base.proofs.KindsOfMen.{colour_is, full-of, kind_is, no_officer}
use Rattle.play_rules.specs.Laws.{is_end}
use Rattle.play_rules.proofs.Ends.{no_pawn_on_ends}
use Rattle.play_rules.proofs.Kings.{length-after}
use Rattle.men_account.specs.Labels.{label_at, labels_after}
use Rattle.men_account.specs.Captures.{taken_on}
use Rattle.men_account.proofs.Captured.{man-there}
use Rattle.men_account.proofs.Labelled.{labels-apart, labels-each_man}
use Rattle.men_fates.proofs.Strikes.{label-some}
use Rattle.cage_rules.proofs.Filling.{is_in-that}
use Rattle.past_sketches.specs.Fits.{Fits, IsManOf, IsPawnOn, Stands, is_plain}
use Rattle.past_sketches.specs.Moments.{FitsStep, IsCalm}
use Rattle.past_sketches.proofs.Sketches.{only-kind, only-on, each-figure, each-kind}
use Rattle.past_sketches.proofs.Moments.{Moment, earlier, from-not-to, from-within, legal, plain-before}
use Rattle.past_sketches.proofs.Changed.{Between, InOrder, LeastAbove, fits-changed, fits-with, least-above}
use Rattle.past_sketches.proofs.Deeds.{Mover, Stayed, is-step, mover, mover-side, other, was-pawn, unmarked}
use Rattle.past_sketches.proofs.Wider.{man-inside}

-- one rank ahead is no double step
pub one-rank : (c : Colour) (s t w : ℕ) → one_ahead c s t ≡ true → ((ranks_apart s t == 2) && (w == on_the_way s t 1)) ≡ false
unfolding distance
one-rank White s t w h = let e : rank t ≡ rank s + 1 = eqb-true _ _ h in and_left (ranks_apart s t == 2) (w == on_the_way s t 1) (ne_eqb (ranks_apart s t) 2 (λ two. omega arith))
one-rank Black s t w h = let e : rank s ≡ rank t + 1 = eqb-true _ _ h in and_left (ranks_apart s t == 2) (w == on_the_way s t 1) (ne_eqb (ranks_apart s t) 2 (λ two. omega arith))

-- a square that isn't cleared by a step that isn't en passant
pub plain-clear : (c : Colour) (x : Step) (s : ℕ) → x.passing ≡ false → ((ranks_apart x.from x.to == 2) && (s == on_the_way x.from x.to 1)) ≡ false → s ≢ x.from → s ≢ x.to → is_cleared c x s ≡ false
plain-clear c x s plain crossed not_from not_to = rw (ne_eqb _ _ not_from, ne_eqb _ _ not_to, crossed, plain) refl

pub past-clear : (c : Colour) (x : Step) (s : ℕ) → ((ranks_apart x.from x.to == 2) && (s == on_the_way x.from x.to 1)) ≡ false → s ≢ x.from → s ≢ x.to → s ≢ behind c x.to → s ≢ ahead c x.to → is_cleared c x s ≡ false
past-clear c x s crossed not_from not_to not_behind not_ahead = rw (ne_eqb _ _ not_from, ne_eqb _ _ not_to, crossed, ne_eqb _ _ not_behind, ne_eqb _ _ not_ahead) (none x.passing)
  where
    none : (b : Bool) → (b && false) ≡ false
    none true = refl
    none false = refl

pub bystander-stands : (o : List Bool) (q : List Move) (c : Colour) (x : Step) (f : Figure) (l s : ℕ) (man : Man) → s < 64 → is_cleared c x s ≡ false → IsManOf o q f l s man → Stands o q (bystander c x f) l
bystander-stands o q c x f l s man inside clear it =
    (s, man, record { label = it.label; there = it.there; colour = it.colour; kind = it.kind; square = is_in-that (λ t. is_in f.squares t && not (is_cleared c x t)) s inside ∙ and_from _ _ it.square (not_from_false _ clear); mark = it.mark })

pub pawn-stands : (o : List Bool) (q : List Move) (x : Step) (f : Figure) (l : ℕ) (man : Man) → x.from < 64 → label_at (labels_after o q) x.from ≡ Some l → at (board_after o q) x.from ≡ Some man → man.colour ≡ f.colour → man.kind ≡ Pawn → (f.marked ≡ true → is_plain o q l man ≡ true) → IsManOf o q (pawn_before x f) l x.from man
pawn-stands o q x f l man inside label there colour pawn mark =
    record { label = label; there = there; colour = colour; kind = only-kind Pawn man.kind (sym pawn); square = only-on x.from x.from inside refl; mark = mark }

pub victim-stands : (o : List Bool) (q : List Move) (f : Figure) (s l : ℕ) (man : Man) → s < 64 → label_at (labels_after o q) s ≡ Some l → at (board_after o q) s ≡ Some man → man.colour ≡ opponent f.colour → Stands o q (victim_on f man.kind s) l
victim-stands o q f s l man inside label there colour =
    (s, man, record { label = label; there = there; colour = colour; kind = only-kind man.kind man.kind refl; square = only-on s s inside refl; mark = λ marked. absurd (both_ways false refl marked) })

-- the places before a step
changed-mover : (c : Colour) (x : Step) (i : ℕ) (f : Figure) → i ≡ x.by → (changed_by c x i f).place ≡ 2 * x.place
changed-mover c x i f same = ap (λ (g : Figure). g.place) (cond-true (i == x.by) (pawn_before x f) (bystander c x f) (eq-eqb _ _ same))

changed-other : (c : Colour) (x : Step) (i : ℕ) (f : Figure) → i ≢ x.by → (changed_by c x i f).place ≡ 2 * f.place + 1
changed-other c x i f other = ap (λ (g : Figure). g.place) (cond-false (i == x.by) (pawn_before x f) (bystander c x f) (ne_eqb _ _ other))

pub stands-changed : (o : List Bool) (q : List Move) (c : Colour) (x : Step) (i l : ℕ) (f : Figure) → (i ≡ x.by → Stands o q (pawn_before x f) l) → (i ≢ x.by → Stands o q (bystander c x f) l) → Stands o q (changed_by c x i f) l
stands-changed o q c x i l f his others = elim (cases_eq i x.by) [
  | inl same ↦ subst (λ (g : Figure). Stands o q g l) (sym (cond-true (i == x.by) (pawn_before x f) (bystander c x f) (eq-eqb _ _ same))) (his same)
  | inr other ↦ subst (λ (g : Figure). Stands o q g l) (sym (cond-false (i == x.by) (pawn_before x f) (bystander c x f) (ne_eqb _ _ other))) (others other)
]

-- the sketch that a step is taken back to
pub back-found : (T : Sketch) (x : Step) (f : Figure) → figure_at T x.by ≡ Some f → taken_back T x ≡ back_by T (Some f) x
unfolding taken_back
back-found T x f found = ap (λ (g : Option Figure). back_by T g x) found

-- a figure who made it, and one who didn't
pub same-figure : (T : Sketch) (i j : ℕ) (f g : Figure) → figure_at T i ≡ Some f → figure_at T j ≡ Some g → i ≡ j → f ≡ g
same-figure T i j f g e1 e2 same = same_Some _ _ (sym e1 ∙ ap (figure_at T) same ∙ e2)

pub promoted-last : (promo : Option Kind) (k : Kind) (pawn reaches : Bool) → promo ≡ Some k → elim promo as (λ _. Bool) [ None ↦ not (pawn && reaches) | Some k ↦ pawn && reaches && is_officer k ] ≡ true → reaches ≡ true
promoted-last None k pawn reaches e h = cc
promoted-last (Some j) k pawn reaches e h = (and_parts pawn reaches (and_parts (pawn && reaches) (is_officer j) h).0).1

-- a double step doesn't come to the last rank
pub double-short : (c : Colour) (s t : ℕ) → ranks_apart s t ≡ 2 → rank s ≡ pawn_rank c → rank t ≡ last_rank c → ⊥
unfolding distance
double-short White s t two home last = omega arith
double-short Black s t two home last = omega arith

-- who is a pawn afterwards wasn't promoted
no-promo-pawn : (promo : Option Kind) (man : Man) (pawn reaches : Bool) → same_kind Pawn (promoted_man promo man).kind ≡ true → elim promo as (λ _. Bool) [ None ↦ not (pawn && reaches) | Some k ↦ pawn && reaches && is_officer k ] ≡ true → promo ≡ None
no-promo-pawn None man pawn reaches kind fits = refl
no-promo-pawn (Some k) man pawn reaches kind fits = absurd (both_ways _ (no_officer Pawn k refl (and_parts (pawn && reaches) (is_officer k) fits).1) kind)

last-end : (c : Colour) (s : ℕ) → rank s ≡ last_rank c → is_end s ≡ true
last-end White s e = or_right _ _ (eq-eqb _ _ e)
last-end Black s e = or_left _ _ (eq-eqb _ _ e)

module _ (o : List Bool) (p : List Move) (m : Move) (held : Rights) (exact : List Bool) (T : Sketch) (it : Moment o p m held exact T) (deed : is_deed exact (board_after o p) m ≡ true) (j : ℕ) (f : Figure) (found : figure_at T j ≡ Some f) (his : label_at (labels_after o p) m.from ≡ Some (it.fits.label j)) where
  -- this pawn stands below the one who made the step, on his file
  pub stands-below : ℕ → Bool
  stands-below i = list_any (λ s. is_label (label_at (labels_after o p) s) (it.fits.label i) && is_a Pawn (at (board_after o p) s) && (file s == file m.from) && nat_lt (rank s) (rank m.from)) (range_with_len 0 64)

  pub next-place : LeastAbove T stands-below
  next-place = least-above T stands-below

  abbrev pub step : Option Kind → Bool → Step
  step taken passing = record { by = j; from = m.from; to = m.to; taken = taken; passing = passing; place = next-place.number }

  pub who : Mover o p m f (it.fits.label j)
  who = mover o p m held exact T it deed j f found his

  pub side : turn_after p ≡ f.colour
  side = mover-side o p m held exact T it deed f (it.fits.label j) who

  pub not-his : (i : ℕ) (g : Figure) → figure_at T i ≡ Some g → i ≢ j → label_at (labels_after o p) m.from ≡ Some (it.fits.label i) → ⊥
  not-his i g e other label = other (it.fits.apart i j g f e found (same_Some _ _ (sym label ∙ his)))

  pub stayed-here : (i : ℕ) (g : Figure) → figure_at T i ≡ Some g → i ≢ j → Stayed o p m g (it.fits.label i)
  stayed-here i g e apart = other o p m held exact T it deed i g e (not-his i g e apart)

  -- a man who stayed, as he was before
  pub still : (g : Figure) (l : ℕ) (s : Stayed o p m g l) → IsManOf o p g l s.square s.man
  still g l s = record { label = s.label; there = s.there; colour = s.now.colour; kind = s.now.kind; square = s.now.square; mark = λ marked. plain-before o p m l s.man (s.now.mark marked) }

  pub stayed-inside : (g : Figure) (l : ℕ) (s : Stayed o p m g l) → s.square < 64
  stayed-inside g l s = man-inside (board_after o p) s.square s.man (length-after o p (earlier o p m held exact T it)) s.there

  pub mover-before : (i : ℕ) (g : Figure) (taken : Option Kind) (passing : Bool) → figure_at T i ≡ Some g → i ≡ j → (f.marked ≡ true → is_plain o p (it.fits.label j) who.man ≡ true) → IsManOf o p (pawn_before (step taken passing) g) (it.fits.label i) m.from who.man
  mover-before i g taken passing e same mark =
      let label : label_at (labels_after o p) m.from ≡ Some (it.fits.label i) = his ∙ ap (λ (n : ℕ). Some (it.fits.label n)) (sym same) in
      let own : f ≡ g = sym (same-figure T i j g f e found same) in
      let colour : who.man.colour ≡ g.colour = sym side-of ∙ side ∙ ap (λ (x : Figure). x.colour) own in
      pawn-stands o p (step taken passing) g (it.fits.label i) who.man (from-within o p m held exact T it) label who.there colour (sym (kind_is Pawn who.man.kind (ap (is_a Pawn) (sym who.there) ∙ was-pawn o p m held exact T it deed)))
      (λ marked. ap (λ (n : ℕ). is_plain o p (it.fits.label n) who.man) same ∙ mark (ap (λ (y : Figure). y.marked) own ∙ marked))
    where
      side-of : turn_after p ≡ who.man.colour
      side-of = colour_is (turn_after p) who.man.colour (ap (is_of (turn_after p)) (sym who.there) ∙ (legal o p m held exact T it).mover)

  -- the figures before a step that wasn't en passant
  stands-before : (taken : Option Kind) → (f.marked ≡ true → is_plain o p (it.fits.label j) who.man ≡ true) → ((w : ℕ) → is_empty (at (board_after o p) w) ≡ false → ((ranks_apart m.from m.to == 2) && (w == on_the_way m.from m.to 1)) ≡ false) → (i : ℕ) (g : Figure) → figure_at T i ≡ Some g → Stands o p (changed_by f.colour (step taken false) i g) (it.fits.label i)
  stands-before taken mark crossed i g e =
      stands-changed o p f.colour (step taken false) i (it.fits.label i) g (λ same. (m.from, who.man, mover-before i g taken false e same mark)) (λ apart.
      let s = stayed-here i g e apart in
      bystander-stands o p f.colour (step taken false) g (it.fits.label i) s.square s.man (stayed-inside g (it.fits.label i) s) (plain-clear f.colour (step taken false) s.square refl (crossed s.square (ap is_empty s.there)) s.not_from s.not_to) (still g (it.fits.label i) s))

  -- a pawn who stayed stands there afterwards
  pub pawn-stays : (i : ℕ) (g : Figure) → figure_at T i ≡ Some g → i ≢ j → (s : ℕ) → IsPawnOn o p (it.fits.label i) s → IsPawnOn o (p ++ m ∷ []) (it.fits.label i) s × (s ≢ m.to) × (s ≢ m.from)
  pawn-stays i g e apart s on =
      let was = stayed-here i g e apart in
      let here : was.square ≡ s = labels-apart o p (earlier o p m held exact T it) was.square s (it.fits.label i) was.label on.label in (
        record { label = subst (λ (t : ℕ). label_at (labels_after o (p ++ m ∷ [])) t ≡ Some (it.fits.label i)) here was.now.label; pawn = ap (λ (t : ℕ). is_a Pawn (at (board_after o (p ++ m ∷ [])) t)) (sym here) ∙ ap (is_a Pawn) (was.now.there ∙ sym was.there) ∙ ap (λ (t : ℕ). is_a Pawn (at (board_after o p) t)) here ∙ on.pawn },
        (λ x. was.not_to (here ∙ x)),
        (λ x. was.not_from (here ∙ x)),
      )

  -- so the places of the pawns on the file of the one who made the step leave room for him
  place-below : (i : ℕ) (g : Figure) → figure_at T i ≡ Some g → (s : ℕ) → IsPawnOn o p (it.fits.label i) s → s < 64 → file s ≡ file m.from → rank s < rank m.from → g.place < next-place.number
  unfolding stands-below
  place-below i g e s on small level lower =
      next-place.above i g e (any-found (λ t. is_label (label_at (labels_after o p) t) (it.fits.label i) && is_a Pawn (at (board_after o p) t) && (file t == file m.from) && nat_lt (rank t) (rank m.from)) 0 64 s (omega arith) (omega arith)
      (and_from _ _ (and_from _ _ (and_from _ _ (label-is (label_at (labels_after o p) s) (it.fits.label i) on.label) on.pawn) (eq-eqb _ _ level)) (lt-ltb _ _ lower)))

  record-below : (i : ℕ) → stands-below i ≡ true → (s : ℕ) × IsPawnOn o p (it.fits.label i) s × (file s ≡ file m.from) × (rank s < rank m.from)
  unfolding stands-below
  record-below i h =
      let one = any-one (λ t. is_label (label_at (labels_after o p) t) (it.fits.label i) && is_a Pawn (at (board_after o p) t) && (file t == file m.from) && nat_lt (rank t) (rank m.from)) 0 64 h in
      let p3 = and_parts _ _ one.passes in
      let p2 = and_parts _ _ p3.0 in
      let p1 = and_parts _ _ p2.0 in
      (one.number, record { label = label-told (label_at (labels_after o p) one.number) (it.fits.label i) p1.0; pawn = p1.1 }, eqb-true _ _ p2.1, ltb-true _ _ p3.1)

  place-above : (i : ℕ) (g : Figure) → figure_at T i ≡ Some g → i ≢ j → (s : ℕ) → IsPawnOn o p (it.fits.label i) s → file s ≡ file m.from → rank m.from < rank s → next-place.number ≤ g.place
  place-above i g e apart s on level higher = next-place.least g.place (λ k h e2 below.
      let low = record-below k below in
      by k h e2 low.0 low.1 low.2 low.3 (cases_eq k j))
    where
      by : (k : ℕ) (h : Figure) → figure_at T k ≡ Some h → (t : ℕ) → IsPawnOn o p (it.fits.label k) t → file t ≡ file m.from → rank t < rank m.from → (k ≡ j) ⊎ (k ≢ j) → h.place < g.place
      by k h e2 t below t_level lower (inl same) =
          let at_from : t ≡ m.from = labels-apart o p (earlier o p m held exact T it) t m.from (it.fits.label k) below.label (his ∙ ap (λ (n : ℕ). Some (it.fits.label n)) (sym same)) in
          absurd (let r : rank t ≡ rank m.from = ap rank at_from in omega (arith, r, lower))
      by k h e2 t below t_level lower (inr other) =
          it.fits.order k i h g t s e2 e (pawn-stays k h e2 other t below).0 (pawn-stays i g e apart s on).0 (t_level ∙ sym level) (omega (arith, lower, higher))

  -- it leaves room for all pawns of that file
  pub leaves-place : (m.promo ≡ None → file m.from ≡ file m.to → ⊥) → (x : Step) → x.from ≡ m.from → x.place ≡ next-place.number → list_all (leaves_place x) T ≡ true
  unfolding promotion_fits
  leaves-place off x at_from place_is = each-figure T (leaves_place x) (λ n g e. elim (cases_eq n j) [
    | inl same ↦
        let own : g ≡ f = same-figure T n j g f e found same in
        or_left _ _ (not_from_false _ (false_from_ne_true _ (λ pawn. not-there (subst (λ (y : Figure). is_pawn_on (file x.from) y ≡ true) own pawn))))
    | inr apart ↦
        let s = stayed-here n g e apart in
        room-by g x.from s.square (nat_lt g.place x.place) (not (nat_lt g.place x.place)) (stayed-inside g (it.fits.label n) s) s.now.square (λ here kinds.
        let on : IsPawnOn o p (it.fits.label n) s.square = record { label = s.label; pawn = ap (is_a Pawn) s.there ∙ each-kind g.kinds (same_kind Pawn) s.man.kind kinds s.now.kind } in
        let level : file s.square ≡ file m.from = here ∙ ap file at_from in
        let other = other-rank s.square m.from level s.not_from in
        let r : rank x.from ≡ rank m.from = ap rank at_from in (
          λ lower. elim (cases_lt (rank s.square) (rank m.from)) [
            | inl below ↦ omega (arith, below, r)
            | inr not_below ↦ absurd (let high = place-above n g e apart s.square on level (omega (arith, not_below, other)) in let low : g.place < x.place = ltb-true _ _ lower in omega (arith, high, low, place_is))
          ],
          λ higher. elim (cases_lt (rank m.from) (rank s.square)) [
            | inl above ↦ omega (arith, above, r)
            | inr not_above ↦ absurd (let low = place-below n g e s.square on (stayed-inside g (it.fits.label n) s) level (omega (arith, not_above, other)) in both_ways _ (not-true _ higher) (lt-ltb _ _ (let q : g.place < x.place = omega (arith, low, place_is) in q)))
          ],
        ))
  ])
    where
      stayed-pawn : same_kind Pawn (promoted_man m.promo who.man).kind ≡ true → m.promo ≡ None
      stayed-pawn kind = no-promo-pawn m.promo who.man (is_a Pawn (at (board_after o p) m.from)) (rank m.to == last_rank (turn_after p)) kind (legal o p m held exact T it).promotion

      not-there : is_pawn_on (file x.from) f ≡ true → ⊥
      not-there pawn =
          let on = pawn-file f (file x.from) m.to (legal o p m held exact T it).on_board who.now.square pawn in
          let kind = each-kind f.kinds (same_kind Pawn) (promoted_man m.promo who.man).kind on.1 who.now.kind in
          off (stayed-pawn kind) (sym (on.0 ∙ ap file at_from))

  -- a place between those of the pawns below and above the one who made the step
  abbrev pub PlaceBetween : ℕ → Type 0
  PlaceBetween n = (i : ℕ) (g : Figure) → figure_at T i ≡ Some g → i ≢ j → (s : ℕ) → IsPawnOn o p (it.fits.label i) s → s < 64 → file s ≡ file m.from → (rank s < rank m.from → g.place < n) × (rank m.from < rank s → n ≤ g.place)

  pub next-between : PlaceBetween next-place.number
  next-between i g e apart s on small level = (λ lower. place-below i g e s on small level lower, λ higher. place-above i g e apart s on level higher)

  -- the places before the step, after moves after which the pawns of the figures stand as before it
  pub in-order : (q : List Move) (x : Step) → x.by ≡ j → PlaceBetween x.place → ((i s : ℕ) (g : Figure) → figure_at T i ≡ Some g → IsPawnOn o q (it.fits.label i) s → IsPawnOn o p (it.fits.label i) s) → InOrder o q T it.fits.label (changed_by f.colour x)
  in-order q x by_j place_is same i k g h s t e1 e2 a b level lower = by (cases_eq i x.by) (cases_eq k x.by)
    where
      here : (n u : ℕ) (y : Figure) → figure_at T n ≡ Some y → n ≡ x.by → IsPawnOn o q (it.fits.label n) u → u ≡ m.from
      here n u y at_n e on = labels-apart o p (earlier o p m held exact T it) u m.from (it.fits.label n) (same n u y at_n on).label (his ∙ ap (λ (z : ℕ). Some (it.fits.label z)) (sym (e ∙ by_j)))

      small : (n u : ℕ) (y : Figure) → figure_at T n ≡ Some y → IsPawnOn o q (it.fits.label n) u → u < 64
      small n u y at_n on =
          let man = man-there (board_after o p) (labels_after o p) u (it.fits.label n) (labels-each_man o p (earlier o p m held exact T it)) (same n u y at_n on).label in
          man-inside (board_after o p) u man.0 (length-after o p (earlier o p m held exact T it)) man.1

      by : (i ≡ x.by) ⊎ (i ≢ x.by) → (k ≡ x.by) ⊎ (k ≢ x.by) → (changed_by f.colour x i g).place < (changed_by f.colour x k h).place
      by (inl i_by) (inl k_by) = absurd (let r : rank s ≡ rank t = ap rank (here i s g e1 i_by a ∙ sym (here k t h e2 k_by b)) in omega (arith, r, lower))
      by (inl i_by) (inr k_other) =
          let s_from : s ≡ m.from = here i s g e1 i_by a in
          let high = (place_is k h e2 (λ e. k_other (e ∙ sym by_j)) t (same k t h e2 b) (small k t h e2 b) (sym level ∙ ap file s_from)).1 (let r : rank s ≡ rank m.from = ap rank s_from in omega (arith, r, lower)) in
          let left = changed-mover f.colour x i g i_by in
          let right = changed-other f.colour x k h k_other in
          omega (arith, high, left, right)
      by (inr i_other) (inl k_by) =
          let t_from : t ≡ m.from = here k t h e2 k_by b in
          let low = (place_is i g e1 (λ e. i_other (e ∙ sym by_j)) s (same i s g e1 a) (small i s g e1 a) (level ∙ ap file t_from)).0 (let r : rank t ≡ rank m.from = ap rank t_from in omega (arith, r, lower)) in
          let left = changed-other f.colour x i g i_other in
          let right = changed-mover f.colour x k h k_by in
          omega (arith, low, left, right)
      by (inr i_other) (inr k_other) =
          let order = it.fits.order i k g h s t e1 e2 (pawn-stays i g e1 (λ e. i_other (e ∙ sym by_j)) s (same i s g e1 a)).0 (pawn-stays k h e2 (λ e. k_other (e ∙ sym by_j)) t (same k t h e2 b)).0 level lower in
          let left = changed-other f.colour x i g i_other in
          let right = changed-other f.colour x k h k_other in
          omega (arith, order, left, right)

  -- the place of a pawn who is taken, on the other side of no pawn than he who takes him
  pub between : (q : List Move) (x : Step) (k : Kind) (w v l : ℕ) → x.by ≡ j → IsGame o q → label_at (labels_after o q) w ≡ Some l → ((i s : ℕ) (g : Figure) → figure_at T i ≡ Some g → IsPawnOn o q (it.fits.label i) s → IsPawnOn o p (it.fits.label i) s) → file w ≡ file m.to → (IsPawnOn o q l w → IsPawnOn o (p ++ m ∷ []) (it.fits.label j) m.to) → (file m.from ≡ file w → ⊥) → ((i s : ℕ) (g : Figure) → figure_at T i ≡ Some g → i ≢ j → IsPawnOn o q (it.fits.label i) s → file s ≡ file w → (rank s < rank w → rank s < rank m.to) × (rank w < rank s → rank m.to < rank s)) → Between o q T it.fits.label (changed_by f.colour x) (victim_on f k v) l
  between q x k w v l by_j game label same level turns apart sides = record {
    below = λ i g s t e a b file_is lower. below i g s t e a b file_is lower (cases_eq i j);
    above = λ i g s t e a b file_is higher. above i g s t e a b file_is higher (cases_eq i j);
  }
    where
      at_w : (t : ℕ) → IsPawnOn o q l t → t ≡ w
      at_w t b = labels-apart o q game t w l b.label label

      from-not : (i s : ℕ) (y : Figure) → figure_at T i ≡ Some y → i ≡ j → IsPawnOn o q (it.fits.label i) s → s ≡ m.from
      from-not i s y at_i e on = labels-apart o p (earlier o p m held exact T it) s m.from (it.fits.label i) (same i s y at_i on).label (his ∙ ap (λ (z : ℕ). Some (it.fits.label z)) (sym e))

      below : (i : ℕ) (g : Figure) (s t : ℕ) → figure_at T i ≡ Some g → IsPawnOn o q (it.fits.label i) s → IsPawnOn o q l t → file s ≡ file t → rank s < rank t → (i ≡ j) ⊎ (i ≢ j) → (changed_by f.colour x i g).place < 2 * f.place + 1
      below i g s t e a b file_is lower (inl is_j) = absurd (apart (ap file (sym (from-not i s g e is_j a)) ∙ file_is ∙ ap file (at_w t b)))
      below i g s t e a b file_is lower (inr other) =
          let on_w = subst (IsPawnOn o q l) (at_w t b) b in
          let file_w : file s ≡ file w = file_is ∙ ap file (at_w t b) in
          let under = (sides i s g e other a file_w).0 (let r : rank t ≡ rank w = ap rank (at_w t b) in omega (arith, r, lower)) in
          let order = it.fits.order i j g f s m.to e found (pawn-stays i g e other s (same i s g e a)).0 (turns on_w) (file_w ∙ level) under in
          let left = changed-other f.colour x i g (λ z. other (z ∙ by_j)) in
          omega (arith, order, left)

      above : (i : ℕ) (g : Figure) (s t : ℕ) → figure_at T i ≡ Some g → IsPawnOn o q (it.fits.label i) s → IsPawnOn o q l t → file s ≡ file t → rank t < rank s → (i ≡ j) ⊎ (i ≢ j) → 2 * f.place + 1 < (changed_by f.colour x i g).place
      above i g s t e a b file_is higher (inl is_j) = absurd (apart (ap file (sym (from-not i s g e is_j a)) ∙ file_is ∙ ap file (at_w t b)))
      above i g s t e a b file_is higher (inr other) =
          let on_w = subst (IsPawnOn o q l) (at_w t b) b in
          let file_w : file s ≡ file w = file_is ∙ ap file (at_w t b) in
          let over = (sides i s g e other a file_w).1 (let r : rank t ≡ rank w = ap rank (at_w t b) in omega (arith, r, higher)) in
          let order = it.fits.order j i f g m.to s found e (turns on_w) (pawn-stays i g e other s (same i s g e a)).0 (sym (file_w ∙ level)) over in
          let left = changed-other f.colour x i g (λ z. other (z ∙ by_j)) in
          omega (arith, order, left)

  pub straight-step : (k : Kind) → m.promo ≡ Some k → file m.from ≡ file m.to → one_ahead (turn_after p) m.from m.to ≡ true → FitsStep o p exact T
  unfolding promotion_fits
  straight-step k some same up =
      let last : (rank m.to == last_rank (turn_after p)) ≡ true = promoted-last m.promo k (is_a Pawn (at (board_after o p) m.from)) (rank m.to == last_rank (turn_after p)) some (legal o p m held exact T it).promotion in
      let off : m.promo ≡ None → file m.from ≡ file m.to → ⊥ = λ none same. none-some k (sym none ∙ some) in
      record {
        step = step None false;
        made = is-step o p m held exact T it deed j f None false next-place.number off found his up (and_from _ _ (eq-eqb _ _ same) (subst (λ (c : Colour). (rank m.to == last_rank c) ≡ true) side last)) next-place.next (leaves-place off (step None false) refl refl);
        mover = f;
        moved = found;
        calm = subst (IsCalm (board_after o p)) side (calm-now o p m held exact T it);
        first = p;
        rest = [];
        split = sym (append-nil p);
        fits = subst (Fits o p) (sym (back-found T (step None false) f found)) (fits-changed o (p ++ m ∷ []) p T (changed_by f.colour (step None false)) it.fits (stands-before None (λ marked. absurd (both_ways _ (unmarked o p m held exact T it deed f (it.fits.label j) off his who) marked)) (λ w full. one-rank (turn_after p) m.from m.to w up)) (in-order p (step None false) refl next-between (λ i s g e on. on)));
      }

  -- no figure's man stood where another stood
  pub taken-new : (w l : ℕ) → label_at (labels_after o p) w ≡ Some l → w ≢ m.from → ((i : ℕ) (g : Figure) (e : figure_at T i ≡ Some g) (apart : i ≢ j) → (stayed-here i g e apart).square ≢ w) → (i : ℕ) (g : Figure) → figure_at T i ≡ Some g → it.fits.label i ≢ l
  taken-new w l label other away i g e same = elim (cases_eq i j) [
    | inl is_j ↦ other (labels-apart o p (earlier o p m held exact T it) w m.from l label (his ∙ ap Some (ap it.fits.label (sym is_j) ∙ same)))
    | inr apart ↦
        let s = stayed-here i g e apart in
        away i g e apart (labels-apart o p (earlier o p m held exact T it) s.square w l (s.label ∙ ap Some same) label)
  ]

  -- a pawn that wasn't promoted is one
  pub turns-pawn : m.promo ≡ None → IsPawnOn o (p ++ m ∷ []) (it.fits.label j) m.to
  turns-pawn none = record { label = who.now.label; pawn = ap (is_a Pawn) (who.now.there ∙ ap (λ (k : Option Kind). Some (promoted_man k who.man)) none ∙ sym who.there) ∙ was-pawn o p m held exact T it deed }

  -- nor is one where a pawn is taken
  capture-plain : is_a Pawn (at (board_after o p) m.to) ≡ true → m.promo ≡ None
  unfolding promotion_fits
  capture-plain pawn = elim m.promo as (λ x. m.promo ≡ x → x ≡ None) [
    | None ↦ λ e. refl
    | Some k ↦ λ e.
        let last : (rank m.to == last_rank (turn_after p)) ≡ true = promoted-last m.promo k (is_a Pawn (at (board_after o p) m.from)) (rank m.to == last_rank (turn_after p)) e (legal o p m held exact T it).promotion in
        absurd (both_ways _ (no_pawn_on_ends o p (earlier o p m held exact T it) m.to (last-end (turn_after p) m.to (eqb-true _ _ last))) pawn)
  ] refl

  pub capture-step : goes_en_passant (board_after o p) m ≡ false → one_ahead (turn_after p) m.from m.to ≡ true → files_apart m.from m.to ≡ 1 → is_of (opponent (turn_after p)) (at (board_after o p) (taken_on (board_after o p) m)) ≡ true → FitsStep o p exact T
  capture-step plain up aside enemy =
      let game : IsGame o p = earlier o p m held exact T it in
      let lawful = legal o p m held exact T it in
      let here : taken_on (board_after o p) m ≡ m.to = cond-false _ (en_passant_victim m) m.to plain in
      let his_enemy : is_of (opponent (turn_after p)) (at (board_after o p) m.to) ≡ true = subst (λ (s : ℕ). is_of (opponent (turn_after p)) (at (board_after o p) s) ≡ true) here enemy in
      let label = label-some (label_at (labels_after o p) m.to) (labels-each_man o p game m.to ∙ full-of (opponent (turn_after p)) (at (board_after o p) m.to) his_enemy) in
      let man = man-there (board_after o p) (labels_after o p) m.to label.0 (labels-each_man o p game) label.1 in
      let colour : man.0.colour ≡ opponent f.colour = sym (colour_is (opponent (turn_after p)) man.0.colour (ap (is_of (opponent (turn_after p))) (sym man.1) ∙ his_enemy)) ∙ ap opponent side in
      let no_king : same_kind King man.0.kind ≡ false = ap (is_a King) (sym man.1) ∙ lawful.no_king in
      let no_end : (same_kind Pawn man.0.kind && is_end m.to) ≡ false = false_from_ne_true _ (λ both.
      let parts = and_parts (same_kind Pawn man.0.kind) (is_end m.to) both in
      both_ways _ (no_pawn_on_ends o p game m.to parts.1) (ap (is_a Pawn) man.1 ∙ parts.0)) in
      let x : Step = step (Some man.0.kind) false in
      let off : m.promo ≡ None → file m.from ≡ file m.to → ⊥ = λ none same. files-differ m.from m.to aside same in
      let victim = victim-stands o p f m.to label.0 man.0 lawful.on_board label.1 man.1 colour in
      record {
        step = x;
        made = is-step o p m held exact T it deed j f (Some man.0.kind) false next-place.number off found his up (and_from _ _ (and_from _ _ (eq-eqb _ 1 aside) (not_from_false _ no_king)) (not_from_false _ no_end)) next-place.next (leaves-place off x refl refl);
        mover = f;
        moved = found;
        calm = subst (IsCalm (board_after o p)) side (calm-now o p m held exact T it);
        first = p;
        rest = [];
        split = sym (append-nil p);
        fits = subst (Fits o p) (sym (back-found T x f found)) (fits-with o (p ++ m ∷ []) p T (changed_by f.colour x) it.fits (stands-before (Some man.0.kind) (λ marked. absurd (both_ways _ (unmarked o p m held exact T it deed f (it.fits.label j) off his who) marked)) (λ w full. one-rank (turn_after p) m.from m.to w up)) (in-order p x refl next-between (λ i s g e on. on)) game (victim_on f man.0.kind m.to) label.0 victim
            (taken-new m.to label.0 label.1 (λ same. from-not-to o p m held exact T it (sym same)) (λ n h e2 apart. (stayed-here n h e2 apart).not_to))
            (between p x man.0.kind m.to m.to label.0 refl game label.1 (λ i s g e on. on) refl (λ on. turns-pawn (capture-plain on.pawn)) (λ same. files-differ m.from m.to aside same) (λ i s g e apart on level. (λ lower. lower, λ higher. higher))));
      }
