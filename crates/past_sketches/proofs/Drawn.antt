-- Small sketches, drawn square by square, of which a test shows that no game comes to them: nobody could move quietly, or make a step.
use Rattle.std.proofs.Common.{◌≡◌, ℕ, zero, suc, ◌+◌, ◌<◌, ◌==◌, inl, inr, Bool, true, false, cond, ◌&&◌, ◌||◌, not, List, [], ◌∷◌, map, refl, ap, sym, ◌∙◌, subst, arith}
use Rattle.std.proofs.lemmas.Bool.{and_parts, both_ways, eq-eqb, eqb-true, ltb-true, not-true, or_cases, or_left, or_right}
use Rattle.std.proofs.lemmas.Option.{same_Some}
use Rattle.std.specs.Prelude.{Option, Some, None, replicate}
use Rattle.std.specs.List.{list_all, list_any, range_with_len}
use Rattle.general_lemmas.proofs.Ranges.{all_in_range}
use Rattle.board_base.specs.Board.{is_in, no_odds, rank, same_kind}
use Rattle.board_base.specs.Attacks.{kind_attacks, on_the_way, one_ahead}
use Rattle.board_base.specs.Legal.{last_rank, pawn_rank}
use Rattle.board_base.specs.Rights.{holds, no_rights}
use Rattle.board_base.specs.declared.castles.Castle.{Castle}
use Rattle.board_base.specs.declared.castles.Castle.TheVariants.{WhiteShort, WhiteLong, BlackShort, BlackLong}
use Rattle.board_base.specs.declared.men.Colour.{Colour}
use Rattle.board_base.specs.declared.men.Colour.TheVariants.{White, Black}
use Rattle.board_base.specs.declared.men.Kind.{Kind}
use Rattle.board_base.specs.declared.men.Kind.TheVariants.{Pawn, Knight, Bishop, Rook, Queen, King}
use Rattle.board_base.specs.declared.moves.Move.{Move}
use Rattle.board_base.proofs.KindsOfMen.{kind_is}
use Rattle.play_rules.specs.Laws.{is_end}
use Rattle.cage_rules.specs.Frozen.{is_past_home}
use Rattle.cage_rules.specs.Regions.{walls}
use Rattle.cage_rules.specs.Sets.{squares_that}
use Rattle.cage_rules.proofs.Filling.{in-that, is_in-that}
use Rattle.past_sketches.specs.Figures.{Figure, IsWider, KeepsPlaces, Sketch, figure_at, fixed_squares, may_be, only_on}
use Rattle.past_sketches.specs.Closed.{IsClosed, goes_past, goes_straight, is_quiet_way}
use Rattle.past_sketches.specs.Homes.{may_be_array}
use Rattle.past_sketches.specs.Moments.{FitsGame}
use Rattle.past_sketches.specs.Steps.{Step, arrives, is_step, made_by, may_have_gone, may_have_made}
use Rattle.past_sketches.proofs.Climbing.{climb}

-- a man of this colour and kind on one of these squares, or anywhere, with this place
pub record Drawn : Type 0 where
  pub colour : Colour
  pub kind : Kind
  pub spots : Option (List ℕ)
  pub place : ℕ

abbrev pub is_spot : List ℕ → ℕ → Bool
is_spot spots s = list_any (λ t. t == s) spots

abbrev pub spots_set : Option (List ℕ) → List Bool
spots_set None = replicate 64 true
spots_set (Some spots) = squares_that (is_spot spots)

abbrev pub figure_for : Drawn → Figure
figure_for d = record { colour = d.colour; kinds = d.kind ∷ []; squares = spots_set d.spots; marked = false; place = d.place }

abbrev pub drawn : List Drawn → Sketch
drawn ds = map figure_for ds

-- beside the squares of the set a man goes quietly from e to s, if no check bars it
abbrev way_in : List Bool → Colour → Kind → ℕ → ℕ → Bool
way_in set c Pawn e s = is_past_home c s && (goes_straight c e s && (one_ahead c e s || not (is_in set (on_the_way e s 1))))
way_in set c Knight e s = kind_attacks (walls set) c Knight e s
way_in set c Bishop e s = kind_attacks (walls set) c Bishop e s
way_in set c Rook e s = kind_attacks (walls set) c Rook e s
way_in set c Queen e s = kind_attacks (walls set) c Queen e s
way_in set c King e s = kind_attacks (walls set) c King e s

-- so he comes from a square of the set or from one of these squares, if at all
abbrev stuck_on : List Bool → Colour → Kind → Option (List ℕ) → Bool
stuck_on set c k None = true
stuck_on set c k (Some spots) = list_all (λ s. list_all (λ e. is_in set e || not (way_in set c k e s) || is_spot spots e) (range_with_len 0 64)) spots

abbrev pub is_stuck : List Bool → Drawn → Bool
is_stuck set d = stuck_on set d.colour d.kind d.spots

-- and no step was his: he is a king, or a pawn where pawns begin, or no officer where they are promoted
abbrev still_on : Colour → Kind → Option (List ℕ) → Bool
still_on c King spots = true
still_on c k None = false
still_on c Pawn (Some spots) = list_all (λ s. rank s == pawn_rank c) spots
still_on c k (Some spots) = list_all (λ s. not (rank s == last_rank c)) spots

abbrev pub is_still : Drawn → Bool
is_still d = still_on d.colour d.kind d.spots

way-told : (T : Sketch) (set : List Bool) (c : Colour) (k : Kind) (e s : ℕ) → fixed_squares T ≡ set → is_quiet_way no_rights T c k e s ≡ true → (e < 64) × (is_in set e ≡ false) × (way_in set c k e s ≡ true)
way-told T set c k e s same way =
    let parts = and_parts _ _ (and_parts _ _ way).0 in
    let loose = and_parts _ _ (and_parts _ _ parts.0).0 in
    (ltb-true _ _ loose.0, ap (λ (a : List Bool). is_in a e) (sym same) ∙ not-true _ loose.1, past k parts.1)
  where
    past : (k : Kind) → goes_past T c k e s ≡ true → way_in set c k e s ≡ true
    past Pawn h = subst (λ (a : List Bool). (is_past_home c s && (goes_straight c e s && (one_ahead c e s || not (is_in a (on_the_way e s 1))))) ≡ true) same h
    past Knight h = subst (λ (a : List Bool). kind_attacks (walls a) c Knight e s ≡ true) same h
    past Bishop h = subst (λ (a : List Bool). kind_attacks (walls a) c Bishop e s ≡ true) same h
    past Rook h = subst (λ (a : List Bool). kind_attacks (walls a) c Rook e s ≡ true) same h
    past Queen h = subst (λ (a : List Bool). kind_attacks (walls a) c Queen e s ≡ true) same h
    past King h = subst (λ (a : List Bool). kind_attacks (walls a) c King e s ≡ true) same (and_parts _ _ h).0

each-spot : (p : ℕ → Bool) (spots : List ℕ) (s : ℕ) → list_all p spots ≡ true → is_spot spots s ≡ true → p s ≡ true
each-spot p [] s all has = absurd (both_ways false refl has)
each-spot p (t ∷ spots) s all has =
    let parts = and_parts (p t) (list_all p spots) all in
    elim (or_cases (t == s) (is_spot spots s) has) [
      | inl here ↦ ap p (sym (eqb-true t s here)) ∙ parts.0
      | inr later ↦ each-spot p spots s parts.1 later
    ]

all_anywhere : list_all (λ e. is_in (replicate 64 true) e) (range_with_len 0 64) ≡ true
all_anywhere = refl

pub everywhere : (e : ℕ) → e < 64 → is_in (replicate 64 true) e ≡ true
everywhere e inside = all_in_range (λ d. is_in (replicate 64 true) d) 0 64 e all_anywhere (omega arith) (omega (arith, inside))

-- one of the squares
pub spot-in : (spots : List ℕ) (e : ℕ) → e < 64 → is_spot spots e ≡ true → is_in (squares_that (is_spot spots)) e ≡ true
spot-in spots e inside h = is_in-that (is_spot spots) e inside ∙ h

stuck-stays : (set : List Bool) (c : Colour) (k : Kind) (spots : Option (List ℕ)) (e s : ℕ) → stuck_on set c k spots ≡ true → is_in (spots_set spots) s ≡ true → e < 64 → is_in set e ≡ false → way_in set c k e s ≡ true → is_in (spots_set spots) e ≡ true
stuck-stays set c k None e s stuck member inside out way = everywhere e inside
stuck-stays set c k (Some spots) e s stuck member inside out way =
    let row = each-spot (λ t. list_all (λ d. is_in set d || not (way_in set c k d t) || is_spot spots d) (range_with_len 0 64)) spots s stuck (in-that (is_spot spots) s member).1 in
    elim (or_cases (is_in set e || not (way_in set c k e s)) (is_spot spots e) (all_in_range (λ d. is_in set d || not (way_in set c k d s) || is_spot spots d) 0 64 e row (omega arith) (omega (arith, inside)))) [
      | inr spot ↦ spot-in spots e inside spot
      | inl none ↦ elim (or_cases (is_in set e) (not (way_in set c k e s)) none) [
        | inl covered ↦ absurd (both_ways _ out covered)
        | inr no_way ↦ absurd (both_ways _ (not-true _ no_way) way)
      ]
    ]

one-kind : (j k : Kind) → list_any (λ i. same_kind i k) (j ∷ []) ≡ true → j ≡ k
one-kind j k h = elim (or_cases (same_kind j k) false h) [ inl same ↦ kind_is j k same | inr none ↦ absurd (both_ways false refl none) ]

figure-stays : (T : Sketch) (set : List Bool) (d : Drawn) (k : Kind) (e s : ℕ) → fixed_squares T ≡ set → is_stuck set d ≡ true → may_be (figure_for d) k ≡ true → is_in (spots_set d.spots) s ≡ true → is_quiet_way no_rights T d.colour k e s ≡ true → is_in (spots_set d.spots) e ≡ true
figure-stays T set d k e s same stuck may member way =
    let told = way-told T set d.colour k e s same way in
    stuck-stays set d.colour d.kind d.spots e s stuck member told.0 told.1 (subst (λ (j : Kind). way_in set d.colour j e s ≡ true) (sym (one-kind d.kind k may)) told.2)

all-stay : (T : Sketch) (set : List Bool) (ds : List Drawn) → fixed_squares T ≡ set → list_all (is_stuck set) ds ≡ true → (i : ℕ) (f : Figure) (k : Kind) (e s : ℕ) → figure_at (drawn ds) i ≡ Some f → may_be f k ≡ true → is_in f.squares s ≡ true → is_quiet_way no_rights T f.colour k e s ≡ true → is_in f.squares e ≡ true
all-stay T set [] same stuck i f k e s found may member way = cc
all-stay T set (d ∷ ds) same stuck zero f k e s found may member way =
    let his : figure_for d ≡ f = same_Some _ _ found in
    subst (λ (g : Figure). is_in g.squares e ≡ true) his
    (figure-stays T set d k e s same (and_parts (is_stuck set d) (list_all (is_stuck set) ds) stuck).0 (subst (λ (g : Figure). may_be g k ≡ true) (sym his) may) (subst (λ (g : Figure). is_in g.squares s ≡ true) (sym his) member)
    (subst (λ (g : Figure). is_quiet_way no_rights T g.colour k e s ≡ true) (sym his) way))
all-stay T set (d ∷ ds) same stuck (suc i) f k e s found may member way =
    all-stay T set ds same (and_parts (is_stuck set d) (list_all (is_stuck set) ds) stuck).1 i f k e s found may member way

-- a sketch so drawn is closed
pub stuck-closed : (set : List Bool) (ds : List Drawn) → fixed_squares (drawn ds) ≡ set → list_all (is_stuck set) ds ≡ true → IsClosed no_rights [] (drawn ds)
stuck-closed set ds same stuck i f k e s found may member way room = all-stay (drawn ds) set ds same stuck i f k e s found may member way

-- what a step has told
record Told (f : Figure) (x : Step) : Type 0 where
  on : is_in f.squares x.to ≡ true
  inner : is_end x.from ≡ false
  inside : x.from < 64
  up : one_ahead f.colour x.from x.to ≡ true
  arrival : arrives f x.to ≡ true

told : (T : Sketch) (f : Figure) (x : Step) → may_have_made T f x ≡ true → Told f x
told T f x h =
    let p4 = and_parts _ _ (and_parts _ _ h).0 in
    let p3 = and_parts _ _ p4.0 in
    let p2 = and_parts _ _ p3.0 in
    let s4 = and_parts _ _ (and_parts _ _ p2.0).1 in
    let s3 = and_parts _ _ s4.0 in
    let s2 = and_parts _ _ s3.0 in
    record { on = (and_parts _ _ s2.0).0; inner = not-true _ s3.1; inside = ltb-true _ _ s2.1; up = p2.1; arrival = p3.1 }

neither : (b : Bool) → cond b false false ≡ true → ⊥
neither true h = both_ways false refl h
neither false h = both_ways false refl h

other-arrival : (b x : Bool) → b ≡ false → cond b x false ≡ true → ⊥
other-arrival true x not_there h = both_ways true not_there refl
other-arrival false x not_there h = both_ways false refl h

-- nobody comes to where pawns begin
pawn-still : (c : Colour) (s t : ℕ) → s < 64 → is_end s ≡ false → one_ahead c s t ≡ true → (rank t == pawn_rank c) ≡ true → ⊥
pawn-still White s t inside inner up begins =
    let a : rank t ≡ rank s + 1 = eqb-true _ _ up in
    let b : rank t ≡ 1 = eqb-true _ _ begins in
    both_ways _ inner (or_left (rank s == 0) (rank s == 7) (eq-eqb (rank s) 0 (omega (arith, a, b))))
pawn-still Black s t inside inner up begins =
    let a : rank s ≡ rank t + 1 = eqb-true _ _ up in
    let b : rank t ≡ 6 = eqb-true _ _ begins in
    both_ways _ inner (or_right (rank s == 0) (rank s == 7) (eq-eqb (rank s) 7 (omega (arith, a, b))))

still-here : (c : Colour) (k : Kind) (spots : Option (List ℕ)) (n : ℕ) (x : Step) → still_on c k spots ≡ true → Told (record { colour = c; kinds = k ∷ []; squares = spots_set spots; marked = false; place = n }) x → ⊥
still-here c King spots n x still it = neither _ it.arrival
still-here c Pawn None n x still it = both_ways false refl still
still-here c Knight None n x still it = both_ways false refl still
still-here c Bishop None n x still it = both_ways false refl still
still-here c Rook None n x still it = both_ways false refl still
still-here c Queen None n x still it = both_ways false refl still
still-here c Pawn (Some spots) n x still it = pawn-still c x.from x.to it.inside it.inner it.up (each-spot (λ s. rank s == pawn_rank c) spots x.to still (in-that (is_spot spots) x.to it.on).1)
still-here c Knight (Some spots) n x still it = other-arrival _ _ (not-true _ (each-spot (λ s. not (rank s == last_rank c)) spots x.to still (in-that (is_spot spots) x.to it.on).1)) it.arrival
still-here c Bishop (Some spots) n x still it = other-arrival _ _ (not-true _ (each-spot (λ s. not (rank s == last_rank c)) spots x.to still (in-that (is_spot spots) x.to it.on).1)) it.arrival
still-here c Rook (Some spots) n x still it = other-arrival _ _ (not-true _ (each-spot (λ s. not (rank s == last_rank c)) spots x.to still (in-that (is_spot spots) x.to it.on).1)) it.arrival
still-here c Queen (Some spots) n x still it = other-arrival _ _ (not-true _ (each-spot (λ s. not (rank s == last_rank c)) spots x.to still (in-that (is_spot spots) x.to it.on).1)) it.arrival

all-still : (T : Sketch) (ds : List Drawn) → list_all is_still ds ≡ true → (i : ℕ) (x : Step) → made_by [] T (figure_at (drawn ds) i) x ≡ true → ⊥
all-still T [] still i x made = both_ways false refl made
all-still T (d ∷ ds) still zero x made = elim (or_cases (may_have_made T (figure_for d) x) (may_have_gone [] T (figure_for d) x) made) [
  | inl has ↦ still-here d.colour d.kind d.spots d.place x (and_parts (is_still d) (list_all is_still ds) still).0 (told T (figure_for d) x has)
  | inr gone ↦ both_ways false refl gone
]
all-still T (d ∷ ds) still (suc i) x made = all-still T ds (and_parts (is_still d) (list_all is_still ds) still).1 i x made

-- nobody made a step
pub still-steps : (ds : List Drawn) → list_all is_still ds ≡ true → (x : Step) → is_step [] (drawn ds) x ≡ true → ⊥
unfolding is_step
still-steps ds still x made = all-still (drawn ds) ds still x.by x made

-- so no game comes to it if it isn't the array's
pub stuck-never : (set : List Bool) (ds : List Drawn) → fixed_squares (drawn ds) ≡ set → list_all (is_stuck set) ds ≡ true → list_all is_still ds ≡ true → may_be_array no_odds (drawn ds) ≡ false → (p : List Move) → FitsGame no_odds p no_rights (drawn ds) → ⊥
stuck-never set ds same stuck still away p it =
    climb no_odds no_rights [] (drawn ds) (λ x. 0) (stuck-closed set ds same stuck) away (λ x made calm. absurd (still-steps ds still x made)) p it.game it.rights it.fits

-- a fixed figure may as well stand on one of several squares, or anywhere
pub fixed-within : (c : Colour) (k : Kind) (s n m : ℕ) (spots : List ℕ) → is_spot spots s ≡ true → IsWider (record { colour = c; kinds = k ∷ []; squares = only_on s; marked = false; place = n }) (figure_for (record { colour = c; kind = k; spots = Some spots; place = m }))
fixed-within c k s n m spots has = record {
  colour = refl;
  kinds = λ j may. may;
  squares = λ t member. let here = in-that (λ u. u == s) t member in spot-in spots t here.0 (ap (is_spot spots) (eqb-true t s here.1) ∙ has);
  marked = λ marked. marked;
}

pub fixed-anywhere : (c : Colour) (k : Kind) (s n m : ℕ) → IsWider (record { colour = c; kinds = k ∷ []; squares = only_on s; marked = false; place = n }) (figure_for (record { colour = c; kind = k; spots = None; place = m }))
fixed-anywhere c k s n m = record { colour = refl; kinds = λ j may. may; squares = λ t member. everywhere t (in-that (λ u. u == s) t member).0; marked = λ marked. marked }

place-same : (S T : Sketch) → map (λ f. f.place) S ≡ map (λ f. f.place) T → (i : ℕ) (f g : Figure) → figure_at S i ≡ Some f → figure_at T i ≡ Some g → f.place ≡ g.place
place-same [] T same i f g e1 e2 = cc
place-same (a ∷ S) [] same i f g e1 e2 = cc
place-same (a ∷ S) (b ∷ T) same zero f g e1 e2 = let first : a.place ≡ b.place = cc in ap (λ (h : Figure). h.place) (sym (same_Some _ _ e1)) ∙ first ∙ ap (λ (h : Figure). h.place) (same_Some _ _ e2)
place-same (a ∷ S) (b ∷ T) same (suc i) f g e1 e2 = let rest : map (λ f. f.place) S ≡ map (λ f. f.place) T = cc in place-same S T rest i f g e1 e2

-- the same places are in the same order
pub same-places : (S T : Sketch) → map (λ f. f.place) S ≡ map (λ f. f.place) T → KeepsPlaces S T
same-places S T same i j f g f' g' e1 e2 e3 e4 lower =
    let a = place-same S T same i f f' e1 e3 in
    let b = place-same S T same j g g' e2 e4 in
    omega (arith, a, b, lower)

-- where no right is held, none has to be kept
pub none-held : (x : Castle) → holds no_rights x ≡ true → ⊥
none-held WhiteShort h = both_ways false refl h
none-held WhiteLong h = both_ways false refl h
none-held BlackShort h = both_ways false refl h
none-held BlackLong h = both_ways false refl h
