-- Where figures may have come from, set by set.
use Rattle.std.proofs.Common.{◌≡◌, ℕ, ◌<◌, inl, inr, Bool, true, false, ◌&&◌, ◌||◌, not, List, length, refl, ap, sym, ◌∙◌}
use Rattle.std.proofs.lemmas.Bool.{cases_Bool}
use Rattle.std.specs.List.{list_any, range_with_len}
use Rattle.board_base.specs.Board.{is_in, opponent, same_kind}
use Rattle.board_base.specs.declared.men.Colour.{Colour}
use Rattle.board_base.specs.declared.men.Kind.{Kind}
use Rattle.board_base.specs.declared.men.Kind.TheVariants.{Pawn, Knight, Bishop, Rook, Queen, King}
use Rattle.figures.specs.Frozen.{is_past_home}
use Rattle.figures.specs.Sets.{union}
use Rattle.figures.proofs.SetAlgebra.{length-union, that-is}
use Rattle.figures.specs.Figures.{Figure, Sketch}
use Rattle.figures.specs.Touching.{touches}
use Rattle.sketch_sets.specs.declared.ground.Ground.{Ground}
use Rattle.sketch_sets.specs.Grounds.{kings, touched}
use Rattle.sketch_sets.specs.Quiet.{goes_on, guards_on, pawn_past, quiet_on}
use Rattle.sketch_sets.specs.Shifts.{attacks_past}
use Rattle.sketch_sets.specs.Tests.{some_that}
use Rattle.sketch_sets.specs.Wide.{from_on, origin_on, room_on, wide_on, wide_set_on}
use Rattle.sketch_sets.proofs.Attacking.{attacks-made, touches-made}
use Rattle.sketch_sets.proofs.Sets.{told-either}
use Rattle.sketch_sets.proofs.Shifting.{some-and, some-of, some-same}
use Rattle.sketch_sets.proofs.Wayside.{room-officer}

pub guards-made : (g : Ground) (c : Colour) (k : Kind) (e : ℕ) (kings_ : List Bool) → kings_ ≡ kings g (opponent c) → some_that kings_ (attacks_past k c g.fixed 1 e) ≡ guards_on g c k e
unfolding guards_on some_that
guards-made g c k e kings_ same =
    some-same kings_ (attacks_past k c g.fixed 1 e) (touches c k e) (λ s inside. touches-made g.fixed c k e s)
    ∙ ap (λ (l : List Bool). list_any (λ q. is_in l q && touches c k e q) (range_with_len 0 64)) same

pub goers-pawn : (g : Ground) (c : Colour) (to : List Bool) (e : ℕ) → some_that to (λ s. is_past_home c s && pawn_past g.fixed c e s) ≡ some_that to (goes_on g c Pawn e)
unfolding goes_on
goers-pawn g c to e = refl

turned-and : (x y : Bool) → (x && y) ≡ (y && x)
turned-and true true = refl
turned-and true false = refl
turned-and false true = refl
turned-and false false = refl

pub goers-king : (g : Ground) (c : Colour) (to safe : List Bool) (e : ℕ) → length g.fixed ≡ 64 → e < 64 → ((s : ℕ) → s < 64 → is_in safe s ≡ (is_in to s && not (is_in (touched g (opponent c)) s))) → some_that safe (attacks_past King c g.fixed 7 e) ≡ some_that to (goes_on g c King e)
unfolding goes_on
goers-king g c to safe e size low each =
    some-of safe to (λ s. not (is_in (touched g (opponent c)) s)) (attacks_past King c g.fixed 7 e) each
    ∙ some-same to (λ s. not (is_in (touched g (opponent c)) s) && attacks_past King c g.fixed 7 e s) (goes_on g c King e) (λ s inside.
    turned-and (not (is_in (touched g (opponent c)) s)) (attacks_past King c g.fixed 7 e s) ∙ ap (λ (x : Bool). x && not (is_in (touched g (opponent c)) s)) (attacks-made g.fixed c King e s size low inside))

pub goers-officer : (g : Ground) (c : Colour) (k : Kind) (to : List Bool) (e : ℕ) → same_kind Pawn k ≡ false → same_kind King k ≡ false → length g.fixed ≡ 64 → e < 64 → some_that to (attacks_past k c g.fixed 7 e) ≡ some_that to (goes_on g c k e)
unfolding goes_on
goers-officer g c Pawn to e pawn king size low = cc
goers-officer g c King to e pawn king size low = cc
goers-officer g c Knight to e pawn king size low = some-same to (attacks_past Knight c g.fixed 7 e) (goes_on g c Knight e) (λ s inside. attacks-made g.fixed c Knight e s size low inside)
goers-officer g c Bishop to e pawn king size low = some-same to (attacks_past Bishop c g.fixed 7 e) (goes_on g c Bishop e) (λ s inside. attacks-made g.fixed c Bishop e s size low inside)
goers-officer g c Rook to e pawn king size low = some-same to (attacks_past Rook c g.fixed 7 e) (goes_on g c Rook e) (λ s inside. attacks-made g.fixed c Rook e s size low inside)
goers-officer g c Queen to e pawn king size low = some-same to (attacks_past Queen c g.fixed 7 e) (goes_on g c Queen e) (λ s inside. attacks-made g.fixed c Queen e s size low inside)

barred : (x f h : Bool) → (x && not (f || h)) ≡ (not f && (not h && x))
barred x true h = and-none x
  where
    and-none : (b : Bool) → (b && false) ≡ false
    and-none true = refl
    and-none false = refl
barred x false h = turned-and x (not h)

drawn : (f h u g : Bool) → (f && (u && (h && g))) ≡ (f && (h && (u && g)))
drawn true true true g = refl
drawn true true false g = refl
drawn true false true g = refl
drawn true false false g = refl
drawn false h u g = refl

pub quiet-made : (g : Ground) (c : Colour) (k : Kind) (squares loose : List Bool) (e : ℕ) (from : Bool) → ((s : ℕ) → s < 64 → is_in loose s ≡ (is_in squares s && not (is_in g.held s))) → from ≡ some_that loose (goes_on g c k e) → (from && not (is_in g.fixed e || guards_on g c k e)) ≡ some_that squares (quiet_on g c k e)
unfolding quiet_on
quiet-made g c k squares loose e from each is =
    let f : Bool = not (is_in g.fixed e) in
    let u : Bool = not (guards_on g c k e) in
    barred from (is_in g.fixed e) (guards_on g c k e)
    ∙ ap (λ (x : Bool). f && (u && x)) (is ∙ some-of loose squares (λ s. not (is_in g.held s)) (goes_on g c k e) each)
    ∙ ap (λ (x : Bool). f && x) (some-and squares u (λ s. not (is_in g.held s) && goes_on g c k e s))
    ∙ some-and squares f (λ s. u && (not (is_in g.held s) && goes_on g c k e s))
    ∙ some-same squares (λ s. f && (u && (not (is_in g.held s) && goes_on g c k e s))) (quiet_on g c k e) (λ s inside. drawn f (not (is_in g.held s)) u (goes_on g c k e s))

-- origins of a figure, kind by kind
pub from-officer : (g : Ground) (exact : List Bool) (T : Sketch) (f : Figure) (e : ℕ) (k : Kind) → same_kind Pawn k ≡ false → some_that f.squares (quiet_on g f.colour k e) ≡ from_on g exact T f e k
unfolding from_on
from-officer g exact T f e k other = ap (λ (x : Bool). x && some_that f.squares (quiet_on g f.colour k e)) (room-officer exact T f k e other)

pub from-pawn : (g : Ground) (exact : List Bool) (T : Sketch) (f : Figure) (e : ℕ) (k : Kind) (from his : Bool) → from ≡ some_that f.squares (quiet_on g f.colour k e) → his ≡ false → ((from && not his) && room_on exact T f k e) ≡ from_on g exact T f e k
unfolding from_on
from-pawn g exact T f e k from his is out =
    ap (λ (x : Bool). (from && not x) && room_on exact T f k e) out ∙ and-all from (room_on exact T f k e) ∙ ap (λ (x : Bool). room_on exact T f k e && x) is
  where
    and-all : (a b : Bool) → ((a && true) && b) ≡ (b && a)
    and-all true true = refl
    and-all true false = refl
    and-all false true = refl
    and-all false false = refl

pub wide-made : (g : Ground) (exact : List Bool) (T : Sketch) (f : Figure) (origins made : List Bool) → made ≡ union f.squares origins → ((e : ℕ) → e < 64 → is_in f.squares e ≡ false → is_in origins e ≡ list_any (from_on g exact T f e) f.kinds) → made ≡ wide_set_on g exact T f
unfolding wide_set_on wide_on origin_on
wide-made g exact T f origins made is each = that-is (λ e. is_in f.squares e || list_any (from_on g exact T f e) f.kinds) made (ap length is ∙ length-union f.squares origins) (λ e low. told-either f.squares origins made e low is ∙ elim (cases_Bool (is_in f.squares e)) [
  | inl his ↦ ap (λ (x : Bool). x || is_in origins e) his ∙ sym (ap (λ (x : Bool). x || list_any (from_on g exact T f e) f.kinds) his)
  | inr out ↦ ap (λ (x : Bool). is_in f.squares e || x) (each e low out)
])
