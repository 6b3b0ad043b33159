-- Quiet ways, from the ground to the sketch.
use Rattle.std.proofs.Common.{◌≡◌, ℕ, ◌+◌, ◌*◌, ◌<◌, ◌==◌, Bool, true, false, ◌&&◌, ◌||◌, not, List, [], ◌∷◌, map, refl, ap, sym, ◌∙◌, arith}
use Rattle.std.specs.List.{list_any, range_with_len}
use Rattle.std.proofs.lemmas.Bool.{lt-ltb}
use Rattle.board_base.specs.Board.{file, is_in, opponent, rank, same_kind}
use Rattle.board_base.specs.Attacks.{kind_attacks, on_the_way, one_ahead, ranks_apart, toward}
use Rattle.board_base.specs.Legal.{pawn_rank}
use Rattle.board_base.specs.Rights.{Rights}
use Rattle.board_base.specs.declared.men.Colour.{Colour}
use Rattle.board_base.specs.declared.men.Colour.TheVariants.{White, Black}
use Rattle.board_base.specs.declared.men.Kind.{Kind}
use Rattle.board_base.specs.declared.men.Kind.TheVariants.{Pawn, Knight, Bishop, Rook, Queen, King}
use Rattle.figures.specs.Frozen.{is_held_home}
use Rattle.figures.specs.Regions.{walls}
use Rattle.figures.proofs.Filling.{is_in-that}
use Rattle.figures.proofs.SetAlgebra.{same-that}
use Rattle.figures.specs.Closed.{goes_past, has_room, is_quiet_way, is_unguarded}
use Rattle.figures.specs.Figures.{Figure, Sketch, fixed_squares}
use Rattle.figures.specs.Touching.{guarded_squares, kings_of, touched_squares, touches}
use Rattle.sketch_sets.specs.declared.ground.Ground.{Ground}
use Rattle.sketch_sets.specs.Grounds.{ground_of, kings, touched}
use Rattle.sketch_sets.specs.Files.{gives_room, has_all_room, straight}
use Rattle.sketch_sets.specs.Tests.{some_that}
use Rattle.sketch_sets.specs.Origins.{comes_from, is_origin, widened, widened_set}
use Rattle.sketch_sets.specs.Quiet.{goes_on, guards_on, pawn_past, quiet_on}
use Rattle.sketch_sets.specs.Remade.{with_set}
use Rattle.sketch_sets.specs.Wide.{from_on, origin_on, room_on, wide_on, wide_set_on}
use Rattle.sketch_sets.proofs.Sets.{any-same}

pub way-number : (e s n a b : ℕ) → a ≡ toward (rank e) (rank s) n → b ≡ toward (file e) (file s) n → 8 * a + b ≡ on_the_way e s n
unfolding on_the_way
way-number e s n a b ea eb = ap (λ (x : ℕ). 8 * x + b) ea ∙ ap (λ (x : ℕ). 8 * toward (rank e) (rank s) n + x) eb

five : (fe fs re pr ra fe' fs' re' pr' ra' : ℕ) (a a' : Bool) → fe ≡ fe' → fs ≡ fs' → re ≡ re' → pr ≡ pr' → ra ≡ ra' → a ≡ a' → ((fe == fs) && (a || ((re == pr) && (ra == 2)))) ≡ ((fe' == fs') && (a' || ((re' == pr') && (ra' == 2))))
five fe fs re pr ra fe' fs' re' pr' ra' a a' h1 h2 h3 h4 h5 h6 = cc

pub straight-made : (c : Colour) (e s : ℕ) (fe fs re pr ra : ℕ) (ahead : Bool) → fe ≡ file e → fs ≡ file s → re ≡ rank e → pr ≡ pawn_rank c → ra ≡ ranks_apart e s → ahead ≡ one_ahead c e s → ((fe == fs) && (ahead || ((re == pr) && (ra == 2)))) ≡ straight c e s
unfolding straight
straight-made c e s fe fs re pr ra ahead h1 h2 h3 h4 h5 h6 = five fe fs re pr ra (file e) (file s) (rank e) (pawn_rank c) (ranks_apart e s) ahead (one_ahead c e s) h1 h2 h3 h4 h5 h6

-- room
pub room-officer : (exact : List Bool) (T : Sketch) (f : Figure) (k : Kind) (e : ℕ) → same_kind Pawn k ≡ false → true ≡ room_on exact T f k e
unfolding room_on
room-officer exact T f k e other = sym (ap (λ (x : Bool). not x || (not (is_in exact (file e)) && has_all_room T f e)) other)

pub room-exact : (exact : List Bool) (T : Sketch) (f : Figure) (k : Kind) (e : ℕ) → same_kind Pawn k ≡ true → is_in exact (file e) ≡ true → false ≡ room_on exact T f k e
unfolding room_on
room-exact exact T f k e pawn there = sym (ap (λ (x : Bool). not x || (not (is_in exact (file e)) && has_all_room T f e)) pawn ∙ ap (λ (x : Bool). not x && has_all_room T f e) there)

pub room-free : (exact : List Bool) (T : Sketch) (f : Figure) (k : Kind) (e : ℕ) → same_kind Pawn k ≡ true → is_in exact (file e) ≡ false → has_all_room T f e ≡ room_on exact T f k e
unfolding room_on
room-free exact T f k e pawn out = sym (ap (λ (x : Bool). not x || (not (is_in exact (file e)) && has_all_room T f e)) pawn ∙ ap (λ (x : Bool). not x && has_all_room T f e) out)

-- from the ground to the sketch
kings-by : (held : Rights) (T : Sketch) (c : Colour) → kings (ground_of held T) c ≡ kings_of T c
kings-by held T White = refl
kings-by held T Black = refl

touched-by : (held : Rights) (T : Sketch) (c : Colour) → touched (ground_of held T) c ≡ touched_squares T c
touched-by held T White = refl
touched-by held T Black = refl

guards-told : (held : Rights) (T : Sketch) (c : Colour) (k : Kind) (e : ℕ) → e < 64 → guards_on (ground_of held T) c k e ≡ is_in (guarded_squares T c k) e
unfolding guards_on guarded_squares
guards-told held T c k e low =
    ap (λ (l : List Bool). list_any (λ q. is_in l q && touches c k e q) (range_with_len 0 64)) (kings-by held T (opponent c))
    ∙ sym (is_in-that (λ e. list_any (λ q. is_in (kings_of T (opponent c)) q && touches c k e q) (range_with_len 0 64)) e low)

goes-told : (held : Rights) (T : Sketch) (c : Colour) (k : Kind) (e s : ℕ) → goes_on (ground_of held T) c k e s ≡ goes_past T c k e s
unfolding goes_on pawn_past straight
goes-told held T c Pawn e s = refl
goes-told held T c King e s = ap (λ (l : List Bool). kind_attacks (walls (fixed_squares T)) c King e s && not (is_in l s)) (touched-by held T (opponent c))
goes-told held T c Knight e s = refl
goes-told held T c Bishop e s = refl
goes-told held T c Rook e s = refl
goes-told held T c Queen e s = refl

in-order : (f h u g : Bool) → (f && (h && (u && g))) ≡ ((((true && f) && h) && g) && u)
in-order true true true true = refl
in-order true true true false = refl
in-order true true false true = refl
in-order true true false false = refl
in-order true false u g = refl
in-order false h u g = refl

pub quiet-told : (held : Rights) (T : Sketch) (e s : ℕ) → e < 64 → s < 64 → (c : Colour) (k : Kind) → quiet_on (ground_of held T) c k e s ≡ is_quiet_way held T c k e s
unfolding quiet_on
quiet-told held T e s low inside c k =
    ap (λ (x : Bool). not (is_in (fixed_squares T) e) && (not x && (not (guards_on (ground_of held T) c k e) && goes_on (ground_of held T) c k e s))) (is_in-that (is_held_home held) s inside)
    ∙ ap (λ (x : Bool). not (is_in (fixed_squares T) e) && (not (is_held_home held s) && (not x && goes_on (ground_of held T) c k e s))) (guards-told held T c k e low)
    ∙ ap (λ (x : Bool). not (is_in (fixed_squares T) e) && (not (is_held_home held s) && (is_unguarded T c k e && x))) (goes-told held T c k e s)
    ∙ in-order (not (is_in (fixed_squares T) e)) (not (is_held_home held s)) (is_unguarded T c k e) (goes_past T c k e s)
    ∙ ap (λ (x : Bool). ((((x && not (is_in (fixed_squares T) e)) && not (is_held_home held s)) && goes_past T c k e s) && is_unguarded T c k e)) (sym (lt-ltb e 64 low))

room-told : (exact : List Bool) (T : Sketch) (f : Figure) (k : Kind) (e : ℕ) → room_on exact T f k e ≡ has_room exact T f k e
unfolding room_on gives_room
room-told exact T f k e = refl

from-told : (held : Rights) (exact : List Bool) (T : Sketch) (f : Figure) (e : ℕ) (k : Kind) → e < 64 → from_on (ground_of held T) exact T f e k ≡ comes_from held exact T f e k
unfolding from_on comes_from some_that
from-told held exact T f e k low =
    ap (λ (x : Bool). x && list_any (λ s. is_in f.squares s && quiet_on (ground_of held T) f.colour k e s) (range_with_len 0 64)) (room-told exact T f k e)
    ∙ ap (λ (x : Bool). has_room exact T f k e && x) (any-same (λ s. is_in f.squares s && quiet_on (ground_of held T) f.colour k e s) (λ s. is_in f.squares s && is_quiet_way held T f.colour k e s) 0 64 (λ s inside.
    ap (λ (x : Bool). is_in f.squares s && x) (quiet-told held T e s low (omega arith) f.colour k)))

kinds-same : (p r : Kind → Bool) (l : List Kind) → ((k : Kind) → p k ≡ r k) → list_any p l ≡ list_any r l
kinds-same p r [] same = refl
kinds-same p r (k ∷ l) same = ap (λ (b : Bool). b || list_any p l) (same k) ∙ ap (λ (b : Bool). r k || b) (kinds-same p r l same)

pub wide-told : (held : Rights) (exact : List Bool) (T : Sketch) (f : Figure) → wide_set_on (ground_of held T) exact T f ≡ widened_set held exact T f
unfolding wide_set_on wide_on widened_set is_origin origin_on
wide-told held exact T f = same-that (λ e. is_in f.squares e || list_any (from_on (ground_of held T) exact T f e) f.kinds) (λ e. is_in f.squares e || list_any (comes_from held exact T f e) f.kinds) (λ e inside.
    ap (λ (b : Bool). is_in f.squares e || b) (kinds-same (from_on (ground_of held T) exact T f e) (comes_from held exact T f e) f.kinds (λ k. from-told held exact T f e k inside)))

map-same : (h r : Figure → List Bool) (S : Sketch) → ((f : Figure) → h f ≡ r f) → map (with_set h) S ≡ map (with_set r) S
map-same h r [] same = refl
map-same h r (f ∷ S) same = ap (λ (l : List Bool). record f { squares = l } ∷ map (with_set h) S) (same f) ∙ ap (λ (l : Sketch). with_set r f ∷ l) (map-same h r S same)

pub widened-made : (held : Rights) (exact : List Bool) (T : Sketch) (g : Ground) → g ≡ ground_of held T → map (with_set (wide_set_on g exact T)) T ≡ widened held exact T
widened-made held exact T g e = ap (λ (x : Ground). map (with_set (wide_set_on x exact T)) T) e ∙ map-same (wide_set_on (ground_of held T) exact T) (widened_set held exact T) T (wide-told held exact T)
