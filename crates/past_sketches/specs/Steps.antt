-- Steps: the moves of figures that are taken back one by one, captures by pawns, promotions, and on exact files all moves by pawns.
use Rattle.std.specs.Prelude.{ℕ, ◌+◌, ◌*◌, Bool, true, false, cond, ◌&&◌, ◌||◌, not, ◌==◌, nat_lt, length, List, [], ◌∷◌, ◌++◌, map, Option, Some, None, is_none, is_some}
use Rattle.std.specs.List.{filter, flat_map, list_all, list_any, range_with_len}
use Rattle.board_base.specs.Board.{Places, at, file, is_a, is_in, opponent, rank, same_kind}
use Rattle.board_base.specs.Attacks.{files_apart, one_ahead, on_the_way, ranks_apart}
use Rattle.board_base.specs.Play.{ahead, behind, en_passant_rank}
use Rattle.board_base.specs.Legal.{is_officer, last_rank}
use Rattle.board_base.specs.declared.men.Colour.{Colour}
use Rattle.board_base.specs.declared.men.Kind.{Kind}
use Rattle.board_base.specs.declared.men.Kind.TheVariants.{Pawn, Knight, Bishop, Rook, Queen, King}
use Rattle.board_base.specs.declared.moves.Move.{Move}
use Rattle.play_rules.specs.Laws.{is_end}
use Rattle.cage_rules.specs.Sets.{squares_that}
use Rattle.past_sketches.specs.Closed.{goes_straight}
use Rattle.past_sketches.specs.Figures.{Figure, Sketch, each_changed, figure_at, fixed_squares, may_be, only_on}
use Rattle.past_sketches.specs.FileOrder.{leaves_room, stands_beside}

-- the move is a capture by a pawn, or a promotion, or a pawn's on an exact file
unfoldable pub is_deed : List Bool → Places → Move → Bool
is_deed exact board m = is_a Pawn (at board m.from) && (is_some m.promo || not (file m.from == file m.to) || is_in exact (file m.from))

-- A step: the figure with this number went as a pawn from one square to another. He took nobody, or a man of this kind there, or past him
-- the pawn that had just made a double step. Before it he had this place among the pawns of his file.
pub record Step : Type 0 where
  pub by : ℕ
  pub from : ℕ
  pub to : ℕ
  pub taken : Option Kind
  pub passing : Bool
  pub place : ℕ

-- Article 3.7: a pawn that comes to t stays one, short of the last rank, or is an officer there
abbrev pub arrives : Figure → ℕ → Bool
arrives f t = cond (rank t == last_rank f.colour) (list_any is_officer f.kinds) (may_be f Pawn)

-- Article 3.7: he goes to another file only if he takes a man, no king, and no pawn on rank 1 or 8; else he goes straight to be promoted
abbrev pub takes : Colour → ℕ → ℕ → Option Kind → Bool
takes c s t None = (file s == file t) && (rank t == last_rank c)
takes c s t (Some k) = (files_apart s t == 1) && not (same_kind King k) && not (same_kind Pawn k && is_end t)

-- Article 3.7: he takes a pawn en passant
abbrev pub passes : Colour → ℕ → ℕ → Option Kind → Bool
passes c s t taken = (files_apart s t == 1) && (rank s == en_passant_rank c) && is_none taken

-- the place is the lowest, or next to that of a figure
abbrev pub is_next_place : Sketch → ℕ → Bool
is_next_place T n = (n == 0) || list_any (λ g. n == g.place + 1) T

-- before the step the other pawn of this file, if it is one, may have stood below the one who made it if he has a lower place, else above
abbrev pub leaves_place : Step → Figure → Bool
leaves_place x g = stands_beside x.from (nat_lt g.place x.place) (not (nat_lt g.place x.place)) g

-- the figure may stand on the target, and a pawn on the origin, where no figure is fixed
abbrev pub has_squares : Sketch → Figure → Step → Bool
has_squares T f x = is_in f.squares x.to && nat_lt x.to 64 && nat_lt x.from 64 && not (is_end x.from) && not (is_in (fixed_squares T) x.from)

-- the place of the one who made the step is next to another's, and all leave it to him
abbrev pub has_place : Sketch → Step → Bool
has_place T x = is_next_place T x.place && list_all (leaves_place x) T

-- the figure, who isn't marked, may have made the step as a capture or a promotion
abbrev pub may_have_made : Sketch → Figure → Step → Bool
may_have_made T f x =
    not f.marked && has_squares T f x && one_ahead f.colour x.from x.to && arrives f x.to && cond x.passing (passes f.colour x.from x.to x.taken) (takes f.colour x.from x.to x.taken) && has_place T x

-- he took nobody, and keeps his place, which all leave to him
abbrev pub keeps_place : Sketch → Figure → Step → Bool
keeps_place T f x = is_none x.taken && not x.passing && (x.place == f.place) && list_all (leaves_room f x.from) T

-- the figure may have gone straight on, on an exact file, and is still a pawn
abbrev pub may_have_gone : List Bool → Sketch → Figure → Step → Bool
may_have_gone exact T f x =
    is_in exact (file x.from) && has_squares T f x && may_be f Pawn && not (rank x.to == last_rank f.colour) && goes_straight f.colour x.from x.to && keeps_place T f x

-- the figure, if there is one, has made it or gone so
abbrev pub made_by : List Bool → Sketch → Option Figure → Step → Bool
made_by exact T None x = false
made_by exact T (Some f) x = may_have_made T f x || may_have_gone exact T f x

-- it is a step of the sketch, if these files are exact
unfoldable pub is_step : List Bool → Sketch → Step → Bool
is_step exact T x = made_by exact T (figure_at T x.by) x

-- nobody, or a man of any kind but a king
abbrev pub all_taken : List (Option Kind)
all_taken = None ∷ Some Pawn ∷ Some Knight ∷ Some Bishop ∷ Some Rook ∷ Some Queen ∷ []

-- the lowest place, those next to a figure's, and the figures' own
abbrev pub all_places : Sketch → List ℕ
all_places T = 0 ∷ map (λ g. g.place + 1) T ++ map (λ g. g.place) T

-- what a pawn may have done that came to t from s
abbrev pub steps_between : Sketch → ℕ → ℕ → ℕ → List Step
steps_between T i s t =
    flat_map (λ k. flat_map (λ passing. map (λ n. record { by = i; from = s; to = t; taken = k; passing = passing; place = n }) (all_places T)) (true ∷ false ∷ [])) all_taken

-- what each figure may have done as a pawn between any two squares
abbrev pub all_steps : Sketch → List Step
all_steps T = flat_map (λ i. flat_map (λ s. flat_map (steps_between T i s) (range_with_len 0 64)) (range_with_len 0 64)) (range_with_len 0 (length T))

-- all steps of the sketch, in a list
unfoldable pub steps_of : List Bool → Sketch → List Step
steps_of exact T = filter (is_step exact T) (all_steps T)

-- Nobody else stood on these squares before the step: its origin, its target, what a double step crosses; and, if it was en passant, those
-- to which and from which the other pawn had gone.
abbrev pub is_cleared : Colour → Step → ℕ → Bool
is_cleared c x s = (s == x.from) || (s == x.to) || ((ranks_apart x.from x.to == 2) && (s == on_the_way x.from x.to 1)) || (x.passing && ((s == behind c x.to) || (s == ahead c x.to)))

-- Before the step a figure who didn't make it stood on another square than these. The places leave room for one between any two.
abbrev pub bystander : Colour → Step → Figure → Figure
bystander c x f = record f { squares = squares_that (λ s. is_in f.squares s && not (is_cleared c x s)); place = 2 * f.place + 1 }

-- and he who made it was a pawn on its origin
abbrev pub pawn_before : Step → Figure → Figure
pawn_before x f = record { colour = f.colour; kinds = Pawn ∷ []; squares = only_on x.from; marked = f.marked; place = 2 * x.place }

-- the enemy of this kind on s, next in place to the one who took him
abbrev pub victim_on : Figure → Kind → ℕ → Figure
victim_on f k s = record { colour = opponent f.colour; kinds = k ∷ []; squares = only_on s; marked = false; place = 2 * f.place + 1 }

-- The man whom he took stood on the target. The pawn whom he took en passant stood at home: its double step is taken back too. If it was
-- a pawn, it had the place on its file that he had afterwards.
abbrev pub victims : Figure → Step → List Figure
victims f x = cond x.passing (victim_on f Pawn (ahead f.colour x.to) ∷ []) (taken_man x.taken)
  where
    taken_man : Option Kind → List Figure
    taken_man None = []
    taken_man (Some k) = victim_on f k x.to ∷ []

-- each figure before the step, by his number
abbrev pub changed_by : Colour → Step → ℕ → Figure → Figure
changed_by c x i f = cond (i == x.by) (pawn_before x f) (bystander c x f)

-- these figures before all those of a sketch
abbrev pub onto : List Figure → Sketch → Sketch
onto [] T = T
onto (f ∷ S) T = f ∷ onto S T

-- the victim, if there was one, and then the figures as they were, if somebody made the step
abbrev pub back_by : Sketch → Option Figure → Step → Sketch
back_by T None x = T
back_by T (Some f) x = onto (victims f x) (each_changed (changed_by f.colour x) 0 T)

-- the sketch before the step
unfoldable pub taken_back : Sketch → Step → Sketch
taken_back T x = back_by T (figure_at T x.by) x
