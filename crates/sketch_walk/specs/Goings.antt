-- Inner: no public clause cites this file.
-- What a step asks of its squares alone.
use Rattle.std.specs.Prelude.{ℕ, Bool, ◌&&◌, ◌||◌, not, ◌==◌, List}
use Rattle.board_base.specs.Attacks.{distance, files_apart}
use Rattle.board_base.specs.Board.{file, is_in, rank}
use Rattle.board_base.specs.Legal.{last_rank}
use Rattle.board_base.specs.declared.men.Colour.{Colour}
use Rattle.figures.specs.Figures.{Figure}
use Rattle.sketch_list.specs.Listed.{Listed}
use Rattle.sketch_list.specs.declared.steps.Victim.{Victim}
use Rattle.sketch_list.specs.declared.steps.Victim.TheVariants.{Nobody, TakenPawn, TakenBishop, TakenOther, PassedPawn}

-- the rank of s is three short of the last
unfoldable pub is_passing_rank : Colour → ℕ → Bool
is_passing_rank c s = distance (rank s) (last_rank c) == 3

-- a pawn goes straight on to be promoted, or aside to take a man, en passant from that rank
unfoldable pub goes_as : Colour → ℕ → ℕ → Victim → Bool
goes_as c s t Nobody = (file s == file t) && (rank t == last_rank c)
goes_as c s t TakenPawn = files_apart s t == 1
goes_as c s t TakenBishop = files_apart s t == 1
goes_as c s t TakenOther = files_apart s t == 1
goes_as c s t PassedPawn = (files_apart s t == 1) && is_passing_rank c s

-- so he goes, if he isn't marked, or on an exact file any way
unfoldable pub may_go : List Bool → Figure → Listed → Bool
may_go exact f y = is_in exact (file y.from) || (not f.marked && goes_as f.colour y.from y.to y.victim)
