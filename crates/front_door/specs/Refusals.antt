-- Inner: no public clause cites this file.
-- What a line says that refuses an input.
use Rattle.std.specs.Prelude.{ℕ, List, Option, Some, None, codes}
use Rattle.front_door.specs.declared.refusals.Refusal.{Refusal}
use Rattle.front_door.specs.declared.refusals.Refusal.TheVariants.{Line, Fen, Word, Ply, FirstLine}

-- how a line begins that refuses so
abbrev pub front_of : Refusal → List ℕ
front_of (Line number) = codes "bad line "
front_of (Fen field at) = codes "bad fen field "
front_of (Word number) = codes "refused word "
front_of (Ply number) = codes "refused ply "
front_of FirstLine = codes "refused line 1 text"

-- a field of the FEN line was refused
abbrev pub RefusesField : Option Refusal → Type 0
RefusesField None = ⊥
RefusesField (Some (Fen field at)) = Unit {0}
RefusesField (Some refusal) = ⊥
