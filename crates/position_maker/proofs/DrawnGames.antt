-- Games that are made by draws are games.
use Rattle.std.proofs.Common.{◌≡◌, ℕ, zero, suc, true, List, [], ◌∷◌, ◌++◌, length, refl, ap, sym, ◌∙◌, subst, arith, append_assoc}
use Rattle.std.proofs.lemmas.List.{append-nil}
use Rattle.std.proofs.lemmas.List.Elements.{Contains-get_or}
use Rattle.std.proofs.lemmas.Option.{get_or_from_slice_get, slice_get_within, slice_get_past}
use Rattle.std.specs.Prelude.{slice_get, Option, Some, None}
use Rattle.std.specs.List.{Contains, filter}
use Rattle.board_base.specs.Board.{no_odds}
use Rattle.board_base.specs.Game.{IsGame, legal_after}
use Rattle.board_base.specs.declared.moves.Move.{Move}
use Rattle.play_rules.specs.Listed.{all_moves}
use Rattle.play_rules.proofs.Games.{game_more, no_moves}
use Rattle.general_lemmas.proofs.Filtered.{passes-filter}
use Rattle.position_maker.specs.Draws.{drawn, followed, goes_on, legal_moves, next, place}

pub among : {A : Type 0} (xs : List A) (i : ℕ) (x : A) → slice_get xs i ≡ Some x → Contains xs x
among {A} xs i x e = subst (λ (y : A). Contains xs y) (get_or_from_slice_get xs i x x e) (Contains-get_or xs i x (slice_get_within xs i x e))

pub drawn-legal : (g : List Move) (i : ℕ) (m : Move) → slice_get (legal_moves g) i ≡ Some m → legal_after no_odds g m ≡ true
unfolding legal_moves
drawn-legal g i m e = passes-filter (legal_after no_odds g) all_moves m (among (filter (legal_after no_odds g) all_moves) i m e)

goes-with : (g : List Move) (o : Option Move) (rest : Move → List Move) → IsGame no_odds g → ((m : Move) → o ≡ Some m → IsGame no_odds ((g ++ m ∷ []) ++ rest m)) → IsGame no_odds (g ++ followed o rest)
goes-with g None rest game more = subst (IsGame no_odds) (sym (append-nil g)) game
goes-with g (Some m) rest game more = subst (IsGame no_odds) (append_assoc g (m ∷ []) (rest m)) (more m refl)

pub goes_on-game : (n x : ℕ) (g : List Move) → IsGame no_odds g → IsGame no_odds (g ++ goes_on n x g)
goes_on-game zero x g game = subst (IsGame no_odds) (sym (append-nil g)) game
goes_on-game (suc n) x g game =
    goes-with g (drawn (next x) (legal_moves g)) (λ m. goes_on n (next x) (g ++ m ∷ [])) game
    (λ m e. goes_on-game n (next x) (g ++ m ∷ []) (game_more no_odds g m game (drawn-legal g (place (next x) (length (legal_moves g))) m e)))

pub one-game : (n x : ℕ) → IsGame no_odds (goes_on n x [])
one-game n x = goes_on-game n x [] (no_moves no_odds)

pub step-on : (n x : ℕ) (g : List Move) (m : Move) → drawn (next x) (legal_moves g) ≡ Some m → goes_on (suc n) x g ≡ m ∷ goes_on n (next x) (g ++ m ∷ [])
step-on n x g m e = ap (λ (o : Option Move). followed o (λ k. goes_on n (next x) (g ++ k ∷ []))) e

from-none : (x : ℕ) (moves : List Move) → moves ≡ [] → drawn x moves ≡ None
from-none x moves e = ap (drawn x) e ∙ slice_get_past [] (place x 0) (omega arith)

-- where no move is legal the game is over
pub stop-on : (n x : ℕ) (g : List Move) → legal_moves g ≡ [] → goes_on n x g ≡ []
stop-on zero x g e = refl
stop-on (suc n) x g e = ap (λ (o : Option Move). followed o (λ k. goes_on n (next x) (g ++ k ∷ []))) (from-none (next x) (legal_moves g) e)
