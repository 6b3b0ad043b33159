-- Games, lists that are copied, and texts behind others.
use Rattle.std.proofs.Common.{◌≡◌, ℕ, ◌+◌, ◌-◌, ◌<◌, Bool, false, List, [], ◌∷◌, ◌++◌, length, get_or, take, drop, sym, ap, ◌∙◌, arith, length-drop}
use Rattle.std.specs.Prelude.{Some, slice_get}
use Rattle.std.proofs.lemmas.List.{take_all}
use Rattle.std.proofs.lemmas.Option.{get_or_from_slice_get}
use Rattle.std.proofs.lemmas.Bool.{both_ways}
use Rattle.general_lemmas.proofs.Splits.{split_at, up_to}
use Rattle.board_base.specs.Game.{IsGame, legal_after}
use Rattle.board_base.specs.declared.moves.Move.{Move}

-- a game has no move that isn't legal
pub stops-game : (o : List Bool) (game : List Move) (i : ℕ) (m : Move) → i < length game → m ≡ get_or game i m → legal_after o (take i game) m ≡ false → IsGame o game → ⊥
stops-game o game i m inside there illegal is =
    both_ways _ illegal (is (take i game) (drop (i + 1) game) m (split_at game i m inside there))

-- one more of a list that is copied
pub copied-more : {A : Type 0} (xs ys new : List A) (i : ℕ) (x : A) → i < length xs → ys ≡ take i xs → slice_get xs i ≡ Some x → new ≡ ys ++ x ∷ [] → new ≡ take (i + 1) xs
copied-more {A} xs ys new i x inside so_far there grown = grown ∙ ap (λ (l : List A). l ++ x ∷ []) so_far ∙ sym (up_to xs i x inside (sym (get_or_from_slice_get xs i x x there)))

-- what a pattern takes behind a list's first element
pub behind-first : {A : Type 0} (xs : List A) → take (length xs - 1) (drop 1 xs) ≡ drop 1 xs
behind-first {A} xs = take_all (length xs - 1) (drop 1 xs) (omega (arith, length-drop 1 xs))
