-- Moves that are legal one after another, as games.
use Rattle.std.proofs.Common.{◌≡◌, ◌<◌, ◌≤◌, ◌+◌, ◌&&◌, not, ℕ, Bool, true, false, List, [], ◌∷◌, ◌++◌, take, drop, length, get_or, refl, sym, ap, ◌∙◌, subst, arith}
use Rattle.std.proofs.lemmas.List.{append_assoc, append-nil, length-take-le}
use Rattle.std.proofs.lemmas.List.Sums.{fold-append}
use Rattle.board_base.specs.Game.{IsGame, touches}
use Rattle.board_base.specs.declared.moves.Move.{Move}
use Rattle.board_base.specs.Rights.{holds}
use Rattle.board_base.specs.declared.castles.Castle.{Castle}
use Rattle.board_base.specs.declared.castles.Castle.TheVariants.{WhiteShort, WhiteLong, BlackShort, BlackLong}
use Rattle.general_lemmas.proofs.Splits.{split_at}
use Rattle.play_rules.specs.States.{Position, StandsFor, Follows, legal_at}
use Rattle.play_rules.proofs.Games.{game_more, no_moves}
use Rattle.play_rules.proofs.Standing.{follows-stands, legal-stands}
use Rattle.game_text.specs.Replay.{FirstIllegal}
use Rattle.san_text.specs.Fits.{fits}
use Rattle.san_text.specs.Games.{LeadTo, ArePlayed}
use Rattle.san_text.specs.Spelling.{next}
use Rattle.san_text.specs.SpelledGames.{AreLegal, FirstNotLegal, IsSpellFault, IsGameSpellFault, state_after}
use Rattle.san_text.specs.declared.grammar.San.{San}
use Rattle.san_text.specs.declared.spelling.SpellFault.{SpellFault}
use Rattle.san_text.specs.declared.spelling.SpellFault.TheVariants.{Illegal, Memory}
use Rattle.std.proofs.lemmas.Bool.{and_parts}

next_rights : (p : Position) (m : Move) (x : Castle) → holds (next p m).rights x ≡ (holds p.rights x && not (touches m x))
next_rights p m WhiteShort = refl
next_rights p m WhiteLong = refl
next_rights p m BlackShort = refl
next_rights p m BlackLong = refl

-- the state after a move follows from the one before it
pub next_follows : (p : Position) (m : Move) → Follows p m (next p m)
next_follows p m = record {
  board_is = refl;
  turn_is = refl;
  rights_are = next_rights p m;
  ep_is = refl;
  clock_is = refl;
}

-- a game goes on by moves that are legal from its state on
pub goes_on : (o : List Bool) (p : Position) (g moves : List Move) → IsGame o g → StandsFor p o g → AreLegal p moves → IsGame o (g ++ moves) × StandsFor (state_after p moves) o (g ++ moves)
goes_on o p g [] game stands legal = (subst (IsGame o) (sym (append-nil g)) game, subst (StandsFor p o) (sym (append-nil g)) stands)
goes_on o p g (m ∷ moves) game stands legal =
    let more : IsGame o (g ++ m ∷ []) = game_more o g m game (sym (legal-stands p o g game stands m) ∙ legal.0) in
    let rest = goes_on o (next p m) (g ++ m ∷ []) moves more (follows-stands p (next p m) o g m stands (next_follows p m)) legal.1 in
    (subst (IsGame o) (append_assoc g (m ∷ []) moves) rest.0, subst (StandsFor (state_after p (m ∷ moves)) o) (append_assoc g (m ∷ []) moves) rest.1)

-- moves that are legal from the state of the array on are a game
pub from_array : (o : List Bool) (p : Position) (moves : List Move) → StandsFor p o [] → AreLegal p moves → IsGame o moves × StandsFor (state_after p moves) o moves
from_array o p moves stands legal = goes_on o p [] moves (no_moves o) stands legal

-- and the first that isn't legal is the first that isn't in the game
pub first_in_game : (o : List Bool) (p : Position) (moves : List Move) (n : ℕ) → StandsFor p o [] → FirstNotLegal p moves n → FirstIllegal o moves n
first_in_game o p moves n stands first =
    let game = from_array o p first.before stands first.legal in
    record {
      before = first.before;
      move = first.move;
      after = first.after;
      split = first.split;
      number = first.number;
      game = game.0;
      illegal = sym (legal-stands (state_after p first.before) o first.before game.0 game.1 first.move) ∙ first.illegal;
    }

pub fault_in_game : (fault : SpellFault) (o : List Bool) (p : Position) (moves : List Move) → StandsFor p o [] → IsSpellFault fault p moves → IsGameSpellFault fault o moves
fault_in_game (Illegal n) o p moves stands is = first_in_game o p moves n stands is
fault_in_game Memory o p moves stands is = tt

-- one more legal move
pub legal_more : (p : Position) (moves : List Move) (m : Move) → AreLegal p moves → legal_at (state_after p moves) m ≡ true → AreLegal p (moves ++ m ∷ [])
legal_more p [] m before here = (here, tt)
legal_more p (n ∷ moves) m before here = (before.0, legal_more (next p n) moves m before.1 here)

pub state_more : (p : Position) (moves : List Move) (m : Move) → state_after p (moves ++ m ∷ []) ≡ next (state_after p moves) m
state_more p moves m = fold-append next p moves (m ∷ [])

-- the first that isn't legal, after those that are
pub first_not : (p : Position) (moves : List Move) (i : ℕ) (m : Move) → i < length moves → m ≡ get_or moves i m → AreLegal p (take i moves) → legal_at (state_after p (take i moves)) m ≡ false → FirstNotLegal p moves (i + 1)
first_not p moves i m below is before here = record {
  before = take i moves;
  move = m;
  after = drop (i + 1) moves;
  split = split_at moves i m below is;
  number = let short : i ≤ length moves = omega arith in ap (λ (n : ℕ). n + 1) (length-take-le i moves short);
  legal = before;
  illegal = here;
}

-- what is said of each ply names a legal move
pub lead_legal : (p : Position) (said : List San) (moves : List Move) (q : Position) → LeadTo p said moves q → AreLegal p moves
unfolding fits
lead_legal p [] [] q leads = tt
lead_legal p [] (m ∷ moves) q leads = absurd leads
lead_legal p (one ∷ said) [] q leads = absurd leads
lead_legal p (one ∷ said) (m ∷ moves) q leads = ((and_parts _ _ leads.0.passes).0, lead_legal (next p m) said moves q leads.1)

-- moves that are named one after another go on as a game
pub played_game : (o : List Bool) (p : Position) (g : List Move) (said : List San) (moves : List Move) → IsGame o g → StandsFor p o g → ArePlayed p said moves → IsGame o (g ++ moves)
played_game o p g said moves game stands played = (goes_on o p g moves game stands (lead_legal p said moves played.end played.leads)).0
