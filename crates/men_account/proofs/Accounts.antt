-- In every game a side's pawns and its men that must have been promoted are at most the pawns with which it began.
use Rattle.std.proofs.Common.{◌≡◌, Bool, true, ◌&&◌, ℕ, List, refl, ap, sym, ◌∙◌}
use Rattle.std.proofs.lemmas.Bool.{le-leb}
use Rattle.std.proofs.Math.Bool.{and-true}
use Rattle.board_base.specs.Board.{Places}
use Rattle.board_base.specs.Game.{IsGame, board_after}
use Rattle.board_base.specs.declared.men.Colour.{Colour}
use Rattle.board_base.specs.declared.men.Kind.TheVariants.{Bishop}
use Rattle.board_base.specs.declared.moves.Move.{Move}
use Rattle.men_account.specs.Account.{accounts_for, allowance_of, counts_of, is_any, is_dark, is_light, men}
use Rattle.men_account.specs.declared.tallies.Allowance.{Allowance}
use Rattle.men_account.specs.declared.tallies.Counts.{Counts}
use Rattle.men_account.proofs.Homes.{promotions-most}

pub accounts_hold : (o : List Bool) (g : List Move) → IsGame o g → (c : Colour) → accounts_for o (board_after o g) c ≡ true
unfolding accounts_for
accounts_hold o g game c = le-leb _ _ (promotions-most o g c is_any game (λ s l label officer. refl))

-- all homes of bishops on squares that pass this test
bishops-all : (c : Colour) (test : ℕ → Bool) (first : Places) → men c Bishop test first ≡ men c Bishop (λ s. test s && is_any s) first
bishops-all c test first = ap (λ (among : ℕ → Bool). men c Bishop among first) (λ i s. sym (and-true (test s)) i)

-- the counts of a first board are what a side begins with there
pub as-begun : (c : Colour) (first : Places) (n : Counts) → n ≡ counts_of c first
    → ◌≡◌ {A = Allowance} (record { pawns = n.pawns; knights = n.knights; light_bishops = n.light_bishops; dark_bishops = n.dark_bishops; rooks = n.rooks; queens = n.queens }) (allowance_of c is_any first)
as-begun c first n e =
    let light = ap (λ (x : Counts). x.light_bishops) e ∙ bishops-all c is_light first in
    let dark = ap (λ (x : Counts). x.dark_bishops) e ∙ bishops-all c is_dark first in
    λ i. record { pawns = (e i).pawns; knights = (e i).knights; light_bishops = light i; dark_bishops = dark i; rooks = (e i).rooks; queens = (e i).queens }
