-- Kings by the set of their squares.
use Rattle.std.proofs.Common.{◌≡◌, ℕ, Bool, false, List, sym, ap, ◌∙◌}
use Rattle.std.proofs.lemmas.Bool.{and_right}
use Rattle.std.proofs.Math.ListN.{get_or-map}
use Rattle.std.specs.Prelude.{None}
use Rattle.board_base.specs.Board.{Places, at, is_a, is_in, is_of, is_the}
use Rattle.board_base.specs.declared.men.Colour.{Colour}
use Rattle.board_base.specs.declared.men.Kind.TheVariants.{King}
use Rattle.play_rules.specs.KingSets.{kings_on}

-- outside the set no king stands
pub no-king : (board : Places) (kings : List Bool) (c : Colour) (s : ℕ) → kings_on board ≡ kings → is_in kings s ≡ false → is_the c King (at board s) ≡ false
no-king board kings c s same out =
    and_right (is_of c (at board s)) _ (sym (get_or-map (is_a King) board s None) ∙ ap (λ (l : List Bool). is_in l s) same ∙ out)
