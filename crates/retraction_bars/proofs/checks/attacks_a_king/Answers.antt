use Rattle.std.proofs.Common.{◌&&◌, sym, ◌∙◌, arith, ℕ, Bool, refl}
use Rattle.general_lemmas.proofs.Ranges.{any_step, any_stop, any_end}
use Rattle.board_base.specs.Attacks.{attacks_from}
use Rattle.board_base.specs.Board.{Places, at, is_the, opponent}
use Rattle.board_base.specs.declared.men.Colour.{Colour}
use Rattle.board_base.specs.declared.men.Kind.TheVariants.{King}
use Rattle.retraction_bars.specs.Bars.{attacks_a_king}
use Rattle.retraction_bars.proofs.checks.attacks_a_king.Goals as goal

abbrev test : Places → Colour → ℕ → ℕ → Bool
test board c s k = is_the (opponent c) King (at board k) && attacks_from board s k

pub loop-i-init : goal.loop-i-init
unfolding attacks_a_king
loop-i-init c = refl

pub returns-then-attacks_king : goal.returns-then-attacks_king
returns-then-attacks_king c =
    let found = rw c.known.ensures at (sym c.attacks_king.ensures ∙ c.if-attacks_king.true) in
    any_stop (test c.args.board.now c.args.colour c.args.s) c.loop-i.i 64 _ c.loop-i-test.true found c.loop-i.invariant

pub loop-i-preserved : goal.loop-i-preserved
loop-i-preserved c =
    let none = rw c.known.ensures at (sym c.attacks_king.ensures ∙ c.if-attacks_king.false) in
    any_step (test c.args.board.now c.args.colour c.args.s) c.loop-i.i 64 _ c.loop-i-test.true none c.loop-i.invariant

pub returns : goal.returns
returns c = any_end (test c.args.board.now c.args.colour c.args.s) c.loop-i.i 64 _ (omega arith) c.loop-i.invariant
