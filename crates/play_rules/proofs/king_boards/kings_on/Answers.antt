use Rattle.std.proofs.Common.{◌≡◌, ℕ, ◌<◌, ◌==◌, ◌&&◌, Bool, false, List, length, map, ap, sym, ◌∙◌, arith}
use Rattle.std.proofs.lemmas.Bool.{le-ltb, lt-ltb}
use Rattle.std.proofs.lemmas.List.{ext_get_or, length-map}
use Rattle.std.proofs.lemmas.Nat.Bits.{bit_at-zero}
use Rattle.std.proofs.Math.ListN.{get_or-map}
use Rattle.std.specs.Prelude.{None}
use Rattle.board_base.specs.Board.{at, is_a, is_in}
use Rattle.board_base.specs.SquareNumbers.{is_in-squares_of, length-squares_of}
use Rattle.board_base.specs.declared.men.Kind.TheVariants.{King}
use Rattle.play_rules.proofs.king_boards.kings_on.Goals as goal

pub loop-i-init : goal.loop-i-init
loop-i-init c = record {
  size = ap length c.from_bits-kings.ensures.squares ∙ length-squares_of 0;
  members = λ s small. ap (λ (l : List Bool). is_in l s) c.from_bits-kings.ensures.squares ∙ is_in-squares_of 0 s small ∙ ap (λ (n : ℕ). n == 1) (bit_at-zero s) ∙ ap (λ (b : Bool). b && is_a King (at c.args.board.now s)) (sym (le-ltb s 0 (omega arith)));
}

pub returns : goal.returns
returns c =
    let size : length c.args.board.now ≡ 64 = c.is_whole.ensures in
    let places : length (map (is_a King) c.args.board.now) ≡ 64 = length-map c.args.board.now (is_a King) ∙ size in
    ext_get_or false _ _ (places ∙ sym c.loop-i.invariant.size) (λ s low.
    let small : s < 64 = omega arith in
    get_or-map (is_a King) c.args.board.now s None
    ∙ sym (c.loop-i.invariant.members s small ∙ ap (λ (b : Bool). b && is_a King (at c.args.board.now s)) (lt-ltb s c.loop-i.i (omega arith))))
