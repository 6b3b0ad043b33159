use Rattle.std.proofs.Common.{◌≡◌, ℕ, ◌<◌, length, ap, ◌∙◌, arith, below_more, get_or-set_same, get_or-set_other, length-set}
use Rattle.std.specs.Prelude.{None, slice_set}
use Rattle.board_base.specs.Board.{Places, at, recoloured, reflected}
use Rattle.board_base.proofs.boards.Board.mirror.Goals as goal

pub loop-i-preserved : goal.loop-i-preserved
loop-i-preserved c =
    let i : ℕ = c.loop-i.i in
    let put : c.put.new.self ≡ slice_set c.loop-i.board i c.recoloured.result =
    c.put.ensures ∙ ap (λ (s : ℕ). slice_set c.loop-i.board s c.recoloured.result) c.known-s.ensures in
    let inside : i < length c.loop-i.board = omega arith in
    let from : c.known-opposite.result ≡ reflected i = omega arith in
    record {
      size = ap (λ (board : Places). length board) put ∙ length-set c.loop-i.board i c.recoloured.result ∙ c.loop-i.invariant.size;
      done = below_more _ _
          (λ k low. let other : k ≡ i → ⊥ = omega arith in
          ap (λ (board : Places). at board k) put ∙ get_or-set_other c.loop-i.board i k c.recoloured.result None other ∙ c.loop-i.invariant.done k low)
          (ap (λ (board : Places). at board i) put ∙ get_or-set_same c.loop-i.board i c.recoloured.result None inside
          ∙ c.recoloured.ensures ∙ ap recoloured (c.at.ensures.man ∙ ap (at c.args.self.now) from));
    }
