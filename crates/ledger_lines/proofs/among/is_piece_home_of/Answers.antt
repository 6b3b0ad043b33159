use Rattle.std.proofs.Common.{◌≡◌, ◌∙◌, ℕ, ap, arith}
use Rattle.std.specs.Prelude.{◌&&◌, Bool}
use Rattle.std.specs.List.{list_any, range_with_len}
use Rattle.board_base.specs.Board.{is_in}
use Rattle.ledger_lines.specs.Known.{is_piece_home, is_piece_home_of}
use Rattle.ledger_lines.proofs.Homes.{any-more}
use Rattle.ledger_lines.proofs.among.is_piece_home_of.Goals as goal

pub loop-i-preserved : goal.loop-i-preserved
loop-i-preserved c =
    let p : ℕ → Bool = λ s. is_in c.args.set s && is_piece_home c.args.query.now c.args.ledger.now s c.args.h in
    any-more p c.loop-i.i c.known.result c.loop-i.found c.is_home_of_one-here.result c.either-found.result c.loop-i.invariant c.known.ensures c.is_home_of_one-here.ensures c.either-found.ensures

pub returns : goal.returns
unfolding is_piece_home_of
returns c =
    let p : ℕ → Bool = λ s. is_in c.args.set s && is_piece_home c.args.query.now c.args.ledger.now s c.args.h in
    let whole : c.loop-i.i ≡ 64 = omega arith in
    c.loop-i.invariant ∙ ap (λ (n : ℕ). list_any p (range_with_len 0 n)) whole
