use Rattle.std.proofs.Common.{◌∙◌, ℕ, List, arith}
use Rattle.std.specs.List.{list_any, range_with_len}
use Rattle.std.specs.Prelude.{Bool}
use Rattle.board_base.specs.Board.{is_in}
use Rattle.prose_words.proofs.Squares.{flat_more, flat_whole}
use Rattle.ledger_lines.specs.LineTexts.{home_word, homes_words}
use Rattle.ledger_lines.proofs.Homes.{any-more, home-told}
use Rattle.ledger_lines.proofs.writing.push_homes.Goals as goal

pub loop-i-preserved : goal.loop-i-preserved
loop-i-preserved c =
    let homes : List Bool = c.args.homes in
    record {
      text = home-told homes c.loop-i.i c.known-h.result c.has-given.result c.loop-i.several _ _ c.known-h.ensures c.has-given.ensures.member c.loop-i.invariant.before c.in_ok-push_home_if.ensures
          ∙ flat_more (λ (h : ℕ). home_word (is_in homes h) (list_any (is_in homes) (range_with_len 0 h)) h) _ _ c.loop-i.i c.loop-i.invariant.text;
      before = any-more (is_in homes) c.loop-i.i c.known-h.result c.loop-i.several c.has-given.result c.either-several.result c.loop-i.invariant.before c.known-h.ensures c.has-given.ensures.member c.either-several.ensures;
    }

pub returns : goal.returns
unfolding homes_words
returns c = flat_whole (λ (h : ℕ). home_word (is_in c.args.homes h) (list_any (is_in c.args.homes) (range_with_len 0 h)) h) _ _ _ 64 c.loop-i.invariant.text (omega arith)
