use Rattle.std.proofs.Common.{◌≡◌, ℕ, ◌++◌, List, length, ap, refl, ◌∙◌, arith}
use Rattle.prose_words.proofs.Squares.{flat_more, flat_whole}
use Rattle.board_base.specs.Board.{men_squares}
use Rattle.balance_prose.specs.AccountWords.{counted_man, men_words, nth_man}
use Rattle.balance_prose.proofs.Known.{man-inside}
use Rattle.balance_prose.proofs.making.push_men.Goals as goal

pub known-s-requires : goal.known-s-requires
known-s-requires c =
    let same : c.deref.result.now ≡ men_squares c.args.side c.args.board.now = c.deref.ensures.0 ∙ c.squares_of_men-squares.ensures in
    let some = ap (λ (l : List ℕ). length l) c.squares_of_men-squares.ensures in
    let many = c.len-k-end.ensures.value in
    rw same (man-inside c.args.side c.args.board.now c.loop-k.k (omega (arith, some, many)))

pub loop-k-preserved : goal.loop-k-preserved
loop-k-preserved c =
    let f = nth_man c.args.board.now c.args.side c.args.rows.now c.args.homes.now in
    let same : c.deref.result.now ≡ men_squares c.args.side c.args.board.now = c.deref.ensures.0 ∙ c.squares_of_men-squares.ensures in
    let words : counted_man c.home_of-home.result c.at.result c.known-s.result c.saturating_sub.result ≡ f c.loop-k.k =
    rw (c.home_of-home.ensures, c.at.ensures.man, c.known-s.ensures, same, c.saturating_sub.ensures) refl in
    c.in_ok-push_man.ensures ∙ ap (λ (l : List ℕ). c.loop-k.list.items ++ l) words ∙ flat_more f c.args.list.now.items _ _ c.loop-k.invariant

pub returns : goal.returns
unfolding men_words
returns c =
    let some = ap (λ (l : List ℕ). length l) c.squares_of_men-squares.ensures in
    let many = c.len-k-end.ensures.value in
    flat_whole (nth_man c.args.board.now c.args.side c.args.rows.now c.args.homes.now) c.args.list.now.items _ _ (length (men_squares c.args.side c.args.board.now)) c.loop-k.invariant (omega (arith, some, many))
