use Rattle.std.proofs.Common.{◌≡◌, ℕ, ◌<◌, ◌++◌, List, length, ap, sym, refl, ◌∙◌, arith}
use Rattle.std.proofs.lemmas.List.Elements.{Contains-get_or}
use Rattle.prose_words.proofs.Squares.{flat_more, flat_whole}
use Rattle.pawn_assign.specs.PawnCosts.{pawn_squares}
use Rattle.pawn_assign.proofs.Ascending.{pawns}
use Rattle.proof_sentences.specs.Sentences.{nth_way, pawn_words, ways_words}
use Rattle.proof_sentences.proofs.pawn_facts.list_ways.Goals as goal

pub known-s-requires : goal.known-s-requires
known-s-requires c =
    let same : c.deref.result.now ≡ pawn_squares c.args.side c.query.inside.board = c.deref.ensures.0 ∙ c.pawn_squares-squares.ensures in
    let some = ap (λ (l : List ℕ). length l) c.pawn_squares-squares.ensures in
    let many = c.len-k-end.ensures.value in
    let low : c.loop-k.k < length (pawn_squares c.args.side c.query.inside.board) = omega (arith, some, many) in
    rw same ((pawns c.args.side c.query.inside.board _).0 (Contains-get_or (pawn_squares c.args.side c.query.inside.board) c.loop-k.k 0 low)).0

pub loop-k-preserved : goal.loop-k-preserved
loop-k-preserved c =
    let same : c.deref.result.now ≡ pawn_squares c.args.side c.args.query.now.board = rw (sym c.query.view_is) (c.deref.ensures.0 ∙ c.pawn_squares-squares.ensures) in
    let words : pawn_words c.pawn_home-home.result c.known-s.result c.cost.result ≡ nth_way c.args.query.now c.args.side c.args.files.now c.loop-k.k =
    rw (c.pawn_home-home.ensures, c.known-s.ensures, same, c.cost.ensures.value, c.requires.costs) refl in
    c.in_ok-push_pawn.ensures
    ∙ ap (λ (l : List ℕ). c.loop-k.list.items ++ l) words
    ∙ flat_more (nth_way c.args.query.now c.args.side c.args.files.now) c.args.list.now.items _ _ c.loop-k.invariant

pub returns : goal.returns
unfolding ways_words
returns c =
    let same : c.pawn_squares-squares.result.items ≡ pawn_squares c.args.side c.args.query.now.board = rw (sym c.query.view_is) c.pawn_squares-squares.ensures in
    let some = ap (λ (l : List ℕ). length l) same in
    let many = c.len-k-end.ensures.value in
    flat_whole (nth_way c.args.query.now c.args.side c.args.files.now) c.args.list.now.items _ _ (length (pawn_squares c.args.side c.args.query.now.board)) c.loop-k.invariant (omega (arith, some, many))
