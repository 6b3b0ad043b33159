use Rattle.std.proofs.Common.{◌∙◌, ◌+◌, ◌*◌, ℕ, List, [], ◌∷◌, ◌++◌, ap, append_assoc, arith}
use Rattle.std.specs.List.{flat_map, range_with_len}
use Rattle.proof_prose.specs.Heads.{rank_text, place_text}
use Rattle.prose_words.proofs.Squares.{flat_more, flat_whole}
use Rattle.proof_prose.proofs.heads.push_rank.Goals as goal

pub loop-file-preserved : goal.loop-file-preserved
loop-file-preserved c =
    rw c.known.ensures at c.in_ok-push_place.ensures ∙ flat_more (λ f. place_text c.args.board.now (8 * c.args.rank + f)) _ _ _ c.loop-file.invariant

pub returns : goal.returns
unfolding rank_text
returns c =
    let f : ℕ → List ℕ = λ f. place_text c.args.board.now (8 * c.args.rank + f) in
    flat_whole f c.push.new.self.items _ _ 8 c.loop-file.invariant (omega arith)
    ∙ ap (λ (l : List ℕ). l ++ flat_map f (range_with_len 0 8)) c.in_ok-push.ensures.items
    ∙ append_assoc c.args.out.now.items ((49 + c.args.rank) ∷ []) (flat_map f (range_with_len 0 8))
