use Rattle.std.proofs.Common.{List, ◌++◌, ◌∷◌, sym, ap, ◌∙◌, arith}
use Rattle.std.specs.List.{flat_map}
use Rattle.std.proofs.lemmas.List.{take_all}
use Rattle.board_base.specs.Texts.{unmove_text, unmove_words}
use Rattle.board_base.specs.declared.unmoves.Unmove.{Unmove}
use Rattle.claim_findings.proofs.Steps.{at_place, piece_more}
use Rattle.claim_findings.proofs.lines.push_unmoves.Goals as goal

pub loop-i-preserved : goal.loop-i-preserved
loop-i-preserved c =
    piece_more (λ (u : Unmove). 32 ∷ unmove_text u) _ c.args.left.now c.loop-i.i _ _ _ (omega arith) (at_place c.args.left.now c.loop-i.i _ (sym c.get.ensures ∙ c.unwrap.ensures)) c.loop-i.invariant c.in_ok-push_unmove.ensures

pub returns : goal.returns
unfolding unmove_words
returns c = c.loop-i.invariant ∙ ap (λ (l : List Unmove). c.args.text.now.items ++ flat_map (λ (u : Unmove). 32 ∷ unmove_text u) l) (take_all c.loop-i.i c.args.left.now (omega arith))
