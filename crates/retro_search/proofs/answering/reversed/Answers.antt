use Rattle.std.proofs.Common.{ℕ, ◌<◌, List, [], ◌∷◌, ◌++◌, length, take, reverse, sym, ap, ◌∙◌, arith}
use Rattle.std.proofs.lemmas.List.{get_or-reverse, length-reverse, take_more}
use Rattle.board_base.specs.declared.unmoves.Unmove.{Unmove}
use Rattle.retro_search.proofs.answering.reversed.Goals as goal

pub loop-i-preserved : goal.loop-i-preserved
loop-i-preserved c =
    let xs : List Unmove = c.args.unmoves.now in
    let i : ℕ = c.loop-i.i in
    let x : Unmove = c.index-unmoves-unmoves.result in
    let inside : i < length (reverse xs) = omega (arith, length-reverse xs) in
    let within : i < length xs = omega arith in
    c.in_ok-push.ensures.ok ∙ ap (λ (l : List Unmove). l ++ x ∷ []) c.loop-i.invariant
    ∙ ap (λ (y : Unmove). take i (reverse xs) ++ y ∷ []) (c.index-unmoves-unmoves.is ∙ sym (get_or-reverse xs i x within)) ∙ sym (take_more (reverse xs) i x inside)
