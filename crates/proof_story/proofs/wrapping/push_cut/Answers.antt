use Rattle.std.proofs.Common.{◌≡◌, ◌+◌, ℕ, suc, List, ◌∷◌, [], ◌++◌, drop, get_or, ap, sym, subst, ◌∙◌, arith}
use Rattle.std.proofs.Math.Seq.{drop-cons}
use Rattle.std.proofs.lemmas.List.{append-nil, drop_all, take_rest}
use Rattle.proof_story.specs.Rows.{cut_from}
use Rattle.proof_story.proofs.wrapping.push_cut.Goals as goal

pub loop-i-preserved : goal.loop-i-preserved
loop-i-preserved c =
    let line : List ℕ = c.args.line.now in
    let i : ℕ = c.loop-i.i in
    let letter : ℕ = get_or line i 0 in
    let one : suc i ≡ i + 1 = omega arith in
    let whole : drop i line ≡ letter ∷ drop (i + 1) line = drop-cons line i 0 c.loop-i-test.true ∙ ap (λ (k : ℕ). letter ∷ drop k line) one in
    let step : c.push_letter.new.out.items ++ cut_from c.in_ok-column.column (drop (i + 1) line) ≡ c.loop-i.out.items ++ cut_from c.loop-i.column (letter ∷ drop (i + 1) line) =
    subst (λ (l : List ℕ). c.push_letter.new.out.items ++ cut_from c.in_ok-column.column l ≡ c.loop-i.out.items ++ cut_from c.loop-i.column (letter ∷ l)) (take_rest line (i + 1)) c.in_ok-column.ensures.cut in
    record {
      cut = step ∙ ap (λ (l : List ℕ). c.loop-i.out.items ++ cut_from c.loop-i.column l) (sym whole) ∙ c.loop-i.invariant.cut;
      few = c.in_ok-column.ensures.next (i + 1 + 4) (omega (arith, c.loop-i.invariant.few)) (omega arith);
    }

pub returns : goal.returns
returns c =
    let none : drop c.loop-i.i c.args.line.now ≡ [] = drop_all c.loop-i.i c.args.line.now c.loop-i-test.false in
    sym (append-nil c.loop-i.out.items) ∙ ap (λ (l : List ℕ). c.loop-i.out.items ++ cut_from c.loop-i.column l) (sym none) ∙ c.loop-i.invariant.cut
