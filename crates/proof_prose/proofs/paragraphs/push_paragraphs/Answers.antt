use Rattle.std.proofs.Common.{◌≡◌, ◌+◌, ◌++◌, [], ◌∷◌, List, ℕ, ◌∙◌, ap, sym, subst, take, drop, arith}
use Rattle.std.proofs.lemmas.List.{append-nil, drop_all, length-drop, take_rest}
use Rattle.proof_prose.specs.Paragraphs.{paragraph_text, paragraphs_of, said_of, told_after}
use Rattle.proof_prose.specs.Runs.{IsRun, run_of}
use Rattle.proof_prose.specs.declared.bodies.Spoken.{Spoken}
use Rattle.proof_prose.specs.declared.paragraphs.Said.{Said}
use Rattle.proof_prose.proofs.Runs.{told-next}
use Rattle.proof_prose.proofs.paragraphs.push_paragraphs.Goals as goal

pub loop-told-init : goal.loop-told-init
loop-told-init c = record {
  within = omega arith;
  text = ap (λ (l : List Said). c.args.out.now.items ++ told_after l (paragraphs_of c.args.nodes.now)) c.new-said.ensures.items;
}

pub loop-told-preserved : goal.loop-told-preserved
loop-told-preserved c =
    let nodes : List Spoken = c.args.nodes.now in
    let first : Spoken = c.index-nodes-told.result in
    let rest = take_rest nodes (c.loop-told.told + 1) in
    let n : ℕ = c.in_ok-n.n in
    let run : IsRun first (take n (drop (c.loop-told.told + 1) nodes)) (drop n (drop (c.loop-told.told + 1) nodes)) =
    subst (λ (l : List Spoken). IsRun first (take n l) (drop n l)) rest c.in_ok-n.ensures.run in
    let text : c.push_paragraph.new.out.items ≡ c.loop-told.out.items ++ paragraph_text c.loop-told.said.items (run_of first (take n (drop (c.loop-told.told + 1) nodes))) =
    subst (λ (l : List Spoken). c.push_paragraph.new.out.items ≡ c.loop-told.out.items ++ paragraph_text c.loop-told.said.items (run_of first (take n l))) rest c.in_ok-n.ensures.text in
    let said : c.push_paragraph.new.said.items ≡ c.loop-told.said.items ++ said_of (run_of first (take n (drop (c.loop-told.told + 1) nodes))) ∷ [] =
    subst (λ (l : List Spoken). c.push_paragraph.new.said.items ≡ c.loop-told.said.items ++ said_of (run_of first (take n l)) ∷ []) rest c.in_ok-n.ensures.said in
    record {
      within = omega (arith, c.in_ok-n.ensures.few, c.loop-told-test.true, length-drop (c.loop-told.told + 1) nodes);
      text = told-next nodes c.loop-told.told n first c.loop-told.said.items c.push_paragraph.new.said.items c.loop-told.out.items c.push_paragraph.new.out.items c.loop-told-test.true c.index-nodes-told.is run text said ∙ c.loop-told.invariant.text;
    }

pub returns : goal.returns
returns c =
    let none : drop c.loop-told.told c.args.nodes.now ≡ [] = drop_all c.loop-told.told c.args.nodes.now c.loop-told-test.false in
    sym (append-nil c.loop-told.out.items) ∙ ap (λ (l : List Spoken). c.loop-told.out.items ++ told_after c.loop-told.said.items (paragraphs_of l)) (sym none) ∙ c.loop-told.invariant.text
