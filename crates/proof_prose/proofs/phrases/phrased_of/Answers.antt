use Rattle.std.proofs.Common.{◌≡◌, List, [], ◌∷◌, ◌++◌, map, sym, ap, subst, ◌∙◌, arith}
use Rattle.std.specs.List.{All, Contains}
use Rattle.std.proofs.lemmas.List.{append-nil, append_assoc, map-append}
use Rattle.std.proofs.lemmas.List.Elements.{All-contains, All-nil, All-push, Contains-append_right}
use Rattle.general_lemmas.proofs.Lists.{contains-first}
use Rattle.proof_prose.specs.Standing.{IsPhrased, Stands}
use Rattle.proof_prose.specs.declared.nodes.Told.{Told}
use Rattle.proof_prose.specs.declared.phrases.Phrased.{Phrased}
use Rattle.proof_prose.proofs.Runs.{none-left}
use Rattle.proof_prose.proofs.phrases.phrased_of.Goals as goal

pub loop-node-init : goal.loop-node-init
loop-node-init c = record {
  nodes = ap (λ (l : List Phrased). map (λ (p : Phrased). p.node) l ++ c.into_iter-node-iterator.result.rest.items) c.new-all.ensures.items ∙ c.into_iter-node-iterator.ensures.into_iter_gives.0;
  said = subst (λ (l : List Phrased). All IsPhrased l) (sym c.new-all.ensures.items) (All-nil IsPhrased);
}

pub with_phrases-requires : goal.with_phrases-requires
with_phrases-requires c =
    let before : List Told = map (λ (p : Phrased). p.node) c.loop-node.all.items in
    let rest : List Told = c.next.new.self.rest.items in
    let whole : before ++ c.in-Some.node ∷ rest ≡ c.args.nodes.items = ap (λ (l : List Told). before ++ l) (sym c.in-Some.ensures.steps.0) ∙ c.loop-node.invariant.nodes in
    let there : Contains c.args.nodes.items c.in-Some.node =
    subst (λ (l : List Told). Contains l c.in-Some.node) whole (Contains-append_right before (c.in-Some.node ∷ rest) c.in-Some.node (contains-first c.in-Some.node rest)) in
    All-contains Stands c.args.nodes.items c.in-Some.node c.requires there

pub loop-node-preserved : goal.loop-node-preserved
loop-node-preserved c =
    let own : Phrased = c.in_ok-own.own in
    let before : List Told = map (λ (p : Phrased). p.node) c.loop-node.all.items in
    let rest : List Told = c.next.new.self.rest.items in
    let whole : before ++ c.in-Some.node ∷ rest ≡ c.args.nodes.items = ap (λ (l : List Told). before ++ l) (sym c.in-Some.ensures.steps.0) ∙ c.loop-node.invariant.nodes in
    let items : c.push.new.self.items ≡ c.loop-node.all.items ++ own ∷ [] = c.in_ok-push.ensures.items in
    record {
      nodes =
          ap (λ (l : List Phrased). map (λ (p : Phrased). p.node) l ++ rest) items
          ∙ ap (λ (l : List Told). l ++ rest) (map-append (λ (p : Phrased). p.node) c.loop-node.all.items (own ∷ []))
          ∙ ap (λ (t : Told). (before ++ t ∷ []) ++ rest) c.in_ok-own.ensures.node
          ∙ append_assoc before (c.in-Some.node ∷ []) rest
          ∙ whole;
      said = subst (λ (l : List Phrased). All IsPhrased l) (sym items) (All-push IsPhrased c.loop-node.all.items own c.loop-node.invariant.said c.in_ok-own.ensures.said);
    }

pub returns : goal.returns
returns c =
    let before : List Told = map (λ (p : Phrased). p.node) c.loop-node.all.items in
    let none : c.loop-node.node-iterator.rest.items ≡ [] = none-left c.loop-node.node-iterator.rest.items (omega (arith, c.in-None.ensures.steps.0, c.loop-node.node-iterator.rest.ok.0)) in record {
      nodes = sym c.loop-node.invariant.nodes ∙ ap (λ (l : List Told). before ++ l) none ∙ append-nil before;
      said = c.loop-node.invariant.said;
    }
