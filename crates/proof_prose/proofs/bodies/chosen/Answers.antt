use Rattle.std.proofs.Common.{◌≡◌, List, [], ◌∷◌, ◌++◌, map, sym, ap, subst, ◌∙◌, arith}
use Rattle.std.specs.List.{All}
use Rattle.std.proofs.lemmas.List.{append-nil, append_assoc, map-append}
use Rattle.std.proofs.lemmas.List.Elements.{All-head, All-nil, All-push, All-tail}
use Rattle.proof_prose.specs.Bodies.{IsSpoken}
use Rattle.proof_prose.specs.Standing.{IsPhrased}
use Rattle.proof_prose.specs.declared.bodies.Spoken.{Spoken}
use Rattle.proof_prose.specs.declared.nodes.Told.{Told}
use Rattle.proof_prose.specs.declared.phrases.Phrased.{Phrased}
use Rattle.proof_prose.proofs.Runs.{none-left}
use Rattle.proof_prose.proofs.bodies.chosen.Goals as goal

pub loop-phrased-init : goal.loop-phrased-init
loop-phrased-init c = record {
  nodes =
      ap (λ (l : List Spoken). map (λ (s : Spoken). s.node) l ++ map (λ (p : Phrased). p.node) c.into_iter-phrased-iterator.result.rest.items) c.new-told.ensures.items
      ∙ ap (λ (l : List Phrased). map (λ (p : Phrased). p.node) l) c.into_iter-phrased-iterator.ensures.into_iter_gives.0;
  left = subst (λ (l : List Phrased). All IsPhrased l) (sym c.into_iter-phrased-iterator.ensures.into_iter_gives.0) c.requires;
  said = subst (λ (l : List Spoken). All IsSpoken l) (sym c.new-told.ensures.items) (All-nil IsSpoken);
}

pub spoken_as-own-requires : goal.spoken_as-own-requires
spoken_as-own-requires c =
    All-head IsPhrased c.in-Some.phrased c.next.new.self.rest.items (subst (λ (l : List Phrased). All IsPhrased l) c.in-Some.ensures.steps.0 c.loop-phrased.invariant.left)

pub loop-phrased-preserved : goal.loop-phrased-preserved
loop-phrased-preserved c =
    let own : Spoken = c.spoken_as-own.result in
    let before : List Told = map (λ (s : Spoken). s.node) c.loop-phrased.told.items in
    let rest : List Phrased = c.next.new.self.rest.items in
    let behind : List Told = map (λ (p : Phrased). p.node) rest in
    let items : c.push.new.self.items ≡ c.loop-phrased.told.items ++ own ∷ [] = c.in_ok-push.ensures.items in
    record {
      nodes =
          ap (λ (l : List Spoken). map (λ (s : Spoken). s.node) l ++ behind) items
          ∙ ap (λ (l : List Told). l ++ behind) (map-append (λ (s : Spoken). s.node) c.loop-phrased.told.items (own ∷ []))
          ∙ ap (λ (t : Told). (before ++ t ∷ []) ++ behind) c.spoken_as-own.ensures.node
          ∙ append_assoc before (c.in-Some.phrased.node ∷ []) behind
          ∙ ap (λ (l : List Phrased). before ++ map (λ (p : Phrased). p.node) l) (sym c.in-Some.ensures.steps.0)
          ∙ c.loop-phrased.invariant.nodes;
      left = All-tail IsPhrased c.in-Some.phrased rest (subst (λ (l : List Phrased). All IsPhrased l) c.in-Some.ensures.steps.0 c.loop-phrased.invariant.left);
      said = subst (λ (l : List Spoken). All IsSpoken l) (sym items) (All-push IsSpoken c.loop-phrased.told.items own c.loop-phrased.invariant.said c.spoken_as-own.ensures.said);
    }

pub returns : goal.returns
returns c =
    let before : List Told = map (λ (s : Spoken). s.node) c.loop-phrased.told.items in
    let none : c.loop-phrased.phrased-iterator.rest.items ≡ [] = none-left c.loop-phrased.phrased-iterator.rest.items (omega (arith, c.in-None.ensures.steps.0, c.loop-phrased.phrased-iterator.rest.ok.0)) in
    (sym c.loop-phrased.invariant.nodes ∙ ap (λ (l : List Phrased). before ++ map (λ (p : Phrased). p.node) l) none ∙ append-nil before, c.loop-phrased.invariant.said)
