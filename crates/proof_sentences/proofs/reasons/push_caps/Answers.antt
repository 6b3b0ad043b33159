use Rattle.std.proofs.Common.{[], ◌∷◌, subst, arith}
use Rattle.std.proofs.lemmas.Result.{IfOk-weaker}
use Rattle.board_base.specs.Board.{opponent}
use Rattle.board_base.specs.declared.men.Colour.{Colour}
use Rattle.cage_rules.specs.Refuted.{NeedTooMany}
use Rattle.proof_sentences.specs.Reasons.{Adds}
use Rattle.proof_sentences.specs.Sentences.{NeverMoved}
use Rattle.proof_sentences.specs.declared.sentences.PawnFact.TheVariants.{Lacks}
use Rattle.proof_sentences.specs.declared.sentences.Sentence.TheVariants.{OnPawns, Settled}
use Rattle.proof_sentences.proofs.Adding.{adds-three, needs-back}
use Rattle.proof_sentences.proofs.TooMany.{least-too-many}
use Rattle.proof_sentences.proofs.reasons.push_caps.Goals as goal

pub told_way-requires : goal.told_way-requires
told_way-requires c = record {
  never = (c.requires.settled.frozen, c.requires.settled.as_array);
  too_many = least-too-many c.args.query.now c.args.set c.args.side c.args.p.now.u c.args.p.now.v (omega (arith, c.requires.above.pawns, c.requires.above.eight)) c.requires.above.needs;
}

pub unwrap-way-requires : goal.unwrap-way-requires
unwrap-way-requires c = c.told_way.ensures.some (omega (arith, c.requires.above.pawns, c.requires.above.eight))

pub push_sentence-requires-2 : goal.push_sentence-requires-2
push_sentence-requires-2 c = rw c.unwrap-way.ensures at c.told_way.ensures.says

pub push_sentence-requires-3 : goal.push_sentence-requires-3
push_sentence-requires-3 c =
    let needs : NeedTooMany c.args.query.now.odds c.args.query.now c.args.set (opponent c.other-other.result) c.args.p.now.u c.args.p.now.v =
    rw c.other-other.ensures (needs-back c.args.query.now.odds c.args.query.now c.args.set c.args.side c.args.p.now.u c.args.p.now.v c.requires.above.needs) in
    ((c.requires.settled.frozen, c.requires.settled.as_array), c.missing_of-missing.ensures, (c.args.p.now, needs))

pub returns : goal.returns
returns c =
    let never : NeverMoved c.args.query.now c.args.set = (c.requires.settled.frozen, c.requires.settled.as_array) in
    let needs : NeedTooMany c.args.query.now.odds c.args.query.now c.args.set (opponent c.other-other.result) c.args.p.now.u c.args.p.now.v =
    rw c.other-other.ensures (needs-back c.args.query.now.odds c.args.query.now c.args.set c.args.side c.args.p.now.u c.args.p.now.v c.requires.above.needs) in
    let says = rw c.unwrap-way.ensures at c.told_way.ensures.says in
    IfOk-weaker c.push_sentence-3.result _ _ (λ done words.
    let all = adds-three c.args.query.now (Settled c.args.set) c.unwrap-way.result (OnPawns (Lacks c.other-other.result c.args.set c.missing_of-missing.result c.args.first)) c.args.out.now.items _ _ c.push_sentence-3.new.out.items never says
    (never, c.missing_of-missing.ensures, (c.args.p.now, needs)) c.in_ok-push_sentence.ensures c.in_ok-push_sentence-2.ensures words in (
      c.unwrap-way.result,
      c.missing_of-missing.result,
      rw c.unwrap-way.ensures at c.told_way.ensures.shape,
      subst (λ (d : Colour). Adds c.args.query.now (Settled c.args.set ∷ c.unwrap-way.result ∷ OnPawns (Lacks d c.args.set c.missing_of-missing.result c.args.first) ∷ []) c.args.out.now.items c.push_sentence-3.new.out.items) c.other-other.ensures all,
    )) c.push_sentence-3.ensures
