use Rattle.proof_story.proofs.checking.is_readable.Goals as goal

pub returns : goal.returns
returns c = λ yes. record {
  ordered = c.are_ordered.ensures c.if-not-are_ordered.false;
  numbered = c.are_numbered.ensures c.if-not-are_numbered.false;
  back = c.all_refer_back.ensures c.if-not-all_refer_back.false;
  castlings = c.all_tell_castlings.ensures yes;
}
