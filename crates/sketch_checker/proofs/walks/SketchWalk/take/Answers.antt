use Rattle.sketch_checker.proofs.walks.SketchWalk.take.Goals as goal

pub invariant_of-self-in-Err : goal.invariant_of-self-in-Err
invariant_of-self-in-Err c = (c.stop.ensures.open, c.stop.ensures.able _)
