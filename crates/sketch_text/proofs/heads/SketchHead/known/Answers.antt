use Rattle.sketch_text.proofs.StoredHead.{IsStored-known}
use Rattle.sketch_text.proofs.heads.SketchHead.known.Goals as goal

pub invariant_of-result : goal.invariant_of-result
invariant_of-result c = IsStored-known c.args.prices c.args.files.now c.copy_from_slice.new.self c.copy_from_slice.ensures.after c.requires
