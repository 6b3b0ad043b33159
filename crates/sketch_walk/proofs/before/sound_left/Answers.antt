use Rattle.std.proofs.Common.{sym, ◌∙◌}
use Rattle.std.proofs.lemmas.Bool.{both_ways}
use Rattle.sketch_list.specs.Listed.{is_sound}
use Rattle.sketch_steps.specs.Places.{recounted}
use Rattle.sketch_sets.specs.TrimmedOut.{trimmed_out}
use Rattle.sketch_walk.proofs.Thinning.{sound-before}
use Rattle.sketch_walk.proofs.before.sound_left.Goals as goal

pub returns-then-not-is_sound : goal.returns-then-not-is_sound
returns-then-not-is_sound c = λ sound. both_ways (is_sound (trimmed_out (recounted c.args.whole.now)) c.args.figure.now) (sound-before c.args.whole.now c.args.figure.now (sym c.is_sound.ensures ∙ c.if-not-is_sound.true)) sound
