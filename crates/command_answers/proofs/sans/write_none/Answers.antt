use Rattle.std.proofs.Common.{append_assoc}
use Rattle.command_answers.proofs.sans.write_none.Goals as goal

pub returns : goal.returns
returns c = simp append_assoc (rw c.into_bytes.ensures.value c.in_ok-format.ensures.ok)
