use Rattle.retro_top.proofs.Table.{commands-named, named-commands}
use Rattle.retro_top.proofs.rows.look_up.Goals as goal

pub returns-clause-known : goal.returns-clause-known
returns-clause-known c =
    (λ s. named-commands c.args.name.now (c.find.ensures.known.0 s), λ h. c.find.ensures.known.1 (commands-named c.args.name.now h))
