use Rattle.front_door.proofs.Asking.{asks-certificate}
use Rattle.front_door.proofs.hints.ask_for_certificate.Goals as goal

pub returns-in-Some : goal.returns-in-Some
returns-in-Some c certificate =
    asks-certificate c.args.words.now c.in-Some.row.name.now c.in-Some.row.input c.in-Some.ensures.named c.in-Some.ensures.reading (c.is_certificate.ensures certificate)
