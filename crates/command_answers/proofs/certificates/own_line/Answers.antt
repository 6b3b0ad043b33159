use Rattle.cert_text.specs.Certificate.{body_of}
use Rattle.cert_text.specs.Seen.{tree_of}
use Rattle.command_answers.proofs.CertificateLines.{few-children, few-prices}
use Rattle.command_answers.proofs.certificates.own_line.Goals as goal

pub body_line-body-requires-clause-children : goal.body_line-body-requires-clause-children
body_line-body-requires-clause-children c n e = few-children c.args.label (body_of (tree_of c.args.node.now)) n c.requires e

pub body_line-body-requires-clause-prices : goal.body_line-body-requires-clause-prices
body_line-body-requires-clause-prices c h e = few-prices c.args.label (body_of (tree_of c.args.node.now)) h c.requires e
