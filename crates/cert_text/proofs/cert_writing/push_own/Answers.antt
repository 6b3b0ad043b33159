use Rattle.std.proofs.Common.{subst, sym}
use Rattle.cert_text.specs.Seen.{tree_of}
use Rattle.cert_text.specs.Written.{IsSketchLine}
use Rattle.cert_text.proofs.WrittenTrees.{few_children, few_prices, sketch_line}
use Rattle.cert_text.proofs.cert_writing.push_own.Goals as goal

pub body_line-body-requires-clause-children : goal.body_line-body-requires-clause-children
body_line-body-requires-clause-children c n e = few_children (tree_of c.args.node.now) c.requires.fits.0 n c.requires.fits.1 e

pub body_line-body-requires-clause-prices : goal.body_line-body-requires-clause-prices
body_line-body-requires-clause-prices c h e = few_prices (tree_of c.args.node.now) c.requires.fits.0 h c.requires.fits.1 e

pub push_line-requires-clause-known : goal.push_line-requires-clause-known
push_line-requires-clause-known c = subst IsSketchLine (sym c.body_line-body.ensures) (sketch_line (tree_of c.args.node.now) c.requires.fits.0 c.requires.fits.1)
