use Rattle.cert_checker.specs.Sketches.{files_of}
use Rattle.sketch_findings.proofs.SameFiles.{same-files}
use Rattle.std.proofs.Common.{◌≡◌, rules}
use Rattle.sketch_findings.proofs.bodies.has_files.Goals as goal

pub returns : goal.returns
returns c =
    let found : c.exact_files.result ≡ files_of c.args.body.now.files = search rules in
    same-files c.exact_files.result (files_of c.args.body.now.files) c.args.exact.now c.eq.result found c.eq.ensures
