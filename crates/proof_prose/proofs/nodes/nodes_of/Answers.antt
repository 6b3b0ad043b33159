use Rattle.std.proofs.lemmas.List.Elements.{All-same}
use Rattle.cert_text.specs.Seen.{tree_of}
use Rattle.cert_text.specs.SeenCert.{cert_of}
use Rattle.cert_checker.specs.Proving.{target_of}
use Rattle.proof_prose.specs.Standing.{Stands}
use Rattle.proof_prose.proofs.Trees.{stand_all}
use Rattle.proof_prose.proofs.nodes.nodes_of.Goals as goal

pub returns : goal.returns
returns c =
    let nodes = rw c.aim_of-aim.ensures at c.in_ok-nodes.ensures in
    record {
      nodes = nodes;
      stand = All-same Stands _ _ nodes (stand_all (target_of (cert_of c.args.cert.now)) (tree_of c.args.cert.now.root) c.requires);
    }
