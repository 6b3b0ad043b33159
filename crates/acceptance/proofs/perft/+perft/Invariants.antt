use Rattle.acceptance.proofs.perft.+perft.Given as goal

abbrev pub decreases-perft : goal.decreases-perft
decreases-perft l = l.depth
