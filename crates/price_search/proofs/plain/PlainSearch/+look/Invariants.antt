use Rattle.price_search.proofs.plain.PlainSearch.+look.Given as goal

abbrev pub decreases-look : goal.decreases-look
decreases-look l = l.left
