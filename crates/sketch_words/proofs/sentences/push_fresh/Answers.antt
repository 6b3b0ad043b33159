use Rattle.sketch_words.proofs.sentences.push_fresh.Goals as goal

pub returns : goal.returns
returns c = rw (c.as_slice.ensures.value, c.as_slice-2.ensures.value, c.in_ok-kept.ensures, c.in_ok-others.ensures, c.both.ensures, c.without.ensures, c.held_homes-homes.ensures) at c.push_unmoved_of.ensures
