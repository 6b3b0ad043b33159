use Rattle.diagram_study.specs.Rights.{open_castlings}
use Rattle.diagram_study.proofs.Castlings.{pairs_ordered}
use Rattle.diagram_study.proofs.LastMoves.{left_listed}
use Rattle.diagram_study.proofs.Plain.{found_told}
use Rattle.diagram_study.proofs.findings.unproved.Goals as goal

pub gather-requires-clause-listed : goal.gather-requires-clause-listed
gather-requires-clause-listed c = let has = c.requires.seen.left in left_listed c.args.subject.now.query _ _ _ c.args.seen.left has.are

pub find_ends-requires-clause-listed : goal.find_ends-requires-clause-listed
find_ends-requires-clause-listed c = let has = c.requires.seen.left in left_listed c.args.subject.now.query _ _ _ c.args.seen.left has.are

pub find_ends-requires-clause-texts : goal.find_ends-requires-clause-texts
find_ends-requires-clause-texts c = record { few = c.requires.seen.few; texts = c.requires.seen.texts }

pub returns-clause-found : goal.returns-clause-found
returns-clause-found c =
    let all = c.in_ok-gathered.ensures in
    record {
      illegal = all.illegal;
      unproved = all.unproved;
      rights = all.rights;
      pairs = all.pairs;
      left = c.requires.seen.left;
      all = c.requires.seen.all;
      array = c.requires.array;
      last = c.in_ok-last.ensures.found;
      steps = c.in_ok-steps.ensures.found;
      ends = c.in_ok-ends.ensures.found;
      ledger = c.in_ok-ledger.ensures;
      held = rw (c.as_slice-known.ensures.value, c.as_slice.ensures.value) at c.in_ok-held.ensures;
      games = c.least_length-length.ensures;
    }

pub returns-clause-texts : goal.returns-clause-texts
returns-clause-texts c =
    let all = c.in_ok-gathered.ensures in
    record {
      illegal = all.illegal.decided.texts;
      promotions = found_told c.args.subject.now.query c.in_ok-gathered.gathered.rights.items all.rights.due;
      rights = all.texts;
      order = pairs_ordered (open_castlings c.in_ok-gathered.gathered.rights.items) c.in_ok-gathered.gathered.pairs.items all.pairs.pairs;
      pairs = all.pair_texts;
      left = record { few = c.requires.seen.few; texts = c.requires.seen.texts };
      last = c.in_ok-last.ensures.text;
      steps = c.in_ok-steps.ensures.text;
      ends = c.in_ok-ends.ensures.texts;
    }
