use Rattle.men_account.proofs.Labelled.{labels_after-more, length-labels, labels-each_man, labels-apart, labels-colours, labels-promotions}
use Rattle.men_account.proofs.PawnLaws.{himself}
use Rattle.men_account.proofs.laws.men_keep_labels.Goals as goal

pub returns-clause-moved : goal.returns-clause-moved
returns-clause-moved c = labels_after-more

pub returns-clause-whole : goal.returns-clause-whole
returns-clause-whole c = length-labels

pub returns-clause-each_man : goal.returns-clause-each_man
returns-clause-each_man c = labels-each_man

pub returns-clause-apart : goal.returns-clause-apart
returns-clause-apart c = labels-apart

pub returns-clause-colours : goal.returns-clause-colours
returns-clause-colours c = labels-colours

pub returns-clause-promotions : goal.returns-clause-promotions
returns-clause-promotions c = labels-promotions

pub returns-clause-officers : goal.returns-clause-officers
returns-clause-officers c = himself
