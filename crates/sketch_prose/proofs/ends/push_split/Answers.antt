use Rattle.std.proofs.Common.{◌≡◌, List, ap, subst, sym}
use Rattle.std.specs.Prelude.{Some}
use Rattle.prose_words.proofs.Squares.{thence}
use Rattle.sketch_checker.specs.DueNodes.{Due, cases_from}
use Rattle.sketch_checker.proofs.Below.{first-one}
use Rattle.sketch_checker.specs.Walks.{AreDue}
use Rattle.sketch_proof.specs.Proofs.{Setting}
use Rattle.sketch_prose.proofs.ends.push_split.Goals as goal
use Rattle.sketch_prose.specs.Bases.{setting_with}
use Rattle.sketch_prose.specs.Children.{AreChildren}
use Rattle.sketch_prose.specs.Ending.{level_of}
use Rattle.sketch_text.specs.declared.labels.Officer.TheVariants.{Knight}

pub returns-in_default : goal.returns-in_default
returns-in_default c = λ prices i ns rest first many lines due. absurd (c.in_default.ensures i first.there)

-- The number that was found is i, since both are the first; the cases of both are the same.
pub returns : goal.returns
returns c = λ prices i ns rest first many lines due.
    let g : Setting = setting_with c.args.base.now prices in
    let same : c.in-Some.number ≡ i = first-one c.args.sketch.now c.args.s c.in-Some.number i c.in-Some.ensures first in
    let there : AreDue ns g (cases_from Knight c.in-Some.number c.args.sketch.now) = subst (λ (j : _). AreDue ns g (cases_from Knight j c.args.sketch.now)) (sym same) due in
    let denied = c.in_ok-push_denied_of.ensures prices ns rest many lines (subst (λ (ds : List Due). AreDue ns g ds) (sym c.cases_of.ensures) there) in
    record {
      number = c.in-Some.number;
      children = denied.0;
      first = c.in-Some.ensures;
      level = ap (λ (ds : List Due). Some (level_of c.args.spot 3 ds)) c.cases_of-2.ensures;
      are = subst (λ (ds : List Due). AreChildren ns g ds denied.0) c.cases_of.ensures denied.1;
      text = thence c.args.out.now.items _ _ _ _ c.in_ok-push_unknown.ensures denied.2;
    }
