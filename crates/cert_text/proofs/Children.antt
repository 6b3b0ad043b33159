-- Children that are read one after another.
use Rattle.std.proofs.Common.{◌≡◌, ℕ, suc, ◌+◌, ◌-◌, ◌<◌, ◌≤◌, List, ◌∷◌, ◌++◌, length, refl, sym, ap, ◌∙◌, subst, arith, append_assoc, length-append}
use Rattle.std.specs.Prelude.{Option, Some, None}
use Rattle.std.specs.Option.{option_and_then, option_map}
use Rattle.std.proofs.lemmas.Option.{same_Some}
use Rattle.sketch_body.specs.Bodies.{most_units}
use Rattle.sketch_body.specs.Due.{Reading, start}
use Rattle.cert_text.specs.Tree.{Tree, Forest, none, count, units_each, units_in, with_last}
use Rattle.cert_text.specs.Tree as tree
use Rattle.board_base.specs.declared.unmoves.Unmove.{Unmove}
use Rattle.cert_text.specs.Lines.{said}
use Rattle.cert_text.specs.NodeLines.{kid_body}
use Rattle.cert_text.specs.Certificate.{Lines, AreBelow, AreKids, body_of}
use Rattle.cert_text.specs.Due.{Due, nodes_due, on_step, put_due, refused, sketch_due}
use Rattle.cert_text.specs.Reading.{CanStart, ReadsBelow, ReadsKids, SaysKid, IsRefused, AreRefused}
use Rattle.cert_text.specs.Texts.{IfBadText}
use Rattle.cert_text.specs.declared.node_lines.BodyLine.{BodyLine}
use Rattle.cert_text.specs.declared.node_lines.BodyLine.TheVariants.{Rule, Back, Expand, Sketch}
use Rattle.cert_text.specs.declared.faults.CertFault.{CertFault}
use Rattle.cert_text.specs.declared.faults.CertFault.TheVariants.{BadText, Memory}
use Rattle.cert_text.proofs.Due.{goes_on, kids_run, kids_more}

count-last : (f : Forest) (label : Unmove) (t : Tree) → count (with_last f label t) ≡ count f + 1
count-last none label t = refl
count-last (tree.more l u rest) label t = ap (λ (n : ℕ). n + 1) (count-last rest label t)

units-last : (f : Forest) (label : Unmove) (t : Tree) → units_each (with_last f label t) ≡ units_each f + units_in t
units-last none label t = omega arith
units-last (tree.more l u rest) label t = omega (arith, units-last rest label t)

-- what is due behind a body that can start
pub put_from : (units : ℕ) (body : BodyLine) (due : List ℕ) → CanStart units body → (d : Due) × (put_due units body due ≡ Some d)
put_from units (Rule r) due begins = (nodes_due units due, refl)
put_from units (Back k) due begins = (nodes_due units due, refl)
put_from units (Expand n) due begins = (nodes_due units (n ∷ due), refl)
put_from units (Sketch h) due begins = (sketch_due begins.0 due, ap (option_map (λ (r : Reading). sketch_due r due)) begins.1)

never_mapped : (o : Option Reading) (due : List ℕ) → ((r : Reading) → o ≡ Some r → ⊥) → option_map (λ r. sketch_due r due) o ≡ None
never_mapped None due never = refl
never_mapped (Some r) due never = absurd (never r refl)

put_never : (units : ℕ) (body : BodyLine) (due : List ℕ) → (CanStart units body → ⊥) → put_due units body due ≡ None
put_never units (Rule r) due never = absurd (never tt)
put_never units (Back k) due never = absurd (never tt)
put_never units (Expand n) due never = absurd (never tt)
put_never units (Sketch h) due never = never_mapped (start units h) due (λ r e. never (r, e))

-- what is due where some of the children are read
pub among_kids : (number i depth : ℕ) (due : List ℕ) (lines : Lines) (line units : ℕ) (kids : Forest) (rest : Lines) (next all : ℕ) → i < number → length due ≡ depth → ReadsKids i depth lines line units kids rest next all → (m : ℕ) × (refused (nodes_due units (number ∷ due)) line lines ≡ refused (nodes_due all (suc m ∷ due)) next rest)
among_kids number i depth due lines line units kids rest next all inside deep r =
    let m : ℕ = number - (i + 1) in
    let size : number ≡ count kids + suc m = let s = r.size in omega arith in
    let few : units + units_each kids ≤ most_units = let few = r.few in let is = r.units_are in omega arith in (
      m,
      ap (refused (nodes_due units (number ∷ due)) line) r.parts ∙ kids_run kids number (suc m) units due line r.front rest size few (subst (λ (d : ℕ). AreKids kids (suc d) r.front) (sym deep) r.are)
          ∙ ap (λ (k : ℕ). refused (nodes_due (units + units_each kids) (suc m ∷ due)) k rest) (sym r.lines_count)
          ∙ ap (λ (u : ℕ). refused (nodes_due u (suc m ∷ due)) next rest) (sym r.units_are),
    )

-- a sketch with which the units become too many
pub bad_start : (number i depth : ℕ) (lines : Lines) (line units : ℕ) (kids : Forest) (rest after : Lines) (next all : ℕ) (label : Unmove) (body : BodyLine) → i < number → ReadsKids i depth lines line units kids rest next all → SaysKid (depth + 1) rest label body after → (CanStart all body → ⊥) → AreRefused units number depth lines line next
bad_start number i depth lines line units kids rest after next all label body inside r says never = λ due deep.
    let k = among_kids number i depth due lines line units kids rest next all inside deep r in
    let deep-too : suc (length due) ≡ depth + 1 = omega arith in
    let here : said (kid_body (suc (length due))) says.0 ≡ Some (label, body) = ap (λ (d : ℕ). said (kid_body d) says.0) deep-too ∙ says.2 in
    k.1 ∙ ap (refused (nodes_due all (suc k.0 ∷ due)) next) says.1
    ∙ ap (λ (o : Option (Unmove × BodyLine)). on_step next (option_and_then (λ kid. put_due all kid.1 (k.0 ∷ due)) o) (λ more. refused more (next + 1) after)) here
    ∙ ap (λ (o : Option Due). on_step next o (λ more. refused more (next + 1) after)) (put_never all body (k.0 ∷ due) never)

-- a fault below one of the children
pub bad_below : (fault : CertFault) (number i depth : ℕ) (lines : Lines) (line units : ℕ) (kids : Forest) (rest after : Lines) (next all : ℕ) (label : Unmove) (body : BodyLine) → i < number → ReadsKids i depth lines line units kids rest next all → SaysKid (depth + 1) rest label body after → CanStart all body → IfBadText fault (IsRefused all body (depth + 1) after (next + 1)) → IfBadText fault (AreRefused units number depth lines line)
bad_below Memory number i depth lines line units kids rest after next all label body inside r says begins bad = tt
bad_below (BadText n) number i depth lines line units kids rest after next all label body inside r says begins bad = λ due deep.
    let k = among_kids number i depth due lines line units kids rest next all inside deep r in
    let deep-too : suc (length due) ≡ depth + 1 = omega arith in
    let put = put_from all body (k.0 ∷ due) begins in
    k.1 ∙ ap (refused (nodes_due all (suc k.0 ∷ due)) next) says.1
    ∙ goes_on k.0 next all due says.0 after label body put.0 (ap (λ (d : ℕ). said (kid_body d) says.0) deep-too ∙ says.2) put.1 ∙ bad (k.0 ∷ due) put.0 deep-too put.1

-- a fault among the children of a node
pub bad_kids : (fault : CertFault) (units number depth : ℕ) (lines : Lines) (line : ℕ) → IfBadText fault (AreRefused units number depth lines line) → IfBadText fault (IsRefused units (Expand number) depth lines line)
bad_kids Memory units number depth lines line bad = tt
bad_kids (BadText n) units number depth lines line bad = λ due d deep put.
    let same : nodes_due units (number ∷ due) ≡ d = same_Some _ d put in
    ap (λ (e : Due). refused e line lines) (sym same) ∙ bad due deep

-- one more child is read
pub one_more : (i depth : ℕ) (lines : Lines) (line units : ℕ) (kids : Forest) (rest after rest' : Lines) (next next' all all' : ℕ) (label : Unmove) (body : BodyLine) (t : Tree) → ReadsKids i depth lines line units kids rest next all → SaysKid (depth + 1) rest label body after → ReadsBelow body (depth + 1) after (next + 1) all t rest' next' all' → ReadsKids (i + 1) depth lines line units (with_last kids label t) rest' next' all'
one_more i depth lines line units kids rest after rest' next next' all all' label body t r says b =
    let deep : depth + 1 ≡ suc depth = omega arith in
    let here : said (kid_body (suc depth)) says.0 ≡ Some (label, body_of t) = ap (λ (d : ℕ). said (kid_body d) says.0) (sym deep) ∙ says.2 ∙ ap (λ (c : BodyLine). Some (label, c)) (sym b.says) in
    record {
      front = r.front ++ says.0 ∷ b.front;
      parts =
          r.parts ∙ ap (λ (l : Lines). r.front ++ l) (says.1 ∙ ap (λ (l : Lines). says.0 ∷ l) b.parts) ∙ sym (append_assoc r.front (says.0 ∷ b.front) rest');
      lines_count = omega (arith, length-append r.front (says.0 ∷ b.front), r.lines_count, b.lines_count);
      size = count-last kids label t ∙ ap (λ (n : ℕ). n + 1) r.size;
      are = kids_more kids (suc depth) label t r.front says.0 b.front r.are here (subst (λ (d : ℕ). AreBelow t d b.front) deep b.below);
      units_are = omega (arith, units-last kids label t, r.units_are, b.units_are);
      few = b.few;
    }
