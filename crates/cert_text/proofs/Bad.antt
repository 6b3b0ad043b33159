-- Where a certificate's text goes bad.
use Rattle.std.proofs.Common.{◌≡◌, ℕ, suc, ◌+◌, ◌-◌, ◌≤◌, inl, inr, List, [], ◌∷◌, ◌++◌, length, map, nat_le, take, refl, sym, ap, ◌∙◌, subst, arith, append_assoc, length-append}
use Rattle.std.specs.Prelude.{Some, None, codes}
use Rattle.std.proofs.Math.Seq.{take-append-add}
use Rattle.std.proofs.lemmas.List.{append-nil, take_at}
use Rattle.std.proofs.lemmas.Bool.{cond-true, le-leb}
use Rattle.std.proofs.lemmas.Option.{same_Some}
use Rattle.board_base.proofs.TextLemmas.{mapped_some}
use Rattle.general_lemmas.proofs.Lists.{same_first, same_rest}
use Rattle.query_base.specs.Asked.{Asked}
use Rattle.query_base.specs.declared.claims.Claim.{Claim}
use Rattle.query_base.specs.declared.rule_lines.RuleLine.TheVariants.{Kings}
use Rattle.cert_text.specs.declared.reasons.Reason.TheVariants.{Line}
use Rattle.sketch_text.specs.Heads.{Head as SketchHead}
use Rattle.sketch_body.specs.Bodies.{most_units}
use Rattle.sketch_body.specs.Due.{Reading, start}
use Rattle.sketch_body.specs.Whole.{first_due}
use Rattle.sketch_body.proofs.Readings.{whole_law}
use Rattle.cert_text.specs.Tree.{Tree, rule, back, expand, sketch, units_in}
use Rattle.cert_text.specs.Lines.{ended, said}
use Rattle.cert_text.specs.Texts.{Begins, IsBadAt, IfBadText}
use Rattle.cert_text.specs.NodeLines.{root_body, body_at}
use Rattle.cert_text.specs.Certificate.{Lines, Certificate, AreLinesOf, AreBelow, AreKids, body_of}
use Rattle.cert_text.specs.Due.{Due, nodes_due, put_due, refused, sketch_due}
use Rattle.cert_text.specs.Heads.{Leads, head_step}
use Rattle.cert_text.specs.declared.heads.Head.{Head}
use Rattle.cert_text.specs.declared.heads.Head.TheVariants.{FormatDue, RootDue}
use Rattle.cert_text.specs.declared.node_lines.BodyLine.{BodyLine}
use Rattle.cert_text.specs.declared.node_lines.BodyLine.TheVariants.{Rule, Back, Expand, Sketch}
use Rattle.cert_text.specs.Reading.{CanStart, HasHeader, HasRoom, ReadsBelow, IsRefused}
use Rattle.cert_text.specs.declared.faults.CertFault.{CertFault}
use Rattle.cert_text.specs.declared.faults.CertFault.TheVariants.{BadText, Memory}
use Rattle.cert_text.proofs.Children.{put_from}
use Rattle.cert_text.proofs.Due.{EndsSketch, Fills, FillsDue, IsDue, fills, low_body, put_is, stops, below_runs}
use Rattle.cert_text.proofs.Fitting.{root_room}
use Rattle.cert_text.proofs.HeadSteps.{GoesOn, at_root, closes, goes_on, head_leads, leads_both, leads_head}

some_root : List ℕ
some_root = ended (codes "root rule kings")

root_known : said root_body some_root ≡ Some (Rule (Line Kings))
unfolding said root_body body_at some_root
root_known = refl

-- lines that lead to a line that is due begin a text
begins : (front : Lines) (h : Head) → Leads FormatDue front h → Begins AreLinesOf front
begins front h leads =
    let c = closes h in (
      c.lines ++ some_root ∷ [],
      record { claim = c.claim; query = c.query; root = rule (Line Kings) },
      record {
        head = front ++ c.lines;
        root_line = some_root;
        below = [];
        parts = sym (append_assoc front c.lines (some_root ∷ []));
        heading = leads_head (front ++ c.lines) c.claim c.query (leads_both front c.lines FormatDue h (RootDue c.claim c.query) leads c.leads);
        root = root_known;
        nodes = refl;
        few = omega arith;
      },
    )

-- a text that begins so goes on with a head's lines from there on
continues : (front rest : Lines) (h : Head) (cert : Certificate) → Leads FormatDue front h → (a : AreLinesOf (front ++ rest) cert) → GoesOn h cert.claim cert.query rest (a.root_line ∷ a.below)
continues front rest h cert leads a =
    goes_on front a.head FormatDue h cert.claim cert.query rest (a.root_line ∷ a.below) leads (head_leads a.head cert.claim cert.query a.heading) a.parts

some_left : (tail : Lines) (root : List ℕ) (below : Lines) → [] ≡ tail ++ root ∷ below → ⊥
some_left [] root below e = cc
some_left (line ∷ tail) root below e = cc

-- lines that end in the head, or before the root's
pub bad_end : (front : Lines) (h : Head) (n : ℕ) → n ≡ length front + 1 → Leads FormatDue front h → IsBadAt AreLinesOf front n
bad_end front h n at leads = record {
  counted = omega arith;
  front = subst (λ (l : Lines). Begins AreLinesOf l) (sym (ap (λ (l : Lines). take (n - 1) l) (sym (append-nil front)) ∙ take_at front [] (n - 1) (omega arith))) (begins front h leads);
  bad = inr (
    omega arith,
    λ cert a.
        let on = continues front [] h cert leads (subst (λ (l : Lines). AreLinesOf l cert) (sym (append-nil front)) a) in
        some_left on.tail _ _ on.parts,
  );
}

-- a line with which no text begins
bad_at : (front : Lines) (l : List ℕ) (ls : Lines) (h : Head) (n : ℕ) → n ≡ length front + 1 → Leads FormatDue front h → ((rest : Lines) (cert : Certificate) → AreLinesOf (front ++ l ∷ rest) cert → ⊥) → IsBadAt AreLinesOf (front ++ l ∷ ls) n
bad_at front l ls h n at leads none =
    let regrouped : (front ++ l ∷ []) ++ ls ≡ front ++ l ∷ ls = append_assoc front (l ∷ []) ls in
    let first : take n (front ++ l ∷ ls) ≡ front ++ l ∷ [] = ap (take n) (sym regrouped) ∙ take_at (front ++ l ∷ []) ls n (omega (arith, length-append front (l ∷ []))) in
    record {
      counted = omega arith;
      front = subst (λ (k : Lines). Begins AreLinesOf k) (sym (take_at front (l ∷ ls) (n - 1) (omega arith))) (begins front h leads);
      bad = inl (
        omega (arith, length-append front (l ∷ ls)),
        λ begun.
            none begun.0 begun.1 (subst (λ (k : Lines). AreLinesOf k begun.1) (ap (λ (k : Lines). k ++ begun.0) first ∙ append_assoc front (l ∷ []) begun.0) begun.2),
      );
    }

no_line : (tail : Lines) (l : List ℕ) (rest : Lines) (h : Head) (claim : Claim) (q : Asked) (root : List ℕ) (below : Lines) → (h ≡ RootDue claim q → ⊥) → head_step h l ≡ None → Leads h tail (RootDue claim q) → l ∷ rest ≡ tail ++ root ∷ below → ⊥
no_line [] l rest h claim q root below other none leads e = other leads
no_line (line ∷ tail) l rest h claim q root below other none (next, step, leads) e =
    let same = ap (head_step h) (same_first e) in cc

-- a line of the head that isn't the one that is due
pub bad_line : (front : Lines) (l : List ℕ) (ls : Lines) (h : Head) (n : ℕ) → n ≡ length front + 1 → Leads FormatDue front h → ((claim : Claim) (q : Asked) → h ≡ RootDue claim q → ⊥) → head_step h l ≡ None → IsBadAt AreLinesOf (front ++ l ∷ ls) n
bad_line front l ls h n at leads other none = bad_at front l ls h n at leads (λ rest cert a.
    let on = continues front (l ∷ rest) h cert leads a in
    no_line on.tail l rest h cert.claim cert.query _ _ (other cert.claim cert.query) none on.leads on.parts)

-- a line that isn't the root's
pub bad_root : (front : Lines) (l : List ℕ) (ls : Lines) (claim : Claim) (q : Asked) (n : ℕ) → n ≡ length front + 1 → Leads FormatDue front (RootDue claim q) → said root_body l ≡ None → IsBadAt AreLinesOf (front ++ l ∷ ls) n
bad_root front l ls claim q n at leads none = bad_at front l ls (RootDue claim q) n at leads (λ rest cert a.
    let is = at_root claim cert.claim q cert.query _ _ (continues front (l ∷ rest) (RootDue claim q) cert leads a) in
    let e = ap (said root_body) (same_first is.rest) in
    let found = a.root in
    cc)

root_starts : (body : BodyLine) → HasRoom 0 body → CanStart 0 body
root_starts (Rule r) room = tt
root_starts (Back k) room = tt
root_starts (Expand n) room = tt
root_starts (Sketch h) room =
    let n : ℕ = 0 + (h.prices + 1) in
    let first : Reading = record { due = first_due h.prices; units = n } in
    (first, cond-true (nat_le n most_units) (Some first) None (le-leb n most_units (omega arith)))

-- what is due below a root's line
pub root_put : (root : List ℕ) (body : BodyLine) → said root_body root ≡ Some body → (d : Due) × (put_due 0 body [] ≡ Some d) × IsDue d
root_put root body e =
    let room : HasRoom 0 body = root_room root body e in
    let put = put_from 0 body [] (root_starts body room) in
    (put.0, put.1, put_is 0 body [] put.0 (omega arith) (low_body 0 body room) put.1)

-- a tree for all that is due below a root's line
planted : (body : BodyLine) (d : Due) (lines : Lines) → put_due 0 body [] ≡ Some d → FillsDue d lines → (t : Tree) × (body_of t ≡ body) × AreBelow t 0 lines × (units_in t ≤ most_units)
planted (Rule r) d lines put below =
    let f : Fills 0 [] lines = subst (λ (e : Due). FillsDue e lines) (sym (same_Some (nodes_due 0 []) d put)) below in
    (rule r, refl, f.0, f.1)
planted (Back k) d lines put below =
    let f : Fills 0 [] lines = subst (λ (e : Due). FillsDue e lines) (sym (same_Some (nodes_due 0 []) d put)) below in
    (back k, refl, f.0, f.1)
planted (Expand n) d lines put below =
    let f : Fills 0 (n ∷ []) lines = subst (λ (e : Due). FillsDue e lines) (sym (same_Some (nodes_due 0 (n ∷ [])) d put)) below in
    let few = f.6.1 in
    (expand f.0, ap Expand f.3, subst (AreKids f.0 1) (sym (f.4 ∙ ap (λ (l : Lines). f.1 ++ l) f.6.0 ∙ append-nil f.1)) f.5, omega arith)
planted (Sketch h) d lines put below =
    let m = mapped_some (λ (r : Reading). sketch_due r []) (start 0 h) d put in
    let e : EndsSketch m.0 [] lines = subst (λ (x : Due). FillsDue x lines) (sym m.2) below in
    let found = (whole_law 0 h e.texts e.items e.last).0 (record { first = m.0; starts = m.1; leads = e.leads }, e.over) in
    let is = found.1 in
    let few = is.few in
    (sketch found.0, ap (λ (x : SketchHead). Sketch x) is.head, (e.texts, e.parts ∙ ap (λ (l : Lines). map ended e.texts ++ l) e.fills.0 ∙ append-nil (map ended e.texts), is.texts_are), omega arith)

-- the text of a tree isn't refused
tree_runs : (t : Tree) (n : ℕ) (lines : Lines) (d : Due) → AreBelow t 0 lines → units_in t ≤ most_units → put_due 0 (body_of t) [] ≡ Some d → refused d n lines ≡ None
tree_runs t n lines d below few put = ap (refused d n) (sym (append-nil lines)) ∙ below_runs t 0 [] n lines [] d below (omega arith) put

-- a certificate's text is not refused below its root's line
cert_runs : (front : Lines) (root : List ℕ) (claim : Claim) (q : Asked) (body : BodyLine) (n : ℕ) (lines : Lines) (d : Due) (cert : Certificate) → Leads FormatDue front (RootDue claim q) → said root_body root ≡ Some body → put_due 0 body [] ≡ Some d → AreLinesOf (front ++ root ∷ lines) cert → refused d n lines ≡ None
cert_runs front root claim q body n lines d cert leads here put a =
    let is = at_root claim cert.claim q cert.query _ _ (continues front (root ∷ lines) (RootDue claim q) cert leads a) in
    let same-root : root ≡ a.root_line = same_first is.rest in
    let same : lines ≡ a.below = same_rest is.rest in
    let bodies : Some body ≡ Some (body_of cert.root) = sym here ∙ ap (said root_body) same-root ∙ a.root in
    let body-is : body ≡ body_of cert.root = cc in
    ap (refused d n) same ∙ tree_runs cert.root n a.below d a.nodes a.few (ap (λ (b : BodyLine). put_due 0 b []) (sym body-is) ∙ put)

-- lines that are all that is due below a root's are the text of a certificate
pub planted_text : (front : Lines) (root : List ℕ) (claim : Claim) (q : Asked) (body : BodyLine) (n : ℕ) (lines : Lines) (d : Due) → Leads FormatDue front (RootDue claim q) → said root_body root ≡ Some body → put_due 0 body [] ≡ Some d → IsDue d → refused d n lines ≡ None → (t : Tree) × (body_of t ≡ body) × AreBelow t 0 lines × AreLinesOf (front ++ root ∷ lines) (record { claim = claim; query = q; root = t })
planted_text front root claim q body n lines d leads here put is runs =
    let t = planted body d lines put (fills lines d n is runs) in (
      t.0,
      t.1,
      t.2,
      record {
        head = front;
        root_line = root;
        below = lines;
        parts = refl;
        heading = leads_head front claim q leads;
        root = here ∙ ap (λ (b : BodyLine). Some b) (sym t.1);
        nodes = t.2;
        few = t.3;
      },
    )

begins_as : (front : Lines) (root : List ℕ) (claim : Claim) (q : Asked) (body : BodyLine) (n : ℕ) (some rest : Lines) (d : Due) → Leads FormatDue front (RootDue claim q) → said root_body root ≡ Some body → put_due 0 body [] ≡ Some d → IsDue d → refused d n (some ++ rest) ≡ None → Begins AreLinesOf (front ++ root ∷ some)
begins_as front root claim q body n some rest d leads here put is runs =
    let t = planted_text front root claim q body n (some ++ rest) d leads here put is runs in (
      rest,
      record { claim = claim; query = q; root = t.0 },
      subst (λ (l : Lines). AreLinesOf l (record { claim = claim; query = q; root = t.0 })) (sym (append_assoc front (root ∷ some) rest)) t.3,
    )

take_behind : (front : Lines) (root : List ℕ) (lines : Lines) (k n : ℕ) → n ≡ length front + suc k → take n (front ++ root ∷ lines) ≡ front ++ root ∷ take k lines
take_behind front root lines k n e = ap (λ (i : ℕ). take i (front ++ root ∷ lines)) e ∙ take-append-add front (root ∷ lines) (suc k)

-- what is refused below a root's line is bad there
pub bad_below_root : (front : Lines) (root : List ℕ) (claim : Claim) (q : Asked) (body : BodyLine) (m : ℕ) (lines : Lines) (n : ℕ) (d : Due) → m ≡ length front + 2 → Leads FormatDue front (RootDue claim q) → said root_body root ≡ Some body → put_due 0 body [] ≡ Some d → IsDue d → refused d m lines ≡ Some n → IsBadAt AreLinesOf (front ++ root ∷ lines) n
bad_below_root front root claim q body m lines n d at leads here put is bad =
    let s = stops lines d m n is bad in
    let place = s.at in
    let size : length (front ++ root ∷ lines) ≡ length front + suc (length lines) = length-append front (root ∷ lines) in
    let before : take (n - 1) (front ++ root ∷ lines) ≡ front ++ root ∷ take s.before lines = take_behind front root lines s.before (n - 1) (omega arith) in
    let with : take n (front ++ root ∷ lines) ≡ front ++ root ∷ take (suc s.before) lines = take_behind front root lines (suc s.before) n (omega arith) in
    record {
      counted = omega arith;
      front = subst (λ (l : Lines). Begins AreLinesOf l) (sym before) (begins_as front root claim q body m (take s.before lines) s.rest d leads here put is s.front);
      bad = elim s.bad [
        | inl b ↦ inl (
          let inside = b.0 in omega arith,
          λ begun.
              let text : AreLinesOf (front ++ root ∷ (take (suc s.before) lines ++ begun.0)) begun.1 = subst (λ (l : Lines). AreLinesOf l begun.1) (ap (λ (l : Lines). l ++ begun.0) with ∙ append_assoc front (root ∷ take (suc s.before) lines) begun.0) begun.2 in
              let runs = cert_runs front root claim q body m (take (suc s.before) lines ++ begun.0) d begun.1 leads here put text in
              let stops = b.1 begun.0 in cc,
        )
        | inr b ↦ inr (omega arith, λ cert a. let runs = cert_runs front root claim q body m lines d cert leads here put a in cc)
      ];
    }

-- what is refused after a header
below_header : (lines : Lines) (claim : Claim) (q : Asked) (body : BodyLine) (m : ℕ) (rest : Lines) (n : ℕ) (d : Due) → HasHeader lines claim q body m rest → put_due 0 body [] ≡ Some d → IsDue d → refused d m rest ≡ Some n → IsBadAt AreLinesOf lines n
below_header lines claim q body m rest n d h put is bad =
    subst (λ (l : Lines). IsBadAt AreLinesOf l n) (sym h.parts) (bad_below_root h.front h.root_line claim q body m rest n d h.counted h.leads h.body_is put is bad)

pub bad_fault : (fault : CertFault) (lines : Lines) (claim : Claim) (q : Asked) (body : BodyLine) (m : ℕ) (rest : Lines) → HasHeader lines claim q body m rest → IfBadText fault (IsRefused 0 body 0 rest m) → IfBadText fault (IsBadAt AreLinesOf lines)
bad_fault Memory lines claim q body m rest h bad = tt
bad_fault (BadText n) lines claim q body m rest h bad =
    let put = root_put h.root_line body h.body_is in
    below_header lines claim q body m rest n put.0 h put.1 put.2 (bad [] put.0 refl put.1)

-- a line after the last node
pub extra_line : (lines : Lines) (claim : Claim) (q : Asked) (body : BodyLine) (m : ℕ) (rest : Lines) (t : Tree) (line : List ℕ) (after others : Lines) (next all : ℕ) → HasHeader lines claim q body m rest → ReadsBelow body 0 rest m 0 t after next all → after ≡ line ∷ others → IsBadAt AreLinesOf lines next
extra_line lines claim q body m rest t line after others next all h b e =
    let put = root_put h.root_line body h.body_is in
    let own : put_due 0 (body_of t) [] ≡ Some put.0 = ap (λ (c : BodyLine). put_due 0 c []) b.says ∙ put.1 in
    let few : 0 + units_in t ≤ most_units = let few = b.few in let is = b.units_are in omega arith in
    let runs : refused put.0 m rest ≡ Some next =
    ap (refused put.0 m) (b.parts ∙ ap (λ (l : Lines). b.front ++ l) e)
    ∙ below_runs t 0 [] m b.front (line ∷ others) put.0 b.below few own ∙ ap (λ (k : ℕ). Some k) (sym b.lines_count) in
    below_header lines claim q body m rest next put.0 h put.1 put.2 runs

-- what was read to the end is a certificate's text
pub whole_text : (lines : Lines) (claim : Claim) (q : Asked) (body : BodyLine) (m : ℕ) (rest : Lines) (t : Tree) (after : Lines) (next all : ℕ) → HasHeader lines claim q body m rest → ReadsBelow body 0 rest m 0 t after next all → after ≡ [] → AreLinesOf lines (record { claim = claim; query = q; root = t })
whole_text lines claim q body m rest t after next all h b none = record {
  head = h.front;
  root_line = h.root_line;
  below = rest;
  parts = h.parts;
  heading = leads_head h.front claim q h.leads;
  root = h.body_is ∙ ap (λ (c : BodyLine). Some c) (sym b.says);
  nodes = subst (AreBelow t 0) (sym (b.parts ∙ ap (λ (l : Lines). b.front ++ l) none ∙ append-nil b.front)) b.below;
  few = let few = b.few in let is = b.units_are in omega arith;
}

-- the root's sketch can start
pub header_starts : (lines : Lines) (claim : Claim) (q : Asked) (body : BodyLine) (m : ℕ) (rest : Lines) → HasHeader lines claim q body m rest → CanStart 0 body
header_starts lines claim q body m rest h = root_starts body (root_room h.root_line body h.body_is)

pub header_room : (lines : Lines) (claim : Claim) (q : Asked) (body : BodyLine) (m : ℕ) (rest : Lines) → HasHeader lines claim q body m rest → HasRoom 0 body
header_room lines claim q body m rest h = root_room h.root_line body h.body_is
