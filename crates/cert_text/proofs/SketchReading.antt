-- A sketch that is read line by line.
use Rattle.std.proofs.Common.{◌≡◌, ℕ, ◌+◌, true, false, List, [], ◌∷◌, ◌++◌, length, map, refl, sym, ap, ◌∙◌, subst, arith, append_assoc, length-append}
use Rattle.std.proofs.lemmas.List.{length-map, map-append}
use Rattle.std.specs.Prelude.{Option, Some, None}
use Rattle.std.specs.Option.{option_map}
use Rattle.std.proofs.lemmas.Option.{same_Some}
use Rattle.board_base.proofs.TextLemmas.{mapped_some}
use Rattle.sketch_text.specs.Heads.{Head}
use Rattle.sketch_body.specs.Bodies.{Body, Item, items_of, units_of}
use Rattle.sketch_body.specs.Due.{Reading, is_over, start}
use Rattle.sketch_body.specs.Due as sketches
use Rattle.sketch_body.specs.Ends.{EndsAs}
use Rattle.sketch_body.specs.Gathered.{gathered}
use Rattle.sketch_body.specs.Seen.{with_item}
use Rattle.sketch_body.proofs.Gathered.{gathered_all, gathered_more}
use Rattle.sketch_body.proofs.Readings.{leads_more, whole_law}
use Rattle.cert_text.specs.Tree.{sketch}
use Rattle.cert_text.specs.Lines.{ended, said}
use Rattle.cert_text.specs.Certificate.{Lines}
use Rattle.cert_text.specs.Due.{Due, closed, on_step, refused, sketch_due}
use Rattle.cert_text.specs.Reading.{IsRefused, ReadsBelow, ReadsSketch}
use Rattle.cert_text.specs.declared.node_lines.BodyLine.TheVariants.{Sketch}
use Rattle.cert_text.proofs.Due.{closed_open, sketch_goes, unbegun}
use Rattle.cert_text.proofs.SpelledLines.{said_read}

pub sketch_begun : (units : ℕ) (h : Head) (lines : Lines) (line : ℕ) (first : Reading) (b : Body) → start units h ≡ Some first → b ≡ record { files = h.files; prices = []; lines = [] } → ReadsSketch units h lines line first b lines line
sketch_begun units h lines line first b e is = record { first = first; starts = e; texts = []; items = []; parts = refl; counted = omega arith; leads = refl; says = is }

pub sketch_next : (units : ℕ) (h : Head) (lines : Lines) (line : ℕ) (now later : Reading) (b c : Body) (rest after : Lines) (next : ℕ) (l : List ℕ) (i : Item) → rest ≡ l ∷ after → said (sketches.step now) l ≡ Some (i, later) → c ≡ with_item b i → ReadsSketch units h lines line now b rest next → ReadsSketch units h lines line later c after (next + 1)
sketch_next units h lines line now later b c rest after next l i e on is r =
    let s = said_read (sketches.step now) l (i, later) on in
    let counted = r.counted in
    record {
      first = r.first;
      starts = r.starts;
      texts = r.texts ++ s.text ∷ [];
      items = r.items ++ i ∷ [];
      parts = r.parts ∙ ap (λ (ls : Lines). map ended r.texts ++ ls) (e ∙ ap (λ (k : List ℕ). k ∷ after) s.line_is) ∙ sym (append_assoc (map ended r.texts) (ended s.text ∷ []) after)
          ∙ ap (λ (ls : Lines). ls ++ after) (sym (map-append ended r.texts (s.text ∷ [])));
      counted = omega (arith, length-append r.texts (s.text ∷ []));
      leads = leads_more r.texts r.items r.first now later s.text i r.leads s.stands;
      says = is ∙ ap (λ (x : Body). with_item x i) r.says ∙ sym (gathered_more (record { files = h.files; prices = []; lines = [] }) r.items i);
    }

-- all that is due was read
pub sketch_done : (units depth : ℕ) (h : Head) (lines : Lines) (line : ℕ) (now : Reading) (b : Body) (rest : Lines) (next : ℕ) → is_over now.due ≡ true → ReadsSketch units h lines line now b rest next → ReadsBelow (Sketch h) depth lines line units (sketch b) rest next now.units
sketch_done units depth h lines line now b rest next over r =
    let found = (whole_law units h r.texts r.items now).0 (record { first = r.first; starts = r.starts; leads = r.leads }, over) in
    let c : Body = found.0 in
    let is : EndsAs units h r.texts r.items now c = found.1 in
    let files : h.files ≡ c.files = sym (ap (λ (x : Head). x.files) is.head) in
    let same : b ≡ c =
    r.says ∙ ap (gathered (record { files = h.files; prices = []; lines = [] })) is.items_are
    ∙ ap (λ (fs : List ℕ). gathered (record { files = fs; prices = []; lines = [] }) (items_of c)) files ∙ gathered_all c in
    let units_are : now.units ≡ units + units_of c = ap (λ (t : Reading). t.units) is.last_is in
    let few = is.few in
    let P : Body → Type 0 = λ x. ReadsBelow (Sketch h) depth lines line units (sketch x) rest next now.units in
    subst P (sym same) (record {
      front = map ended r.texts;
      parts = r.parts;
      lines_count = r.counted ∙ ap (λ (n : ℕ). line + n) (sym (length-map r.texts ended));
      says = ap (λ (x : Head). Sketch x) is.head;
      below = (r.texts, refl, is.texts_are);
      units_are = units_are;
      few = omega arith;
    })

-- the next line is refused
refused_there : (units depth : ℕ) (h : Head) (lines : Lines) (line : ℕ) (now : Reading) (b : Body) (rest : Lines) (next : ℕ) → is_over now.due ≡ false → ReadsSketch units h lines line now b rest next → ((due : List ℕ) → refused (sketch_due now due) next rest ≡ Some next) → IsRefused units (Sketch h) depth lines line next
refused_there units depth h lines line now b rest next still r bad = λ due d deep put.
    let m = mapped_some (λ (t : Reading). sketch_due t due) (start units h) d put in
    let same : m.0 ≡ r.first = same_Some m.0 r.first (sym m.1 ∙ r.starts) in
    let begun : d ≡ closed r.first due = sym m.2 ∙ ap (λ (t : Reading). sketch_due t due) same ∙ sym (closed_open r.first due (unbegun units h r.first r.starts)) in
    ap (λ (x : Due). refused x line lines) begun ∙ ap (refused (closed r.first due) line) r.parts
    ∙ sketch_goes r.texts r.items r.first now due line rest r.leads ∙ ap (λ (k : ℕ). refused (closed now due) k rest) (sym r.counted)
    ∙ ap (λ (x : Due). refused x next rest) (closed_open now due still) ∙ bad due

pub sketch_ends : (units depth : ℕ) (h : Head) (lines : Lines) (line : ℕ) (now : Reading) (b : Body) (rest : Lines) (next : ℕ) → is_over now.due ≡ false → rest ≡ [] → ReadsSketch units h lines line now b rest next → IsRefused units (Sketch h) depth lines line next
sketch_ends units depth h lines line now b rest next still none r =
    refused_there units depth h lines line now b rest next still r (λ due. ap (refused (sketch_due now due) next) none)

pub sketch_bad : (units depth : ℕ) (h : Head) (lines : Lines) (line : ℕ) (now : Reading) (b : Body) (rest after : Lines) (next : ℕ) (l : List ℕ) → is_over now.due ≡ false → rest ≡ l ∷ after → said (sketches.step now) l ≡ None → ReadsSketch units h lines line now b rest next → IsRefused units (Sketch h) depth lines line next
sketch_bad units depth h lines line now b rest after next l still e bad r =
    refused_there units depth h lines line now b rest next still r (λ due.
    ap (refused (sketch_due now due) next) e
    ∙ ap (λ (o : Option (Item × Reading)). on_step next (option_map (λ p. closed p.1 due) o) (λ more. refused more (next + 1) after)) bad)

-- there are no more lines than these
pub sketch_few : (units : ℕ) (h : Head) (lines : Lines) (line : ℕ) (now : Reading) (b : Body) (rest : Lines) (next : ℕ) → ReadsSketch units h lines line now b rest next → next + length rest ≡ line + length lines
sketch_few units h lines line now b rest next r = let counted = r.counted in omega (arith, ap length r.parts, length-append (map ended r.texts) rest, length-map r.texts ended)
