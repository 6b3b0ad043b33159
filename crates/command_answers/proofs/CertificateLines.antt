-- The lines of a certificate that has a text.
use Rattle.std.proofs.Common.{◌≡◌, ℕ, zero, suc, ◌+◌, ◌<◌, ◌≤◌, ◌^◌, nat_le, true, List, ◌∷◌, ◌++◌, ap, subst, arith}
use Rattle.std.proofs.lemmas.Bool.{and_parts, leb-true}
use Rattle.std.proofs.lemmas.Option.{same_Some}
use Rattle.std.specs.List.{concat}
use Rattle.std.proofs.lemmas.List.Folds.{concat-append}
use Rattle.std.specs.Option.{option_map}
use Rattle.std.specs.Prelude.{Option, Some, None}
use Rattle.std.specs.Io.KnownBytes.{Appends}
use Rattle.board_base.specs.declared.unmoves.Unmove.{Unmove}
use Rattle.cert_text.specs.Certificate.{AreBelow, AreKids, Certificate, Lines, body_of}
use Rattle.cert_text.specs.Lines.{ended, said}
use Rattle.cert_text.specs.NodeLines.{IsLine, kid_body, kid_text, root_body, root_text}
use Rattle.cert_text.specs.Sizes.{rest_of}
use Rattle.cert_text.specs.Tree.{Forest, Tree, count, kid_at, more, none, sketch}
use Rattle.sketch_body.specs.Bodies.{Body}
use Rattle.sketch_body.specs.Whole.{is_body}
use Rattle.sketch_body.proofs.Readings.{body_known}
use Rattle.command_answers.specs.Told.{HasLinesBelow}
use Rattle.cert_text.specs.Written.{IsSketchLine, cert_lines, head_lines, lines_below, lines_of}
use Rattle.sketch_text.specs.Heads.{Head, are_files}
use Rattle.cert_text.specs.declared.node_lines.BodyLine.{BodyLine}
use Rattle.cert_text.specs.declared.node_lines.BodyLine.TheVariants.{Back, Expand, Rule, Sketch}
use Rattle.cert_text.specs.declared.node_lines.NodeLine.{NodeLine}
use Rattle.cert_text.proofs.Forests.{rest-end}
use Rattle.cert_text.proofs.Spelled.{number_in}
use Rattle.cert_text.proofs.SpelledLines.{kid_text_read, root_text_read, said_read}
use Rattle.cert_text.proofs.WrittenTrees.{line_known, lines_next}
use Rattle.retro_ports.proofs.Pieces.{StillToCome, all_written, nothing_written, piece_written}
use Rattle.board_base.proofs.TextLemmas.{mapped_some}

-- the number in a line has at most six digits
line-few : (n : NodeLine) → IsLine n → number_in n.body ≤ 999999
line-few n (zero, text, e) =
    let m = mapped_some (λ (b : BodyLine). record { label = None; body = b }) (root_body text) n e in
    subst (λ (k : NodeLine). number_in k.body ≤ 999999) m.2 (root_text_read text m.0 m.1).few
line-few n (suc depth, text, e) =
    let m = mapped_some (λ (k : Unmove × BodyLine). record { label = Some k.0; body = k.1 }) (kid_body (suc depth) text) n e in
    subst (λ (k : NodeLine). number_in k.body ≤ 999999) m.2 (kid_text_read (suc depth) text m.0.0 m.0.1 m.1).few

pub few-children : (label : Option Unmove) (b : BodyLine) (n : ℕ) → IsLine (record { label = label; body = b }) → b ≡ Expand n → n < 2 ^ 32
few-children label b n line e = omega (arith, line-few (record { label = label; body = b }) line, ap number_in e)

pub few-prices : (label : Option Unmove) (b : BodyLine) (h : Head) → IsLine (record { label = label; body = b }) → b ≡ Sketch h → h.prices ≤ 64
few-prices label b h line e =
    let known : IsSketchLine (Sketch h) = subst IsSketchLine e (line_known (record { label = label; body = b }) line) in
    leb-true h.prices 64 (and_parts (nat_le h.prices 64) (are_files 0 h.files) known).0

-- the root's line
pub root-line : (t : Tree) (line : List ℕ) → said root_body line ≡ Some (body_of t) → IsLine (record { label = None; body = body_of t })
root-line t line e =
    let says = said_read root_body line (body_of t) e in
    (0, says.text, ap (option_map (λ (b : BodyLine). record { label = None; body = b })) says.stands)

-- a child at this depth has a line, and so has what stands below it
pub record HasChild (depth : ℕ) (label : Unmove) (t : Tree) : Type 0 where
  pub line : List ℕ
  pub below : Lines
  pub says : said (kid_body depth) line ≡ Some (label, body_of t)
  pub are : AreBelow t depth below

pub child-at : (f : Forest) (i depth : ℕ) (label : Unmove) (t : Tree) (lines : Lines) → AreKids f depth lines → kid_at f i ≡ Some (label, t) → HasChild depth label t
child-at none i depth label t lines are e = absurd cc
child-at (more l s rest) zero depth label t lines are e =
    subst (λ (p : Unmove × Tree). HasChild depth p.0 p.1) (same_Some (l, s) (label, t) e) (record { line = are.0; below = are.1; says = are.4; are = are.5 })
child-at (more l s rest) (suc i) depth label t lines are e = child-at rest i depth label t are.2 are.6 e

pub child-line : (depth : ℕ) (label : Unmove) (t : Tree) → HasChild (suc depth) label t → IsLine (record { label = Some label; body = body_of t })
child-line depth label t child =
    let says = said_read (kid_body (suc depth)) child.line (label, body_of t) child.says in
    (suc depth, says.text, ap (option_map (λ (k : Unmove × BodyLine). record { label = Some k.0; body = k.1 })) says.stands)

-- below a node with lines of its own, those of a child, and those of a sketch
pub child-below : (depth : ℕ) (label : Unmove) (t : Tree) → HasChild (suc depth) label t → HasLinesBelow t
child-below depth label t child = (suc depth, child.below, child.are, line_known (record { label = Some label; body = body_of t }) (child-line depth label t child))

pub sketch-known : (b : Body) → HasLinesBelow (sketch b) → is_body b ≡ true
sketch-known b (depth, lines, (texts, e, are), head) = body_known texts b head are

-- the lines of a child come before those of the children after it
pub at-child : (a b : Option (List ℕ)) (f g : ℕ) (text : List ℕ) (kids : Forest) (i : ℕ) (label : Unmove) (t : Tree) → kid_at kids i ≡ Some (label, t) → StillToCome a b f g text (concat (lines_of (rest_of kids i)))
    → StillToCome a b f g text (ended (kid_text label (body_of t)) ++ (concat (lines_below t) ++ concat (lines_of (rest_of kids (i + 1)))))
at-child a b f g text kids i label t e so_far = subst (StillToCome a b f g text) (lines_next kids i label t e) so_far

-- where no child is left, the lines of all were written
pub kids-end : (a b : Option (List ℕ)) (f g : ℕ) (text : List ℕ) (kids : Forest) (i : ℕ) → count kids ≤ i → StillToCome a b f g text (concat (lines_of (rest_of kids i))) → Appends a b text
kids-end a b f g text kids i past so_far = all_written a b f g text (subst (λ (k : Forest). StillToCome a b f g text (concat (lines_of k))) (rest-end kids i past) so_far)

-- what follows the head of a certificate
abbrev pub after_head : Certificate → List ℕ
after_head cert = ended (root_text (body_of cert.root)) ++ concat (lines_below cert.root)

-- a certificate is its head and what follows it
pub head-first : (cert : Certificate) → concat (cert_lines cert) ≡ concat (head_lines cert.claim cert.query) ++ after_head cert
head-first cert = concat-append (head_lines cert.claim cert.query) (ended (root_text (body_of cert.root)) ∷ lines_below cert.root)

-- the head and the root's line are written one after another

pub begun : (cert : Certificate) (a : Option (List ℕ)) (f : ℕ) → StillToCome a a f f (concat (cert_lines cert)) (concat (head_lines cert.claim cert.query) ++ after_head cert)
begun cert a f = subst (StillToCome a a f f (concat (cert_lines cert))) (head-first cert) (nothing_written a f (concat (cert_lines cert)))

pub head-written : (cert : Certificate) (a b : Option (List ℕ)) (f g : ℕ) → Appends a b (concat (head_lines cert.claim cert.query)) → g ≡ f → StillToCome a b f g (concat (cert_lines cert)) (after_head cert)
head-written cert a b f g taken same = piece_written a a b f f g (concat (cert_lines cert)) (concat (head_lines cert.claim cert.query)) (after_head cert) (begun cert a f) taken same

pub root-written : (cert : Certificate) (a b c : Option (List ℕ)) (f g h : ℕ) → StillToCome a b f g (concat (cert_lines cert)) (after_head cert) → Appends b c (ended (root_text (body_of cert.root))) → h ≡ g → StillToCome a c f h (concat (cert_lines cert)) (concat (lines_below cert.root))
root-written cert a b c f g h = piece_written a b c f g h (concat (cert_lines cert)) (ended (root_text (body_of cert.root))) (concat (lines_below cert.root))
