-- Lines with their ends, and their texts.
use Rattle.std.proofs.Common.{◌≡◌, ℕ, zero, suc, ◌-◌, ◌≤◌, true, List, [], ◌∷◌, ◌++◌, length, drop, take, take_at, length-append, Option, Some, None, refl, ap, ◌∙◌, arith, nat_eq, nat_lt}
use Rattle.std.specs.Prelude.{codes}
use Rattle.std.proofs.lemmas.Bool.{and_parts, and_from, cond-true, lt-ltb, ltb-true}
use Rattle.std.proofs.lemmas.Bool.Decides.{Decides-eqb}
use Rattle.std.proofs.lemmas.Option.{cond_some, some_pair_parts, option_and_then_some}
use Rattle.std.proofs.lemmas.Slice.Eq.{ends_is}
use Rattle.std.specs.List.{starts_with, ends_with}
use Rattle.std.specs.Option.{option_and_then}
use Rattle.board_base.specs.declared.unmoves.Unmove.{Unmove}
use Rattle.board_base.specs.Texts.{unmove_from, unmove_text, can_promote, can_capture}
use Rattle.board_base.proofs.OneText.{unmove_read}
use Rattle.board_base.proofs.TextLemmas.{mapped_some, unmove_back}
use Rattle.fen_text.proofs.PartLemmas.{followed}
use Rattle.cert_text.specs.Lines.{ended, without_end, said}
use Rattle.cert_text.specs.NodeLines.{body_at, root_body, kid_body, node_line, body_text, root_text, kid_text, line_text}
use Rattle.cert_text.specs.Writable.{has_text, fits_depth}
use Rattle.cert_text.specs.declared.node_lines.BodyLine.{BodyLine}
use Rattle.cert_text.specs.declared.node_lines.NodeLine.{NodeLine}
use Rattle.cert_text.proofs.KidLines.{labelled, kid_is}
use Rattle.cert_text.proofs.OnBoard.{unmove_on_board}
use Rattle.fen_text.proofs.Begun.{begun}
use Rattle.cert_text.proofs.Spelled.{body_back, body_read, number_in}
use Rattle.fen_text.proofs.MoveFrees.{unmove_free}
pub use Rattle.general_lemmas.proofs.Options.{when}

-- a line with its end taken off
pub ends : (text : List ℕ) → without_end (ended text) ≡ Some text
ends text =
    let is = (ends_is Decides-eqb (ended text) (10 ∷ []) (ends_with nat_eq (ended text) (10 ∷ [])) refl).1 text refl in
    let size : length text ≡ length (ended text) - 1 = omega (arith, length-append text (10 ∷ [])) in
    cond-true (ends_with nat_eq (ended text) (10 ∷ [])) (Some (take (length (ended text) - 1) (ended text))) None is
    ∙ ap (λ (t : List ℕ). Some t) (take_at text (10 ∷ []) (length (ended text) - 1) size)

-- what a text stands for is said by its line
pub said_back : {A : Type 0} (grammar : List ℕ → Option A) (text : List ℕ) (x : A) → grammar text ≡ Some x → said grammar (ended text) ≡ Some x
unfolding said
said_back grammar text x e = ap (option_and_then grammar) (ends text) ∙ e

-- a line that says something is a text with its end
pub record Says {A : Type 0} (grammar : List ℕ → Option A) (line : List ℕ) (x : A) : Type 0 where
  pub text : List ℕ
  pub line_is : line ≡ ended text
  pub stands : grammar text ≡ Some x

ended_by : (line text : List ℕ) → without_end line ≡ Some text → line ≡ ended text
ended_by line text e =
    let read = cond_some (ends_with nat_eq line (10 ∷ [])) (take (length line - 1) line) text e in
    (ends_is Decides-eqb line (10 ∷ []) (ends_with nat_eq line (10 ∷ [])) refl).0 read.0 ∙ ap ended read.1

pub said_read : {A : Type 0} (grammar : List ℕ → Option A) (line : List ℕ) (x : A) → said grammar line ≡ Some x → Says grammar line x
unfolding said
said_read grammar line x e =
    option_and_then_some grammar (without_end line) x e (λ text here stands. record { text = text; line_is = ended_by line text here; stands = stands })

-- a line that can't say anything says nothing
pub nothing_said : {A : Type 0} (grammar : List ℕ → Option A) (line : List ℕ) → ((x : A) → said grammar line ≡ Some x → ⊥) → said grammar line ≡ None
nothing_said grammar line never = elim (said grammar line) as (λ o. said grammar line ≡ o → o ≡ None) [ None ↦ λ e. refl | Some x ↦ λ e. absurd (never x e) ] refl

-- the root's line

pub root_back : (b : BodyLine) → fits_depth 0 b ≡ true → said root_body (ended (root_text b)) ≡ Some b
unfolding root_body
root_back b fits = said_back root_body (root_text b) b (body_back 0 b (omega arith) fits)

-- a text is the one of a root with this body
pub record IsTextOfRoot (text : List ℕ) (b : BodyLine) : Type 0 where
  pub text_is : text ≡ root_text b
  pub fits : fits_depth 0 b ≡ true
  pub few : number_in b ≤ 999999

pub root_text_read : (text : List ℕ) (b : BodyLine) → root_body text ≡ Some b → IsTextOfRoot text b
unfolding root_body
root_text_read text b e =
    let split = when (starts_with nat_eq text (codes "root ")) (body_at 0 (drop 5 text)) b e in
    let body = body_read 0 (drop 5 text) b split.1 in
    record { text_is = begun text (codes "root ") split.0 ∙ ap (λ (l : List ℕ). codes "root " ++ l) body.text_is; fits = body.fits; few = body.few }

pub record IsLineOfRoot (line : List ℕ) (b : BodyLine) : Type 0 where
  pub line_is : line ≡ ended (root_text b)
  pub fits : fits_depth 0 b ≡ true

pub root_read : (line : List ℕ) (b : BodyLine) → said root_body line ≡ Some b → IsLineOfRoot line b
root_read line b e =
    let says = said_read root_body line b e in
    let text = root_text_read says.text b says.stands in
    record { line_is = says.line_is ∙ ap ended text.text_is; fits = text.fits }

-- a child's line

pub kid_back : (depth : ℕ) (u : Unmove) (b : BodyLine) → depth ≤ 255 → has_text u ≡ true → fits_depth depth b ≡ true → said (kid_body depth) (ended (kid_text u b)) ≡ Some (u, b)
kid_back depth u b low label fits =
    let last = and_parts _ (can_capture u.mv.promo u.captured u.ep) label in
    let third = and_parts _ (can_promote u.mv.promo) last.0 in
    let first = and_parts (nat_lt u.mv.from 64) (nat_lt u.mv.to 64) third.0 in
    said_back (kid_body depth) (kid_text u b) (u, b) (kid_is depth (kid_text u b) (unmove_text u) (body_text b) u (Some b) (unmove_free 32 u (omega arith)) refl (unmove_back u (ltb-true u.mv.from 64 first.0) (ltb-true u.mv.to 64 first.1) third.1 last.1) (body_back depth b low fits))

-- a text is the one of a child with this label and this body
pub record IsTextOfKid (depth : ℕ) (text : List ℕ) (u : Unmove) (b : BodyLine) : Type 0 where
  pub text_is : text ≡ kid_text u b
  pub label : has_text u ≡ true
  pub fits : fits_depth depth b ≡ true
  pub few : number_in b ≤ 999999

labelled_some : (u v : Unmove) (o : Option BodyLine) (b : BodyLine) → labelled u o ≡ Some (v, b) → (u ≡ v) × (o ≡ Some b)
labelled_some u v None b e = absurd cc
labelled_some u v (Some a) b e = let p = some_pair_parts u v a b e in (p.0, ap (λ (c : BodyLine). Some c) p.1)

pub kid_text_read : (depth : ℕ) (text : List ℕ) (u : Unmove) (b : BodyLine) → kid_body depth text ≡ Some (u, b) → IsTextOfKid depth text u b
unfolding kid_body
kid_text_read depth text u b e =
    let f = followed 32 unmove_from (λ u. None) (λ u rest. labelled u (body_at depth rest)) text (u, b) (λ x. refl) e in
    let parts = labelled_some f.value u (body_at depth f.rest) b f.goes_on in
    let good : unmove_from f.front ≡ Some u = f.good ∙ ap (λ (v : Unmove). Some v) parts.0 in
    let label = unmove_read f.front u good in
    let place = unmove_on_board f.front u good in
    let body = body_read depth f.rest b parts.1 in
    record {
      text_is = f.whole ∙ ap (λ (l : List ℕ). l ++ 32 ∷ f.rest) label.spelling ∙ ap (λ (l : List ℕ). unmove_text u ++ 32 ∷ l) body.text_is;
      label = and_from _ _ (and_from _ _ (and_from _ _ (lt-ltb u.mv.from 64 place.from) (lt-ltb u.mv.to 64 place.to)) label.promotion) label.capture;
      fits = body.fits;
      few = body.few;
    }

pub record IsLineOfKid (depth : ℕ) (line : List ℕ) (u : Unmove) (b : BodyLine) : Type 0 where
  pub line_is : line ≡ ended (kid_text u b)
  pub label : has_text u ≡ true
  pub fits : fits_depth depth b ≡ true

pub kid_read : (depth : ℕ) (line : List ℕ) (u : Unmove) (b : BodyLine) → said (kid_body depth) line ≡ Some (u, b) → IsLineOfKid depth line u b
kid_read depth line u b e =
    let says = said_read (kid_body depth) line (u, b) e in
    let text = kid_text_read depth says.text u b says.stands in
    record { line_is = says.line_is ∙ ap ended text.text_is; label = text.label; fits = text.fits }

-- any node's line

-- what is read as a node's line is its text
pub node_read : (depth : ℕ) (text : List ℕ) (n : NodeLine) → node_line depth text ≡ Some n → text ≡ line_text n
node_read zero text n e =
    let m = mapped_some (λ (b : BodyLine). record { label = None; body = b }) (root_body text) n e in
    (root_text_read text m.0 m.1).text_is ∙ ap line_text m.2
node_read (suc depth) text n e =
    let m = mapped_some (λ (k : Unmove × BodyLine). record { label = Some k.0; body = k.1 }) (kid_body (suc depth) text) n e in
    (kid_text_read (suc depth) text m.0.0 m.0.1 m.1).text_is ∙ ap line_text m.2
