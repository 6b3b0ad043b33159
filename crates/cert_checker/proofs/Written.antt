-- Labels and unmoves that can be written, of which no two are equal in order.
use Rattle.std.proofs.Common.{◌≡◌, ℕ, suc, true, List, refl, subst}
use Rattle.std.proofs.lemmas.Option.{some_pair_parts}
use Rattle.std.specs.Prelude.{Option, Some, None}
use Rattle.std.specs.Option.{option_map}
use Rattle.board_base.specs.Texts.{can_capture, unmove_from}
use Rattle.board_base.specs.declared.unmoves.Unmove.{Unmove}
use Rattle.board_base.proofs.OneText.{unmove_read}
use Rattle.fen_text.proofs.PartLemmas.{IsFollowed, followed}
use Rattle.cert_text.specs.Tree.{Tree, Forest, rule, back, expand, sketch, none, more}
use Rattle.cert_text.specs.Lines.{said, without_end}
use Rattle.cert_text.specs.NodeLines.{kid_body, body_at}
use Rattle.cert_text.specs.Certificate.{Lines, AreBelow, AreKids}
use Rattle.cert_text.specs.declared.node_lines.BodyLine.{BodyLine}

-- the unmove has a text
abbrev pub CanBeWritten : Unmove → Type 0
CanBeWritten u = can_capture u.mv.promo u.captured u.ep ≡ true

abbrev mutual
  -- the labels of the tree have texts
  pub IsWritten : Tree → Type 0
  IsWritten (rule r) = Unit {0}
  IsWritten (back k) = Unit {0}
  IsWritten (expand kids) = AreWritten kids
  IsWritten (sketch b) = Unit {0}

  pub AreWritten : Forest → Type 0
  AreWritten none = Unit {0}
  AreWritten (more label tree rest) = CanBeWritten label × IsWritten tree × AreWritten rest

label-of : (o : Option BodyLine) (u label : Unmove) (body : BodyLine) → option_map {U = Unmove × BodyLine} (λ b. (u, b)) o ≡ Some (label, body) → u ≡ label
label-of None u label body e = cc
label-of (Some b) u label body e = (some_pair_parts u label b body e).0

read-label : (depth : ℕ) (text : List ℕ) (label : Unmove) (body : BodyLine) → kid_body depth text ≡ Some (label, body) → CanBeWritten label
unfolding kid_body
read-label depth text label body e =
    let f : IsFollowed 32 unmove_from (λ u rest. option_map (λ b. (u, b)) (body_at depth rest)) text (label, body) = followed 32 unmove_from (λ u. None) (λ u rest. option_map (λ b. (u, b)) (body_at depth rest)) text (label, body) (λ u. refl) e in
    subst CanBeWritten (label-of (body_at depth f.rest) f.value label body f.goes_on) (unmove_read f.front f.value f.good).capture

said-label : (depth : ℕ) (o : Option (List ℕ)) (label : Unmove) (body : BodyLine) → elim o as (λ _. Option (Unmove × BodyLine)) [ None ↦ None | Some text ↦ kid_body depth text ] ≡ Some (label, body) → CanBeWritten label
said-label depth None label body e = cc
said-label depth (Some text) label body e = read-label depth text label body e

written-label : (depth : ℕ) (line : List ℕ) (label : Unmove) (body : BodyLine) → said (kid_body depth) line ≡ Some (label, body) → CanBeWritten label
unfolding said
written-label depth line label body e = said-label depth (without_end line) label body e

mutual
  -- the labels of a tree that has a text can be written
  pub tree_written : (t : Tree) (depth : ℕ) (lines : Lines) → AreBelow t depth lines → IsWritten t
  tree_written (rule r) depth lines below = tt
  tree_written (back k) depth lines below = tt
  tree_written (expand kids) depth lines below = kids_written kids (suc depth) lines below
  tree_written (sketch b) depth lines below = tt

  kids_written : (f : Forest) (depth : ℕ) (lines : Lines) → AreKids f depth lines → AreWritten f
  kids_written none depth lines kids = tt
  kids_written (more label t rest) depth lines kids =
      (written-label depth kids.0 label _ kids.4, tree_written t depth kids.1 kids.5, kids_written rest depth kids.2 kids.6)
