-- The lines of nodes, without their ends.
use Rattle.std.specs.Prelude.{ℕ, zero, suc, ◌≡◌, cond, ◌&&◌, ◌||◌, ◌==◌, nat_lt, nat_le, nat_eq, List, [], ◌∷◌, ◌++◌, drop, codes, Option, Some, None}
use Rattle.std.specs.List.{starts_with}
use Rattle.std.specs.Str.{bytes_eq}
use Rattle.std.specs.Option.{option_map, option_and_then}
use Rattle.std.specs.Fmt.{decimal}
use Rattle.board_base.specs.Texts.{unmove_from, unmove_text}
use Rattle.board_base.specs.declared.men.Colour.{Colour}
use Rattle.board_base.specs.declared.unmoves.Unmove.{Unmove}
use Rattle.query_base.specs.declared.rule_lines.RuleLine.{RuleLine}
use Rattle.query_base.specs.declared.rule_lines.RuleLine.TheVariants.{Kings, Ranks, Check, Rights, Count, Frozen, Caps, Promo}
use Rattle.fen_text.specs.Fen.{turn}
use Rattle.fen_text.specs.Spelling.{turn_letter}
use Rattle.fen_text.specs.Numbers.{number}
use Rattle.fen_text.specs.Parts.{parted}
use Rattle.fen_text.specs.Sets.{set_of, set_text}
use Rattle.sketch_text.specs.Heads.{head_line, head_text}
use Rattle.cert_text.specs.Arguments.{potentials_of, potentials_text}
use Rattle.price_text.specs.PriceTexts.{prices_of, prices_text}
use Rattle.cert_text.specs.declared.reasons.Reason.{Reason}
use Rattle.cert_text.specs.declared.reasons.Reason.TheVariants.{Line, Balance}
use Rattle.cert_text.specs.declared.node_lines.BodyLine.{BodyLine}
use Rattle.cert_text.specs.declared.node_lines.BodyLine.TheVariants.{Rule, Back, Expand, Sketch}
use Rattle.cert_text.specs.declared.node_lines.NodeLine.{NodeLine}

-- behind `count`, `promo` and `caps` stands the letter of a side; then a set, and potentials
unfoldable pub promo_of : List ℕ → Option RuleLine
promo_of text = parted 32 turn (λ side. None) (λ side rest. option_map (λ set. Promo side set) (set_of rest)) text

-- behind the side of `caps`: a set, a space and potentials
unfoldable pub set_and_potentials : Colour → List ℕ → Option RuleLine
set_and_potentials side text = parted 32 set_of (λ set. None) (λ set rest. option_map (λ p. Caps side set p) (potentials_of rest)) text

-- behind `caps`: a side, a set and potentials, with a space between two
unfoldable pub caps_of : List ℕ → Option RuleLine
caps_of text = parted 32 turn (λ side. None) set_and_potentials text

-- the rule of this name, with what stands behind it
abbrev pub rule_of : List ℕ → Option RuleLine
rule_of name =
    cond (bytes_eq name (codes "kings")) (Some Kings) (
    cond (bytes_eq name (codes "ranks")) (Some Ranks) (
    cond (bytes_eq name (codes "check")) (Some Check) (
    cond (bytes_eq name (codes "rights")) (Some Rights) (
    cond (starts_with nat_eq name (codes "count ")) (option_map (λ side. Count side) (turn (drop 6 name))) (
    cond (starts_with nat_eq name (codes "frozen ")) (option_map (λ set. Frozen set) (set_of (drop 7 name))) (
    cond (starts_with nat_eq name (codes "caps ")) (caps_of (drop 5 name)) (
    cond (starts_with nat_eq name (codes "promo ")) (promo_of (drop 6 name)) None)))))))

-- behind `balance`: a set, a space, prices and gates
unfoldable pub balance_of : List ℕ → Option Reason
balance_of text = parted 32 set_of (λ set. None) (λ set rest. option_map (λ p. Balance set p) (prices_of rest)) text

-- the reason of this name, with what stands behind it: `balance`, or a rule's
abbrev pub reason_of : List ℕ → Option Reason
reason_of name = cond (starts_with nat_eq name (codes "balance ")) (balance_of (drop 8 name)) (option_map (λ r. Line r) (rule_of name))

-- from 1 to the node's depth
abbrev pub back_at : ℕ → ℕ → Option BodyLine
back_at depth k = cond (nat_le 1 k && nat_le k depth) (Some (Back k)) None

-- any number, but only 0 at depth 255
abbrev pub expand_at : ℕ → ℕ → Option BodyLine
expand_at depth n = cond ((n == 0) || nat_lt depth 255) (Some (Expand n)) None

-- the body of a text at this depth: `rule` and a name, `back` or `expand` and a number, or the first line of a sketch
unfoldable pub body_at : ℕ → List ℕ → Option BodyLine
body_at depth text =
    cond (starts_with nat_eq text (codes "rule ")) (option_map (λ r. Rule r) (reason_of (drop 5 text))) (
    cond (starts_with nat_eq text (codes "back ")) (option_and_then (back_at depth) (number (drop 5 text))) (
    cond (starts_with nat_eq text (codes "expand ")) (option_and_then (expand_at depth) (number (drop 7 text))) (option_map (λ h. Sketch h) (head_line text))))

-- what the root's line says: `root` and a body
unfoldable pub root_body : List ℕ → Option BodyLine
root_body text = cond (starts_with nat_eq text (codes "root ")) (body_at 0 (drop 5 text)) None

-- what the line of a child at this depth says: an unmove, a space and a body
unfoldable pub kid_body : ℕ → List ℕ → Option (Unmove × BodyLine)
kid_body depth text = parted 32 unmove_from (λ u. None) (λ u rest. option_map (λ b. (u, b)) (body_at depth rest)) text

-- the line of the root, at depth 0, and of a child below it
abbrev pub node_line : ℕ → List ℕ → Option NodeLine
node_line zero text = option_map (λ b. record { label = None; body = b }) (root_body text)
node_line (suc n) text = option_map (λ kid. record { label = Some kid.0; body = kid.1 }) (kid_body (suc n) text)

-- the one text of a rule
abbrev pub rule_name : RuleLine → List ℕ
rule_name Kings = codes "kings"
rule_name Ranks = codes "ranks"
rule_name Check = codes "check"
rule_name Rights = codes "rights"
rule_name (Count side) = codes "count " ++ turn_letter side ∷ []
rule_name (Frozen set) = codes "frozen " ++ set_text set
rule_name (Caps side set p) = codes "caps " ++ turn_letter side ∷ 32 ∷ (set_text set ++ 32 ∷ potentials_text p)
rule_name (Promo side set) = codes "promo " ++ turn_letter side ∷ 32 ∷ set_text set

-- the one text of a reason
abbrev pub reason_name : Reason → List ℕ
reason_name (Line r) = rule_name r
reason_name (Balance set p) = codes "balance " ++ (set_text set ++ 32 ∷ prices_text p)

-- the one text of a body
abbrev pub body_text : BodyLine → List ℕ
body_text (Rule r) = codes "rule " ++ reason_name r
body_text (Back k) = codes "back " ++ decimal k
body_text (Expand n) = codes "expand " ++ decimal n
body_text (Sketch h) = head_text h

-- the one text of a child
abbrev pub kid_text : Unmove → BodyLine → List ℕ
kid_text u b = unmove_text u ++ 32 ∷ body_text b

-- the one text of the root
abbrev pub root_text : BodyLine → List ℕ
root_text b = codes "root " ++ body_text b

abbrev pub labelled_text : Option Unmove → BodyLine → List ℕ
labelled_text None b = root_text b
labelled_text (Some u) b = kid_text u b

-- the one text of a node's line, without its end
abbrev pub line_text : NodeLine → List ℕ
line_text n = labelled_text n.label n.body

-- some text is read as this line at some depth
abbrev pub IsLine : NodeLine → Type 0
IsLine n = (depth : ℕ) × (text : List ℕ) × (node_line depth text ≡ Some n)
