-- The lines of the nodes of a sketch, without their ends. P is how many lines of prices the sketch has.
use Rattle.std.specs.Prelude.{ℕ, ◌==◌, Bool, true, cond, ◌&&◌, nat_eq, nat_le, nat_lt, List, [], ◌∷◌, ◌++◌, drop, codes, Option, Some, None}
use Rattle.std.specs.Fmt.{decimal}
use Rattle.std.specs.List.{starts_with}
use Rattle.std.specs.Option.{option_map, option_and_then}
use Rattle.std.specs.Str.{bytes_eq}
use Rattle.board_base.specs.Texts.{square_at, square_text}
use Rattle.fen_text.specs.Numbers.{number}
use Rattle.fen_text.specs.Parts.{parted}
use Rattle.sketch_text.specs.Labels.{is_label, label_of, label_text, officer_of}
use Rattle.sketch_text.specs.declared.labels.Label.{Label}
use Rattle.sketch_text.specs.declared.labels.Label.TheVariants.{Case}
use Rattle.sketch_text.specs.declared.nodes.End.{End}
use Rattle.sketch_text.specs.declared.nodes.End.TheVariants.{Void, Closed, Steps, Split}
use Rattle.sketch_text.specs.declared.nodes.SketchNode.{SketchNode}

-- the number, if it is from the least to the most
abbrev pub within : ℕ → ℕ → ℕ → Option ℕ
within least most n = cond (nat_le least n && nat_le n most) (Some n) None

-- the number from the least to the most that a text stands for
unfoldable pub number_within : ℕ → ℕ → List ℕ → Option ℕ
number_within least most text = option_and_then (within least most) (number text)

-- the square of a file letter and a rank digit
abbrev pub square_of : List ℕ → Option ℕ
square_of (a ∷ b ∷ []) = square_at a b
square_of _ = None

-- why nothing comes before the node's sketch: it is void, a line of prices closes it, each of its steps is a node that follows, or each
-- kind is of the man on a square
unfoldable pub end_of : ℕ → List ℕ → Option End
end_of P text =
    cond (bytes_eq text (codes "void")) (Some Void) (
    cond (starts_with nat_eq text (codes "closed ")) (option_map (λ k. Closed k) (number_within 1 P (drop 7 text))) (
    cond (starts_with nat_eq text (codes "steps ")) (option_map (λ m. Steps m) (number_within 0 1024 (drop 6 text))) (
    cond (starts_with nat_eq text (codes "split ")) (option_map (λ s. Split s) (square_of (drop 6 text))) None)))

-- how many lines of marks follow, and the end
unfoldable pub marked_end_of : ℕ → List ℕ → Option (ℕ × End)
marked_end_of P text = parted 32 (number_within 1 8) (λ count. None) (λ count rest. option_map (λ end. (count, end)) (end_of P rest)) text

-- what stands behind the label: `marks`, how many lines of marks follow, and the end; or the end alone
unfoldable pub rest_of : ℕ → List ℕ → Option (ℕ × End)
rest_of P text = cond (starts_with nat_eq text (codes "marks ")) (marked_end_of P (drop 6 text)) (option_map (λ end. (0, end)) (end_of P text))

-- a node with this label, whose marks and end this text says
abbrev pub node_with : ℕ → Label → List ℕ → Option SketchNode
node_with P label text = option_map (λ rest. record { label = label; marks = rest.0; end = rest.1 }) (rest_of P text)

-- behind `case`: a kind, and the rest
unfoldable pub case_of : ℕ → List ℕ → Option SketchNode
case_of P text = parted 32 officer_of (λ kind. None) (λ kind rest. node_with P (Case kind) rest) text

-- the label of a step, or `now`, and the rest
unfoldable pub labelled_of : ℕ → List ℕ → Option SketchNode
labelled_of P text = parted 32 label_of (λ label. None) (λ label rest. node_with P label rest) text

-- the line of a node: its label, and the rest
unfoldable pub node_of : ℕ → List ℕ → Option SketchNode
node_of P text = cond (starts_with nat_eq text (codes "case ")) (case_of P (drop 5 text)) (labelled_of P text)

-- texts

abbrev pub end_text : End → List ℕ
end_text Void = codes "void"
end_text (Closed k) = codes "closed " ++ decimal k
end_text (Steps m) = codes "steps " ++ decimal m
end_text (Split s) = codes "split " ++ square_text s

abbrev pub marks_text : ℕ → List ℕ
marks_text count = cond (count == 0) [] (codes "marks " ++ decimal count ++ codes " ")

-- the one text of a node
unfoldable pub node_text : SketchNode → List ℕ
node_text n = label_text n.label ++ 32 ∷ (marks_text n.marks ++ end_text n.end)

-- what is known of each end, and each node
abbrev pub is_end : ℕ → End → Bool
is_end P Void = true
is_end P (Closed k) = nat_le 1 k && nat_le k P
is_end P (Steps m) = nat_le m 1024
is_end P (Split s) = nat_lt s 64

abbrev pub is_node : ℕ → SketchNode → Bool
is_node P n = is_label n.label && nat_le n.marks 8 && is_end P n.end
