-- The labels of the nodes of a sketch: what step leads to a node, or of which kind a man is there.
use Rattle.std.specs.Prelude.{ℕ, ◌+◌, ◌-◌, ◌==◌, Bool, true, cond, ◌&&◌, nat_eq, nat_le, nat_lt, List, [], ◌∷◌, ◌++◌, drop, codes, Option, Some, None}
use Rattle.std.specs.List.{starts_with}
use Rattle.std.specs.Option.{option_map}
use Rattle.std.specs.Str.{bytes_eq}
use Rattle.board_base.specs.Texts.{◌>>=◌, square_at, square_text}
use Rattle.sketch_text.specs.declared.labels.Victim.{Victim}
use Rattle.sketch_text.specs.declared.labels.Victim.TheVariants as victim
use Rattle.sketch_text.specs.declared.labels.Taken.{Taken}
use Rattle.sketch_text.specs.declared.labels.Taken.TheVariants as taken
use Rattle.sketch_text.specs.declared.labels.Officer.{Officer}
use Rattle.sketch_text.specs.declared.labels.Officer.TheVariants.{Knight, Rook, Queen}
use Rattle.sketch_text.specs.declared.labels.Way.{Way}
use Rattle.sketch_text.specs.declared.labels.Way.TheVariants.{Straight, Capture, Promotion, CapturePromotion}
use Rattle.sketch_text.specs.declared.labels.StepLabel.{StepLabel}
use Rattle.sketch_text.specs.declared.labels.Label.{Label}
use Rattle.sketch_text.specs.declared.labels.Label.TheVariants.{Now, Step, Case}

-- how many other pawns of the file are above the one who captures: a digit from 1 to 5, and nothing for 0
abbrev pub above_of : List ℕ → Option ℕ
above_of [] = Some 0
above_of (d ∷ []) = cond (nat_le 49 d && nat_le d 53) (Some (d - 48)) None
above_of (d ∷ e ∷ rest) = None

-- the capture of a victim, with how many are above
unfoldable pub captured : Victim → List ℕ → Option Way
captured v text = option_map (λ n. Capture v n) (above_of text)

-- the way, if nothing follows
abbrev pub alone : Way → List ℕ → Option Way
alone way [] = Some way
alone way (b ∷ rest) = None

-- behind a victim who may have been taken by a pawn that was promoted: `=`, or how many are above
unfoldable pub behind : Taken → Victim → List ℕ → Option Way
behind t v text = cond (bytes_eq text (codes "=")) (Some (CapturePromotion t)) (captured v text)

-- behind `x` and the target: the victim, and how many are above, or `=`
unfoldable pub capture_of : List ℕ → Option Way
capture_of text =
    cond (starts_with nat_eq text (codes "nrq")) (behind taken.Officer victim.Officer (drop 3 text)) (
    cond (starts_with nat_eq text (codes "ep")) (captured victim.EnPassant (drop 2 text)) (
    cond (starts_with nat_eq text (codes "p")) (captured victim.Pawn (drop 1 text)) (
    cond (starts_with nat_eq text (codes "b")) (behind taken.Bishop victim.Bishop (drop 1 text)) None)))

-- the way of a sign, `-`, `=` or `x`, and what stands behind the target
unfoldable pub way_of : ℕ → List ℕ → Option Way
way_of sign text = cond (sign == 45) (alone Straight text) (cond (sign == 61) (alone Promotion text) (cond (sign == 120) (capture_of text) None))

-- the step of a text: the origin, a sign, the target, and what the way has besides
unfoldable pub step_of : List ℕ → Option StepLabel
step_of (a ∷ b ∷ sign ∷ c ∷ d ∷ text) = square_at a b >>= (λ from. square_at c d >>= (λ to. option_map (λ way. record { from = from; to = to; way = way }) (way_of sign text)))
step_of _ = None

-- `now`, or a step
unfoldable pub label_of : List ℕ → Option Label
label_of text = cond (bytes_eq text (codes "now")) (Some Now) (option_map (λ x. Step x) (step_of text))

-- the kind of a letter n, r or q
unfoldable pub officer_of : List ℕ → Option Officer
officer_of text = cond (bytes_eq text (codes "n")) (Some Knight) (cond (bytes_eq text (codes "r")) (Some Rook) (cond (bytes_eq text (codes "q")) (Some Queen) None))

-- texts

abbrev pub above_text : ℕ → List ℕ
above_text n = cond (n == 0) [] ((48 + n) ∷ [])

abbrev pub victim_text : Victim → List ℕ
victim_text victim.Pawn = codes "p"
victim_text victim.Bishop = codes "b"
victim_text victim.Officer = codes "nrq"
victim_text victim.EnPassant = codes "ep"

abbrev pub taken_text : Taken → List ℕ
taken_text taken.Bishop = codes "b"
taken_text taken.Officer = codes "nrq"

-- the sign of a way
abbrev pub sign_of : Way → ℕ
sign_of Straight = 45
sign_of (Capture v n) = 120
sign_of Promotion = 61
sign_of (CapturePromotion t) = 120

-- what stands behind the target
abbrev pub way_text : Way → List ℕ
way_text Straight = []
way_text (Capture v n) = victim_text v ++ above_text n
way_text Promotion = []
way_text (CapturePromotion t) = taken_text t ++ codes "="

-- the one text of a step
unfoldable pub step_text : StepLabel → List ℕ
step_text x = square_text x.from ++ sign_of x.way ∷ (square_text x.to ++ way_text x.way)

abbrev pub officer_text : Officer → List ℕ
officer_text Knight = codes "n"
officer_text Rook = codes "r"
officer_text Queen = codes "q"

-- the one text of a label
unfoldable pub label_text : Label → List ℕ
label_text Now = codes "now"
label_text (Step x) = step_text x
label_text (Case k) = codes "case " ++ officer_text k

-- what is known of each way, step and label
abbrev pub is_way : Way → Bool
is_way Straight = true
is_way (Capture v n) = nat_le n 5
is_way Promotion = true
is_way (CapturePromotion t) = true

abbrev pub is_step : StepLabel → Bool
is_step x = nat_lt x.from 64 && nat_lt x.to 64 && is_way x.way

abbrev pub is_label : Label → Bool
is_label Now = true
is_label (Step x) = is_step x
is_label (Case k) = true
