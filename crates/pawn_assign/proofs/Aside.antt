-- What pawns cost that have come from files of their own.
use Rattle.std.proofs.Common.{◌≡◌, ℕ, zero, suc, ◌<◌, Bool, true, false, List, [], ◌∷◌, length, map, slice_index, refl, ap, ◌∙◌, arith}
use Rattle.std.specs.List.{All, range_with_len}
use Rattle.std.proofs.lemmas.List.{get_or-map}
use Rattle.std.proofs.lemmas.List.Elements.{All-head, All-tail}
use Rattle.std.proofs.lemmas.List.FromFn.{get_or-range_with_len, length-range_with_len}
use Rattle.board_base.specs.Attacks.{distance}
use Rattle.board_base.specs.Board.{Places, file, is_in}
use Rattle.board_base.specs.declared.men.Colour.{Colour}
use Rattle.assignment.specs.Assignments.{IsInjection, assignment_cost}
use Rattle.pawn_assign.proofs.OnePawn.{pawn_cost-come, pawn_cost-low}
use Rattle.pawn_assign.specs.PawnCosts.{HaveCome, can_come, files_aside, pawn_cost, pawn_costs, pawn_home, pawn_row, pawn_squares}

row_cost : (o : List Bool) (c : Colour) (s f : ℕ) → f < 8 → slice_index (pawn_row o c s) f ≡ pawn_cost o c s f
row_cost o c s f low =
    get_or-map (pawn_cost o c s) (range_with_len 0 8) f 0 0 (omega (arith, length-range_with_len 0 8))
    ∙ ap (pawn_cost o c s) (get_or-range_with_len 0 8 f 0 low ∙ omega arith)

cost_of_one : (o : List Bool) (c : Colour) (s f : ℕ) → f < 8 → can_come c s f ≡ true → is_in o (pawn_home c f) ≡ false → slice_index (pawn_row o c s) f ≡ distance (file s) f
cost_of_one o c s f low come home = row_cost o c s f low ∙ pawn_cost-come o c s f home come

cost_of_all : (o : List Bool) (c : Colour) (squares files : List ℕ) → length files ≡ length squares → All (λ f. f < 8) files → HaveCome o c squares files
    → assignment_cost (map (pawn_row o c) squares) files ≡ files_aside squares files
cost_of_all o c [] files size within come = refl
cost_of_all o c (s ∷ squares) [] size within come = absurd (omega arith)
cost_of_all o c (s ∷ squares) (f ∷ files) size within come =
    let first = come 0 (omega arith) in
    let here = cost_of_one o c s f (All-head (λ f. f < 8) f files within) first.0 first.1 in
    let rest = cost_of_all o c squares files (omega arith) (All-tail (λ f. f < 8) f files within) (λ i low. come (suc i) (omega arith)) in
    omega arith

pub costs_aside : (o : List Bool) (c : Colour) (board : Places) (files : List ℕ) → IsInjection 8 (length (pawn_squares c board)) files → HaveCome o c (pawn_squares c board) files
    → assignment_cost (pawn_costs o c board) files ≡ files_aside (pawn_squares c board) files
costs_aside o c board files injection come = cost_of_all o c (pawn_squares c board) files injection.size injection.within come

all_came : (o : List Bool) (c : Colour) (squares files : List ℕ) → length files ≡ length squares → All (λ f. f < 8) files → assignment_cost (map (pawn_row o c) squares) files < 64
    → HaveCome o c squares files
all_came o c [] files size within less i low = absurd (omega arith)
all_came o c (s ∷ squares) [] size within less i low = absurd (omega arith)
all_came o c (s ∷ squares) (f ∷ files) size within less zero low = pawn_cost-low o c s f (omega (arith, row_cost o c s f (All-head (λ f. f < 8) f files within)))
all_came o c (s ∷ squares) (f ∷ files) size within less (suc i) low = all_came o c squares files (omega arith) (All-tail (λ f. f < 8) f files within) (omega arith) i (omega arith)

-- what costs less than 64 in all has come so
pub costs_low : (o : List Bool) (c : Colour) (board : Places) (files : List ℕ) → IsInjection 8 (length (pawn_squares c board)) files → assignment_cost (pawn_costs o c board) files < 64
    → HaveCome o c (pawn_squares c board) files
costs_low o c board files injection less = all_came o c (pawn_squares c board) files injection.size injection.within less
